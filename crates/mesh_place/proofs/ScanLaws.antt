-- The scan of a cell, of a row, of a storey, of a polygon: what is looked at is all that can be nearer than what was found.
use Rattle.std.proofs.Common.{◌≡◌, ℕ, ◌+◌, ◌-◌, ◌*◌, ◌≤◌, ◌<◌, pos, ◌≤ℤ◌, ◌+ℤ◌, ◌-ℤ◌, ℤ, ◌⊎◌, inl, inr, true, false, List, [], length, get_or, refl, sym, ap, subst, ◌∙◌, arith}
use Rattle.std.specs.Prelude.{All, Option, Some, None, min, max, slice_get, unsigned_abs}
use Rattle.std.proofs.lemmas.Bool.{cases_lt, true≢false}
use Rattle.std.proofs.lemmas.Int.{ints, by_lt_z}
use Rattle.std.proofs.lemmas.Nat.{mul-le}
use Rattle.std.proofs.lemmas.Option.{same_Some, none-some, slice_get_read, slice_get_within, get_or_from_slice_get, slice_get-get_or}
use Rattle.nav_base.specs.declared.point.Point.{Point}
use Rattle.nav_base.specs.Point.{from_to}
use Rattle.nav_base.specs.Deviation.{square_of}
use Rattle.mesh_types.specs.declared.links.PolyRef.{PolyRef}
use Rattle.mesh_types.specs.declared.extent.Extent.{Extent}
use Rattle.mesh_types.specs.declared.mesh.Mesh.{Mesh}
use Rattle.mesh_types.specs.declared.polygon.Polygon.{Polygon}
use Rattle.mesh_types.specs.declared.storeys.FloorRow.{FloorRow}
use Rattle.mesh_types.specs.declared.storeys.Storey.{Storey}
use Rattle.mesh_types.specs.declared.storeys.MeshPlace.{MeshPlace}
use Rattle.mesh_types.specs.Extents.{extent_of}
use Rattle.mesh_types.specs.FitTiles.{IsPolygon}
use Rattle.mesh_types.specs.Located.{Holds}
use Rattle.mesh_types.specs.Places.{Stands, column_gap, storey_at}
use Rattle.mesh_types.specs.Storeys.{HasFloor, IsFloorRow}
use Rattle.mesh_types.specs.WholeMesh.{poly_at}
use Rattle.mesh_locate.specs.Nearest.{IsInBox}
use Rattle.mesh_locate.proofs.Reached.{IsCellBox, box_there, held_in_box}
use Rattle.mesh_place.specs.declared.near.Near.{Near}
use Rattle.mesh_place.specs.declared.cells.NearCell.{NearCell}
use Rattle.mesh_place.specs.declared.lines.LineSpan.{LineSpan}
use Rattle.mesh_place.specs.declared.storey_scan.Around.{Around}
use Rattle.mesh_place.specs.declared.storey_scan.NearSearch.{NearSearch}
use Rattle.mesh_place.specs.declared.storey_scan.PolygonPart.{PolygonPart}
use Rattle.mesh_place.specs.Bounds.{AddAtLeast, IsBeyond, height_part}
use Rattle.mesh_place.specs.Columns.{IsAmong, reach_ends}
use Rattle.mesh_place.specs.Floors.{height_off}
use Rattle.mesh_place.specs.Lines.{IsInSpan, IsItOrFarther, IsNearestOf, IsPartOf, point_on}
use Rattle.mesh_place.specs.Nearest.{IsInReach, is_open, off_by}
use Rattle.mesh_place.specs.Searches.{IsHeightNear, IsCellOf, IsOverCell, IsLinePoint, IsHeldOnLine, IsOnLine, IsInLines, IsInRow, IsInRows, IsRowOf, IsSearch, IsWithin}
use Rattle.mesh_place.specs.Searches.{IsNotBefore, IsPart, box_gap, cells_touched, columns_of, place_over, rows_of}
use Rattle.mesh_place.proofs.SearchLaws.{IsLed, beyond}
use Rattle.mesh_place.proofs.Squares.{over_column, among_columns, among_touched, box_least, clamp_least, clamp_most, farther_across, farther_along, farther_both}
use Rattle.mesh_place.proofs.Squares.{gap_least, gap_of_point, size_bounds, within}

-- ---- a cell

-- a point over a cell makes a place that stands, where the polygon holds it
pub stands_over : (mesh : Mesh) (asked : Near) (part : PolygonPart) (cell : NearCell) (point : Point) → IsPart mesh asked part → IsCellOf mesh part cell
    → 0 ≡ column_gap cell.x cell.z point → Holds part.polygon point → Stands mesh (place_over part cell point)
stands_over mesh asked part cell point is of over holds = record {
  held = record { polygon = part.polygon; there = is.there; holds = holds };
  storey = of.storey;
  home = of.home;
  floor = record { x = cell.x; z = cell.z; has = of.has; gap = over; nearest = λ x z y has. omega arith };
}

pub reach_over : (mesh : Mesh) (search : NearSearch) (part : PolygonPart) (cell : NearCell) (point : Point) → IsPart mesh search.asked part
    → IsSearch search → IsHeightNear search.asked cell.y → IsWithin search point → IsInReach mesh search.asked (place_over part cell point)
reach_over mesh search part cell point is rules near within = record {
  flat = omega (arith, within, mul-le search.reach search.reach search.asked.reach search.asked.reach rules.reach rules.reach);
  low = near.low;
  high = near.high;
  polygon = part.polygon;
  there = is.there;
  area = is.area;
}

-- a polygon holds the places that stand in it
pub holds_it : (mesh : Mesh) (asked : Near) (part : PolygonPart) (other : MeshPlace) → IsPart mesh asked part → Stands mesh other → other.polygon ≡ part.at
    → Holds part.polygon other.point
holds_it mesh asked part other is stands at =
    let same = same_Some stands.held.polygon part.polygon (sym stands.held.there ∙ ap (poly_at mesh) at ∙ is.there) in
    subst (λ (p : Polygon). Holds p other.point) same stands.held.holds

-- the place at the nearest point leads all over the cell that have the point's property
pub led_over : (mesh : Mesh) (asked : Near) (part : PolygonPart) (cell : NearCell) (point : Point) (P : Point → Type 0) (among : MeshPlace → Type 0)
    → IsNearestOf P asked.point point → ((other : MeshPlace) → Stands mesh other → among other → IsOverCell part cell other × P other.point)
    → IsLed mesh asked (place_over part cell point) among
led_over mesh asked part cell point P among nearest over other stands one =
    let is = over other stands one in
    let polygon = is.0.polygon in
    let y = is.0.y in
    elim (nearest other.point is.1) [
      | inl same ↦ inl (λ i. record { polygon = polygon i; point = same i; y = y i })
      | inr far ↦ inr (y, far)
    ]

-- the nearest place of a line
pub line_nearest : (cell : NearCell) (p : Point) (z near : ℕ) (span : LineSpan) (P : Point → Type 0) → ((x : ℕ) → IsInSpan span x → IsItOrFarther p.x near x)
    → ((q : Point) (m : ℕ) → P q → q.x ≡ pos m → 16 * cell.x ≤ m → m ≤ 16 * cell.x + 16 → IsInSpan span m)
    → ((q : Point) → P q → IsLinePoint cell (pos z) q) → IsNearestOf P p (point_on near z)
line_nearest cell p z near span P nearest inside on q one =
    let line = on q one in
    let over = over_column cell.x cell.z q line.over in
    let x = over.across.is in
    let along = line.on in
    elim (nearest over.across.m (inside q over.across.m one x over.across.left over.across.right)) [
      | inl same ↦
          let across = x ∙ ap pos same in
          inl (λ i. record { x = across i; z = along i })
      | inr far ↦ inr (farther_across p (point_on near z) q (subst (λ (n : ℤ). unsigned_abs (pos near -ℤ p.x) < unsigned_abs (n -ℤ p.x)) (sym x) far) (sym along))
    ]

-- a point of a line lies over the cell
pub over_point : (cell : NearCell) (x z : ℕ) → IsInSpan (columns_of cell) x → 16 * cell.z ≤ z → z ≤ 16 * cell.z + 16 → 0 ≡ column_gap cell.x cell.z (point_on x z)
over_point cell x z inside low high =
    let first = inside.first in
    let last = inside.last in
    let i : 16 * cell.x + (x - 16 * cell.x) ≡ x = omega (arith, first) in
    let j : 16 * cell.z + (z - 16 * cell.z) ≡ z = omega (arith, low) in
    subst (λ (m : ℕ). 0 ≡ column_gap cell.x cell.z (point_on m z)) i
    (subst (λ (m : ℕ). 0 ≡ column_gap cell.x cell.z (point_on (16 * cell.x + (x - 16 * cell.x)) m)) j
    (gap_of_point cell.x cell.z (x - 16 * cell.x) (z - 16 * cell.z) (omega (arith, first, last)) (omega (arith, low, high))))

-- the nearest point of a line leads all places on it
pub led_line : (mesh : Mesh) (asked : Near) (part : PolygonPart) (cell : NearCell) (z near : ℕ) (span : LineSpan) (point : Point) → span ≡ columns_of cell
    → ((x : ℕ) → IsInSpan span x → IsItOrFarther asked.point.x near x) → point ≡ point_on near z
    → IsLed mesh asked (place_over part cell point) (IsOnLine part cell (pos z))
led_line mesh asked part cell z near span point whole nearest made =
    led_over mesh asked part cell point (IsLinePoint cell (pos z)) (IsOnLine part cell (pos z))
    (subst (IsNearestOf (IsLinePoint cell (pos z)) asked.point) (sym made)
    (line_nearest cell asked.point z near span (IsLinePoint cell (pos z)) nearest
    (λ q m one x low high. subst (λ (s : LineSpan). IsInSpan s m) (sym whole) (record { first = low; last = high })) (λ q one. one)))
    (λ other stands one. (one.over, record { over = one.over.over; on = one.on }))

-- and that of the part that the polygon holds is the nearest that it holds
module _ (part : PolygonPart) (cell : NearCell) (z : ℕ) (span held : LineSpan) (whole : span ≡ columns_of cell)
    (is : IsPartOf (λ x. Holds part.polygon (point_on x z)) span held) where
  pub held_nearest : (p : Point) (near : ℕ) (point : Point) → ((x : ℕ) → IsInSpan held x → IsItOrFarther p.x near x) → point ≡ point_on near z
      → IsNearestOf (IsHeldOnLine part cell point.z) p point
  held_nearest p near point nearest made =
      subst (λ (a : Point). IsNearestOf (IsHeldOnLine part cell a.z) p a) (sym made)
      (line_nearest cell p z near held (IsHeldOnLine part cell (pos z)) nearest
      (λ q m one x low high.
      let on = one.point.on in
      let at : q ≡ point_on m z = λ i. record { x = x i; z = on i } in
      is.all m (subst (λ (s : LineSpan). IsInSpan s m) (sym whole) (record { first = low; last = high })) (subst (Holds part.polygon) at one.holds))
      (λ q one. one.point))

  pub held_there : (near : ℕ) (point : Point) → IsInSpan held near → point ≡ point_on near z → 16 * cell.z ≤ z → z ≤ 16 * cell.z + 16
      → IsHeldOnLine part cell point.z point
  held_there near point inside made low high =
      let first = inside.first in
      let last = inside.last in
      let own : IsInSpan span near = record { first = omega (arith, first, is.begins); last = omega (arith, last, is.ends) } in
      subst (λ (a : Point). IsHeldOnLine part cell a.z a) (sym made)
      (record {
        point = record { over = over_point cell near z (subst (λ (s : LineSpan). IsInSpan s near) whole own) low high; on = refl };
        holds = is.are near inside;
      })

-- where the polygon holds no point of the line, no place on it stands
pub none_held : (mesh : Mesh) (asked : Near) (part : PolygonPart) (cell : NearCell) (z : ℕ) (span : LineSpan) → IsPart mesh asked part
    → span ≡ columns_of cell → ((x : ℕ) → IsInSpan span x → Holds part.polygon (point_on x z) → ⊥) → (other : MeshPlace) → Stands mesh other
    → IsOnLine part cell (pos z) other → ⊥
none_held mesh asked part cell z span is whole none other stands one =
    let over = over_column cell.x cell.z other.point one.over.over in
    let x = over.across.is in
    let on = one.on in
    let at : other.point ≡ point_on over.across.m z = λ i. record { x = x i; z = on i } in
    none over.across.m (subst (λ (s : LineSpan). IsInSpan s over.across.m) (sym whole) (record { first = over.across.left; last = over.across.right }))
    (subst (Holds part.polygon) at (holds_it mesh asked part other is stands one.over.polygon))

-- the nearest point over a cell
pub cell_nearest : (cell : NearCell) (p : Point) (x z : ℕ) → ((m : ℕ) → IsInSpan (columns_of cell) m → IsItOrFarther p.x x m)
    → ((m : ℕ) → IsInSpan (rows_of cell) m → IsItOrFarther p.z z m) → IsNearestOf (λ q. 0 ≡ column_gap cell.x cell.z q) p (point_on x z)
cell_nearest cell p x z across along q one =
    let over = over_column cell.x cell.z q one in
    let at = over.across.is in
    let at' = over.along.is in
    let near = across over.across.m (record { first = over.across.left; last = over.across.right }) in
    let near' = along over.along.m (record { first = over.along.left; last = over.along.right }) in
    elim near [
      | inl same ↦
          elim near' [
            | inl same' ↦
                let qx = at ∙ ap pos same in
                let qz = at' ∙ ap pos same' in
                inl (λ i. record { x = qx i; z = qz i })
            | inr far' ↦
                inr (farther_along p (point_on x z) q (sym (at ∙ ap pos same))
                (subst (λ (n : ℤ). unsigned_abs (pos z -ℤ p.z) < unsigned_abs (n -ℤ p.z)) (sym at') far'))
          ]
      | inr far ↦
          inr (farther_both p (point_on x z) q (subst (λ (n : ℤ). unsigned_abs (pos x -ℤ p.x) < unsigned_abs (n -ℤ p.x)) (sym at) far)
          (subst (λ (n : ℤ). unsigned_abs (pos z -ℤ p.z) ≤ unsigned_abs (n -ℤ p.z)) (sym at') (no_nearer z over.along.m near')))
    ]
  where
    no_nearer : (n m : ℕ) → IsItOrFarther p.z n m → unsigned_abs (pos n -ℤ p.z) ≤ unsigned_abs (pos m -ℤ p.z)
    no_nearer n m (inl same) = subst (λ (k : ℕ). unsigned_abs (pos n -ℤ p.z) ≤ unsigned_abs (pos k -ℤ p.z)) (sym same) (omega arith)
    no_nearer n m (inr far) = omega (arith, far)

-- ---- the lines of a cell

pub next_line : (part : PolygonPart) (cell : NearCell) (z : ℕ) (other : MeshPlace) → IsInLines part cell (z + 1) other
    → IsInLines part cell z other ⊎ IsOnLine part cell (pos z) other
next_line part cell z other one =
    by_lt_z other.point.z (pos z) (λ less. inl (record { over = one.over; before = less })) (λ least. inr (here least))
  where
    here : pos z ≤ℤ other.point.z → IsOnLine part cell (pos z) other
    here least =
        let over = over_column cell.x cell.z other.point one.over.over in
        let low : z ≤ over.along.m = omega (arith, ints, least, over.along.is) in
        let high : over.along.m < z + 1 = omega (arith, ints, one.before, over.along.is) in
        let same : over.along.m ≡ z = omega (arith, low, high) in
        record { over = one.over; on = over.along.is ∙ ap pos same }

-- a place over the cell and within a reach lies on a line of the cell, between the ends of the reach
record IsLineOf (cell : NearCell) (p : Point) (reach : ℕ) (q : Point) : Type 0 where
  m : ℕ
  is : q.z ≡ pos m
  low : 16 * cell.z ≤ m
  high : m ≤ 16 * cell.z + 16
  begins : (reach_ends p.z reach).low ≤ m
  ends : m ≤ (reach_ends p.z reach).high

line_of : (cell : NearCell) (p q : Point) (reach : ℕ) → 0 ≡ column_gap cell.x cell.z q → square_of (from_to p q) ≤ reach * reach → IsLineOf cell p reach q
line_of cell p q reach none flat =
    let over = over_column cell.x cell.z q none in
    let m : ℕ = over.along.m in
    let near = within p q reach flat in
    let bounds = size_bounds (pos m -ℤ p.z) reach (subst (λ (n : ℤ). unsigned_abs (n -ℤ p.z) ≤ reach) over.along.is near.along) in
    record {
      m = m;
      is = over.along.is;
      low = over.along.left;
      high = over.along.right;
      begins = clamp_most (p.z -ℤ pos reach) m (omega (arith, ints, bounds.0));
      ends = clamp_least (p.z +ℤ pos reach) m (omega (arith, ints, bounds.1));
    }

pub before_lines : (part : PolygonPart) (cell : NearCell) (p : Point) (reach first : ℕ) → first ≤ max (16 * cell.z) (reach_ends p.z reach).low
    → (other : MeshPlace) → square_of (from_to p other.point) ≤ reach * reach → IsInLines part cell first other → ⊥
before_lines part cell p reach first begins other flat one =
    let line = line_of cell p other.point reach one.over.over flat in
    let before : line.m < first = omega (arith, ints, one.before, line.is) in
    let low = line.low in
    let low' = line.begins in
    omega (arith, begins, before, low, low')

pub after_lines : (part : PolygonPart) (cell : NearCell) (p : Point) (reach end z : ℕ) → end ≡ min (16 * cell.z + 17) ((reach_ends p.z reach).high + 1)
    → end ≤ z → (other : MeshPlace) → square_of (from_to p other.point) ≤ reach * reach → IsOverCell part cell other → IsInLines part cell z other
after_lines part cell p reach end z ends past other flat one =
    let line = line_of cell p other.point reach one.over flat in
    let high = line.high in
    let high' = line.ends in
    let before : line.m < z = omega (arith, ends, past, high, high') in
    record { over = one; before = omega (arith, ints, before, line.is) }

-- a place over a cell whose floor is not in reach in height is not in reach
pub not_near : (mesh : Mesh) (asked : Near) (part : PolygonPart) (cell : NearCell) → (IsHeightNear asked cell.y → ⊥) → (other : MeshPlace)
    → IsInReach mesh asked other → IsOverCell part cell other → ⊥
not_near mesh asked part cell never other near one =
    never (subst (IsHeightNear asked) one.y (record { low = near.low; high = near.high }))

-- the height of each place over a cell adds as much to its measure
pub cell_adds : (mesh : Mesh) (search : NearSearch) (part : PolygonPart) (cell : NearCell) (high : ℕ)
    → high ≡ height_part mesh.setting.agent.climb search.asked (height_off search.asked.y cell.y)
    → AddAtLeast mesh search.asked high (λ other. IsOverCell part cell other × IsWithin search other.point)
cell_adds mesh search part cell high is other stands near one =
    subst (λ (y : ℕ). high ≤ height_part mesh.setting.agent.climb search.asked (height_off search.asked.y y)) (sym one.0.y) (omega (arith, is))

-- ---- a row

pub cell_of : (mesh : Mesh) (asked : Near) (part : PolygonPart) (row : FloorRow) (z x y : ℕ) → IsPart mesh asked part → IsRowOf mesh part.at row z
    → IsFloorRow row → z < 1024 → row.x0 ≤ x → x < row.x0 + length row.floors → y ≡ get_or row.floors (x - row.x0) 0
    → IsCellOf mesh part (record { x = x; z = z; y = y })
cell_of mesh asked part row z x y is of rules inside left right value =
    let within : x - row.x0 < length row.floors = omega (arith, left, right) in
    let most = rules.right in
    record {
      storey = of.storey;
      home = of.home;
      has = record {
        row = row;
        above = of.above;
        is_row = of.is_row;
        right = left;
        is_cell = slice_get-get_or row.floors (x - row.x0) 0 within ∙ ap (λ (n : ℕ). Some n) (sym value);
      };
      low = subst (λ (n : ℕ). n ≤ 8191) (sym value) (rules.floors (x - row.x0) 0 within);
      across = omega (arith, right, most);
      along = inside;
    }

pub before_columns : (mesh : Mesh) (search : NearSearch) (part : PolygonPart) (row : FloorRow) (z first : ℕ) → IsSearch search
    → IsPart mesh search.asked part → first ≤ max row.x0 (max search.around.columns.first part.touched.columns.first) → (other : MeshPlace)
    → Stands mesh other → IsWithin search other.point → IsInRow row part.at z first other → ⊥
before_columns mesh search part row z first rules is begins other stands within one =
    let columns = ap (λ (a : Around). a.columns.first) rules.around in
    let among = (among_columns one.x z search.asked.point other.point search.reach one.over within).0 in
    let own = (is.touched one.x z other.point one.over (holds_it mesh search.asked part other is stands one.polygon)).0 in
    let right = one.right in
    let before = one.before in
    let least = among.first in
    let least' = own.first in
    omega (arith, columns, begins, right, before, least, least')

pub after_columns : (mesh : Mesh) (search : NearSearch) (part : PolygonPart) (row : FloorRow) (z end x : ℕ) → IsSearch search
    → IsPart mesh search.asked part
    → end ≡ min (row.x0 + length row.floors) (min search.around.columns.last part.touched.columns.last + 1) → end ≤ x → (other : MeshPlace)
    → Stands mesh other → IsWithin search other.point → IsInRow row part.at z (row.x0 + length row.floors) other → IsInRow row part.at z x other
after_columns mesh search part row z end x rules is ends past other stands within one =
    let columns = ap (λ (a : Around). a.columns.last) rules.around in
    let among = (among_columns one.x z search.asked.point other.point search.reach one.over within).0 in
    let own = (is.touched one.x z other.point one.over (holds_it mesh search.asked part other is stands one.polygon)).0 in
    let most = among.last in
    let most' = own.last in
    let before = one.before in
    record {
      polygon = one.polygon;
      x = one.x;
      right = one.right;
      is_cell = one.is_cell;
      over = one.over;
      before = omega (arith, columns, ends, past, most, most', before);
    }

pub next_column : (row : FloorRow) (part : PolygonPart) (cell : NearCell) (other : MeshPlace) → cell.y ≡ get_or row.floors (cell.x - row.x0) 0
    → IsInRow row part.at cell.z (cell.x + 1) other → IsInRow row part.at cell.z cell.x other ⊎ IsOverCell part cell other
next_column row part cell other value one =
    elim (cases_lt one.x cell.x) [
      | inl less ↦ inl (record { polygon = one.polygon; x = one.x; right = one.right; is_cell = one.is_cell; over = one.over; before = less })
      | inr least ↦
          let before = one.before in
          let same : one.x ≡ cell.x = omega (arith, before, least) in
          let floor = get_or_from_slice_get row.floors (one.x - row.x0) other.y 0 one.is_cell in
          inr (record {
            polygon = one.polygon;
            y = sym floor ∙ ap (λ (n : ℕ). get_or row.floors (n - row.x0) 0) same ∙ sym value;
            over = subst (λ (n : ℕ). 0 ≡ column_gap n cell.z other.point) same one.over;
          })
    ]

-- ---- a storey

pub before_rows : (mesh : Mesh) (search : NearSearch) (part : PolygonPart) (storey : Storey) (first : ℕ) → IsSearch search
    → IsPart mesh search.asked part → first ≤ max storey.z0 (max search.around.rows.first part.touched.rows.first) → (other : MeshPlace)
    → Stands mesh other → IsWithin search other.point → IsInRows storey part.at first other → ⊥
before_rows mesh search part storey first rules is begins other stands within one =
    let rows = ap (λ (a : Around). a.rows.first) rules.around in
    let among = (among_columns one.x one.z search.asked.point other.point search.reach one.over within).1 in
    let own = (is.touched one.x one.z other.point one.over (holds_it mesh search.asked part other is stands one.polygon)).1 in
    let has = one.has in
    let above = has.above in
    let before = one.before in
    let least = among.first in
    let least' = own.first in
    omega (arith, rows, begins, above, before, least, least')

pub after_rows : (mesh : Mesh) (search : NearSearch) (part : PolygonPart) (storey : Storey) (end z : ℕ) → IsSearch search
    → IsPart mesh search.asked part → storey_at mesh part.at ≡ Some storey
    → end ≡ min (storey.z0 + length storey.rows) (min search.around.rows.last part.touched.rows.last + 1) → end ≤ z → (other : MeshPlace)
    → Stands mesh other → IsWithin search other.point → other.polygon ≡ part.at → IsInRows storey part.at z other
after_rows mesh search part storey end z rules is home ends past other stands within one =
    let rows = ap (λ (a : Around). a.rows.last) rules.around in
    let same : stands.storey ≡ storey = same_Some stands.storey storey (sym stands.home ∙ ap (storey_at mesh) one ∙ home) in
    let floor = stands.floor in
    let has : HasFloor storey floor.x floor.z other.y = subst (λ (s : Storey). HasFloor s floor.x floor.z other.y) same floor.has in
    let among = (among_columns floor.x floor.z search.asked.point other.point search.reach floor.gap within).1 in
    let own = (is.touched floor.x floor.z other.point floor.gap (holds_it mesh search.asked part other is stands one)).1 in
    let most = among.last in
    let most' = own.last in
    let above = has.above in
    let within = slice_get_within storey.rows (floor.z - storey.z0) has.row has.is_row in
    record {
      polygon = one;
      x = floor.x;
      z = floor.z;
      has = has;
      over = floor.gap;
      before = omega (arith, rows, ends, past, most, most', above, within);
    }

pub next_row : (storey : Storey) (row : FloorRow) (at : PolyRef) (z : ℕ) (other : MeshPlace) → slice_get storey.rows (z - storey.z0) ≡ Some row
    → IsInRows storey at (z + 1) other → IsInRows storey at z other ⊎ IsInRow row at z (row.x0 + length row.floors) other
next_row storey row at z other there one =
    elim (cases_lt one.z z) [
      | inl less ↦ inl (record { polygon = one.polygon; x = one.x; z = one.z; has = one.has; over = one.over; before = less })
      | inr least ↦ inr (here least)
    ]
  where
    here : z ≤ one.z → IsInRow row at z (row.x0 + length row.floors) other
    here least =
        let before = one.before in
        let same : one.z ≡ z = omega (arith, before, least) in
        let has = one.has in
        let is : has.row ≡ row = same_Some has.row row (sym has.is_row ∙ ap (λ (n : ℕ). slice_get storey.rows (n - storey.z0)) same ∙ there) in
        let right : row.x0 ≤ one.x = subst (λ (d : FloorRow). d.x0 ≤ one.x) is has.right in
        let cell : slice_get row.floors (one.x - row.x0) ≡ Some other.y = ap (λ (d : FloorRow). slice_get d.floors (one.x - d.x0)) (sym is) ∙ has.is_cell in
        let within = slice_get_within row.floors (one.x - row.x0) other.y cell in
        record {
          polygon = one.polygon;
          x = one.x;
          right = right;
          is_cell = cell;
          over = subst (λ (n : ℕ). 0 ≡ column_gap one.x n other.point) same one.over;
          before = omega (arith, right, within);
        }

-- ---- a polygon

no_polygon : Polygon
no_polygon = record { corners = []; area = 0; low = 0; high = 0 }

module _ (polygons : List Polygon) (k : ℕ) (e : Extent) (are : (d : Polygon) → e ≡ extent_of (get_or polygons k d)) where
  pub low_area : All IsPolygon polygons → k < length polygons → e.area < 64
  low_area rules there =
      let own = (rules k no_polygon there).area in
      omega (arith, own, ap (λ (x : Extent). x.area) (are no_polygon))

pub in_box : (mesh : Mesh) (polygons : List Polygon) (at : PolyRef) (e : Extent) → poly_at mesh at ≡ slice_get polygons at.index
    → ((d : Polygon) → e ≡ extent_of (get_or polygons at.index d)) → All IsPolygon polygons → at.index < length polygons → (other : MeshPlace)
    → Stands mesh other → other.polygon ≡ at → IsInBox e other.point
in_box mesh polygons at e listed are rules there other stands one =
    let held = stands.held in
    let read : slice_get polygons at.index ≡ Some held.polygon = sym listed ∙ ap (poly_at mesh) (sym one) ∙ held.there in
    let same : get_or polygons at.index held.polygon ≡ held.polygon = get_or_from_slice_get polygons at.index held.polygon held.polygon read in
    let own : IsPolygon held.polygon = subst IsPolygon same (rules at.index held.polygon there) in
    subst (λ (x : Extent). IsInBox x other.point) (sym (are held.polygon ∙ ap extent_of same)) (held_in_box held.polygon other.point own held.holds)

pub far_box : (mesh : Mesh) (asked : Near) (polygons : List Polygon) (at : PolyRef) (e : Extent) → poly_at mesh at ≡ slice_get polygons at.index
    → ((d : Polygon) → e ≡ extent_of (get_or polygons at.index d)) → All IsPolygon polygons → at.index < length polygons → (other : MeshPlace)
    → Stands mesh other → other.polygon ≡ at → box_gap e asked.point ≤ square_of (from_to asked.point other.point)
far_box mesh asked polygons at e listed are rules there other stands one =
    box_least e asked.point other.point (in_box mesh polygons at e listed are rules there other stands one)

-- places over a cell that lies beyond what was found do not come before it
pub over_beyond : (mesh : Mesh) (asked : Near) (part : PolygonPart) (cell : NearCell) (best : Option MeshPlace) (other : MeshPlace)
    → IsBeyond mesh.setting.agent.climb asked (column_gap cell.x cell.z asked.point) (height_part mesh.setting.agent.climb asked (height_off asked.y cell.y)) best
    → IsOverCell part cell other → IsInReach mesh asked other → IsNotBefore mesh.setting.agent.climb asked other best
over_beyond mesh asked part cell best other far one near =
    let high : height_part mesh.setting.agent.climb asked (height_off asked.y cell.y) ≤ height_part mesh.setting.agent.climb asked (off_by asked other) =
    subst (λ (n : ℕ). height_part mesh.setting.agent.climb asked (height_off asked.y cell.y) ≤ height_part mesh.setting.agent.climb asked (height_off asked.y n))
    (sym one.y) (omega arith) in
    beyond mesh asked best (column_gap cell.x cell.z asked.point) (height_part mesh.setting.agent.climb asked (height_off asked.y cell.y)) other far
    (gap_least cell.x cell.z asked.point other.point one.over) high near

pub not_open : (mesh : Mesh) (asked : Near) (polygons : List Polygon) (at : PolyRef) (e : Extent) → poly_at mesh at ≡ slice_get polygons at.index
    → ((d : Polygon) → e ≡ extent_of (get_or polygons at.index d)) → is_open asked.areas e.area ≡ false → (other : MeshPlace)
    → IsInReach mesh asked other → other.polygon ≡ at → ⊥
not_open mesh asked polygons at e listed are closed other near one =
    let read : slice_get polygons at.index ≡ Some near.polygon = sym listed ∙ ap (poly_at mesh) (sym one) ∙ near.there in
    let same : get_or polygons at.index near.polygon ≡ near.polygon = get_or_from_slice_get polygons at.index near.polygon near.polygon read in
    let area : e.area ≡ near.polygon.area = ap (λ (x : Extent). x.area) (are near.polygon ∙ ap extent_of same) in
    absurd (true≢false (sym near.area ∙ ap (is_open asked.areas) (sym area) ∙ closed))

pub no_storey : (mesh : Mesh) (at : PolyRef) → storey_at mesh at ≡ None → (other : MeshPlace) → Stands mesh other → other.polygon ≡ at → ⊥
no_storey mesh at none other stands one = none-some stands.storey (sym none ∙ ap (storey_at mesh) (sym one) ∙ stands.home)

pub part_of : (mesh : Mesh) (asked : Near) (polygons : List Polygon) (at : PolyRef) (e : Extent) (polygon : Polygon) (around : Around)
    → poly_at mesh at ≡ slice_get polygons at.index → ((d : Polygon) → e ≡ extent_of (get_or polygons at.index d)) → All IsPolygon polygons
    → at.index < length polygons → ((d : Polygon) → polygon ≡ get_or polygons at.index d) → is_open asked.areas e.area ≡ true
    → around ≡ cells_touched e → IsPart mesh asked (record { at = at; polygon = polygon; touched = around })
part_of mesh asked polygons at e polygon around listed are rules there is opened touches = record {
  there = listed ∙ slice_get_read polygons (length polygons) at.index polygon refl there (is polygon);
  rules = own;
  area = subst (λ (n : ℕ). is_open asked.areas n ≡ true) (ap (λ (x : Extent). x.area) same) opened;
  touched =
      λ x z q over holds.
      subst (λ (a : Around). IsAmong a.columns x × IsAmong a.rows z) (sym touches)
      (among_touched e x z q box.low box.high over (subst (λ (d : Extent). IsInBox d q) (sym same) (held_in_box polygon q own holds)));
}
  where
    own : IsPolygon polygon
    own = subst IsPolygon (sym (is polygon)) (rules at.index polygon there)

    same : e ≡ extent_of polygon
    same = are polygon ∙ ap extent_of (sym (is polygon))

    box : IsCellBox e
    box = box_there polygons at.index e are rules there
