-- The storeys of strips: each has the cells of its strip, and its polygon lies over them.
use Rattle.std.proofs.Common.{◌≡◌, ℕ, zero, suc, ◌+◌, ◌-◌, ◌*◌, ◌<◌, ◌≤◌, true, ℤ, pos, negsuc, ◌≤ℤ◌, ◌+ℤ◌, ◌*ℤ◌, List, [], ◌∷◌, length, map, get_or, Some, ap, ◌∙◌, sym, refl, subst, arith, inl, inr}
use Rattle.std.specs.Prelude.{All, Contains, slice_get, option_and_then}
use Rattle.std.specs.List.{range_with_len}
use Rattle.std.specs.Option.{option_map}
use Rattle.std.proofs.lemmas.Bool.{cases_lt}
use Rattle.std.proofs.lemmas.Int.{ints}
use Rattle.std.proofs.lemmas.List.{get_or_default, get_or-map, length-map}
use Rattle.std.proofs.lemmas.List.Elements.{All-contains, All-contains_itself}
use Rattle.std.proofs.lemmas.List.FromFn.{get_or-range_with_len, length-range_with_len}
use Rattle.std.proofs.lemmas.Option.{get_or_from_slice_get, slice_get-get_or, slice_get-map, slice_get_within}
use Rattle.nav_base.specs.declared.point.Point.{Point}
use Rattle.nav_ground.specs.declared.cell.Cell.{Cell}
use Rattle.nav_ground.specs.declared.cell.FreeLayer.{FreeLayer}
use Rattle.nav_ground.specs.declared.cell.Window.{Window}
use Rattle.nav_ground.specs.declared.setting.Setting.{Setting}
use Rattle.nav_ground.specs.Cells.{IsCut, is_naming, is_toward}
use Rattle.nav_ground.specs.Tiling.{IsInWindow}
use Rattle.nav_ground.proofs.Directions.{both_equal}
use Rattle.mesh_types.specs.declared.mesh.TileMesh.{TileMesh}
use Rattle.mesh_types.specs.declared.polygon.Polygon.{Polygon}
use Rattle.mesh_types.specs.declared.storeys.FloorRow.{FloorRow}
use Rattle.mesh_types.specs.declared.storeys.Storey.{Storey}
use Rattle.mesh_types.specs.BorderLinks.{scaled}
use Rattle.mesh_types.specs.Located.{Holds}
use Rattle.mesh_types.specs.Standing.{PointsStand}
use Rattle.mesh_types.specs.StripCover.{HoldsColumn, IsInColumn, IsInOne}
use Rattle.mesh_types.specs.StripMeshes.{strip_mesh_of, strip_storeys}
use Rattle.mesh_types.specs.StripPolygons.{some_cell, corner, first_of, strip_polygon, strip_runs}
use Rattle.mesh_types.specs.Storeys.{HasFloor, strip_storey}
use Rattle.mesh_types.proofs.HeldPoints.{held_in_square}
use Rattle.mono_regions.specs.Indices.{cell_at, index_runs}
use Rattle.mono_regions.proofs.Chains.{along_is}
use Rattle.mono_regions.proofs.StripLaws.{run_columns, run_next}
use Rattle.strip_mesh.proofs.ColumnLaws.{columns_held}
use Rattle.strip_mesh.proofs.CoverLaws.{one_strip}
use Rattle.strip_mesh.proofs.PolygonLaws.{polygon_inside, polygon_sound}
use Rattle.strip_mesh.proofs.RowLaws.{IsRow, count_same, own_all, own_cell, own_length, row_is}
use Rattle.storey_laws.proofs.HeldFloors.{floor_under}
use Rattle.storey_laws.proofs.StoreyCells.{IsStoreyOf, AreStoreysOf, IsOverOne, IsHomeOf, HasOwnCells}

-- ---- the storey of one strip

-- the cells of a strip have one area
abbrev HasOneArea : List Cell → Type 0
HasOneArea own = (k : ℕ) (d : Cell) → k < length own → (get_or own k d).area ≡ (first_of own).area

-- the row of a strip's storey
abbrev row_over : List Cell → FloorRow
row_over own = record { x0 = (first_of own).at.x; floors = map (λ (cell : Cell). cell.floor) own }

row_storey : (own : List Cell) → IsRow own → HasOneArea own → IsStoreyOf own (strip_storey own)
row_storey own row areas = record {
  some = row.some;
  has = λ k d there.
      let cell : Cell = get_or own k d in
      let x = row.x k d there in
      let z = row.z k d there in
      record {
        floor = record {
          row = row_over own;
          above = omega (arith, z);
          is_row = ap (slice_get (row_over own ∷ [])) {x = cell.at.z - (first_of own).at.z} {y = 0} (omega (arith, z))
              ∙ slice_get-get_or (row_over own ∷ []) 0 (row_over own) (omega arith);
          right = omega (arith, x);
          is_cell = ap (slice_get (map floor own)) {x = cell.at.x - (first_of own).at.x} {y = k} (omega (arith, x))
              ∙ slice_get-map floor own k ∙ ap (option_map floor) (slice_get-get_or own k d there);
        };
        area = sym (areas k d there);
      };
  only = λ x z y has.
      let low : ℕ = z - (first_of own).at.z in
      let within : low < 1 = slice_get_within (row_over own ∷ []) low has.row has.is_row in
      let same : row_over own ≡ has.row =
      ap (λ n. get_or (row_over own ∷ []) n (row_over own)) {x = 0} {y = low} (omega (arith, within))
      ∙ get_or_from_slice_get (row_over own ∷ []) low has.row (row_over own) has.is_row in
      let right : (first_of own).at.x ≤ x = subst (λ (r : FloorRow). r.x0 ≤ x) (sym same) has.right in
      let k : ℕ = x - (first_of own).at.x in
      let is : slice_get (map floor own) k ≡ Some y = subst (λ (r : FloorRow). slice_get r.floors (x - r.x0) ≡ Some y) (sym same) has.is_cell in
      let less : k < length own = omega (arith, slice_get_within (map floor own) k y is, length-map own floor) in
      let cell : Cell = get_or own k some_cell in (
        k,
        cell,
        less,
        get_or_default own k cell some_cell less,
        (
          omega (arith, row.x k some_cell less, right),
          omega (arith, row.z k some_cell less, within, has.above),
          sym (get_or-map floor own k some_cell 0 less) ∙ get_or_from_slice_get (map floor own) k y 0 is,
        ),
      );
}
  where
    floor : Cell → ℕ
    floor cell = cell.floor

-- ---- the column of a strip under a point

column_within : (a n m : ℕ) → 16 * a ≤ m → m ≤ 16 * (a + n) → 0 < n → (k : ℕ) × (k < n) × (16 * (a + k) ≤ m) × (m ≤ 16 * (a + k + 1))
column_within a zero m low high some = absurd (omega (arith, some))
column_within a (suc n) m low high some = elim (cases_lt m (16 * (a + n))) [
  | inl less ↦
      let rest = column_within a n m low (omega (arith, less)) (omega (arith, low, less)) in
      (rest.0, omega (arith, rest.1), rest.2, rest.3)
  | inr more ↦ (n, omega arith, more, omega (arith, high))
]

-- a point lies in the rectangle of a strip
record IsInRectangle (own : List Cell) (p : Point) : Type 0 where
  left : pos (16 * (first_of own).at.x) ≤ℤ p.x
  right : p.x ≤ℤ pos (16 * ((first_of own).at.x + length own))
  bottom : pos (16 * (first_of own).at.z) ≤ℤ p.z
  top : p.z ≤ℤ pos (16 * ((first_of own).at.z + 1))

over_row : (own : List Cell) (p : Point) → IsRow own → IsInRectangle own p → IsOverOne own p
over_row own p row is = by_x p.x refl
  where
    least : (a m : ℕ) → pos (16 * a) ≤ℤ pos m → 16 * a ≤ m
    least a m h = omega (arith, ints)

    most : (a m : ℕ) → pos m ≤ℤ pos (16 * a) → m ≤ 16 * a
    most a m h = omega (arith, ints)

    none : (a k : ℕ) → pos (16 * a) ≤ℤ negsuc k → ⊥
    none a k h = omega (arith, ints)

    up : (a m : ℕ) → 16 * a ≤ m → pos (16 * a) ≤ℤ pos m
    up a m h = omega (arith, ints)

    down : (a m : ℕ) → m ≤ 16 * a → pos m ≤ℤ pos (16 * a)
    down a m h = omega (arith, ints)

    by_x : (n : ℤ) → p.x ≡ n → IsOverOne own p
    by_x (negsuc k) at = absurd (none (first_of own).at.x k (subst (λ (n : ℤ). pos (16 * (first_of own).at.x) ≤ℤ n) at is.left))
    by_x (pos m) at =
        let a : ℕ = (first_of own).at.x in
        let found = column_within a (length own) m
        (least a m (subst (λ (n : ℤ). pos (16 * a) ≤ℤ n) at is.left))
        (most (a + length own) m (subst (λ (n : ℤ). n ≤ℤ pos (16 * (a + length own))) at is.right)) row.some in
        let k : ℕ = found.0 in
        let cell : Cell = get_or own k some_cell in
        let inside : IsInColumn (a + k) (first_of own).at.z p = record {
          left = subst (λ (n : ℤ). pos (16 * (a + k)) ≤ℤ n) (sym at) (up (a + k) m found.2);
          right = subst (λ (n : ℤ). n ≤ℤ pos (16 * (a + k + 1))) (sym at) (down (a + k + 1) m found.3);
          bottom = is.bottom;
          top = is.top;
        } in (
          k,
          cell,
          found.1,
          get_or_default own k cell some_cell found.1,
          subst (λ (n : ℕ). IsInColumn n cell.at.z p) (sym (row.x k some_cell found.1))
              (subst (λ (n : ℕ). IsInColumn (a + k) n p) (sym (row.z k some_cell found.1)) inside),
        )

-- the corners of the rectangle lie in it
corners_over : (own : List Cell) → IsRow own → All (λ (c : Point). IsOverOne own (scaled c.x c.z)) (strip_polygon own).corners
corners_over own row = each
  where
    at_least : (u v : ℕ) → u ≤ v → pos (16 * u) ≤ℤ (pos 16 *ℤ pos v)
    at_least u v h = omega (arith, ints)

    at_most : (u v : ℕ) → v ≤ u → (pos 16 *ℤ pos v) ≤ℤ pos (16 * u)
    at_most u v h = omega (arith, ints)

    over : (x z : ℕ) → (first_of own).at.x ≤ x → x ≤ (first_of own).at.x + length own → (first_of own).at.z ≤ z → z ≤ (first_of own).at.z + 1
        → IsOverOne own (scaled (corner x z).x (corner x z).z)
    over x z left right bottom top = over_row own (scaled (pos x) (pos z)) row (record {
      left = at_least (first_of own).at.x x left;
      right = at_most ((first_of own).at.x + length own) x right;
      bottom = at_least (first_of own).at.z z bottom;
      top = at_most ((first_of own).at.z + 1) z top;
    })

    each : All (λ (c : Point). IsOverOne own (scaled c.x c.z)) (strip_polygon own).corners
    each zero d there = over (first_of own).at.x (first_of own).at.z (omega arith) (omega arith) (omega arith) (omega arith)
    each (suc zero) d there =
        over ((first_of own).at.x + length own - 1 + 1) (first_of own).at.z (omega (arith, row.some)) (omega (arith, row.some)) (omega arith) (omega arith)
    each (suc (suc zero)) d there =
        over ((first_of own).at.x + length own - 1 + 1) ((first_of own).at.z + 1) (omega (arith, row.some)) (omega (arith, row.some)) (omega arith) (omega arith)
    each (suc (suc (suc zero))) d there = over (first_of own).at.x ((first_of own).at.z + 1) (omega arith) (omega arith) (omega arith) (omega arith)
    each (suc (suc (suc (suc k)))) d there = absurd (omega (arith, there))

-- so does each point that it holds
held_over : (own : List Cell) (p : Point) → IsRow own → Holds (strip_polygon own) p → IsOverOne own p
held_over own p row holds =
    let a : ℕ = (first_of own).at.x in
    let z : ℕ = (first_of own).at.z in
    let is = held_in_square window (strip_polygon own) p (polygon_sound own row).convex
    (polygon_inside window own row (λ k d there. in_window (get_or own k d) k there (row.x k d there) (row.z k d there))) holds in
    over_row own p row (record {
      left = low a p.x is.left;
      right = high (a + length own - 1) (a + length own) p.x (omega (arith, row.some)) is.right;
      bottom = low z p.z is.bottom;
      top = high z (z + 1) p.z (omega arith) is.top;
    })
  where
    window : Window
    window = record { x0 = pos (first_of own).at.x; x1 = pos ((first_of own).at.x + length own - 1); z0 = pos (first_of own).at.z; z1 = pos (first_of own).at.z }

    in_order : (u v : ℕ) → u ≤ v → pos u ≤ℤ pos v
    in_order u v h = omega (arith, ints)

    in_window : (cell : Cell) (k : ℕ) → k < length own → cell.at.x ≡ (first_of own).at.x + k → cell.at.z ≡ (first_of own).at.z
        → IsInWindow window cell.at.x cell.at.z
    in_window cell k there x same = record {
      x_least = in_order (first_of own).at.x cell.at.x (omega (arith, x));
      x_most = in_order cell.at.x ((first_of own).at.x + length own - 1) (omega (arith, x, there));
      z_least = in_order (first_of own).at.z cell.at.z (omega (arith, same));
      z_most = in_order cell.at.z (first_of own).at.z (omega (arith, same));
    }

    low : (u : ℕ) (n : ℤ) → (pos 16 *ℤ pos u) ≤ℤ n → pos (16 * u) ≤ℤ n
    low u n h = omega (arith, ints)

    high : (u v : ℕ) (n : ℤ) → u + 1 ≡ v → n ≤ℤ (pos 16 *ℤ (pos u +ℤ pos 1)) → n ≤ℤ pos (16 * v)
    high u v n same h = omega (arith, ints)

-- ---- the storeys of a tile of strips

module _ (cells : List Cell) (cut : IsCut cells) where
  abbrev run : ℕ → List Cell
  run s = get_or (strip_runs cells) s []

  abbrev storeys_of : List Storey
  storeys_of = map strip_storey (strip_runs cells)

  many : length storeys_of ≡ length (strip_runs cells)
  many = length-map (strip_runs cells) strip_storey

  one_area : (s : ℕ) → s < length (strip_runs cells) → HasOneArea (run s)
  one_area s there k d inside =
      let some = (row_is cells cut s there).some in
      let at = run_columns cells cut.rules s k 0 (omega (arith, there, count_same cells)) (omega (arith, inside, own_length cells s there)) in
      ap (λ (c : Cell). c.area) (own_cell cells s k d there inside) ∙ at.area ∙ sym (ap (λ (c : Cell). c.area) (own_cell cells s 0 some_cell there some))

  storey_is : (s : ℕ) (storey : Storey) → s < length (strip_runs cells) → slice_get storeys_of s ≡ Some storey → strip_storey (run s) ≡ storey
  storey_is s storey there at = sym (get_or-map strip_storey (strip_runs cells) s [] storey there) ∙ get_or_from_slice_get storeys_of s storey storey at

  run_storey : (s : ℕ) (storey : Storey) → s < length (strip_runs cells) → slice_get storeys_of s ≡ Some storey → IsStoreyOf (run s) storey
  run_storey s storey there at =
      subst (IsStoreyOf (run s)) (storey_is s storey there at) (row_storey (run s) (row_is cells cut s there) (one_area s there))

  run_within : (s : ℕ) (cell : Cell) → s < length (strip_runs cells) → Contains (run s) cell → Contains cells cell
  run_within s cell there has =
      All-contains (Contains cells) (run s) cell (own_all cells (Contains cells) cut.rules (All-contains_itself cells) s there) has

  -- the cell of a strip at a place, and the next
  abbrev nth : ℕ → ℕ → Cell
  nth s k = get_or (run s) k some_cell

  next_named : (s k : ℕ) → s < length (strip_runs cells) → suc k < length (run s) → is_naming 2 (nth s k) (nth s (suc k)).at ≡ true
  next_named s k there inside =
      let there' : s < length (index_runs cells) = omega (arith, there, count_same cells) in
      let i : ℕ = get_or (get_or (index_runs cells) s []) k 0 in
      let step = run_next cells s k 0 there' (omega (arith, inside, own_length cells s there)) in
      ap (λ (c : Cell). is_naming 2 c (nth s (suc k)).at) (own_cell cells s k some_cell there (omega (arith, inside)))
      ∙ ap (λ (c : Cell). is_naming 2 (cell_at cells i) c.at) (own_cell cells s (suc k) some_cell there inside)
      ∙ ap (λ n. is_naming 2 (cell_at cells i) (cell_at cells n).at) step.0
      ∙ (along_is cells 2 i step.1).0

  back_named : (s k : ℕ) → s < length (strip_runs cells) → suc k < length (run s) → is_naming 0 (nth s (suc k)) (nth s k).at ≡ true
  back_named s k there inside =
      cut.named_back 2 (nth s k) (nth s (suc k)) (omega arith)
      (run_within s (nth s k) there (k, omega (arith, inside), get_or_default (run s) k (nth s k) some_cell (omega (arith, inside))))
      (run_within s (nth s (suc k)) there (suc k, inside, get_or_default (run s) (suc k) (nth s (suc k)) some_cell inside))
      (next_named s k there inside)

  run_joined : (s dir k l : ℕ) → s < length (strip_runs cells) → dir < 4 → k < length (run s) → l < length (run s)
      → is_toward dir (nth s k).at (nth s l).at ≡ true → is_naming dir (nth s k) (nth s l).at ≡ true
  run_joined s zero k l there small inside inside' toward =
      let row = row_is cells cut s there in
      let e = both_equal ((nth s l).at.x + 1) (nth s k).at.x (nth s l).at.z (nth s k).at.z toward in
      let is : k ≡ suc l = omega (arith, e.0, row.x k some_cell inside, row.x l some_cell inside') in
      let P : ℕ → Type 0 = λ n. is_naming 0 (nth s n) (nth s l).at ≡ true in
      subst P (sym is) (back_named s l there (omega (arith, is, inside)))
  run_joined s (suc zero) k l there small inside inside' toward =
      let row = row_is cells cut s there in
      let e = both_equal (nth s l).at.x (nth s k).at.x (nth s l).at.z ((nth s k).at.z + 1) toward in
      absurd (omega (arith, e.1, row.z k some_cell inside, row.z l some_cell inside'))
  run_joined s (suc (suc zero)) k l there small inside inside' toward =
      let row = row_is cells cut s there in
      let e = both_equal (nth s l).at.x ((nth s k).at.x + 1) (nth s l).at.z (nth s k).at.z toward in
      let is : l ≡ suc k = omega (arith, e.0, row.x k some_cell inside, row.x l some_cell inside') in
      let P : ℕ → Type 0 = λ n. is_naming 2 (nth s k) (nth s n).at ≡ true in
      subst P (sym is) (next_named s k there (omega (arith, is, inside')))
  run_joined s (suc (suc (suc zero))) k l there small inside inside' toward =
      let row = row_is cells cut s there in
      let e = both_equal (nth s l).at.x (nth s k).at.x ((nth s l).at.z + 1) (nth s k).at.z toward in
      absurd (omega (arith, e.1, row.z k some_cell inside, row.z l some_cell inside'))
  run_joined s (suc (suc (suc (suc dir)))) k l there small inside inside' toward = absurd (omega (arith, small))

  strip_storeys_are : AreStoreysOf cells storeys_of run
  strip_storeys_are = record {
    each = λ s there storey at. run_storey s storey (omega (arith, there, many)) at;
    within = λ s cell there has. run_within s cell (omega (arith, there, many)) has;
    home = λ k d there.
        let one = one_strip cells cut k d there in
        record { s = one.strip; there = omega (arith, one.there, many); has = one.has };
    once = λ s t cell s-in t-in has has'.
        let held = run_within s cell (omega (arith, s-in, many)) has in
        let one = All-contains (IsInOne (strip_runs cells)) cells cell (one_strip cells cut) held in
        one.only s (omega (arith, s-in, many)) has ∙ sym (one.only t (omega (arith, t-in, many)) has');
    joined = λ s dir a b there small has has' toward.
        let at : nth s has.0 ≡ a = get_or_default (run s) has.0 some_cell a has.1 ∙ has.2 in
        let at' : nth s has'.0 ≡ b = get_or_default (run s) has'.0 some_cell b has'.1 ∙ has'.2 in
        ap (λ (c : Cell). is_naming dir c b.at) (sym at) ∙ ap (λ (c : Cell). is_naming dir (nth s has.0) c.at) (sym at')
        ∙ run_joined s dir has.0 has'.0 (omega (arith, there, many)) small has.1 has'.1
        (ap (λ (c : Cell). is_toward dir c.at (nth s has'.0).at) at ∙ ap (λ (c : Cell). is_toward dir a.at c.at) at' ∙ toward);
  }

  -- the polygon of a strip
  polygon_home : (index : ℕ) (polygon : Polygon) → slice_get (map strip_polygon (strip_runs cells)) index ≡ Some polygon
      → (index < length (strip_runs cells)) × (strip_polygon (run index) ≡ polygon)
  polygon_home index polygon at =
      let less : index < length (strip_runs cells) =
      omega (arith, slice_get_within (map strip_polygon (strip_runs cells)) index polygon at, length-map (strip_runs cells) strip_polygon) in (
        less,
        sym (get_or-map strip_polygon (strip_runs cells) index [] polygon less)
            ∙ get_or_from_slice_get (map strip_polygon (strip_runs cells)) index polygon polygon at,
      )

  home_is : (index : ℕ) → index < length (strip_runs cells) → slice_get (strip_storeys (strip_runs cells)).homes index ≡ Some index
  home_is index less =
      let n : ℕ = length (strip_runs cells) in
      slice_get-get_or (range_with_len 0 n) index 0 (omega (arith, less, length-range_with_len 0 n))
      ∙ ap (λ (k : ℕ). Some k) (get_or-range_with_len 0 n index 0 less ∙ omega arith)

  strip_homes : (index : ℕ) (polygon : Polygon) → slice_get (map strip_polygon (strip_runs cells)) index ≡ Some polygon
      → IsHomeOf (strip_storeys (strip_runs cells)) run index polygon
  strip_homes index polygon at =
      let home = polygon_home index polygon at in
      record {
        s = index;
        there = omega (arith, home.0, many);
        home = home_is index home.0;
        area = ap (λ (p : Polygon). p.area) (sym home.1);
        low = ap (λ (p : Polygon). p.low) (sym home.1);
        high = ap (λ (p : Polygon). p.high) (sym home.1);
        corners = subst (λ (p : Polygon). All (λ (c : Point). IsOverOne (run index) (scaled c.x c.z)) p.corners) home.1
            (corners_over (run index) (row_is cells cut index home.0));
      }

-- the mesh of free cells as strips
pub strips_own : (setting : Setting) (free : FreeLayer) → IsCut free.cells → HasOwnCells (strip_mesh_of setting free)
unfolding strip_mesh_of
strips_own setting free cut = record { own = run free.cells cut; storeys = strip_storeys_are free.cells cut; polygons = strip_homes free.cells cut }

-- each point that a strip's polygon holds stands
pub strip_points_stand : (setting : Setting) (free : FreeLayer) → IsCut free.cells → PointsStand (strip_mesh_of setting free)
unfolding strip_mesh_of
strip_points_stand setting free cut index polygon p at holds =
    let cells : List Cell = free.cells in
    let runs : List (List Cell) = strip_runs cells in
    let home = polygon_home cells cut index polygon at in
    let own : List Cell = get_or runs index [] in
    let row = row_is cells cut index home.0 in
    let over = held_over own p row (subst (λ (q : Polygon). Holds q p) (sym home.1) holds) in
    let listed : slice_get (map strip_storey runs) index ≡ Some (strip_storey own) =
    slice_get-map strip_storey runs index ∙ ap (option_map strip_storey) (slice_get-get_or runs index [] home.0) in
    let found = floor_under own (strip_storey own) p (row_storey own row (one_area cells cut index home.0)) over in
    record {
      storey = strip_storey own;
      home = ap (option_and_then (slice_get (map strip_storey runs))) (home_is cells cut index home.0) ∙ listed;
      y = found.0;
      floor = found.1;
    }

-- the polygon with the place of a storey has that storey, and holds a column
pub record IsStripOver (tile : TileMesh) (s x z : ℕ) : Type 0 where
  pub polygon : Polygon
  pub there : slice_get tile.polys s ≡ Some polygon
  pub home : slice_get tile.storeys.homes s ≡ Some s
  pub holds : HoldsColumn polygon x z

-- the polygon of each storey holds the columns of the storey's cells
pub record HasStripsOver (tile : TileMesh) : Type 0 where
  pub over : (s x z y : ℕ) (storey : Storey) → slice_get tile.storeys.list s ≡ Some storey → HasFloor storey x z y → IsStripOver tile s x z

pub strips_over : (setting : Setting) (free : FreeLayer) → IsCut free.cells → HasStripsOver (strip_mesh_of setting free)
unfolding strip_mesh_of
strips_over setting free cut = record {
  over = λ s x z y storey at has.
      let cells : List Cell = free.cells in
      let runs : List (List Cell) = strip_runs cells in
      let less : s < length runs = omega (arith, slice_get_within (map strip_storey runs) s storey at, length-map runs strip_storey) in
      let own : List Cell = get_or runs s [] in
      let any = (run_storey cells cut s storey less at).only x z y has in
      let held = All-contains (λ (cell : Cell). HoldsColumn (strip_polygon own) cell.at.x cell.at.z) own any.1
      (columns_held own (row_is cells cut s less)).held (any.0, any.2, any.3) in
      record {
        polygon = strip_polygon own;
        there = slice_get-map strip_polygon runs s ∙ ap (option_map strip_polygon) (slice_get-get_or runs s [] less);
        home = home_is cells cut s less;
        holds = subst (λ (n : ℕ). HoldsColumn (strip_polygon own) n z) any.4.0
            (subst (λ (n : ℕ). HoldsColumn (strip_polygon own) any.1.at.x n) any.4.1 held);
      };
}
