-- The scan of a tile, of a row of tiles, and of the rows: what is passed over holds no polygon that holds the point.
use Rattle.std.proofs.Common.{◌≡◌, ℕ, ◌+◌, ◌-◌, ◌*◌, ◌/◌, ◌%◌, ◌≤◌, ◌<◌, ℤ, length, get_or, sym, ap, subst, ◌∙◌, inl, inr, arith}
use Rattle.std.specs.Prelude.{All, Option, Some, None, slice_get, option_and_then}
use Rattle.std.proofs.lemmas.Bool.{cases_lt}
use Rattle.std.proofs.lemmas.Nat.{mod-mul-add, mul-le}
use Rattle.std.proofs.lemmas.List.Sums.{get_or-le-sum_by}
use Rattle.std.proofs.lemmas.Option.{same_Some, slice_get_within, slice_get-get_or, get_or_from_slice_get, option_and_then_some}
use Rattle.nav_base.specs.declared.point.Point.{Point}
use Rattle.nav_ground.specs.Limits.{IsSetting}
use Rattle.nav_ground.specs.Tiling.{tiles_in_row, tile_rows}
use Rattle.mesh_types.specs.declared.links.PolyRef.{PolyRef}
use Rattle.mesh_types.specs.declared.polygon.Polygon.{Polygon}
use Rattle.mesh_types.specs.declared.mesh.TileMesh.{TileMesh}
use Rattle.mesh_types.specs.declared.mesh.Mesh.{Mesh}
use Rattle.mesh_types.specs.Located.{HoldsAt, IsLocated}
use Rattle.mesh_types.specs.Right.{IsNowhere}
use Rattle.mesh_types.specs.FitTiles.{IsPolygon}
use Rattle.mesh_types.specs.Soundness.{IsSound}
use Rattle.mesh_types.specs.WholeMesh.{poly_at}
use Rattle.mesh_types.proofs.MeshPolygons.{placed}
use Rattle.mesh_locate.specs.declared.nearest.NearestPolygon.{NearestPolygon}
use Rattle.mesh_locate.specs.declared.nearest.AxisTiles.{AxisTiles}
use Rattle.mesh_locate.specs.Nearest.{IsBefore, IsNearestBefore, AreColumns}
use Rattle.mesh_locate.specs.Places.{IsOneOf, Reaches}
use Rattle.mesh_locate.proofs.NearestLaws.{moved_on, nothing_yet, located, nowhere}
use Rattle.mesh_locate.proofs.TileReach.{held_in_tile}

-- ---- a tile

-- the polygon at a place of a tile
pub polygon_there : (mesh : Mesh) (t i : ℕ) (tile : TileMesh) (polygon : Polygon) → slice_get mesh.tiles t ≡ Some tile → slice_get tile.polys i ≡ Some polygon
    → poly_at mesh (record { tile = t; index = i }) ≡ Some polygon
polygon_there mesh t i tile polygon there listed = ap (option_and_then (λ (d : TileMesh). slice_get d.polys i)) there ∙ listed

pub its_polygons : (mesh : Mesh) (t : ℕ) (tile : TileMesh) → IsSound mesh → slice_get mesh.tiles t ≡ Some tile → All IsPolygon tile.polys
its_polygons mesh t tile sound there k d below =
    let listed = slice_get-get_or tile.polys k d below in
    (placed mesh (record { tile = t; index = k }) (get_or tile.polys k d) sound (polygon_there mesh t k tile (get_or tile.polys k d) there listed)).rules

-- a tile has at most as many polygons as all tiles have
pub few_polygons : (mesh : Mesh) (t : ℕ) (tile : TileMesh) → IsSound mesh → slice_get mesh.tiles t ≡ Some tile → length tile.polys ≤ 8000000
few_polygons mesh t tile sound there =
    let within = slice_get_within mesh.tiles t tile there in
    let same = ap (λ (d : TileMesh). length d.polys) (get_or_from_slice_get mesh.tiles t tile tile there) in
    omega (arith, get_or-le-sum_by (λ (d : TileMesh). length d.polys) mesh.tiles t tile within, same, sound.tiles.few)

-- after a tile's last polygon comes the next tile
pub tile_done : (mesh : Mesh) (p : Point) (y t : ℕ) (tile : TileMesh) (best : Option NearestPolygon) → slice_get mesh.tiles t ≡ Some tile
    → IsNearestBefore mesh p y t (length tile.polys) best → IsNearestBefore mesh p y (t + 1) 0 best
tile_done mesh p y t tile best there found =
    moved_on mesh p y t (length tile.polys) (t + 1) 0 best on back found
  where
    on : (other : PolyRef) → IsBefore t (length tile.polys) other → IsBefore (t + 1) 0 other
    on other (inl earlier) = inl (omega (arith, earlier))
    on other (inr same) = inl (omega (arith, same.0))

    inside : (other : PolyRef) → other.tile ≡ t → HoldsAt mesh p y other → other.index < length tile.polys
    inside other at held =
        option_and_then_some (λ (d : TileMesh). slice_get d.polys other.index) (slice_get mesh.tiles other.tile) held.polygon held.there
        (λ d there' listed.
        let same : d ≡ tile = same_Some d tile (sym there' ∙ ap (slice_get mesh.tiles) at ∙ there) in
        slice_get_within tile.polys other.index held.polygon (ap (λ (e : TileMesh). slice_get e.polys other.index) (sym same) ∙ listed))

    back : (other : PolyRef) → IsBefore (t + 1) 0 other → HoldsAt mesh p y other → IsBefore t (length tile.polys) other
    back other (inr same) held = absurd (omega (arith, same.1))
    back other (inl earlier) held =
        elim (cases_lt other.tile t) [
          | inl less ↦ inl less
          | inr least ↦ let at : other.tile ≡ t = omega (arith, earlier, least) in inr (at, inside other at held)
        ]

-- ---- tiles on the way

-- between two tiles none holds the point
passes : (mesh : Mesh) (p : Point) (y t t' : ℕ) (best : Option NearestPolygon) → t ≤ t'
    → ((other : PolyRef) → HoldsAt mesh p y other → t ≤ other.tile → other.tile < t' → ⊥)
    → IsNearestBefore mesh p y t 0 best → IsNearestBefore mesh p y t' 0 best
passes mesh p y t t' best up none found = moved_on mesh p y t 0 t' 0 best on back found
  where
    on : (other : PolyRef) → IsBefore t 0 other → IsBefore t' 0 other
    on other (inl earlier) = inl (omega (arith, earlier, up))
    on other (inr same) = absurd (omega (arith, same.1))

    back : (other : PolyRef) → IsBefore t' 0 other → HoldsAt mesh p y other → IsBefore t 0 other
    back other (inr same) held = absurd (omega (arith, same.1))
    back other (inl earlier) held =
        elim (cases_lt other.tile t) [ inl less ↦ inl less | inr least ↦ absurd (none other held least earlier) ]

-- the column of a tile of a row
column_is : (columns row tile : ℕ) → row * columns ≤ tile → tile < row * columns + columns → row * columns + tile % columns ≡ tile
column_is columns row tile low high =
    let r : ℕ = tile - row * columns in
    let whole : tile ≡ row * columns + r = omega (arith, low) in
    let is : tile % columns ≡ r = ap (λ n. n % columns) whole ∙ mod-mul-add row columns r (omega (arith, low, high)) in
    omega (arith, is, whole)

one_more : (row columns : ℕ) → (row + 1) * columns ≡ row * columns + columns
one_more row columns = omega arith

-- a row begins with its first column that reaches the point, and ends with the last
pub row_begins : (mesh : Mesh) (p : Point) (y row : ℕ) (columns : AxisTiles) (best : Option NearestPolygon) → AreColumns mesh p y columns
    → IsNearestBefore mesh p y (row * tiles_in_row mesh.setting) 0 best → IsNearestBefore mesh p y (row * tiles_in_row mesh.setting + columns.first) 0 best
row_begins mesh p y row columns best are found =
    let width : ℕ = tiles_in_row mesh.setting in
    passes mesh p y (row * width) (row * width + columns.first) best (omega arith)
    (λ other held low high.
    let is = column_is width row other.tile low (omega (arith, high, are.order, are.inside)) in
    omega (arith, is, high, (are.all other held).first))
    found

pub row_ends : (mesh : Mesh) (p : Point) (y row : ℕ) (columns : AxisTiles) (best : Option NearestPolygon) → AreColumns mesh p y columns
    → IsNearestBefore mesh p y (row * tiles_in_row mesh.setting + columns.end) 0 best → IsNearestBefore mesh p y ((row + 1) * tiles_in_row mesh.setting) 0 best
row_ends mesh p y row columns best are found =
    let width : ℕ = tiles_in_row mesh.setting in
    passes mesh p y (row * width + columns.end) ((row + 1) * width) best (omega (arith, one_more row width, are.inside))
    (λ other held low high.
    let is = column_is width row other.tile (omega (arith, low)) (omega (arith, high, one_more row width)) in
    omega (arith, is, low, (are.all other held).end))
    found

-- ---- the rows

-- the rows that reach the point
abbrev pub AreRows : Mesh → Point → ℕ → AxisTiles → Type 0
AreRows mesh p y rows = (other : PolyRef) → HoldsAt mesh p y other → IsOneOf rows (other.tile / tiles_in_row mesh.setting)

pub rows_begin : (mesh : Mesh) (p : Point) (y : ℕ) (rows : AxisTiles) → AreRows mesh p y rows
    → IsNearestBefore mesh p y (rows.first * tiles_in_row mesh.setting) 0 None
rows_begin mesh p y rows are =
    passes mesh p y 0 (rows.first * tiles_in_row mesh.setting) None (omega arith)
    (λ other held low high.
    let width : ℕ = tiles_in_row mesh.setting in
    let up = mul-le rows.first width (other.tile / width) width (are other held).first (omega arith) in
    omega (arith, high, up))
    (nothing_yet mesh p y)

rows_over : (mesh : Mesh) (p : Point) (y : ℕ) (rows : AxisTiles) → AreRows mesh p y rows → IsSound mesh → IsSetting mesh.setting
    → (other : PolyRef) → HoldsAt mesh p y other → other.tile < rows.end * tiles_in_row mesh.setting
rows_over mesh p y rows are sound setting other held =
    let width : ℕ = tiles_in_row mesh.setting in
    let column = (held_in_tile mesh p y other sound setting held).column in
    let up = mul-le (other.tile / width + 1) width rows.end width (omega (arith, (are other held).end)) (omega arith) in
    omega (arith, up, column, one_more (other.tile / width) width)

-- after the last row, what was found is the polygon that locates the point, and where nothing was found no polygon holds it
pub rows_located : (mesh : Mesh) (p : Point) (y row : ℕ) (rows : AxisTiles) (best : Option NearestPolygon) (near : NearestPolygon) → AreRows mesh p y rows → IsSound mesh
    → IsSetting mesh.setting → row ≡ rows.end → IsNearestBefore mesh p y (row * tiles_in_row mesh.setting) 0 best → best ≡ Some near
    → IsLocated mesh p y near.at
rows_located mesh p y row rows best near are sound setting last found is =
    located mesh p y (rows.end * tiles_in_row mesh.setting) near (rows_over mesh p y rows are sound setting)
    (subst (λ (n : ℕ). IsNearestBefore mesh p y (n * tiles_in_row mesh.setting) 0 (Some near)) last
    (subst (IsNearestBefore mesh p y (row * tiles_in_row mesh.setting) 0) is found))

pub rows_nowhere : (mesh : Mesh) (p : Point) (y row : ℕ) (rows : AxisTiles) (best : Option NearestPolygon) → AreRows mesh p y rows → IsSound mesh
    → IsSetting mesh.setting → row ≡ rows.end → IsNearestBefore mesh p y (row * tiles_in_row mesh.setting) 0 best → best ≡ None
    → IsNowhere mesh p y
rows_nowhere mesh p y row rows best are sound setting last found is =
    nowhere mesh p y (rows.end * tiles_in_row mesh.setting) (rows_over mesh p y rows are sound setting)
    (subst (λ (n : ℕ). IsNearestBefore mesh p y (n * tiles_in_row mesh.setting) 0 None) last
    (subst (IsNearestBefore mesh p y (row * tiles_in_row mesh.setting) 0) is found))

-- ---- the places that were computed

pub are_columns : (mesh : Mesh) (p : Point) (y count : ℕ) (at : ℤ) (places : AxisTiles) → IsSound mesh → IsSetting mesh.setting → count ≡ tiles_in_row mesh.setting
    → at ≡ p.x → places.first ≤ places.end → places.end ≤ count
    → ((place : ℕ) → place < count → Reaches (16 * mesh.setting.tile) place at → IsOneOf places place) → AreColumns mesh p y places
are_columns mesh p y count at places sound setting columns is order few all = record {
  order = order;
  inside = omega (arith, few, columns);
  all = λ other held.
      let reached = held_in_tile mesh p y other sound setting held in
      all (other.tile % tiles_in_row mesh.setting) (omega (arith, columns, reached.column))
      (subst (Reaches (16 * mesh.setting.tile) (other.tile % tiles_in_row mesh.setting)) (sym is) reached.across);
}

pub are_rows : (mesh : Mesh) (p : Point) (y count : ℕ) (at : ℤ) (places : AxisTiles) → IsSound mesh → IsSetting mesh.setting → count ≡ tile_rows mesh.setting
    → at ≡ p.z → ((place : ℕ) → place < count → Reaches (16 * mesh.setting.tile) place at → IsOneOf places place) → AreRows mesh p y places
are_rows mesh p y count at places sound setting rows is all =
    λ other held.
    let reached = held_in_tile mesh p y other sound setting held in
    all (other.tile / tiles_in_row mesh.setting) (omega (arith, rows, reached.row))
    (subst (Reaches (16 * mesh.setting.tile) (other.tile / tiles_in_row mesh.setting)) (sym is) reached.along)
