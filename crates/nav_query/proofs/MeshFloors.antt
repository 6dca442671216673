-- The floors of a column stand in the free cells of its tile alone.
use Rattle.std.proofs.Common.{◌≡◌, ℕ, zero, suc, ◌<◌, Bool, true, false, List, [], ◌∷◌, ◌++◌, length, map, get_or, ℤ, pos, ◌≤ℤ◌, int_le, refl, sym, ap, ◌∙◌, subst, arith}
use Rattle.std.specs.List.{All, flat_map}
use Rattle.std.specs.Prelude.{◌==◌}
use Rattle.std.proofs.lemmas.Int.{ints}
use Rattle.std.proofs.lemmas.Bool.{and_parts, and_from, both_ways, eqb-true, ne_eqb}
use Rattle.std.proofs.lemmas.List.{append-nil, length-map, get_or-map}
use Rattle.std.proofs.lemmas.List.Elements.{All-head, All-tail, All-weaker}
use Rattle.nav_base.specs.declared.point.FloorAt.{FloorAt}
use Rattle.nav_ground.specs.declared.cell.Cell.{Cell}
use Rattle.nav_ground.specs.declared.cell.FreeLayer.{FreeLayer}
use Rattle.nav_ground.specs.declared.cell.Window.{Window}
use Rattle.nav_ground.specs.declared.setting.Setting.{Setting}
use Rattle.nav_ground.specs.Limits.{IsSetting}
use Rattle.nav_ground.specs.Tiling.{tile_count, tile_window, is_in_window, IsInWindow}
use Rattle.nav_ground.proofs.Selections.{filter_none}
use Rattle.layer_cut.specs.Tiles.{tile_at, IsInField}
use Rattle.layer_cut.proofs.TilePlaces.{in_window_is, in_field}
use Rattle.mesh_types.specs.declared.mesh.Mesh.{Mesh}
use Rattle.mesh_types.specs.declared.mesh.TileMesh.{TileMesh}
use Rattle.nav_ground.specs.CellColumns.{AreOrdered, is_in_column}
use Rattle.mesh_types.specs.Floors.{floors_at}
use Rattle.mesh_types.specs.Words.{column_of, floor_of, free_of}
use Rattle.mesh_types.specs.FitTiles.{IsFit}
use Rattle.mesh_types.specs.Soundness.{IsSound}

-- lists that are all empty, and lists of which one may not be empty
flat_map_none : {X Y : Type 0} (f : X → List Y) (xs : List X) → All (λ x. f x ≡ []) xs → flat_map f xs ≡ []
flat_map_none f [] each = refl
flat_map_none f (x ∷ xs) each =
    ap (λ ys. ys ++ flat_map f xs) (All-head (λ y. f y ≡ []) x xs each) ∙ flat_map_none f xs (All-tail (λ y. f y ≡ []) x xs each)

flat_map_one : {X Y : Type 0} (f : X → List Y) (xs : List X) (i : ℕ) (d : X) → i < length xs
    → ((k : ℕ) (e : X) → k < length xs → (k ≡ i → ⊥) → f (get_or xs k e) ≡ []) → flat_map f xs ≡ f (get_or xs i d)
flat_map_one f [] i d there others = absurd (omega arith)
flat_map_one f (x ∷ xs) zero d there others =
    ap (λ ys. f x ++ ys) (flat_map_none f xs (λ k e below. others (suc k) e (omega (arith, below)) (λ same. omega (arith, same)))) ∙ append-nil (f x)
flat_map_one f (x ∷ xs) (suc i) d there others =
    ap (λ ys. ys ++ flat_map f xs) (others 0 x (omega arith) (λ same. omega (arith, same)))
    ∙ flat_map_one f xs i d (omega (arith, there)) (λ k e below other. others (suc k) e (omega (arith, below)) (λ same. other (omega (arith, same))))

not_true : (b : Bool) → (b ≡ true → ⊥) → b ≡ false
not_true true never = absurd (never refl)
not_true false never = refl

-- a column that lies in a rectangle passes the test
le_passes : (a b : ℤ) → a ≤ℤ b → int_le a b ≡ true
le_passes a b h = grind (arith, ints)

window_passes : (window : Window) (x z : ℕ) → IsInWindow window x z → is_in_window window x z ≡ true
window_passes window x z inside =
    and_from _ _ (and_from _ _ (le_passes window.x0 (pos x) inside.x_least) (le_passes (pos x) window.x1 inside.x_most))
    (and_from _ _ (le_passes window.z0 (pos z) inside.z_least) (le_passes (pos z) window.z1 inside.z_most))

-- a cell in a rectangle stands in no column outside it
cell_elsewhere : (window : Window) (x z : ℕ) (cell : Cell) → is_in_window window x z ≡ false → IsInWindow window cell.at.x cell.at.z
    → is_in_column x z cell ≡ false
cell_elsewhere window x z cell outside inside =
    not_true (is_in_column x z cell) (λ is.
    let parts = and_parts (cell.at.x == x) (cell.at.z == z) is in
    let here = ap (λ n. is_in_window window n cell.at.z) (eqb-true cell.at.x x parts.0) ∙ ap (is_in_window window x) (eqb-true cell.at.z z parts.1) in
    both_ways (is_in_window window x z) outside (sym here ∙ window_passes window cell.at.x cell.at.z inside))

-- a tile has no floors in a column outside its rectangle
no_floor : (setting : Setting) (tile : TileMesh) (x z : ℕ) → IsFit setting tile → is_in_window (tile_window setting tile.tile) x z ≡ false
    → map floor_of (column_of x z tile.free.cells) ≡ []
no_floor setting tile x z fit outside =
    let window = tile_window setting tile.tile in
    ap (map floor_of) (filter_none (is_in_column x z) tile.free.cells
    (All-weaker (λ (cell : Cell). IsInWindow window cell.at.x cell.at.z) (λ (cell : Cell). is_in_column x z cell ≡ false)
    (λ cell inside. cell_elsewhere window x z cell outside inside) tile.free.cells fit.in_tile.inside))

-- the floors of the tile at a place
abbrev floors_in : ℕ → ℕ → List TileMesh → ℕ → FreeLayer → List FloorAt
floors_in x z tiles k d = map floor_of (column_of x z (get_or (free_of tiles) k d).cells)

tile_floors_at : (mesh : Mesh) (x z k : ℕ) (d : FreeLayer) → IsSound mesh → k < length mesh.tiles → is_in_window (tile_window mesh.setting k) x z ≡ false
    → floors_in x z mesh.tiles k d ≡ []
tile_floors_at mesh x z k d sound there outside = one (get_or mesh.tiles k (some_tile mesh.tiles k there)) refl
  where
    some_tile : (tiles : List TileMesh) (k : ℕ) → k < length tiles → TileMesh
    some_tile [] k there = absurd (omega (arith, there))
    some_tile (tile ∷ tiles) k there = tile

    one : (tile : TileMesh) → get_or mesh.tiles k (some_tile mesh.tiles k there) ≡ tile → floors_in x z mesh.tiles k d ≡ []
    one tile is =
        let e = some_tile mesh.tiles k there in
        let fit : IsFit mesh.setting tile = subst (IsFit mesh.setting) is (sound.tiles.fit k e there) in
        let number : tile.tile ≡ k = ap (λ (t : TileMesh). t.tile) (sym is) ∙ sound.tiles.in_order k e there in
        ap (λ (free : FreeLayer). map floor_of (column_of x z free.cells))
        (get_or-map (λ (t : TileMesh). t.free) mesh.tiles k e d there ∙ ap (λ (t : TileMesh). t.free) is)
        ∙ no_floor mesh.setting tile x z fit (ap (λ n. is_in_window (tile_window mesh.setting n) x z) number ∙ outside)

-- a column outside the field has no floors
pub no_floors : (mesh : Mesh) (x z : ℕ) → IsSound mesh → IsSetting mesh.setting → (IsInField mesh.setting x z → ⊥)
    → floors_at x z (free_of mesh.tiles) ≡ []
no_floors mesh x z sound limits outside =
    flat_map_none (λ (layer : FreeLayer). map floor_of (column_of x z layer.cells)) (free_of mesh.tiles)
    (λ k d there. tile_floors_at mesh x z k d sound (omega (arith, there, length-map mesh.tiles (λ (t : TileMesh). t.free)))
    (not_true (is_in_window (tile_window mesh.setting k) x z) (λ is. outside (in_field mesh.setting k x z limits is))))

-- a column of the field has those of its tile
pub tile_floors : (mesh : Mesh) (x z : ℕ) (tile : TileMesh) → IsSound mesh → IsSetting mesh.setting → IsInField mesh.setting x z
    → tile_at mesh.setting x z < length mesh.tiles → tile ≡ get_or mesh.tiles (tile_at mesh.setting x z) tile
    → floors_at x z (free_of mesh.tiles) ≡ map floor_of (column_of x z tile.free.cells)
tile_floors mesh x z tile sound limits inside there is =
    let count = length-map mesh.tiles (λ (t : TileMesh). t.free) in
    flat_map_one (λ (layer : FreeLayer). map floor_of (column_of x z layer.cells)) (free_of mesh.tiles) (tile_at mesh.setting x z) tile.free
    (omega (arith, there, count))
    (λ k e below other.
    let below' : k < length mesh.tiles = omega (arith, below, count) in
    tile_floors_at mesh x z k e sound below'
    (in_window_is mesh.setting k x z limits inside (omega (arith, below', sound.tiles.each)) ∙ ne_eqb k (tile_at mesh.setting x z) other))
    ∙ ap (λ (free : FreeLayer). map floor_of (column_of x z free.cells))
    (get_or-map (λ (t : TileMesh). t.free) mesh.tiles (tile_at mesh.setting x z) tile tile.free there ∙ ap (λ (t : TileMesh). t.free) (sym is))

-- the free cells of a tile of the mesh are in order
pub free_ordered : (mesh : Mesh) (t : ℕ) (tile got : TileMesh) → IsSound mesh → t < tile_count mesh.setting → tile ≡ get_or mesh.tiles t tile → got ≡ tile
    → AreOrdered got.free.cells
free_ordered mesh t tile got sound there is same =
    subst (λ (one : TileMesh). AreOrdered one.free.cells) (sym (same ∙ is)) (sound.tiles.fit t tile (omega (arith, there, sound.tiles.each))).free.rules.order

-- what was read of a tile of the mesh
pub floors_found : (mesh : Mesh) (x z t : ℕ) (tile : TileMesh) (cells : List Cell) (before after : List FloorAt) → IsSound mesh → IsSetting mesh.setting
    → IsInField mesh.setting x z → t ≡ tile_at mesh.setting x z → t < tile_count mesh.setting → tile ≡ get_or mesh.tiles t tile → cells ≡ tile.free.cells
    → before ≡ [] → after ≡ before ++ map floor_of (column_of x z cells) → after ≡ floors_at x z (free_of mesh.tiles)
floors_found mesh x z t tile cells before after sound limits inside at there is cells_are none read =
    read
    ∙ ap (λ floors. floors ++ map floor_of (column_of x z cells)) none
    ∙ ap (λ (cs : List Cell). map floor_of (column_of x z cs)) cells_are
    ∙ sym (tile_floors mesh x z tile sound limits inside (omega (arith, there, at, sound.tiles.each)) (subst (λ n. tile ≡ get_or mesh.tiles n tile) at is))

pub no_floors_found : (mesh : Mesh) (x z : ℕ) (inside : Bool) (after : List FloorAt) → IsSound mesh → IsSetting mesh.setting
    → (IsInField mesh.setting x z → inside ≡ true) → inside ≡ false → after ≡ [] → after ≡ floors_at x z (free_of mesh.tiles)
no_floors_found mesh x z inside after sound limits complete outside none =
    none ∙ sym (no_floors mesh x z sound limits (λ is. both_ways inside outside (complete is)))
