-- The tiles across the sides of a tile.
use Rattle.std.proofs.Common.{◌≡◌, ℕ, zero, suc, ◌+◌, ◌-◌, ◌*◌, ◌/◌, ◌%◌, ◌<◌, Bool, true, false, List, length, get_or, ap, ◌∙◌, sym, refl, subst, arith}
use Rattle.std.specs.Prelude.{Some, None, nat_lt, ◌==◌, if◌then◌else◌}
use Rattle.std.proofs.Math.Nat.{add-mul-mod_self_right, add-mul-div_right, div-eq_of_lt, mod-eq_of_lt, mod-add-div', mod-lt, div-lt_iff_lt-mul, mul_comm}
use Rattle.std.proofs.lemmas.Bool.{eqb-false, ltb-true}
use Rattle.nav_ground.specs.declared.setting.Setting.{Setting}
use Rattle.nav_ground.specs.Tiling.{tiles_in_row, tile_rows, tile_count}
use Rattle.nav_ground.proofs.Places.{some_columns, row_is}
use Rattle.mesh_types.specs.declared.mesh.TileMesh.{TileMesh}
use Rattle.mesh_types.specs.FitTiles.{IsFit}
use Rattle.mesh_types.specs.Soundness.{AreTiles}
use Rattle.mesh_types.specs.WholeMesh.{tile_across}
use Rattle.tile_links.specs.Across.{AreAcross}

-- a place lies across a side of another, by their columns and rows
abbrev pub LiesBeside : ℕ → ℕ → ℕ → ℕ → ℕ → Type 0
LiesBeside zero column row other_column other_row = (other_column + 1 ≡ column) × (other_row ≡ row)
LiesBeside (suc zero) column row other_column other_row = (other_column ≡ column) × (other_row ≡ row + 1)
LiesBeside (suc (suc zero)) column row other_column other_row = (other_column ≡ column + 1) × (other_row ≡ row)
LiesBeside (suc (suc (suc side))) column row other_column other_row = (other_column ≡ column) × (other_row + 1 ≡ row)

-- the column and the row of a number
column_and_row : (columns n column row : ℕ) → column < columns → n ≡ column + row * columns → (n % columns ≡ column) × (n / columns ≡ row)
column_and_row columns n column row there is = (
  ap (λ m. m % columns) is ∙ add-mul-mod_self_right column row columns ∙ mod-eq_of_lt there,
  ap (λ m. m / columns) is ∙ add-mul-div_right column row {z = columns} (omega (arith, there)) ∙ ap (λ m. m + row) (div-eq_of_lt there) ∙ omega arith,
)

-- a choice that gave something
some_if : (b : Bool) (x y : ℕ) → (if b then Some x else None) ≡ Some y → (b ≡ true) × (x ≡ y)
some_if true x y is = (refl, cc)
some_if false x y is = absurd cc

none_if : (b : Bool) (x y : ℕ) → (if b then None else Some x) ≡ Some y → (b ≡ false) × (x ≡ y)
none_if true x y is = absurd cc
none_if false x y is = (refl, cc)

left_of : (columns tile other : ℕ) → 0 < columns → (if tile % columns == 0 then None else Some (tile - 1)) ≡ Some other
    → LiesBeside 0 (tile % columns) (tile / columns) (other % columns) (other / columns)
left_of columns tile other some is =
    let parts = none_if _ _ _ is in
    let apart = eqb-false (tile % columns) 0 parts.0 in
    let whole = mod-add-div' tile columns in
    let within = mod-lt tile some in
    let at = column_and_row columns other (tile % columns - 1) (tile / columns) (omega (arith, within)) (omega (arith, parts.1, apart, whole)) in
    (omega (arith, at.0, apart), at.1)

above : (columns rows tile other : ℕ) → 0 < columns → (if nat_lt (tile / columns + 1) rows then Some (tile + columns) else None) ≡ Some other
    → LiesBeside 1 (tile % columns) (tile / columns) (other % columns) (other / columns) × (tile / columns + 1 < rows)
above columns rows tile other some is =
    let parts = some_if _ _ _ is in
    let whole = mod-add-div' tile columns in
    let at = column_and_row columns other (tile % columns) (tile / columns + 1) (mod-lt tile some) (omega (arith, parts.1, whole)) in
    (at, ltb-true _ _ parts.0)

right_of : (columns tile other : ℕ) → 0 < columns → (if nat_lt (tile % columns + 1) columns then Some (tile + 1) else None) ≡ Some other
    → LiesBeside 2 (tile % columns) (tile / columns) (other % columns) (other / columns)
right_of columns tile other some is =
    let parts = some_if _ _ _ is in
    let whole = mod-add-div' tile columns in
    column_and_row columns other (tile % columns + 1) (tile / columns) (ltb-true _ _ parts.0) (omega (arith, parts.1, whole))

below : (columns tile other : ℕ) → 0 < columns → (if tile / columns == 0 then None else Some (tile - columns)) ≡ Some other
    → LiesBeside 3 (tile % columns) (tile / columns) (other % columns) (other / columns)
below columns tile other some is =
    let parts = none_if _ _ _ is in
    let apart = eqb-false (tile / columns) 0 parts.0 in
    let whole = mod-add-div' tile columns in
    let row : ℕ = tile / columns - 1 in
    let next : row + 1 ≡ tile / columns = omega (arith, apart) in
    let product = ap (λ n. n * columns) next in
    let at = column_and_row columns other (tile % columns) row (mod-lt tile some) (omega (arith, parts.1, whole, product)) in
    (at.0, omega (arith, at.1, next))

-- the tile across a side of a tile lies beside it in the ground
pub record IsPlacedAcross (setting : Setting) (tile side other : ℕ) : Type 0 where
  pub beside : LiesBeside side (tile % tiles_in_row setting) (tile / tiles_in_row setting) (other % tiles_in_row setting) (other / tiles_in_row setting)
  pub column : tile % tiles_in_row setting < tiles_in_row setting
  pub row : tile / tiles_in_row setting < tile_rows setting
  pub other_column : other % tiles_in_row setting < tiles_in_row setting
  pub other_row : other / tiles_in_row setting < tile_rows setting

placed : (columns rows tile side other : ℕ) → 0 < columns → tile / columns < rows → side < 4
    → (if side == 0 then (if tile % columns == 0 then None else Some (tile - 1))
    else (if side == 1 then (if nat_lt (tile / columns + 1) rows then Some (tile + columns) else None)
    else (if side == 2 then (if nat_lt (tile % columns + 1) columns then Some (tile + 1) else None)
    else (if tile / columns == 0 then None else Some (tile - columns))))) ≡ Some other
    → LiesBeside side (tile % columns) (tile / columns) (other % columns) (other / columns) × (other / columns < rows)
placed columns rows tile zero other some row four is =
    let at = left_of columns tile other some is in
    (at, omega (arith, at.1, row))
placed columns rows tile (suc zero) other some row four is =
    let at = above columns rows tile other some is in
    (at.0, omega (arith, at.0.1, at.1))
placed columns rows tile (suc (suc zero)) other some row four is =
    let at = right_of columns tile other some is in
    (at, omega (arith, at.1, row))
placed columns rows tile (suc (suc (suc zero))) other some row four is =
    let at = below columns tile other some is in
    (at, omega (arith, at.1, row))
placed columns rows tile (suc (suc (suc (suc side)))) other some row four is = absurd (omega (arith, four))

pub placed_across : (setting : Setting) (tile side other : ℕ) → tile < tile_count setting → side < 4 → tile_across setting tile side ≡ Some other
    → IsPlacedAcross setting tile side other
placed_across setting tile side other there four is =
    let some : 0 < tiles_in_row setting = some_columns (tiles_in_row setting) (tile_rows setting) tile there in
    let row = row_is tile (tiles_in_row setting) (tile_rows setting) some there in
    let at = placed (tiles_in_row setting) (tile_rows setting) tile side other some row four is in
    record {
      beside = at.0;
      column = mod-lt tile some;
      row = row;
      other_column = mod-lt other some;
      other_row = at.1;
    }

-- it is a tile of the ground
pub across_there : (setting : Setting) (tile side other : ℕ) → tile < tile_count setting → side < 4 → tile_across setting tile side ≡ Some other
    → other < tile_count setting
across_there setting tile side other there four is =
    let some : 0 < tiles_in_row setting = some_columns (tiles_in_row setting) (tile_rows setting) tile there in
    let at = placed_across setting tile side other there four is in
    subst (λ n. other < n) (mul_comm (tile_rows setting) (tiles_in_row setting)) ((div-lt_iff_lt-mul some).0 at.other_row)

-- the tile at a number is fit and has the number
pub tile_at : (setting : Setting) (tiles : List TileMesh) (i : ℕ) (tile : TileMesh) → AreTiles setting tiles → i < length tiles
    → tile ≡ get_or tiles i tile → (tile.tile ≡ i) × IsFit setting tile
tile_at setting tiles i tile are there is =
    (ap (λ (t : TileMesh). t.tile) is ∙ are.in_order i tile there, subst (IsFit setting) (sym is) (are.fit i tile there))

-- and the tile at the number across lies across
pub across_of : (setting : Setting) (tiles : List TileMesh) (tile other : TileMesh) (side place : ℕ) → IsFit setting tile → AreTiles setting tiles
    → tile_across setting tile.tile side ≡ Some place → place < length tiles → other ≡ get_or tiles place other → AreAcross tile other side
across_of setting tiles tile other side place fit are is there at =
    let facts = tile_at setting tiles place other are there at in
    record { setting = setting; across = is ∙ ap (λ (n : ℕ). Some n) (sym facts.0); first_fit = fit; second_fit = facts.1 }
