-- The tile of a column is the one tile whose rectangle has the column.
use Rattle.std.proofs.Common.{◌≡◌, ℕ, ◌+◌, ◌-◌, ◌*◌, ◌/◌, ◌%◌, ◌<◌, ◌≤◌, min, Bool, true, false, ap, ◌∙◌, sym, refl, arith, inl, inr, pos, int_le}
use Rattle.std.specs.Prelude.{◌==◌, ◌&&◌}
use Rattle.std.specs.Int.{div_ceil}
use Rattle.std.proofs.Math.Nat.{mul-le-mul_right, div-lt_iff_lt-mul, mul_comm}
use Rattle.std.proofs.Common.{add-mul}
use Rattle.std.proofs.lemmas.Bool.{and_parts, and_from, eqb-true, eq-eqb, cases_order}
use Rattle.std.proofs.lemmas.Grind.{div_ceil_times}
use Rattle.std.proofs.lemmas.Int.{ints}
use Rattle.nav_ground.specs.declared.setting.Setting.{Setting}
use Rattle.nav_ground.specs.Limits.{IsSetting}
use Rattle.nav_ground.specs.Tiling.{tiles_in_row, tile_rows, tile_count, tile_window, corner_x, corner_z, is_in_window}
use Rattle.nav_ground.proofs.Places.{some_columns}
use Rattle.layer_cut.specs.Tiles.{tile_at, IsInField}

next_multiple : (q n : ℕ) → (q + 1) * n ≡ q * n + n
next_multiple q n = add-mul q 1 n ∙ ap (λ k. q * n + k) (omega arith)

-- a number between two successive multiples
quotient_is : (n tile place : ℕ) → 1 ≤ tile → place * tile ≤ n → n < place * tile + tile → n / tile ≡ place
quotient_is n tile place some low high =
    let q = n / tile in
    let flip : q * tile ≡ tile * q = mul_comm q tile in
    elim (cases_order q place) [
      | inl same ↦ same
      | inr (inl less) ↦
          let up : (q + 1) * tile ≤ place * tile = mul-le-mul_right tile (omega (arith, less)) in
          absurd (omega (arith, up, next_multiple q tile, flip))
      | inr (inr more) ↦
          let up : (place + 1) * tile ≤ q * tile = mul-le-mul_right tile (omega (arith, more)) in
          absurd (omega (arith, up, next_multiple place tile, flip))
    ]

remainder_is : (a b n : ℕ) → b < n → (a * n + b) % n ≡ b
remainder_is a b n small =
    let q = quotient_is (a * n + b) n a (omega arith) (omega arith) (omega arith) in
    let flip : n * ((a * n + b) / n) ≡ a * n = ap (λ k. n * k) q ∙ mul_comm n a in
    omega (arith, flip)

-- a place along an axis lies in one of the tiles along it
place_there : (n tile edge : ℕ) → 1 ≤ tile → n < edge → n / tile < div_ceil edge tile
place_there n tile edge some inside =
    (div-lt_iff_lt-mul some).1 (omega (arith, (div_ceil_times edge tile some).0))

-- the tile of a column is a tile
pub tile_there : (setting : Setting) (x z : ℕ) → IsSetting setting → IsInField setting x z → tile_at setting x z < tile_count setting
tile_there setting x z limits inside =
    let some : 1 ≤ setting.tile = omega (arith, limits.tile_least) in
    let column = place_there x setting.tile setting.width some inside.width in
    let row = place_there z setting.tile setting.depth some inside.depth in
    let columns = tiles_in_row setting in
    let up : (z / setting.tile + 1) * columns ≤ tile_rows setting * columns = mul-le-mul_right columns (omega (arith, row)) in
    omega (arith, up, next_multiple (z / setting.tile) columns, mul_comm (tile_rows setting) columns, column)

-- two tests that hold in the same cases
same_test : (a b : Bool) → (a ≡ true → b ≡ true) → (b ≡ true → a ≡ true) → a ≡ b
same_test true b there back = sym (there refl)
same_test false true there back = back refl
same_test false false there back = refl

-- along one axis: the range of a tile has a place exactly where the tile has the place's number
low_is : (corner x : ℕ) → int_le (pos corner) (pos x) ≡ true → corner ≤ x
low_is corner x h = grind (arith, ints)

low_from : (corner x : ℕ) → corner ≤ x → int_le (pos corner) (pos x) ≡ true
low_from corner x h = grind (arith, ints)

high_is : (edge corner tile x : ℕ) → 1 ≤ edge → 1 ≤ tile → int_le (pos x) (pos (min edge (corner + tile) - 1)) ≡ true → x < corner + tile
high_is edge corner tile x some wide h =
    let le = low_is x (min edge (corner + tile) - 1) h in omega (arith, le)

high_from : (edge corner tile x : ℕ) → x < edge → x < corner + tile → int_le (pos x) (pos (min edge (corner + tile) - 1)) ≡ true
high_from edge corner tile x inside below = low_from x (min edge (corner + tile) - 1) (omega (arith, inside, below))

abbrev is_in_range : ℕ → ℕ → ℕ → ℕ → Bool
is_in_range edge corner tile x = int_le (pos corner) (pos x) && int_le (pos x) (pos (min edge (corner + tile) - 1))

range_is : (edge place tile x : ℕ) → 1 ≤ edge → 1 ≤ tile → is_in_range edge (place * tile) tile x ≡ true → x / tile ≡ place
range_is edge place tile x some wide h =
    let parts = and_parts (int_le (pos (place * tile)) (pos x)) (int_le (pos x) (pos (min edge (place * tile + tile) - 1))) h in
    quotient_is x tile place wide (low_is (place * tile) x parts.0) (high_is edge (place * tile) tile x some wide parts.1)

range_from : (edge place tile x : ℕ) → x < edge → 1 ≤ tile → x / tile ≡ place → is_in_range edge (place * tile) tile x ≡ true
range_from edge place tile x inside wide is =
    let flip : place * tile ≡ tile * (x / tile) = ap (λ k. k * tile) (sym is) ∙ mul_comm (x / tile) tile in
    and_from (int_le (pos (place * tile)) (pos x)) (int_le (pos x) (pos (min edge (place * tile + tile) - 1)))
    (low_from (place * tile) x (omega (arith, flip)))
    (high_from edge (place * tile) tile x inside (omega (arith, flip)))

-- the rectangle of a tile has a column exactly where the tile is that of the column
pub in_window_is : (setting : Setting) (tile x z : ℕ) → IsSetting setting → IsInField setting x z → tile < tile_count setting
    → is_in_window (tile_window setting tile) x z ≡ (tile == tile_at setting x z)
in_window_is setting tile x z limits inside there =
    let side = setting.tile in
    let some : 1 ≤ side = omega (arith, limits.tile_least) in
    let columns = tiles_in_row setting in
    let some' : 1 ≤ columns = some_columns columns (tile_rows setting) tile there in
    let along = is_in_range setting.width (corner_x setting tile) side x in
    let across = is_in_range setting.depth (corner_z setting tile) side z in
    let whole : columns * (tile / columns) + tile % columns ≡ tile = omega arith in
    same_test (along && across) (tile == tile_at setting x z)
    (λ h.
    let parts = and_parts along across h in
    let column = range_is setting.width (tile % columns) side x limits.wide some parts.0 in
    let row = range_is setting.depth (tile / columns) side z limits.deep some parts.1 in
    let rows : (z / side) * columns ≡ columns * (tile / columns) = ap (λ k. k * columns) row ∙ mul_comm (tile / columns) columns in
    eq-eqb tile (tile_at setting x z) (omega (arith, whole, rows, column)))
    (λ h.
    let is = eqb-true tile (tile_at setting x z) h in
    let column' = place_there x side setting.width some inside.width in
    let row : tile / columns ≡ z / side = ap (λ k. k / columns) is
    ∙ quotient_is (tile_at setting x z) columns (z / side) some' (omega arith) (omega (arith, column')) in
    let column : tile % columns ≡ x / side = ap (λ k. k % columns) is ∙ remainder_is (z / side) (x / side) columns column' in
    and_from along across
    (range_from setting.width (tile % columns) side x inside.width some (sym column))
    (range_from setting.depth (tile / columns) side z inside.depth some (sym row)))

-- a column in the rectangle of a tile lies in the field
edge_within : (edge corner tile x : ℕ) → 1 ≤ edge → is_in_range edge corner tile x ≡ true → x < edge
edge_within edge corner tile x some h =
    let parts = and_parts (int_le (pos corner) (pos x)) (int_le (pos x) (pos (min edge (corner + tile) - 1))) h in
    omega (arith, low_is x (min edge (corner + tile) - 1) parts.1)

pub in_field : (setting : Setting) (tile x z : ℕ) → IsSetting setting → is_in_window (tile_window setting tile) x z ≡ true → IsInField setting x z
in_field setting tile x z limits h =
    let along = is_in_range setting.width (corner_x setting tile) setting.tile x in
    let across = is_in_range setting.depth (corner_z setting tile) setting.tile z in
    let parts = and_parts along across h in
    record {
      width = edge_within setting.width (corner_x setting tile) setting.tile x limits.wide parts.0;
      depth = edge_within setting.depth (corner_z setting tile) setting.tile z limits.deep parts.1;
    }
