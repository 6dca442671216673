-- Places of tiles along an axis.
use Rattle.std.proofs.Common.{◌≡◌, ℕ, ◌+◌, ◌*◌, ◌/◌, ◌<◌, ◌≤◌, arith, subst, ap, ◌∙◌, add-mul, zero, suc, zero-mul}
use Rattle.std.specs.Int.{div_ceil}
use Rattle.std.proofs.Math.Nat.{mul-le-mul_right, div-lt_iff_lt-mul, mul_comm}
use Rattle.std.proofs.lemmas.Grind.{div_ceil_times}

-- a tile that is there begins before the edge
pub begins_inside : (place tile edge : ℕ) → 1 ≤ tile → place < div_ceil edge tile → place * tile < edge
begins_inside place tile edge some there =
    let up = (div_ceil_times edge tile some).1 in
    let next : (place + 1) * tile ≤ div_ceil edge tile * tile = mul-le-mul_right tile (omega (arith, there)) in
    let apart : (place + 1) * tile ≡ place * tile + tile = add-mul_one place tile in
    omega (arith, up, next, apart)
  where
    add-mul_one : (place tile : ℕ) → (place + 1) * tile ≡ place * tile + tile
    add-mul_one place tile = add-mul place 1 tile ∙ ap (λ n. place * tile + n) (omega arith)

-- a table with a place in it has a column
pub some_columns : (columns rows place : ℕ) → place < columns * rows → 1 ≤ columns
some_columns zero rows place there = absurd (omega (arith, zero-mul rows))
some_columns (suc n) rows place there = omega arith

-- the row of a tile that is there
pub row_is : (tile columns rows : ℕ) → 0 < columns → tile < columns * rows → tile / columns < rows
row_is tile columns rows some there =
    let P : ℕ → Type 0 = λ n. tile < n in
    (div-lt_iff_lt-mul some).1 (subst P (mul_comm columns rows) there)
