-- Cells in order stand row by row.
use Rattle.std.proofs.Common.{◌≡◌, ℕ, ◌<◌, ◌≤◌, ◌⊎◌, true, false, inl, inr, List, get_or, arith, tests, subst}
use Rattle.std.specs.Prelude.{AllPairs}
use Rattle.std.specs.List.Sorted.{IsNonDecreasingBy, IsPartitionedBy}
use Rattle.std.proofs.lemmas.Bool.{cases_lt}
use Rattle.nav_ground.specs.declared.cell.Cell.{Cell}
use Rattle.nav_ground.specs.declared.cell.CellRef.{CellRef}
use Rattle.nav_ground.specs.Cells.{IsCells, IsCellBefore}
use Rattle.obstacle_mark.specs.Columns.{is_before, IsInRow}

-- a number that does not fall from any element to a later one
pub IsNonDecreasingBy-from_pairs : {X : Type 0} (n : X → ℕ) (xs : List X) → AllPairs (λ a b. n a ≤ n b) xs → IsNonDecreasingBy n xs
IsNonDecreasingBy-from_pairs n xs pairs i j d before there =
    elim (cases_lt i j) [
      | inl less ↦ pairs i j d less there
      | inr more ↦
          let P : ℕ → Type 0 = λ k. n (get_or xs i d) ≤ n (get_or xs k d) in
          let same : i ≡ j = omega arith in
          subst P same (omega arith)
    ]

row_rises : (a b : CellRef) → IsCellBefore a b → a.z ≤ b.z
row_rises a b (inl below) = omega (arith, below)
row_rises a b (inr (same, after)) = omega (arith, same)

-- a later cell's row is not before an earlier one's
pub rows_rise : (cells : List Cell) → IsCells cells → IsNonDecreasingBy (λ (cell : Cell). cell.at.z) cells
rows_rise cells rules' =
    IsNonDecreasingBy-from_pairs (λ (cell : Cell). cell.at.z) cells
    (λ i j d before there. row_rises (get_or cells i d).at (get_or cells j d).at (rules'.order i j d before there))

-- what comes before a column, and what does not
pub before_is : (x z : ℕ) (at : CellRef) → is_before x z at ≡ true → (at.z < z) ⊎ ((at.z ≡ z) × (at.x < x))
before_is x z at is = grind (arith, tests)

before_from : (x z : ℕ) (at : CellRef) → (at.z < z) ⊎ ((at.z ≡ z) × (at.x < x)) → is_before x z at ≡ true
before_from x z at is = grind (arith, tests)

pub before_not : (x z : ℕ) (at : CellRef) → is_before x z at ≡ false → (z < at.z) ⊎ ((at.z ≡ z) × (x ≤ at.x))
before_not x z at is = grind (arith, tests)

-- what comes before a cell that comes before a column comes before it too
before_still : (x z : ℕ) (a b : CellRef) → IsCellBefore a b → is_before x z b ≡ true → is_before x z a ≡ true
before_still x z a b earlier early =
    let late = before_is x z b early in
    before_from x z a (grind (arith, late, earlier))

-- so the cells that come before a column come first
pub before_first : (x z : ℕ) (cells : List Cell) → IsCells cells → IsPartitionedBy (λ (cell : Cell). is_before x z cell.at) cells
before_first x z cells rules' i j d le there later =
    elim (cases_lt i j) [
      | inl less ↦ before_still x z (get_or cells i d).at (get_or cells j d).at (rules'.order i j d less there) later
      | inr more ↦
          let P : ℕ → Type 0 = λ k. is_before x z (get_or cells k d).at ≡ true in
          let same : j ≡ i = omega (arith, le, more) in
          subst P same later
    ]

-- what lies in a row of columns does not come before its first one, comes before its end, and nothing else does both
pub not_passed : (first end z : ℕ) (at : CellRef) → is_before first z at ≡ true → IsInRow first end z at → ⊥
not_passed first end z at is inside =
    let row = inside.0 in
    let least = inside.1 in
    grind (arith, tests, is, row, least)

pub is_passed : (first end z : ℕ) (at : CellRef) → IsInRow first end z at → is_before end z at ≡ true
is_passed first end z at inside = before_from end z at (inr (inside.0, inside.2))

pub in_row : (first end z : ℕ) (at : CellRef) → is_before first z at ≡ false → is_before end z at ≡ true → IsInRow first end z at
in_row first end z at late early =
    (grind (arith, tests, late, early), grind (arith, tests, late, early), grind (arith, tests, late, early))
