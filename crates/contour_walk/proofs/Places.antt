-- Places in order, and where they stand in a list of cells.
use Rattle.std.proofs.Common.{◌≡◌, ℕ, ◌<◌, ◌≤◌, ◌⊎◌, true, false, length, List, get_or, sym, subst, arith, inl, inr}
use Rattle.std.specs.Prelude.{◌==◌, ◌&&◌, nat_lt, ◌||◌}
use Rattle.std.specs.List.Sorted.{IsPartitionedBy}
use Rattle.std.proofs.lemmas.Bool.{both_ways, false_from_ne_true, cases_lt}
use Rattle.std.proofs.lemmas.Bool.Decides.{nat_tests}
use Rattle.std.proofs.lemmas.List.Sums.{position_or_len_is}
use Rattle.nav_ground.specs.declared.cell.Cell.{Cell}
use Rattle.nav_ground.specs.declared.cell.CellRef.{CellRef}
use Rattle.nav_ground.specs.Cells.{IsCellBefore, IsCells}
use Rattle.mesh_types.specs.StripPolygons.{some_cell}
use Rattle.mesh_types.specs.Contours.{is_at}
use Rattle.contour_walk.specs.Tables.{index_of, is_same, is_before}

before_numbers : (ax az al bx bz bl x z l : ℕ) → (az < bz) ⊎ ((az ≡ bz) × ((ax < bx) ⊎ ((ax ≡ bx) × (al < bl))))
    → ((nat_lt bz z || (bz == z && (nat_lt bx x || (bx == x && nat_lt bl l)))) ≡ true) ⊎ ((bx == x && bz == z && bl == l) ≡ true)
    → (nat_lt az z || (az == z && (nat_lt ax x || (ax == x && nat_lt al l)))) ≡ true
before_numbers ax az al bx bz bl x z l order here = grind (arith, nat_tests)

apart_numbers : (ax az al x z l : ℕ) → (nat_lt az z || (az == z && (nat_lt ax x || (ax == x && nat_lt al l)))) ≡ true
    → (ax == x && az == z && al == l) ≡ false
apart_numbers ax az al x z l h = grind (arith, nat_tests)

-- what comes before a cell that is not past a place comes before that place
before_before : (a b at : CellRef) → IsCellBefore a b → (is_before b at ≡ true) ⊎ (is_same at b ≡ true) → is_before a at ≡ true
before_before a b at order here = before_numbers a.x a.z a.level b.x b.z b.level at.x at.z at.level order here

before_apart : (at a : CellRef) → is_before a at ≡ true → is_same at a ≡ false
before_apart at a h = apart_numbers a.x a.z a.level at.x at.z at.level h

all_before : (cells : List Cell) → IsCells cells → (at : CellRef) (i k : ℕ) (d : Cell) → k < i → i < length cells
    → (is_before (get_or cells i d).at at ≡ true) ⊎ (is_same at (get_or cells i d).at ≡ true) → is_before (get_or cells k d).at at ≡ true
all_before cells rules' at i k d less there here = before_before _ _ at (rules'.order k i d less there) here

-- a cell at the place is the first
pub found_there : (cells : List Cell) → IsCells cells → (at : CellRef) (i : ℕ) (d : Cell) → i < length cells → is_same at (get_or cells i d).at ≡ true
    → i ≡ index_of cells at
found_there cells rules' at i d there here =
    sym (position_or_len_is (is_at at) cells i d (omega (arith, there))
    (λ k less. before_apart at (get_or cells k d).at (all_before cells rules' at i k d less there (inr here)))
    (λ _. here))

-- none is there where the one after those before the place is not
pub found_nowhere : (cells : List Cell) → IsCells cells → (at : CellRef) (least : ℕ) → least ≤ length cells
    → ((k : ℕ) (d : Cell) → k < least → is_before (get_or cells k d).at at ≡ true)
    → ((k : ℕ) (d : Cell) → least ≤ k → k < length cells → is_before (get_or cells k d).at at ≡ false)
    → ((d : Cell) → least < length cells → is_same at (get_or cells least d).at ≡ false)
    → length cells ≡ index_of cells at
found_nowhere cells rules' at least most before after here =
    sym (position_or_len_is (is_at at) cells (length cells) some_cell (omega arith)
    (λ k there. elim (cases_lt k least) [
      | inl less ↦ before_apart at (get_or cells k some_cell).at (before k some_cell less)
      | inr rest ↦ elim (cases_lt least k) [
        | inl more ↦ false_from_ne_true (is_same at (get_or cells k some_cell).at) (λ same.
            both_ways (is_before (get_or cells least some_cell).at at) (after least some_cell (omega arith) (omega (arith, more, there)))
            (all_before cells rules' at k least some_cell more there (inr same)))
        | inr same ↦
            let is : least ≡ k = omega (arith, rest, same) in
            let P : ℕ → Type 0 = λ n. is_same at (get_or cells n some_cell).at ≡ false in
            subst P is (here some_cell (omega (arith, is, there)))
      ]
    ])
    (λ more. absurd (omega (arith, more))))

-- so cells are parted by what comes before a place
pub parted_before : (cells : List Cell) → IsCells cells → (at : CellRef) → IsPartitionedBy (λ (cell : Cell). is_before cell.at at) cells
parted_before cells rules' at i j d before there here =
    elim (cases_lt i j) [
      | inl less ↦ all_before cells rules' at j i d less there (inl here)
      | inr more ↦
          let same : j ≡ i = omega (arith, before, more) in
          let P : ℕ → Type 0 = λ n. is_before (get_or cells n d).at at ≡ true in
          subst P same here
    ]
