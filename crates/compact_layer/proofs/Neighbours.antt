-- Cells found by place, and the cells that they name.
use Rattle.std.proofs.Common.{◌≡◌, ℕ, zero, suc, ◌+◌, ◌<◌, Bool, true, false, length, List, get_or, Some, None, sym, ap, ◌∙◌, subst, arith, inl, inr}
use Rattle.std.specs.Prelude.{Contains, ◌&&◌, ◌==◌, option_and_then}
use Rattle.std.specs.List.{find}
use Rattle.std.specs.List.Sorted.{IsPartitionedBy, IsPartitionPoint}
use Rattle.std.specs.Option.{option_map, option_map_or}
use Rattle.std.proofs.lemmas.Bool.{and_parts, and_from, and_right, eqb-true, eq-eqb, cases_lt, cases_order, both_ways}
use Rattle.std.proofs.lemmas.Bool.Decides.{nat_tests}
use Rattle.std.proofs.lemmas.List.{get_or_default}
use Rattle.nav_ground.specs.declared.cell.Cell.{Cell}
use Rattle.nav_ground.specs.declared.cell.CellRef.{CellRef}
use Rattle.nav_ground.specs.Cells.{IsCells, IsCompact, IsCellBefore, is_toward, is_naming, next_level}
use Rattle.nav_ground.proofs.Directions.{both_equal}
use Rattle.nav_ground.proofs.Found.{first_found, find_none}
use Rattle.nav_ground.proofs.Connected.{one_cell}
use Rattle.nav_ground.proofs.FreeLayers.{names_one}
use Rattle.compact_layer.specs.Places.{IsPlaceOf, HasColumnToward, is_at, is_before, named_place, neighbour_of}

-- the test says which of two places comes before the other
test_of_before : (a b : CellRef) → IsCellBefore a b → is_before a b ≡ true
test_of_before a b h = grind (arith, nat_tests)

before_from_test : (a b : CellRef) → is_before a b ≡ true → IsCellBefore a b
before_from_test a b h = grind (arith, nat_tests)

not_before_itself : (a : CellRef) → is_before a a ≡ true → ⊥
not_before_itself a h = none (before_from_test a a h)
  where
    none : IsCellBefore a a → ⊥
    none (inl below) = omega (arith, below)
    none (inr (row, inl left)) = omega (arith, left)
    none (inr (row, inr (column, under))) = omega (arith, under)

before_trans : (a b c : CellRef) → IsCellBefore a b → IsCellBefore b c → IsCellBefore a c
before_trans a b c (inl h) (inl k) = inl (omega (arith, h, k))
before_trans a b c (inl h) (inr (row, rest)) = inl (omega (arith, h, row))
before_trans a b c (inr (row, rest)) (inl k) = inl (omega (arith, row, k))
before_trans a b c (inr (row, inl h)) (inr (row', inl k)) = inr (row ∙ row', inl (omega (arith, h, k)))
before_trans a b c (inr (row, inl h)) (inr (row', inr (column, k))) = inr (row ∙ row', inl (omega (arith, h, column)))
before_trans a b c (inr (row, inr (column, h))) (inr (row', inl k)) = inr (row ∙ row', inl (omega (arith, column, k)))
before_trans a b c (inr (row, inr (column, h))) (inr (row', inr (column', k))) = inr (row ∙ row', inr (column ∙ column', omega (arith, h, k)))

-- the cells before a place come first
pub first_before : (cells : List Cell) (at : CellRef) → IsCells cells → IsPartitionedBy (λ (cell : Cell). is_before cell.at at) cells
first_before cells at rules' i j d before there h =
    elim (cases_lt i j) [
      | inl less ↦
          test_of_before (get_or cells i d).at at
          (before_trans _ (get_or cells j d).at _ (rules'.order i j d less there) (before_from_test (get_or cells j d).at at h))
      | inr rest ↦
          let same : i ≡ j = omega (arith, before, rest) in
          ap (λ k. is_before (get_or cells k d).at at) same ∙ h
    ]

-- and the next one has the place, where one has it
pub place_is : (cells : List Cell) (at : CellRef) (n : ℕ) → IsCells cells → IsPlaceOf cells at
    → IsPartitionPoint (λ (cell : Cell). is_before cell.at at ≡ true) (λ (cell : Cell). is_before cell.at at ≡ false) cells n
    → (n < length cells) × ((d : Cell) → (get_or cells n d).at ≡ at)
place_is cells at n rules' (k, cell, there, is, same) (before, after) =
    let at_k : (get_or cells k cell).at ≡ at = ap (λ (c : Cell). c.at) is ∙ same in
    let n_is : n ≡ k = elim (cases_order n k) [
      | inl here ↦ here
      | inr (inl less) ↦
          absurd (both_ways (is_before (get_or cells n cell).at at) (after n cell (omega arith) (omega (arith, less, there)))
          (ap (is_before (get_or cells n cell).at) (sym at_k) ∙ test_of_before _ _ (rules'.order n k cell less there)))
      | inr (inr more) ↦
          absurd (not_before_itself at (ap (λ a. is_before a at) (sym at_k) ∙ before k cell (omega arith) more))
    ] in (
      omega (arith, n_is, there),
      λ d. ap (λ (c : Cell). c.at) (get_or_default cells n d cell (omega (arith, n_is, there))) ∙ ap (λ i. (get_or cells i cell).at) n_is ∙ at_k,
    )

-- a cell has a place where its three numbers are those of the place
is_at_from : (at : CellRef) (cell : Cell) → cell.at ≡ at → is_at at cell ≡ true
is_at_from at cell same =
    and_from (cell.at.x == at.x && cell.at.z == at.z) (cell.at.level == at.level)
    (and_from (cell.at.x == at.x) (cell.at.z == at.z)
    (eq-eqb cell.at.x at.x (ap (λ (a : CellRef). a.x) same)) (eq-eqb cell.at.z at.z (ap (λ (a : CellRef). a.z) same)))
    (eq-eqb cell.at.level at.level (ap (λ (a : CellRef). a.level) same))

same_place : (a b : CellRef) → a.x ≡ b.x → a.z ≡ b.z → a.level ≡ b.level → a ≡ b
same_place a b x z level =
    ap (λ (n : ℕ). record a { x = n }) x ∙ ap (λ (n : ℕ). record a { x = b.x; z = n }) z
    ∙ ap (λ (n : ℕ). record { x = b.x; z = b.z; level = n }) level

at_from_test : (at : CellRef) (cell : Cell) → is_at at cell ≡ true → cell.at ≡ at
at_from_test at cell h =
    let parts = and_parts (cell.at.x == at.x && cell.at.z == at.z) (cell.at.level == at.level) h in
    let column = both_equal cell.at.x at.x cell.at.z at.z parts.0 in
    same_place cell.at at column.0 column.1 (eqb-true cell.at.level at.level parts.1)

-- the cell at a place
cell_at : (cells : List Cell) (at : CellRef) (n : ℕ) (d : Cell) → IsCells cells → n < length cells → (get_or cells n d).at ≡ at
    → find (is_at at) cells ≡ Some (get_or cells n d)
cell_at cells at n d rules' there same =
    let first = first_found (is_at at) cells n d there (is_at_from at (get_or cells n d) same) in
    let here = at_from_test at (get_or cells first.place d) first.passes in
    let is = one_cell cells first.place n d rules'.order (omega (arith, first.most, there)) there (here ∙ sym same) in
    first.is ∙ ap (λ i. Some (get_or cells i d)) is

-- a cell that names no level has no neighbour
pub no_neighbour : (cells : List Cell) (at : CellRef) (dir n : ℕ) (d : Cell) → IsCells cells → n < length cells → (get_or cells n d).at ≡ at
    → next_level (get_or cells n d) dir ≡ None → None ≡ neighbour_of cells at dir
no_neighbour cells at dir n d rules' there same none =
    let cell = get_or cells n d in
    let next : next_level cell dir ≡ None = none in
    let unnamed = find_none (λ (other : Cell). is_naming dir cell other.at) cells
    (λ k e within. and_right (is_toward dir cell.at (get_or cells k e).at) _
    (ap (λ o. option_map_or (λ level. level == (get_or cells k e).at.level) o false) next)) in
    sym (ap (option_and_then (named_place cells dir)) (cell_at cells at n d rules' there same)
    ∙ ap (option_map (λ (other : Cell). other.at)) unnamed)

-- a cell that names a level has the neighbour of that level
pub neighbour_is : (cells : List Cell) (at to : CellRef) (dir level n : ℕ) (d : Cell) → IsCompact cells → dir < 4 → n < length cells
    → (get_or cells n d).at ≡ at → next_level (get_or cells n d) dir ≡ Some level → is_toward dir at to ≡ true → to.level ≡ level
    → Some to ≡ neighbour_of cells at dir
neighbour_is cells at to dir level n d rules' small there same some toward on =
    let cell = get_or cells n d in
    let next : next_level cell dir ≡ Some level = some in
    let has : Contains cells cell = (n, there, get_or_default cells n cell d there) in
    let named = rules'.complete dir level cell small has next in
    let P : Cell → Bool = λ (other : Cell). is_naming dir cell other.at in
    let first = first_found P cells named.1.0 named.0 named.1.1 (ap P named.1.2 ∙ named.2) in
    let naming : is_naming dir cell to ≡ true =
    and_from (is_toward dir cell.at to) _ (ap (λ a. is_toward dir a to) same ∙ toward)
    (ap (λ o. option_map_or (λ l. l == to.level) o false) next ∙ eq-eqb level to.level (sym on)) in
    let is = names_one dir cell (get_or cells first.place named.0).at to small first.passes naming in
    sym (ap (option_and_then (named_place cells dir)) (cell_at cells at n d rules'.rules there same)
    ∙ ap (option_map (λ (other : Cell). other.at)) first.is ∙ ap Some is)

-- where it names a level, the neighbouring column is there
column_there : (dir : ℕ) (at to : CellRef) → dir < 4 → at.x < 1024 → at.z < 1024 → is_toward dir at to ≡ true → HasColumnToward dir at
column_there zero at to small x z h =
    let e = both_equal (to.x + 1) at.x to.z at.z h in
    record { left = λ is. omega (arith, e.0); below = λ is. absurd (omega (arith, is)); x = x; z = z }
column_there (suc zero) at to small x z h =
    record { left = λ is. absurd (omega (arith, is)); below = λ is. absurd (omega (arith, is)); x = x; z = z }
column_there (suc (suc zero)) at to small x z h =
    record { left = λ is. absurd (omega (arith, is)); below = λ is. absurd (omega (arith, is)); x = x; z = z }
column_there (suc (suc (suc zero))) at to small x z h =
    let e = both_equal to.x at.x (to.z + 1) at.z h in
    record { left = λ is. absurd (omega (arith, is)); below = λ is. omega (arith, e.1); x = x; z = z }
column_there (suc (suc (suc (suc n)))) at to small x z h = absurd (omega arith)

pub has_column : (cells : List Cell) (at : CellRef) (dir level n : ℕ) (d : Cell) → IsCompact cells → dir < 4 → n < length cells
    → (get_or cells n d).at ≡ at → next_level (get_or cells n d) dir ≡ Some level → HasColumnToward dir at
has_column cells at dir level n d rules' small there same some =
    let cell = get_or cells n d in
    let next : next_level cell dir ≡ Some level = some in
    let named = rules'.complete dir level cell small (n, there, get_or_default cells n cell d there) next in
    let here = rules'.rules.each n d there in
    let P : CellRef → Type 0 = λ (a : CellRef). HasColumnToward dir a in
    subst P same (column_there dir cell.at named.0.at small here.x here.z (and_parts (is_toward dir cell.at named.0.at) _ named.2).0)
