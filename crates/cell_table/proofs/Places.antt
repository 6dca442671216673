-- Places by column and level, and where they stand in a list of cells.
use Rattle.std.proofs.Common.{◌≡◌, ℕ, ◌+◌, ◌-◌, ◌<◌, ◌≤◌, ◌⊎◌, Bool, true, false, length, List, ◌∷◌, get_or, ap, ◌∙◌, sym, refl, subst, [], Some, None, arith, zero, suc, inl, inr}
use Rattle.std.specs.Prelude.{◌==◌, ◌&&◌, nat_lt, ◌||◌, All}
use Rattle.std.specs.List.{position_or_len}
use Rattle.std.specs.Option.{option_map_or}
use Rattle.std.proofs.lemmas.Bool.{eqb-true, eq-eqb, both_ways, false_from_ne_true, cases_lt, and_right}
use Rattle.std.proofs.lemmas.Bool.Decides.{nat_tests}
use Rattle.std.proofs.lemmas.List.Sums.{position_or_len_is}
use Rattle.std.proofs.lemmas.List.Elements.{All-head, All-tail}
use Rattle.nav_ground.specs.declared.cell.Cell.{Cell}
use Rattle.nav_ground.specs.declared.cell.CellRef.{CellRef}
use Rattle.nav_ground.specs.Cells.{IsCellBefore, IsCells, is_toward, is_naming, next_level}
use Rattle.nav_ground.proofs.Directions.{both_equal, tests_of_equal}
use Rattle.cell_table.specs.Columns.{IsPlace, column_of, column_toward, is_at, is_before}
use Rattle.cell_table.specs.Table.{index_of, index_named}

abbrev pub no_cell : Cell
no_cell = record { at = record { x = 0; z = 0; level = 0 }; floor = 0; ceiling = 0; area = 0; next = [] }

-- a test that holds exactly where another does gives the same
pub same_test : (a b : Bool) → (a ≡ true → b ≡ true) → (b ≡ true → a ≡ true) → a ≡ b
same_test true b there back = sym (there refl)
same_test false true there back = back refl
same_test false false there back = refl

-- the neighbouring column in a direction is the one with the number of that direction
pub toward_number : (dir : ℕ) (from to : CellRef) → dir < 4 → IsPlace from → IsPlace to
    → is_toward dir from to ≡ (column_of to == column_toward dir from)
toward_number zero from to small f t = same_test _ _
    (λ h. let e = both_equal (to.x + 1) from.x to.z from.z h in eq-eqb _ _ (omega (arith, e.0, e.1)))
    (λ h. let e = eqb-true _ _ h in tests_of_equal (to.x + 1) from.x to.z from.z (omega (arith, e, f.x, t.x)) (omega (arith, e, f.x, t.x)))
toward_number (suc zero) from to small f t = same_test _ _
    (λ h. let e = both_equal to.x from.x to.z (from.z + 1) h in eq-eqb _ _ (omega (arith, e.0, e.1)))
    (λ h. let e = eqb-true _ _ h in tests_of_equal to.x from.x to.z (from.z + 1) (omega (arith, e, f.x, t.x)) (omega (arith, e, f.x, t.x)))
toward_number (suc (suc zero)) from to small f t = same_test _ _
    (λ h. let e = both_equal to.x (from.x + 1) to.z from.z h in eq-eqb _ _ (omega (arith, e.0, e.1)))
    (λ h. let e = eqb-true _ _ h in tests_of_equal to.x (from.x + 1) to.z from.z (omega (arith, e, f.x, t.x)) (omega (arith, e, f.x, t.x)))
toward_number (suc (suc (suc zero))) from to small f t = same_test _ _
    (λ h. let e = both_equal to.x from.x (to.z + 1) from.z h in eq-eqb _ _ (omega (arith, e.0, e.1)))
    (λ h. let e = eqb-true _ _ h in tests_of_equal to.x from.x (to.z + 1) from.z (omega (arith, e, f.x, t.x)) (omega (arith, e, f.x, t.x)))
toward_number (suc (suc (suc (suc n)))) from to small f t = absurd (omega arith)

-- a cell that names a level names a place exactly where the place has that level and the column of that direction
pub naming_number : (dir level : ℕ) (cell : Cell) (to : CellRef) → dir < 4 → IsPlace cell.at → IsPlace to → next_level cell dir ≡ Some level
    → is_naming dir cell to ≡ is_at (column_toward dir cell.at) level to
naming_number dir level cell to small f t named =
    ap (λ toward. toward && option_map_or (λ l. l == to.level) (next_level cell dir) false) (toward_number dir cell.at to small f t)
    ∙ ap (λ o. column_of to == column_toward dir cell.at && option_map_or (λ l. l == to.level) o false) named

-- a cell that names no level names no place
pub naming_nowhere : (dir : ℕ) (cell : Cell) (to : CellRef) → next_level cell dir ≡ None → is_naming dir cell to ≡ false
naming_nowhere dir cell to named =
    ap (λ o. is_toward dir cell.at to && option_map_or (λ l. l == to.level) o false) named ∙ and_right (is_toward dir cell.at to) false refl

-- cells lie in the largest field
pub place_at : (cells : List Cell) → IsCells cells → (i : ℕ) (d : Cell) → i < length cells → IsPlace (get_or cells i d).at
place_at cells rules' i d there = let r = rules'.each i d there in record { x = r.x; z = r.z }

-- cells in order have columns in order, and levels in order in one column
in_order : (a b : CellRef) → IsPlace a → IsPlace b → IsCellBefore a b
    → (column_of a < column_of b) ⊎ ((column_of a ≡ column_of b) × (a.level < b.level))
in_order a b f t (inl z) = inl (omega (arith, f.x, t.x))
in_order a b f t (inr (z, inl x)) = inl (omega arith)
in_order a b f t (inr (z, inr (x, level))) = inr (omega arith, level)

-- the same for numbers
before_numbers : (ca cb la lb column level : ℕ) → (ca < cb) ⊎ ((ca ≡ cb) × (la < lb))
    → ((nat_lt cb column || (cb == column && nat_lt lb level)) ≡ true) ⊎ ((cb == column && level == lb) ≡ true)
    → (nat_lt ca column || (ca == column && nat_lt la level)) ≡ true
before_numbers ca cb la lb column level order here = grind (arith, nat_tests)

apart_numbers : (ca la column level : ℕ) → (nat_lt ca column || (ca == column && nat_lt la level)) ≡ true → (ca == column && level == la) ≡ false
apart_numbers ca la column level h = grind (arith, nat_tests)

-- what comes before a cell that is not past a column and a level comes before them
before_before : (a b : CellRef) (column level : ℕ) → IsPlace a → IsPlace b → IsCellBefore a b → (is_before column level b ≡ true) ⊎ (is_at column level b ≡ true)
    → is_before column level a ≡ true
before_before a b column level f t before here =
    before_numbers (column_of a) (column_of b) a.level b.level column level (in_order a b f t before) here

-- a place before a column and a level is not there
before_apart : (column level : ℕ) (a : CellRef) → is_before column level a ≡ true → is_at column level a ≡ false
before_apart column level a h = apart_numbers (column_of a) a.level column level h

-- those before a cell that is not past a column and a level come before them too
pub all_before : (cells : List Cell) → IsCells cells → (column level i k : ℕ) (d : Cell) → k < i → i < length cells
    → (is_before column level (get_or cells i d).at ≡ true) ⊎ (is_at column level (get_or cells i d).at ≡ true)
    → is_before column level (get_or cells k d).at ≡ true
all_before cells rules' column level i k d less there here =
    before_before _ _ column level (place_at cells rules' k d (omega (arith, less, there))) (place_at cells rules' i d there)
    (rules'.order k i d less there) here

-- a cell with the column and the level is the first with them
pub found_there : (cells : List Cell) → IsCells cells → (column level i : ℕ) (d : Cell) → i < length cells
    → is_at column level (get_or cells i d).at ≡ true → i ≡ index_of cells column level
found_there cells rules' column level i d there here =
    sym (position_or_len_is (λ (cell : Cell). is_at column level cell.at) cells i d (omega (arith, there))
    (λ k less. before_apart column level (get_or cells k d).at (all_before cells rules' column level i k d less there (inr here)))
    (λ _. here))

-- none has them where the one after those before them has not
pub found_nowhere : (cells : List Cell) → IsCells cells → (column level least : ℕ) → least ≤ length cells
    → ((k : ℕ) (d : Cell) → k < least → is_before column level (get_or cells k d).at ≡ true)
    → ((k : ℕ) (d : Cell) → least ≤ k → k < length cells → is_before column level (get_or cells k d).at ≡ false)
    → ((d : Cell) → least < length cells → is_at column level (get_or cells least d).at ≡ false)
    → length cells ≡ index_of cells column level
found_nowhere cells rules' column level least most before after here =
    sym (position_or_len_is (λ (cell : Cell). is_at column level cell.at) cells (length cells) no_cell (omega arith)
    (λ k there. elim (cases_lt k least) [
      | inl less ↦ before_apart column level (get_or cells k no_cell).at (before k no_cell less)
      | inr rest ↦ elim (cases_lt least k) [
        | inl more ↦ false_from_ne_true (is_at column level (get_or cells k no_cell).at) (λ at.
            both_ways (is_before column level (get_or cells least no_cell).at) (after least no_cell (omega arith) (omega (arith, more, there)))
            (all_before cells rules' column level k least no_cell more there (inr at)))
        | inr same ↦
            let is : least ≡ k = omega (arith, rest, same) in
            let P : ℕ → Type 0 = λ n. is_at column level (get_or cells n no_cell).at ≡ false in
            subst P is (here no_cell (omega (arith, is, there)))
      ]
    ])
    (λ more. absurd (omega (arith, more))))

-- where one cell does not come before a column and a level, no later one does; where one does, so do those before it
pub none_before : (cells : List Cell) → IsCells cells → (column level n k : ℕ) (d : Cell) → n ≤ k → k < length cells
    → ((d : Cell) → n < length cells → is_before column level (get_or cells n d).at ≡ false) → is_before column level (get_or cells k d).at ≡ false
none_before cells rules' column level n k d below there next =
    false_from_ne_true (is_before column level (get_or cells k d).at) (λ is.
    elim (cases_lt n k) [
      | inl less ↦
          both_ways (is_before column level (get_or cells n d).at) (next d (omega (arith, less, there)))
          (all_before cells rules' column level k n d less there (inl is))
      | inr more ↦
          let same : k ≡ n = omega (arith, below, more) in
          let P : ℕ → Type 0 = λ m. is_before column level (get_or cells m d).at ≡ true in
          both_ways (is_before column level (get_or cells n d).at) (next d (omega (arith, same, there))) (subst P same is)
    ])

pub some_before : (cells : List Cell) → IsCells cells → (column level n k : ℕ) (d : Cell) → k < n → n ≤ length cells
    → is_before column level (get_or cells (n - 1) d).at ≡ true → is_before column level (get_or cells k d).at ≡ true
some_before cells rules' column level n k d below most last =
    elim (cases_lt k (n - 1)) [
      | inl less ↦ all_before cells rules' column level (n - 1) k d less (omega (arith, below, most)) (inl last)
      | inr more ↦
          let same : n - 1 ≡ k = omega (arith, below, more) in
          let P : ℕ → Type 0 = λ m. is_before column level (get_or cells m d).at ≡ true in
          subst P same last
    ]

-- two tests that agree at each element find the same first
position_same : {A : Type 0} (p q : A → Bool) (xs : List A) → All (λ x. p x ≡ q x) xs → position_or_len p xs ≡ position_or_len q xs
position_same p q [] each = refl
position_same p q (x ∷ xs) each =
    let here = All-head (λ y. p y ≡ q y) x xs each in
    let rest = position_same p q xs (All-tail (λ y. p y ≡ q y) x xs each) in
    cc

-- the index of the cell that is named is that of the cell with the column and the level
pub named_index : (dir level : ℕ) (cell : Cell) (cells : List Cell) → dir < 4 → IsPlace cell.at → IsCells cells → next_level cell dir ≡ Some level
    → index_of cells (column_toward dir cell.at) level ≡ index_named cells cell dir
named_index dir level cell cells small f rules' named =
    position_same (λ (other : Cell). is_at (column_toward dir cell.at) level other.at) (λ (other : Cell). is_naming dir cell other.at) cells
    (λ k d there. sym (naming_number dir level cell (get_or cells k d).at small f (place_at cells rules' k d there) named))

-- where no level is named no cell is
pub named_none : (dir : ℕ) (cell : Cell) (cells : List Cell) → next_level cell dir ≡ None → length cells ≡ index_named cells cell dir
named_none dir cell cells named =
    sym (position_or_len_is (λ (other : Cell). is_naming dir cell other.at) cells (length cells) no_cell (omega arith)
    (λ k there. naming_nowhere dir cell (get_or cells k no_cell).at named)
    (λ more. absurd (omega (arith, more))))
