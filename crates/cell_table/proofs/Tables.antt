-- The neighbour table of a list of cells: what stands in it.
use Rattle.std.proofs.Common.{◌≡◌, ℕ, ◌<◌, ◌≤◌, Bool, true, length, List, [], ◌∷◌, map, get_or, ap, ◌∙◌, sym, refl, subst, arith, zero, suc, inl, inr}
use Rattle.std.specs.Prelude.{◌==◌, nat_lt}
use Rattle.std.specs.List.{position_or_len, list_any}
use Rattle.std.proofs.lemmas.Bool.{eqb-true, eq-eqb, both_ways, cases_lt, cases_order, lt-ltb, ltb-true}
use Rattle.std.proofs.lemmas.List.{get_or-map, get_or_past, length-map}
use Rattle.std.proofs.lemmas.List.Folds.{list_any_at, Any-from_list_any}
use Rattle.std.proofs.lemmas.List.Sums.{fails_before_first, passes_at_first}
use Rattle.nav_ground.specs.declared.cell.Cell.{Cell}
use Rattle.nav_ground.specs.declared.cell.CellRef.{CellRef}
use Rattle.nav_ground.specs.Cells.{IsCellBefore, IsCells, is_naming}
use Rattle.nav_ground.specs.Clearance.{has_neighbour}
use Rattle.nav_ground.proofs.FreeLayers.{names_one}
use Rattle.cell_table.specs.Table.{index_named, indices_named, neighbour_table, neighbour}
use Rattle.cell_table.proofs.Places.{same_test}

-- what stands in the table at a cell
pub table_at : (cells : List Cell) (i dir : ℕ) (d : Cell) → i < length cells → dir < 4
    → neighbour (neighbour_table cells) i dir ≡ index_named cells (get_or cells i d) dir
unfolding neighbour_table
table_at cells i dir d there small =
    ap (λ row. get_or row dir 4294967295) (get_or-map (indices_named cells) cells i d [] there) ∙ in_row dir (indices_named cells (get_or cells i d)) small
  where
    in_row : (dir : ℕ) (row : List ℕ) → dir < 4 → get_or (indices_named cells (get_or cells i d)) dir 4294967295 ≡ index_named cells (get_or cells i d) dir
    in_row zero row small = refl
    in_row (suc zero) row small = refl
    in_row (suc (suc zero)) row small = refl
    in_row (suc (suc (suc zero))) row small = refl
    in_row (suc (suc (suc (suc n)))) row small = absurd (omega (arith, small))

-- past the cells stands what no cell has
pub table_past : (cells : List Cell) (i dir : ℕ) → length cells ≤ i → neighbour (neighbour_table cells) i dir ≡ 4294967295
unfolding neighbour_table
table_past cells i dir past =
    ap (λ row. get_or row dir 4294967295) (get_or_past (map (indices_named cells) cells) i [] (omega (arith, length-map cells (indices_named cells), past)))

-- no place comes before itself
not_itself : (a b : CellRef) → a ≡ b → IsCellBefore a b → ⊥
not_itself a b same (inl z) = omega (arith, z, ap (λ (c : CellRef). c.z) same)
not_itself a b same (inr (z, inl x)) = omega (arith, x, ap (λ (c : CellRef). c.x) same)
not_itself a b same (inr (z, inr (x, level))) = omega (arith, level, ap (λ (c : CellRef). c.level) same)

-- so that one index has it
pub one_index : (cells : List Cell) → IsCells cells → (i j : ℕ) (d : Cell) → i < length cells → j < length cells
    → (get_or cells i d).at ≡ (get_or cells j d).at → i ≡ j
one_index cells rules' i j d here there same =
    elim (cases_order i j) [
      | inl is ↦ is
      | inr (inl less) ↦ absurd (not_itself _ _ same (rules'.order i j d less there))
      | inr (inr more) ↦ absurd (not_itself _ _ (sym same) (rules'.order j i d more here))
    ]

-- the index in the table is that of the cell that is named
pub table_names : (cells : List Cell) → IsCells cells → (i j dir : ℕ) (d : Cell) → i < length cells → j < length cells → dir < 4
    → is_naming dir (get_or cells i d) (get_or cells j d).at ≡ (neighbour (neighbour_table cells) i dir == j)
table_names cells rules' i j dir d here there small =
    let p : Cell → Bool = λ (other : Cell). is_naming dir (get_or cells i d) other.at in
    let q : ℕ = index_named cells (get_or cells i d) dir in
    same_test (p (get_or cells j d)) (q == j)
    (λ named. eq-eqb q j (elim (cases_lt q (length cells)) [
      | inl inside ↦ one_index cells rules' q j d inside there
          (names_one dir (get_or cells i d) _ _ small (passes_at_first p cells d inside) named)
      | inr past ↦ absurd (both_ways (p (get_or cells j d)) (fails_before_first p cells j d (omega (arith, past, there))) named)
    ]))
    (λ same.
    let is : q ≡ j = eqb-true q j same in
    let P : ℕ → Type 0 = λ n. p (get_or cells n d) ≡ true in
    subst P is (passes_at_first p cells d (omega (arith, is, there))))
    ∙ ap (λ n. n == j) (sym (table_at cells i dir d here small))

-- an element passes a test exactly where the first that does stands in the list
pub any_position : {A : Type 0} (p : A → Bool) (xs : List A) → list_any p xs ≡ nat_lt (position_or_len p xs) (length xs)
any_position p [] = refl
any_position p (x ∷ xs) = same_test _ _
    (λ h.
    let any = Any-from_list_any p (x ∷ xs) h in
    elim (cases_lt (position_or_len p (x ∷ xs)) (length (x ∷ xs))) [
      | inl inside ↦ lt-ltb _ _ inside
      | inr past ↦ absurd (both_ways (p any.1) (ap p (sym any.3) ∙ fails_before_first p (x ∷ xs) any.0 any.1 (omega (arith, past, any.2))) any.4)
    ])
    (λ h. let inside = ltb-true _ _ h in list_any_at p (x ∷ xs) (position_or_len p (x ∷ xs)) x inside (passes_at_first p (x ∷ xs) x inside))

-- a cell has a neighbour in a direction exactly where the table has an index of a cell there
pub table_neighbour : (cells : List Cell) (i dir : ℕ) (d : Cell) → i < length cells → dir < 4
    → has_neighbour cells (get_or cells i d) dir ≡ nat_lt (neighbour (neighbour_table cells) i dir) (length cells)
table_neighbour cells i dir d there small =
    any_position (λ (other : Cell). is_naming dir (get_or cells i d) other.at) cells
    ∙ ap (λ n. nat_lt n (length cells)) (sym (table_at cells i dir d there small))

pub table_length : (cells : List Cell) → length (neighbour_table cells) ≡ length cells
unfolding neighbour_table
table_length cells = length-map cells (indices_named cells)
