-- The cells of a column among ordered cells: they stand together, after those that come before the column.
use Rattle.std.proofs.Common.{◌≡◌, ℕ, ◌+◌, ◌<◌, ◌≤◌, ◌⊎◌, Bool, true, false, List, ◌++◌, length, take, drop, filter, get_or, sym, ap, ◌∙◌, ⊎_elim, inl, inr, arith, tests}
use Rattle.std.specs.List.{All, AllWithin}
use Rattle.std.specs.List.Sorted.{IsPartitionedBy}
use Rattle.std.proofs.lemmas.Bool.{both_ways, cases_lt, cases_order}
use Rattle.std.proofs.lemmas.List.{take-append-drop, append-nil, get_or-take, get_or-drop, length-take, length-drop}
use Rattle.std.proofs.lemmas.List.Elements.{filter-append}
use Rattle.nav_ground.specs.declared.cell.Cell.{Cell}
use Rattle.nav_ground.specs.declared.cell.CellRef.{CellRef}
use Rattle.nav_ground.specs.declared.cell.ColumnCells.{ColumnCells}
use Rattle.nav_ground.specs.Cells.{IsCellBefore}
use Rattle.nav_ground.proofs.Selections.{filter_all, filter_none}
use Rattle.nav_ground.specs.ColumnParts.{IsPartOf}
use Rattle.nav_ground.specs.CellColumns.{AreOrdered, is_before_column, is_in_column}

-- a column comes no later than another: by z, then by x
IsNotAfter : CellRef → CellRef → Type 0
IsNotAfter a b = (a.z < b.z) ⊎ ((a.z ≡ b.z) × (a.x ≤ b.x))

before_is : (x z : ℕ) (cell : Cell) → is_before_column x z cell ≡ true → (cell.at.z < z) ⊎ ((cell.at.z ≡ z) × (cell.at.x < x))
before_is x z cell e = grind (arith, tests)

before_from : (x z : ℕ) (cell : Cell) → (cell.at.z < z) ⊎ ((cell.at.z ≡ z) × (cell.at.x < x)) → is_before_column x z cell ≡ true
before_from x z cell e = grind (arith, tests)

inside_is : (x z : ℕ) (cell : Cell) → is_in_column x z cell ≡ true → (cell.at.x ≡ x) × (cell.at.z ≡ z)
inside_is x z cell e = grind (arith, tests)

inside_from : (x z : ℕ) (cell : Cell) → cell.at.x ≡ x → cell.at.z ≡ z → is_in_column x z cell ≡ true
inside_from x z cell e f = grind (arith, tests)

early_outside : (x z : ℕ) (cell : Cell) → is_before_column x z cell ≡ true → is_in_column x z cell ≡ false
early_outside x z cell e = grind (arith, tests)

-- a column that comes no later than one before (x, z) comes before (x, z) too
before_still : (a b : CellRef) (x z : ℕ) → IsNotAfter a b → (b.z < z) ⊎ ((b.z ≡ z) × (b.x < x)) → (a.z < z) ⊎ ((a.z ≡ z) × (a.x < x))
unfolding IsNotAfter
before_still a b x z near early = grind arith

-- a column that does not come before (x, z), and no later than (x, z), is (x, z)
inside_still : (a b : CellRef) (x z : ℕ) → IsNotAfter a b → b.x ≡ x → b.z ≡ z → ((a.z < z) ⊎ ((a.z ≡ z) × (a.x < x)) → ⊥) → (a.x ≡ x) × (a.z ≡ z)
unfolding IsNotAfter
inside_still a b x z near at_x at_z late =
    ⊎_elim (λ row. absurd (late (inl (omega (arith, row, at_z)))))
    (λ column. ⊎_elim (λ left. absurd (late (inr (column.0 ∙ at_z, left)))) (λ right. (omega (arith, column.1, right, at_x), column.0 ∙ at_z)) (cases_lt a.x x))
    near

cell_not_after : (a b : CellRef) → IsCellBefore a b → IsNotAfter a b
unfolding IsNotAfter
cell_not_after a b early = ⊎_elim (λ row. inl row) (λ column. inr (column.0, ⊎_elim (λ left. omega (arith, left)) (λ same. omega (arith, same.0)) column.1)) early

same_not_after : (a b : CellRef) → a ≡ b → IsNotAfter a b
unfolding IsNotAfter
same_not_after a b same = inr (ap (λ (c : CellRef). c.z) same, omega (arith, ap (λ (c : CellRef). c.x) same))

-- ordered cells: an earlier one's column comes no later
not_after : (cells : List Cell) → AreOrdered cells → (i j : ℕ) (d : Cell) → i ≤ j → j < length cells → IsNotAfter (get_or cells i d).at (get_or cells j d).at
not_after cells ordered i j d le within =
    ⊎_elim (λ same. same_not_after (get_or cells i d).at (get_or cells j d).at (ap (λ k. (get_or cells k d).at) same))
    (⊎_elim (λ below. cell_not_after (get_or cells i d).at (get_or cells j d).at (ordered i j d below within)) (λ above. absurd (omega (arith, above, le))))
    (cases_order i j)

-- so the cells that come before a column come first
pub before_first : (x z : ℕ) (cells : List Cell) → AreOrdered cells → IsPartitionedBy (is_before_column x z) cells
before_first x z cells ordered i j d le within later =
    before_from x z (get_or cells i d)
    (before_still (get_or cells i d).at (get_or cells j d).at x z (not_after cells ordered i j d le within) (before_is x z (get_or cells j d) later))

-- and of the others those of the column come first
pub inside_first : (x z : ℕ) (cells : List Cell) (first : ℕ) → AreOrdered cells → AllWithin (λ (cell : Cell). is_before_column x z cell ≡ false) cells first (length cells)
    → IsPartitionedBy (is_in_column x z) (drop first cells)
inside_first x z cells first ordered others i j d le within later =
    let there : first + j < length cells = omega (arith, length-drop first cells) in
    let at : is_in_column x z (get_or cells (first + j) d) ≡ true = rw (← get_or-drop first cells j d) later in
    let last = inside_is x z (get_or cells (first + j) d) at in
    let near = not_after cells ordered (first + i) (first + j) d (omega (arith, le)) there in
    let late : is_before_column x z (get_or cells (first + i) d) ≡ false = others (first + i) d (omega arith) (omega (arith, le, there)) in
    let same = inside_still (get_or cells (first + i) d).at (get_or cells (first + j) d).at x z near last.0 last.1
    (λ early. both_ways (is_before_column x z (get_or cells (first + i) d)) late (before_from x z (get_or cells (first + i) d) early)) in
    rw (get_or-drop first cells i d) (inside_from x z (get_or cells (first + i) d) same.0 same.1)

module _ (x z : ℕ) (cells : List Cell) (part : ColumnCells) (is : IsPartOf x z cells part) where
  -- the cells before the part stand in other columns
  pub part_early : All (λ (cell : Cell). is_in_column x z cell ≡ false) (take part.first cells)
  part_early k d within =
      let below : k < part.first = omega (arith, length-take part.first cells) in
      rw (get_or-take part.first cells k d below) (early_outside x z (get_or cells k d) (is.before.0 k d (omega arith) below))

  -- those of the part stand in the column
  pub part_inside : All (λ (cell : Cell). is_in_column x z cell ≡ true) (take part.count (drop part.first cells))
  part_inside k d within =
      let below : k < part.count = omega (arith, length-take part.count (drop part.first cells)) in
      rw (get_or-take part.count (drop part.first cells) k d below) (is.inside.0 k d (omega arith) below)

  -- those behind it stand in others
  pub part_late : All (λ (cell : Cell). is_in_column x z cell ≡ false) (drop part.count (drop part.first cells))
  part_late k d within =
      rw (get_or-drop part.count (drop part.first cells) k d)
      (is.inside.1 (part.count + k) d (omega arith) (omega (arith, length-drop part.count (drop part.first cells))))

-- a column's cells are those of its part
pub part_is : (x z : ℕ) (cells : List Cell) (part : ColumnCells) → IsPartOf x z cells part → take part.count (drop part.first cells) ≡ filter (is_in_column x z) cells
part_is x z cells part is =
    sym (ap (filter inside) (sym (take-append-drop part.first cells))
    ∙ filter-append inside (take part.first cells) rest
    ∙ ap (λ cs. cs ++ filter inside rest) (filter_none inside (take part.first cells) (part_early x z cells part is))
    ∙ ap (filter inside) (sym (take-append-drop part.count rest))
    ∙ filter-append inside (take part.count rest) (drop part.count rest)
    ∙ ap (λ cs. cs ++ filter inside (drop part.count rest)) (filter_all inside (take part.count rest) (part_inside x z cells part is))
    ∙ ap (λ cs. take part.count rest ++ cs) (filter_none inside (drop part.count rest) (part_late x z cells part is))
    ∙ append-nil (take part.count rest))
  where
    inside : Cell → Bool
    inside = is_in_column x z

    rest : List Cell
    rest = drop part.first cells
