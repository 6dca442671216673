-- What marks leave of the cells beside them: cell by cell, in parts, and of one column.
use Rattle.std.proofs.Common.{◌≡◌, ◌≢◌, ℕ, zero, suc, ◌+◌, ◌<◌, Bool, true, false, cond, List, [], ◌∷◌, ◌++◌, length, take, drop, filter, get_or, refl, sym, ap, ◌∙◌, arith}
use Rattle.std.specs.Prelude.{◌==◌, if◌then◌else◌, Option, Some, None}
use Rattle.std.specs.List.{All, cons_option}
use Rattle.std.proofs.lemmas.Bool.{eq-eqb, ne_eqb}
use Rattle.std.proofs.lemmas.List.{append-nil, take_more, length-take-le}
use Rattle.std.proofs.lemmas.List.Elements.{filter-append, All-head, All-tail}
use Rattle.nav_ground.specs.declared.cell.Cell.{Cell}
use Rattle.nav_ground.specs.declared.cell.ColumnCells.{ColumnCells}
use Rattle.nav_ground.specs.declared.free_layer.CellMark.{CellMark}
use Rattle.nav_ground.specs.CellColumns.{is_in_column}
use Rattle.nav_ground.specs.ColumnParts.{IsPartOf}
use Rattle.nav_ground.specs.Marks.{cell_left, cells_left, levels_left, marked_cell}
use Rattle.nav_ground.proofs.ColumnParts.{part_early, part_inside, part_late}

-- a mark with all of four bits keeps all of a cell's levels
pub all_levels : (levels : List (Option ℕ)) → length levels ≡ 4 → levels_left 15 levels ≡ levels
all_levels (a ∷ b ∷ c ∷ d ∷ []) four = refl
all_levels [] four = absurd (omega (arith, four))
all_levels (a ∷ []) four = absurd (omega (arith, four))
all_levels (a ∷ b ∷ []) four = absurd (omega (arith, four))
all_levels (a ∷ b ∷ c ∷ []) four = absurd (omega (arith, four))
all_levels (a ∷ b ∷ c ∷ d ∷ e ∷ more) four = absurd (omega (arith, four))

-- an element in front of two lists
cons_more : (option : Option Cell) (xs ys : List Cell) → cons_option option (xs ++ ys) ≡ cons_option option xs ++ ys
cons_more None xs ys = refl
cons_more (Some x) xs ys = refl

no_cells : (marks : List CellMark) → cells_left marks [] ≡ []
no_cells [] = refl
no_cells (mark ∷ marks) = refl

-- one more mark and cell
pub left_push : (marks : List CellMark) (cells : List Cell) (mark : CellMark) (cell : Cell) → length marks ≡ length cells
    → cells_left (marks ++ mark ∷ []) (cells ++ cell ∷ []) ≡ cells_left marks cells ++ cons_option (cell_left mark cell) []
left_push [] [] mark cell same = refl
left_push [] (c ∷ cells) mark cell same = absurd (omega (arith, same))
left_push (m ∷ marks) [] mark cell same = absurd (omega (arith, same))
left_push (m ∷ marks) (c ∷ cells) mark cell same =
    ap (cons_option (cell_left m c)) (left_push marks cells mark cell (omega (arith, same)))
    ∙ cons_more (cell_left m c) (cells_left marks cells) (cons_option (cell_left mark cell) [])

left_more : (marks : List CellMark) (cells : List Cell) (i : ℕ) (e : CellMark) (d : Cell) → length marks ≡ length cells → i < length cells
    → cells_left (take (i + 1) marks) (take (i + 1) cells)
    ≡ cells_left (take i marks) (take i cells) ++ cons_option (cell_left (get_or marks i e) (get_or cells i d)) []
left_more marks cells i e d same there =
    ap (λ (ms : List CellMark). cells_left ms (take (i + 1) cells)) (take_more marks i e (omega (arith, same, there)))
    ∙ ap (λ (cs : List Cell). cells_left (take i marks ++ get_or marks i e ∷ []) cs) (take_more cells i d there)
    ∙ left_push (take i marks) (take i cells) (get_or marks i e) (get_or cells i d)
    (length-take-le i marks (omega (arith, same, there)) ∙ sym (length-take-le i cells (omega (arith, there))))

-- a cell that is kept, and one that is not
pub left_kept : (marks : List CellMark) (cells left : List Cell) (i : ℕ) (e : CellMark) (item cell : Cell) → length marks ≡ length cells → i < length cells
    → (get_or marks i e).area ≢ 0 → item ≡ get_or cells i item → cell ≡ marked_cell (get_or marks i e) item
    → left ≡ cells_left (take i marks) (take i cells) → left ++ cell ∷ [] ≡ cells_left (take (i + 1) marks) (take (i + 1) cells)
left_kept marks cells left i e item cell same there kept is made before =
    let mark = get_or marks i e in
    ap (λ (cs : List Cell). cs ++ cell ∷ []) before
    ∙ ap (λ (c : Cell). cells_left (take i marks) (take i cells) ++ c ∷ []) (made ∙ ap (marked_cell mark) is)
    ∙ ap (λ (none : Bool). cells_left (take i marks) (take i cells) ++ cons_option (if none then None else Some (marked_cell mark (get_or cells i item))) []) (sym (ne_eqb mark.area 0 kept))
    ∙ sym (left_more marks cells i e item same there)

pub left_lost : (marks : List CellMark) (cells left : List Cell) (i : ℕ) (e : CellMark) (item : Cell) → length marks ≡ length cells → i < length cells
    → (get_or marks i e).area ≡ 0
    → left ≡ cells_left (take i marks) (take i cells) → left ≡ cells_left (take (i + 1) marks) (take (i + 1) cells)
left_lost marks cells left i e item same there lost before =
    let mark = get_or marks i e in
    before ∙ sym (append-nil (cells_left (take i marks) (take i cells)))
    ∙ ap (λ (none : Bool). cells_left (take i marks) (take i cells) ++ cons_option (if none then None else Some (marked_cell mark (get_or cells i item))) []) (sym (eq-eqb mark.area 0 lost))
    ∙ sym (left_more marks cells i e item same there)

-- one more mark of those that leave the free cells
pub marks_more : (marks : List CellMark) (cells free : List Cell) (i passed next : ℕ) (mark : CellMark) (item : Cell) → length marks ≡ i → i < length cells
    → item ≡ get_or cells i item → cells_left marks (take i cells) ≡ take passed free
    → take next free ≡ take passed free ++ cons_option (cell_left mark item) []
    → cells_left (marks ++ mark ∷ []) (take (i + 1) cells) ≡ take next free
marks_more marks cells free i passed next mark item count there is before after =
    ap (λ (cs : List Cell). cells_left (marks ++ mark ∷ []) cs) (take_more cells i item there)
    ∙ left_push marks (take i cells) mark (get_or cells i item) (count ∙ sym (length-take-le i cells (omega (arith, there))))
    ∙ ap (λ (cs : List Cell). cs ++ cons_option (cell_left mark (get_or cells i item)) []) before
    ∙ ap (λ (c : Cell). take passed free ++ cons_option (cell_left mark c) []) (sym is)
    ∙ sym after

-- what is left in two parts
left_parts : (n : ℕ) (marks : List CellMark) (cells : List Cell)
    → cells_left marks cells ≡ cells_left (take n marks) (take n cells) ++ cells_left (drop n marks) (drop n cells)
left_parts zero marks cells = refl
left_parts (suc n) [] cells = refl
left_parts (suc n) (m ∷ marks) [] = sym (no_cells (drop n marks))
left_parts (suc n) (m ∷ marks) (c ∷ cells) =
    ap (cons_option (cell_left m c)) (left_parts n marks cells)
    ∙ cons_more (cell_left m c) (cells_left (take n marks) (take n cells)) (cells_left (drop n marks) (drop n cells))

-- a cell that is left stands in the column where it stood before
module _ (x z : ℕ) where
  left_outside : (marks : List CellMark) (cells : List Cell) → All (λ (cell : Cell). is_in_column x z cell ≡ false) cells
      → filter (is_in_column x z) (cells_left marks cells) ≡ []
  left_outside [] cells each = refl
  left_outside (m ∷ marks) [] each = refl
  left_outside (m ∷ marks) (c ∷ cells) each =
      let p = is_in_column x z in
      let rest = left_outside marks cells (All-tail (λ (cell : Cell). p cell ≡ false) c cells each) in
      let here : p c ≡ false = All-head (λ (cell : Cell). p cell ≡ false) c cells each in
      elim (m.area == 0) as (λ none. filter p (cons_option (if none then None else Some (marked_cell m c)) (cells_left marks cells)) ≡ []) [
        | true ↦ rest
        | false ↦ ap (λ b. cond b (marked_cell m c ∷ filter p (cells_left marks cells)) (filter p (cells_left marks cells))) here ∙ rest
      ]

  left_inside : (marks : List CellMark) (cells : List Cell) → All (λ (cell : Cell). is_in_column x z cell ≡ true) cells
      → filter (is_in_column x z) (cells_left marks cells) ≡ cells_left marks cells
  left_inside [] cells each = refl
  left_inside (m ∷ marks) [] each = refl
  left_inside (m ∷ marks) (c ∷ cells) each =
      let p = is_in_column x z in
      let rest = left_inside marks cells (All-tail (λ (cell : Cell). p cell ≡ true) c cells each) in
      let here : p c ≡ true = All-head (λ (cell : Cell). p cell ≡ true) c cells each in
      elim (m.area == 0)
      as (λ none. filter p (cons_option (if none then None else Some (marked_cell m c)) (cells_left marks cells))
      ≡ cons_option (if none then None else Some (marked_cell m c)) (cells_left marks cells)) [
        | true ↦ rest
        | false ↦ ap (λ b. cond b (marked_cell m c ∷ filter p (cells_left marks cells)) (filter p (cells_left marks cells))) here
            ∙ ap (λ (cs : List Cell). marked_cell m c ∷ cs) rest
      ]

  -- what is left of a column
  pub left_column : (marks : List CellMark) (cells : List Cell) (part : ColumnCells) → IsPartOf x z cells part
      → cells_left (take part.count (drop part.first marks)) (take part.count (drop part.first cells)) ≡ filter (is_in_column x z) (cells_left marks cells)
  left_column marks cells part is =
      let p = is_in_column x z in
      let before = cells_left (take part.first marks) (take part.first cells) in
      let inside = cells_left (take part.count (drop part.first marks)) (take part.count (drop part.first cells)) in
      let behind = cells_left (drop part.count (drop part.first marks)) (drop part.count (drop part.first cells)) in
      sym (ap (filter p) (left_parts part.first marks cells
      ∙ ap (λ (cs : List Cell). before ++ cs) (left_parts part.count (drop part.first marks) (drop part.first cells)))
      ∙ filter-append p before (inside ++ behind)
      ∙ ap (λ (cs : List Cell). cs ++ filter p (inside ++ behind)) (left_outside (take part.first marks) (take part.first cells) (part_early x z cells part is))
      ∙ filter-append p inside behind
      ∙ ap (λ (cs : List Cell). cs ++ filter p behind)
      (left_inside (take part.count (drop part.first marks)) (take part.count (drop part.first cells)) (part_inside x z cells part is))
      ∙ ap (λ (cs : List Cell). inside ++ cs)
      (left_outside (drop part.count (drop part.first marks)) (drop part.count (drop part.first cells)) (part_late x z cells part is))
      ∙ append-nil inside)
