use Rattle.std.proofs.Common.{◌≡◌, ℕ, List, ap, ◌∙◌, get_or}
use Rattle.cell_table.specs.Mutual.{named_back, row_back}
use Rattle.cell_table.proofs.Places.{no_cell}
use Rattle.cell_table.proofs.Mutuals.{one_cell, all_rows}
use Rattle.cell_table.proofs.table.mutual_table.Goals as goal

pub loop-i-preserved : goal.loop-i-preserved
loop-i-preserved c =
    let cells = c.args.cells.now in
    let n : ℕ = c.loop-i.i in
    let row : List ℕ = c.row_behind-row.result in
    let is : row ≡ row_back cells (get_or cells n no_cell) = c.row_behind-row.ensures no_cell in
    c.name_back-in-loop-i.ensures
    ∙ ap (λ (t : List (List ℕ)). named_back t (get_or row 3 0) 1 n)
    (c.name_back.ensures ∙ ap (λ (t : List (List ℕ)). named_back t (get_or row 0 0) 2 n) c.in_ok-push.ensures.items)
    ∙ one_cell cells c.requires n c.loop-i.table.items row (get_or row 0 0) (get_or row 3 0) c.loop-i-test.true
    c.loop-i.invariant is (ap (λ (r : List ℕ). get_or r 0 0) is) (ap (λ (r : List ℕ). get_or r 3 0) is)

pub returns : goal.returns
returns c = c.loop-i.invariant ∙ all_rows c.args.cells.now c.loop-i.i c.loop-i-test.false
