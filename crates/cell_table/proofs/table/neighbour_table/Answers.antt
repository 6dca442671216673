use Rattle.std.proofs.Common.{◌∙◌, ◌++◌, [], ◌∷◌, List, ℕ, ap, sym, map, take}
use Rattle.std.proofs.lemmas.List.{map_more, take_all}
use Rattle.cell_table.specs.Table.{indices_named, neighbour_table}
use Rattle.cell_table.proofs.table.neighbour_table.Goals as goal

pub loop-cell-preserved : goal.loop-cell-preserved
loop-cell-preserved c =
    c.in_ok-push.ensures.items
    ∙ ap (λ (rows : List (List ℕ)). rows ++ c.indices_named.result ∷ []) c.loop-cell.invariant
    ∙ ap (λ (row : List ℕ). map (indices_named c.args.cells.now) (take c.loop-cell.cell-index c.args.cells.now) ++ row ∷ [])
    (c.indices_named.ensures ∙ ap (indices_named c.args.cells.now) c.cell-item.is)
    ∙ sym (map_more (indices_named c.args.cells.now) c.args.cells.now c.loop-cell.cell-index c.cell-item.result c.loop-cell-test.true)

pub returns : goal.returns
unfolding neighbour_table
returns c = c.loop-cell.invariant ∙ ap (map (indices_named c.args.cells.now)) (take_all c.loop-cell.cell-index c.args.cells.now c.loop-cell-test.false)
