use Rattle.std.proofs.lemmas.Bool.{both_ways}
use Rattle.nav_ground.proofs.CellRunLaws.{first_passed, other_passed}
use Rattle.nav_ground.proofs.padded_cells.passed_one.Goals as goal

pub returns-then-is_first-clause-passed : goal.returns-then-is_first-clause-passed
returns-then-is_first-clause-passed c =
    first_passed c.args.cells.now c.args.runs.now c.args.spot c.at_cell-here.result c.args.next.now c.at_cell-here.ensures.left
    c.at_cell-here.ensures.same (c.is_first.ensures.0 c.if-is_first.true)

pub returns-else-is_first-clause-passed : goal.returns-else-is_first-clause-passed
returns-else-is_first-clause-passed c =
    other_passed c.args.cells.now c.args.runs.now c.args.spot c.at_cell-here.result c.args.next.now c.at_cell-here.ensures.left
    c.at_cell-here.ensures.same c.at_cell-here.ensures.end
    (λ first. both_ways c.is_first.result c.if-is_first.false (c.is_first.ensures.1 first))
