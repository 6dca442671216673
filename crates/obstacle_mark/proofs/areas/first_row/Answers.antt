use Rattle.std.proofs.Common.{ap, arith}
use Rattle.nav_ground.specs.declared.cell.Cell.{Cell}
use Rattle.nav_ground.specs.declared.cell.CellRef.{CellRef}
use Rattle.obstacle_mark.proofs.Rows.{rows_rise}
use Rattle.obstacle_mark.proofs.areas.first_row.Goals as goal

pub returns-in-Some : goal.returns-in-Some
returns-in-Some c = λ k d there.
    let rises = rows_rise c.args.cells.now c.requires 0 k d (omega arith) there in
    let first = ap (λ (cell : Cell). cell.at.z) (c.in-Some.ensures.item.3.1 d) in
    let read = ap (λ (at : CellRef). at.z) c.at.ensures in
    omega (arith, rises, first, read)
