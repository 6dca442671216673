use Rattle.std.proofs.Common.{◌-◌, length, ap, arith}
use Rattle.nav_ground.specs.declared.cell.Cell.{Cell}
use Rattle.nav_ground.specs.declared.cell.CellRef.{CellRef}
use Rattle.obstacle_mark.proofs.Rows.{rows_rise}
use Rattle.obstacle_mark.proofs.areas.end_row.Goals as goal

pub returns-in-Some : goal.returns-in-Some
returns-in-Some c = λ k d there.
    let rises = rows_rise c.args.cells.now c.requires k (length c.args.cells.now - 1) d (omega (arith, there)) (omega (arith, there)) in
    let last = ap (λ (cell : Cell). cell.at.z) (c.in-Some.ensures.item.3.1 d) in
    let read = ap (λ (at : CellRef). at.z) c.at.ensures in
    omega (arith, rises, last, read)
