use Rattle.std.proofs.Common.{◌≡◌, true, false, filter, sym, ap, ◌∙◌, subst, Some}
use Rattle.nav_ground.specs.declared.cell.CellRef.{CellRef}
use Rattle.nav_ground.specs.Cells.{is_toward, next_level}
use Rattle.nav_ground.specs.Directions.{number}
use Rattle.nav_ground.proofs.DirectionLaws.{number-below}
use Rattle.nav_ground.specs.Levels.{IsSmallLevel}
use Rattle.nav_ground.proofs.SmallCellLaws.{next_small}
use Rattle.layer_cut.specs.Neighbours.{HasColumnToward}
use Rattle.layer_cut.proofs.KeptNeighbours.{none_kept, column_toward, place_there, level_marked}
use Rattle.layer_cut.proofs.neighbours.kept_level.Goals as goal

pub returns-in_err-level-clause-level : goal.returns-in_err-level-clause-level
returns-in_err-level-clause-level c = λ p _.
    none_kept (filter p c.args.cells.now) c.args.cell.now (number c.args.dir) c.from_residual.result c.from_residual.ensures (sym c.next.ensures ∙ c.in_err-level.was)

pub returns-in_err-level-clause-small : goal.returns-in_err-level-clause-small
returns-in_err-level-clause-small c = subst IsSmallLevel (sym c.from_residual.ensures) tt

pub neighbour-place-requires : goal.neighbour-place-requires
neighbour-place-requires c =
    subst (HasColumnToward (number c.args.dir)) (sym c.at.ensures)
    (column_toward c.args.cells.now c.args.cell.now (number c.args.dir) c.in_ok-level.level c.requires.cells c.requires.cell (number-below c.args.dir)
    (sym c.next.ensures ∙ c.in_ok-level.was))

pub index_of-index-requires-clause-cells : goal.index_of-index-requires-clause-cells
index_of-index-requires-clause-cells c = c.requires.cells.rules

pub index_of-index-requires-clause-there : goal.index_of-index-requires-clause-there
index_of-index-requires-clause-there c =
    place_there c.args.cells.now c.args.cell.now (number c.args.dir) c.in_ok-level.level c.neighbour-place.result c.requires.cells c.requires.cell
    (number-below c.args.dir) (sym c.next.ensures ∙ c.in_ok-level.was)
    (ap (λ (at : CellRef). is_toward (number c.args.dir) at c.neighbour-place.result) (sym c.at.ensures) ∙ c.neighbour-place.ensures.toward)
    c.neighbour-place.ensures.level

pub returns-then-marks-index-clause-level : goal.returns-then-marks-index-clause-level
returns-then-marks-index-clause-level c = λ p marked.
    level_marked c.args.cells.now c.args.marks.now p c.args.cell.now (number c.args.dir) c.in_ok-level.level c.index_of-index.result
    c.neighbour-place.result true false c.requires.cells (number-below c.args.dir) marked
    (record { within = c.index_of-index.ensures.within; at = c.index_of-index.ensures.at })
    (sym c.next.ensures ∙ c.in_ok-level.was)
    (ap (λ (at : CellRef). is_toward (number c.args.dir) at c.neighbour-place.result) (sym c.at.ensures) ∙ c.neighbour-place.ensures.toward)
    c.neighbour-place.ensures.level c.if-marks-index.true

pub returns-then-marks-index-clause-small : goal.returns-then-marks-index-clause-small
returns-then-marks-index-clause-small c =
    let named : next_level c.args.cell.now (number c.args.dir) ≡ Some c.in_ok-level.level = sym c.next.ensures ∙ c.in_ok-level.was in
    subst IsSmallLevel named (next_small c.args.cell.now (number c.args.dir) c.requires.small)

pub returns-else-marks-index-clause-level : goal.returns-else-marks-index-clause-level
returns-else-marks-index-clause-level c = λ p marked.
    level_marked c.args.cells.now c.args.marks.now p c.args.cell.now (number c.args.dir) c.in_ok-level.level c.index_of-index.result
    c.neighbour-place.result false false c.requires.cells (number-below c.args.dir) marked
    (record { within = c.index_of-index.ensures.within; at = c.index_of-index.ensures.at })
    (sym c.next.ensures ∙ c.in_ok-level.was)
    (ap (λ (at : CellRef). is_toward (number c.args.dir) at c.neighbour-place.result) (sym c.at.ensures) ∙ c.neighbour-place.ensures.toward)
    c.neighbour-place.ensures.level c.if-marks-index.false
