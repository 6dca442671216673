use Rattle.std.proofs.Common.{◌∙◌, Some, sym, ap, arith}
use Rattle.std.proofs.lemmas.Bool.{both_ways}
use Rattle.nav_ground.specs.declared.cell.Cell.{Cell}
use Rattle.nav_ground.specs.declared.cell.CellRef.{CellRef}
use Rattle.nav_ground.specs.Connection.{is_connected}
use Rattle.nav_ground.specs.Directions.{number}
use Rattle.nav_ground.proofs.DirectionLaws.{number-below}
use Rattle.compact_layer.specs.Columns.{column_of}
use Rattle.compact_layer.proofs.Candidates.{step_to_candidate, no_step}
use Rattle.compact_layer.proofs.sweep.level_toward.Goals as goal
use Rattle.compact_layer.proofs.sweep.level_toward.Goals.{else-column_of-column-via-then-column_of-column+else-is_connected, else-column_of-column-via-else-column_of-column}

pub returns-in_err-other-clause-level : goal.returns-in_err-other-clause-level
returns-in_err-other-clause-level c =
    let past = c.in_err-other.ensures.lookup.3 in
    c.from_residual.ensures
    ∙ no_step (number c.args.dir) c.column_toward-column.result c.args.agent.now c.args.cells.now c.args.cell.now c.pass.result (number-below c.args.dir) c.requires.agent
    c.requires.cells c.column_toward-column.ensures c.pass.ensures.passed c.pass.ensures.next (λ d there column step. omega (arith, there, past))

pub returns-then-is_connected-clause-level : goal.returns-then-is_connected-clause-level
returns-then-is_connected-clause-level c =
    let found = c.in_ok-other.ensures.lookup in
    ap (λ (at : CellRef). Some at.level) c.at-then-is_connected.ensures
    ∙ step_to_candidate (number c.args.dir) c.column_toward-column.result c.args.agent.now c.args.cells.now c.args.cell.now c.in_ok-other.other.now c.pass.result
    (number-below c.args.dir) c.requires.cell c.requires.cells c.column_toward-column.ensures c.pass.ensures.passed found.3.0 found.1
    (ap column_of (sym c.at.ensures) ∙ sym c.column_of.ensures.value ∙ c.if-column_of-column.true) (sym c.is_connected.ensures ∙ c.if-is_connected.true)

pub returns-else-column_of-column-clause-level : goal.returns-else-column_of-column-clause-level
returns-else-column_of-column-clause-level c =
    no_step (number c.args.dir) c.column_toward-column.result c.args.agent.now c.args.cells.now c.args.cell.now c.pass.result (number-below c.args.dir) c.requires.agent
    c.requires.cells c.column_toward-column.ensures c.pass.ensures.passed c.pass.ensures.next
    (λ d there column step.
    let same = c.in_ok-other.ensures.lookup.3.1 d in
    elim c.else-column_of-column.branch [
      | else-column_of-column-via-then-column_of-column+else-is_connected w ↦
          both_ways (is_connected c.args.agent.now c.args.cell.now c.in_ok-other.other.now) (sym w.is_connected.ensures ∙ w.if-is_connected.false)
          (ap (is_connected c.args.agent.now c.args.cell.now) same ∙ step)
      | else-column_of-column-via-else-column_of-column w ↦
          w.if-column_of-column.false
          (c.column_of.ensures.value ∙ ap column_of c.at.ensures ∙ ap (λ (other : Cell). column_of other.at) same ∙ column)
    ])
