use Rattle.std.proofs.Common.{◌∙◌, sym, ap}
use Rattle.nav_ground.specs.Directions.{number}
use Rattle.nav_ground.proofs.DirectionLaws.{number-below}
use Rattle.cell_table.specs.Columns.{column_toward}
use Rattle.obstacle_mark.specs.Places.{is_there}
use Rattle.obstacle_mark.proofs.Columns.{kept_none, kept_level}
use Rattle.obstacle_mark.proofs.places.level_kept.Goals as goal

pub returns-then-is_there-clause-level : goal.returns-then-is_there-clause-level
returns-then-is_there-clause-level c =
    kept_none (number c.args.dir) c.in_ok-level.level c.args.cell.now c.args.blocked.now (number-below c.args.dir) c.requires.cell c.requires.blocked.each
    (sym c.next.ensures ∙ c.in_ok-level.was)
    (ap (λ column. is_there column c.in_ok-level.level c.args.blocked.now) (sym (c.column_toward-column.ensures ∙ ap (column_toward (number c.args.dir)) c.at.ensures))
    ∙ sym c.is_there.ensures ∙ c.if-is_there.true)

pub returns-else-is_there-clause-level : goal.returns-else-is_there-clause-level
returns-else-is_there-clause-level c =
    kept_level (number c.args.dir) c.in_ok-level.level c.args.cell.now c.args.blocked.now (number-below c.args.dir) c.requires.cell c.requires.blocked.each
    (sym c.next.ensures ∙ c.in_ok-level.was)
    (ap (λ column. is_there column c.in_ok-level.level c.args.blocked.now) (sym (c.column_toward-column.ensures ∙ ap (column_toward (number c.args.dir)) c.at.ensures))
    ∙ sym c.is_there.ensures ∙ c.if-is_there.false)
