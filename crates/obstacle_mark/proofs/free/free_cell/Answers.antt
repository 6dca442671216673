use Rattle.std.proofs.Common.{◌∙◌, refl, ap, subst, sym}
use Rattle.std.specs.Prelude.{All}
use Rattle.nav_ground.specs.declared.cell.CellRef.{CellRef}
use Rattle.cell_table.specs.Columns.{column_of}
use Rattle.obstacle_mark.specs.Columns.{LiesApart}
use Rattle.obstacle_mark.specs.Places.{next_kept}
use Rattle.obstacle_mark.proofs.AwayPlaces.{cell_kept}
use Rattle.obstacle_mark.proofs.SmallAreas.{free_cell_small}
use Rattle.obstacle_mark.proofs.free.free_cell.Goals as goal

pub returns-then-is_clear-clause-cell : goal.returns-then-is_clear-clause-cell
returns-then-is_clear-clause-cell c =
    cell_kept c.args.cell.now c.args.area c.args.blocked.now c.requires.cell (c.if-area.true ∙ c.area.ensures) c.requires.blocked
    (subst (λ (at : CellRef). All (LiesApart (column_of at)) c.args.blocked.now) c.at.ensures (c.if-is_clear.ensures.clear refl))

pub new-requires : goal.new-requires
new-requires c =
    free_cell_small c.get.result c.args.area c.next_kept-next.result c.args.blocked.now c.get.ensures.small c.requires.area
    (c.next_kept-next.ensures.next ∙ ap (next_kept c.args.blocked.now) (sym c.get.ensures.value))
