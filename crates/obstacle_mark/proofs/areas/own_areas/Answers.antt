use Rattle.std.proofs.Common.{[], ◌∷◌, ◌++◌, map, ap, ◌∙◌, sym, Some}
use Rattle.std.proofs.lemmas.List.{map_more, take_all}
use Rattle.nav_ground.specs.declared.cell.Cell.{Cell}
use Rattle.nav_ground.specs.FreeCells.{is_blocked}
use Rattle.obstacle_mark.specs.AreasLeft.{area_left}
use Rattle.obstacle_mark.proofs.areas.own_areas.Goals as goal

pub loop-cell-preserved : goal.loop-cell-preserved
loop-cell-preserved c =
    c.in_ok-push.ensures.items
    ∙ (λ i. c.loop-cell.invariant i ++ Some ((c.area.ensures ∙ ap (λ (cell : Cell). cell.area) c.cell-item.is) i) ∷ [])
    ∙ sym (map_more (area_left (is_blocked []) []) c.args.cells.now c.loop-cell.cell-index c.cell-item.result c.loop-cell-test.true)

pub returns : goal.returns
returns c = c.loop-cell.invariant ∙ ap (map (area_left (is_blocked []) [])) (take_all c.loop-cell.cell-index c.args.cells.now c.loop-cell-test.false)
