use Rattle.std.proofs.Common.{◌≡◌, List, take, map, length, ap, ◌∙◌, sym}
use Rattle.std.proofs.lemmas.List.{take_more}
use Rattle.nav_ground.specs.declared.shape.Shape.{Shape}
use Rattle.nav_ground.specs.FreeCells.{is_blocked}
use Rattle.obstacle_mark.specs.AreasLeft.{area_left}
use Rattle.obstacle_mark.proofs.OneMoreShape.{areas_left_more, written_back}
use Rattle.obstacle_mark.proofs.areas.areas_left.Goals as goal

pub loop-shape-preserved : goal.loop-shape-preserved
loop-shape-preserved c =
    let i = c.loop-shape.shape-index in
    let new = c.cover.new.areas in
    let same : c.loop-shape.areas.len ≡ length new =
    c.loop-shape.areas.ok.0 ∙ sym (ap length c.as_mut_slice.ensures.value) ∙ sym c.cover.auto.areas in
    written_back c.loop-shape.areas.len c.loop-shape.areas.items new same
    ∙ areas_left_more c.args.cells.now (take i c.args.shapes.now) _ c.as_mut_slice.result.now new
    (c.as_mut_slice.ensures.value ∙ c.loop-shape.invariant) c.cover.auto.areas c.cover.ensures
    ∙ ap (λ (shapes : List Shape). map (area_left (is_blocked shapes) shapes) c.args.cells.now) (sym (take_more c.args.shapes.now i _ c.loop-shape-test.true))
