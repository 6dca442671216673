use Rattle.std.proofs.Common.{◌++◌, ◌∷◌, [], ap, ◌∙◌, sym, map}
use Rattle.std.proofs.lemmas.List.{map_more, take_all}
use Rattle.crowd_handle.specs.Agents.{fine_point}
use Rattle.crowd_handle.proofs.Telling.{no_fine}
use Rattle.crowd_handle.proofs.agents.fine_points.Goals as goal

pub loop-point-preserved : goal.loop-point-preserved
loop-point-preserved c =
    c.in_ok-push.ensures.items ∙ (λ i. c.loop-point.invariant i ++ c.fine_point.ensures i ∷ [])
    ∙ sym (map_more fine_point c.args.points.now c.loop-point.point-index no_fine c.loop-point-test.true)

pub returns : goal.returns
returns c = c.loop-point.invariant ∙ ap (map fine_point) (take_all c.loop-point.point-index c.args.points.now c.loop-point-test.false)
