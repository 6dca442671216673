use Rattle.std.proofs.Common.{ap, ◌∙◌}
use Rattle.std.specs.Prelude.{map}
use Rattle.std.proofs.Math.Seq.{map-set_same}
use Rattle.crowd_step.specs.Kept.{told_by_host}
use Rattle.crowd_step.proofs.steps.remember.Goals as goal
use Rattle.crowd_step.proofs.steps.remember.Goals.{in-Some-Some-Some, in-Some+in-Some-get-2+in-None-1, in-Some+in-None-1, in-None-1}

pub loop-i-preserved : goal.loop-i-preserved
loop-i-preserved c = elim c.match-get.branch [
  | in-Some-Some-Some w ↦
      ap (map told_by_host) w.steering-is
      ∙ (map-set_same told_by_host c.loop-i.steering c.loop-i.i w.remembered.result _ w.remembered.ensures ∙ c.loop-i.invariant)
  | in-Some+in-Some-get-2+in-None-1 w ↦ ap (map told_by_host) w.steering-is ∙ c.loop-i.invariant
  | in-Some+in-None-1 w ↦ ap (map told_by_host) w.steering-is ∙ c.loop-i.invariant
  | in-None-1 w ↦ ap (map told_by_host) w.steering-is ∙ c.loop-i.invariant
]
