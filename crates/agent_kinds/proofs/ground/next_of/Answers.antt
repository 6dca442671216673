use Rattle.std.proofs.Common.{◌∙◌}
use Rattle.std.specs.Arc.{arc_value}
use Rattle.agent_kinds.proofs.Grounds.{ground_over, next_if}
use Rattle.agent_kinds.proofs.ground.next_of.Goals as goal

pub next_ground-requires-clause-ground : goal.next_ground-requires-clause-ground
next_ground-requires-clause-ground g c =
    (ground_over c.args.level.now c.args.window c.args.field.now c.as_slice.result.now c.ground-old.result.now c.in_ok-ground.ground
    (arc_value c.in_ok-shared.shared) c.ground-old.ensures.value (c.as_slice.ensures ∙ c.in_ok-reached.ensures) c.in_ok-ground.ensures.value
    c.in_ok-ground.ensures.rules c.in_ok-ground.ensures.unreached c.in_ok-shared.ensures.ok).but

pub returns : goal.returns
returns g c =
    next_if c.args.level.now c.args.window c.args.field.now c.as_slice.result.now (arc_value c.in_ok-shared.shared) c.next_ground.result
    (ground_over c.args.level.now c.args.window c.args.field.now c.as_slice.result.now c.ground-old.result.now c.in_ok-ground.ground
    (arc_value c.in_ok-shared.shared) c.ground-old.ensures.value (c.as_slice.ensures ∙ c.in_ok-reached.ensures) c.in_ok-ground.ensures.value
    c.in_ok-ground.ensures.rules c.in_ok-ground.ensures.unreached c.in_ok-shared.ensures.ok)
    c.next_ground.ensures.next c.next_ground.ensures.differ
