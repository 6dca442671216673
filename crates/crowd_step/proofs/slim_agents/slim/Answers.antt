use Rattle.std.proofs.Common.{rules, get_or, refl}
use Rattle.std.proofs.lemmas.Option.{slice_get-get_or}
use Rattle.crowd_moves.proofs.StepLaws.{no_agent}
use Rattle.crowd_step.proofs.SlimLaws.{apart_more, no_steering, sized_more, sized_with, slimmed_all, slimmed_more}
use Rattle.crowd_step.proofs.slim_agents.slim.Goals as goal

pub loop-i-preserved : goal.loop-i-preserved
loop-i-preserved c =
    let before = c.args.agents.now in
    let now = c.loop-i.agents in
    let i = c.loop-i.i in
    let full = c.args.full.now in
    let steering = c.args.steering.now in
    let a = get_or now i no_agent in
    let so = c.loop-i.invariant.0 in
    let is_n = slice_get-get_or full i 0 (search rules) in
    let is_own = slice_get-get_or steering i no_steering (search rules) in (
      slimmed_more c.args.height c.args.rules.hz full steering before now i _ _ a no_agent c.next_radius-radius.result so (search rules) refl is_n is_own
          c.next_radius-radius.ensures.value,
      sized_more now i _ c.loop-i.invariant.1 (sized_with a _ (c.loop-i.invariant.1 i no_agent (search rules)) c.next_radius-radius.ensures.small),
      λ apart.
          apart_more c.args.height c.args.rules.hz full steering before now i _ _ a no_agent c.next_radius-radius.result so (search rules) refl is_n is_own
          c.next_radius-radius.ensures.value (c.loop-i.invariant.2 apart),
    )

pub returns-clause-slimmed : goal.returns-clause-slimmed
returns-clause-slimmed c =
    slimmed_all c.args.height c.args.rules.hz c.args.full.now c.args.steering.now c.args.agents.now c.loop-i.agents c.loop-i.i (search rules) c.loop-i.invariant.0
