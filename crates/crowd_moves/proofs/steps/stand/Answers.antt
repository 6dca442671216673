use Rattle.std.proofs.Common.{sym, subst, arith}
use Rattle.std.proofs.lemmas.Option.{slice_get_within}
use Rattle.crowd_moves.specs.Steps.{AreMoves}
use Rattle.crowd_moves.proofs.StandLaws.{stands_all, stands_clear, stands_more}
use Rattle.crowd_moves.proofs.StepLaws.{no_agent}
use Rattle.crowd_moves.proofs.steps.stand.Goals as goal

pub loop-agent-preserved : goal.loop-agent-preserved
loop-agent-preserved g c =
    stands_more (g.S.MoveSpace.lets c.args.space.now) c.args.agents.now c.loop-agent.agent-index c.loop-agent.moves.items c.push.new.self.items c.stay.result
    no_agent c.loop-agent.invariant c.loop-agent-test.true c.stay.ensures.stands c.stay.ensures.lets c.in_ok-push.ensures.items

pub returns-clause-right : goal.returns-clause-right
returns-clause-right g c = λ height.
    let lets = g.S.MoveSpace.lets c.args.space.now in
    let stand = c.loop-agent.invariant in
    subst (AreMoves lets height c.args.agents.now)
    (sym (stands_all lets c.args.agents.now c.loop-agent.agent-index c.loop-agent.moves.items stand c.loop-agent-test.false))
    (stands_clear lets height c.args.agents.now c.requires.sizes
    (λ i a is. stand.let_stand i a (omega (arith, slice_get_within c.args.agents.now i a is, c.loop-agent-test.false)) is))
