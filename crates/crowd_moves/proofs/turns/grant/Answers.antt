use Rattle.std.proofs.Common.{Bool, length, subst, arith}
use Rattle.crowd_moves.specs.Wishes.{AreTurns}
use Rattle.crowd_moves.proofs.TurnLaws.{rounds_end, settles}
use Rattle.crowd_moves.proofs.turns.grant.Goals as goal

pub returns-then-not-take_turns : goal.returns-then-not-take_turns
returns-then-not-take_turns g c =
    let lets = g.S.MoveSpace.lets c.args.space.now in
    let height = c.args.crowd.height in
    let agents = c.args.crowd.agents.now in
    let order = c.args.wishes.order.now in
    let first = c.args.wishes.first.now in
    let vectors = c.args.wishes.vectors.now in
    settles lets height agents order first vectors c.args.moves.now c.loop-round.moves c.take_turns.new.moves c.loop-round._round c.loop-round.invariant
    (subst (λ (gains : Bool). AreTurns lets height agents order first vectors c.loop-round.moves (length order) gains c.take_turns.new.moves) c.if-not-take_turns.true
    c.take_turns.ensures)

pub returns : goal.returns
returns g c =
    rounds_end (g.S.MoveSpace.lets c.args.space.now) c.args.crowd.height c.args.crowd.agents.now c.args.wishes.order.now c.args.wishes.first.now
    c.args.wishes.vectors.now c.args.moves.now c.loop-round.moves c.loop-round._round c.loop-round.invariant (omega (arith, c.requires.some, c.loop-round-test.false))
