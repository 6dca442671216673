use Rattle.std.proofs.Common.{◌+◌, arith}
use Rattle.crowd_lead.proofs.PlaceLaws.{nowhere_beyond}
use Rattle.crowd_lead.proofs.places.first_ahead.Goals as goal

pub returns-clause-none : goal.returns-clause-none
returns-clause-none c =
    nowhere_beyond c.args.mesh.now c.args.agent.now c.args.goal c.args.links.now c.args.known c.loop-place.place (c.args.known + 32) c.loop-place.invariant
    (λ below. omega (arith, below, c.loop-place-test.false, c.min-end.ensures))
