use Rattle.std.proofs.Common.{rules}
use Rattle.std.proofs.lemmas.Bool.{both_ways}
use Rattle.crowd_moves.proofs.StepLaws.{as_movers, no_agent, no_move}
use Rattle.crowd_moves.proofs.TurnLaws.{has_offered, may_at, no_way_open, not_free, sized_at, too_fast}
use Rattle.crowd_moves.proofs.turns.offered.Goals as goal

pub returns-then-eq-clause-some : goal.returns-then-eq-clause-some
returns-then-eq-clause-some g c =
    has_offered (g.S.MoveSpace.lets c.args.space.now) c.args.crowd.height c.args.crowd.agents.now c.args.moves.now c.args.i c.args.by no_move c.requires.moves
    c.requires.there (search rules)

pub is_slow-requires : goal.is_slow-requires
is_slow-requires g c =
    sized_at (g.S.MoveSpace.lets c.args.space.now) c.args.crowd.height c.args.crowd.agents.now c.args.moves.now c.args.i no_agent c.requires.moves c.requires.there

pub returns-then-not-is_slow-clause-none : goal.returns-then-not-is_slow-clause-none
returns-then-not-is_slow-clause-none g c =
    too_fast (g.S.MoveSpace.lets c.args.space.now) c.args.crowd.height c.args.crowd.agents.now c.args.moves.now c.args.i c.args.by no_agent c.requires.there
    (λ slow. both_ways c.is_slow.result c.if-not-is_slow.true (c.is_slow.ensures.1 slow))

pub way-requires-clause-sizes : goal.way-requires-clause-sizes
way-requires-clause-sizes g c =
    sized_at (g.S.MoveSpace.lets c.args.space.now) c.args.crowd.height c.args.crowd.agents.now c.args.moves.now c.args.i no_agent c.requires.moves c.requires.there

pub returns-in_default-clause-none : goal.returns-in_default-clause-none
returns-in_default-clause-none g c =
    no_way_open (g.S.MoveSpace.lets c.args.space.now) c.args.crowd.height c.args.crowd.agents.now c.args.moves.now c.args.i c.args.by no_agent c.requires.there
    c.in_default.ensures.none

pub is_free-requires-clause-movers : goal.is_free-requires-clause-movers
is_free-requires-clause-movers g c =
    as_movers (g.S.MoveSpace.lets c.args.space.now) c.args.crowd.height c.args.crowd.agents.now c.args.moves.now c.requires.moves

pub is_free-requires-clause-mover : goal.is_free-requires-clause-mover
is_free-requires-clause-mover g c = λ a is.
    (may_at (g.S.MoveSpace.lets c.args.space.now) c.args.crowd.height c.args.crowd.agents.now c.args.moves.now c.args.i c.args.by no_agent c.requires.there c.in-Some.made
    (sized_at (g.S.MoveSpace.lets c.args.space.now) c.args.crowd.height c.args.crowd.agents.now c.args.moves.now c.args.i no_agent c.requires.moves c.requires.there)
    (c.is_slow.ensures.0 c.if-not-is_slow.false) c.in-Some.ensures.by c.in-Some.ensures.lets a is).mover

pub returns-then-is_free-clause-some : goal.returns-then-is_free-clause-some
returns-then-is_free-clause-some g c = record {
  is = c.in-Some.ensures.by;
  may = may_at (g.S.MoveSpace.lets c.args.space.now) c.args.crowd.height c.args.crowd.agents.now c.args.moves.now c.args.i c.args.by no_agent c.requires.there c.in-Some.made
      (sized_at (g.S.MoveSpace.lets c.args.space.now) c.args.crowd.height c.args.crowd.agents.now c.args.moves.now c.args.i no_agent c.requires.moves c.requires.there)
      (c.is_slow.ensures.0 c.if-not-is_slow.false) c.in-Some.ensures.by c.in-Some.ensures.lets;
  free = c.is_free.ensures.0 c.if-is_free.true;
}

pub returns-else-is_free-clause-none : goal.returns-else-is_free-clause-none
returns-else-is_free-clause-none g c =
    not_free (g.S.MoveSpace.lets c.args.space.now) c.args.crowd.height c.args.crowd.agents.now c.args.moves.now c.args.i c.args.by no_agent c.requires.there
    c.in-Some.made c.in-Some.ensures.one (λ free. both_ways c.is_free.result c.if-is_free.false (c.is_free.ensures.1 free))
