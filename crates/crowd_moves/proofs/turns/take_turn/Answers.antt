use Rattle.std.proofs.Common.{◌≡◌, ◌<◌, false, true, List, length, get_or, set, pos, rules, sym, subst, arith}
use Rattle.std.specs.Prelude.{slice_get, Some}
use Rattle.std.proofs.lemmas.Option.{slice_get-get_or}
use Rattle.nav_base.specs.declared.point.Point.{Point}
use Rattle.crowd_moves.specs.declared.agents.CrowdMove.{CrowdMove}
use Rattle.crowd_moves.specs.Steps.{AreMoves}
use Rattle.crowd_moves.specs.Wishes.{IsOpen, IsTurn}
use Rattle.crowd_moves.proofs.StepLaws.{no_move}
use Rattle.crowd_moves.proofs.TurnLaws.{gained_turn, kept_turn, no_turn, none_more, IsFoundAt}
use Rattle.crowd_moves.proofs.turns.take_turn.Goals as goal

abbrev no_vector : Point
no_vector = record { x = pos 0; z = pos 0 }

pub offered-requires-clause-moves : goal.offered-requires-clause-moves
offered-requires-clause-moves g c =
    subst (AreMoves (g.S.MoveSpace.lets c.args.space.now) c.args.crowd.height c.args.crowd.agents.now) (sym c.loop-k.invariant.same) c.requires.moves

pub returns-then-eq : goal.returns-then-eq
returns-then-eq g c =
    let lets = g.S.MoveSpace.lets c.args.space.now in
    let mid = c.loop-k.moves in
    let first = c.args.wishes.first.now in
    let vectors = c.args.wishes.vectors.now in
    let height = c.args.crowd.height in
    let agents = c.args.crowd.agents.now in
    let right = subst (AreMoves lets height agents) (sym c.loop-k.invariant.same) c.requires.moves in
    let inside : c.loop-k.k < length vectors = omega (arith, c.loop-k-test.true, c.places-begin.ensures.end) in
    let found : IsFoundAt lets height agents first vectors mid c.args.i right c.loop-k.k (get_or vectors c.loop-k.k no_vector) c.in-Some.made = record {
      from = c.loop-k.invariant.from;
      below = omega (arith, c.loop-k-test.true, c.places-begin.ensures.end);
      is = slice_get-get_or vectors c.loop-k.k no_vector inside;
      none = c.loop-k.invariant.none;
      offered = c.in-Some.ensures.some;
    } in
    let there : slice_get mid c.args.i ≡ Some (get_or mid c.args.i no_move) = slice_get-get_or mid c.args.i no_move (omega (arith, right.one_each, c.requires.there)) in
    subst (λ (old : List CrowdMove). IsTurn lets height agents first vectors old c.args.i false mid) c.loop-k.invariant.same
    (kept_turn lets height agents first vectors mid c.args.i right c.loop-k.k (get_or vectors c.loop-k.k no_vector) c.in-Some.made (get_or mid c.args.i no_move) found there
    (search rules))

pub returns-in-Some : goal.returns-in-Some
returns-in-Some g c =
    let lets = g.S.MoveSpace.lets c.args.space.now in
    let mid = c.loop-k.moves in
    let first = c.args.wishes.first.now in
    let vectors = c.args.wishes.vectors.now in
    let height = c.args.crowd.height in
    let agents = c.args.crowd.agents.now in
    let right = subst (AreMoves lets height agents) (sym c.loop-k.invariant.same) c.requires.moves in
    let inside : c.loop-k.k < length vectors = omega (arith, c.loop-k-test.true, c.places-begin.ensures.end) in
    let found : IsFoundAt lets height agents first vectors mid c.args.i right c.loop-k.k (get_or vectors c.loop-k.k no_vector) c.in-Some.made = record {
      from = c.loop-k.invariant.from;
      below = omega (arith, c.loop-k-test.true, c.places-begin.ensures.end);
      is = slice_get-get_or vectors c.loop-k.k no_vector inside;
      none = c.loop-k.invariant.none;
      offered = c.in-Some.ensures.some;
    } in
    subst (λ (old : List CrowdMove). IsTurn lets height agents first vectors old c.args.i true (set mid c.args.i c.in-Some.made)) c.loop-k.invariant.same
    (gained_turn lets height agents first vectors mid c.args.i right c.loop-k.k (get_or vectors c.loop-k.k no_vector) c.in-Some.made found c.requires.there)

pub loop-k-preserved : goal.loop-k-preserved
loop-k-preserved g c = record {
  same = c.loop-k.invariant.same;
  from = omega (arith, c.loop-k.invariant.from);
  none = none_more (IsOpen (g.S.MoveSpace.lets c.args.space.now) c.args.crowd.height c.args.crowd.agents.now c.loop-k.moves c.args.i) c.args.wishes.first.now
      c.args.wishes.vectors.now c.args.i c.loop-k.k no_vector c.loop-k.invariant.none c.in_default.ensures.none;
}

pub returns : goal.returns
returns g c =
    let lets = g.S.MoveSpace.lets c.args.space.now in
    let mid = c.loop-k.moves in
    let height = c.args.crowd.height in
    let agents = c.args.crowd.agents.now in
    let right = subst (AreMoves lets height agents) (sym c.loop-k.invariant.same) c.requires.moves in
    subst (λ (old : List CrowdMove). IsTurn lets height agents c.args.wishes.first.now c.args.wishes.vectors.now old c.args.i false mid) c.loop-k.invariant.same
    (no_turn lets height agents c.args.wishes.first.now c.args.wishes.vectors.now mid c.args.i right c.loop-k.k
    (omega (arith, c.loop-k-test.false, c.places-begin.ensures.end)) c.loop-k.invariant.none)
