use Rattle.std.proofs.Common.{◌+◌, ◌^◌, refl, sym, subst, inr, arith}
use Rattle.std.proofs.lemmas.Bool.{both_ways}
use Rattle.nav_base.specs.Point.{IsWithin}
use Rattle.crowd_moves.proofs.PairLaws.{both_within, far_clear, slow_within, within_more}
use Rattle.crowd_moves.proofs.pairs.is_clear.Goals as goal

pub returns-then-not-is_near : goal.returns-then-not-is_near
returns-then-not-is_near c = (
  λ true. inr (far_clear c.args.height c.args.a.now c.args.b.now c.args.m.now c.args.n.now c.requires.first c.requires.second
      (λ near. both_ways c.is_near.result c.if-not-is_near.true (c.is_near.ensures.1 near))),
  λ clear. refl,
)

pub vector-requires-2-clause-first : goal.vector-requires-2-clause-first
vector-requires-2-clause-first c =
    within_more c.args.m.now.by c.args.a.now.speed (2 ^ 20) (omega (arith, c.requires.first.sizes.speed)) (slow_within c.args.m.now.by c.args.a.now.speed c.requires.first.slow)

pub vector-requires-2-clause-second : goal.vector-requires-2-clause-second
vector-requires-2-clause-second c =
    within_more c.args.n.now.by c.args.b.now.speed (2 ^ 20) (omega (arith, c.requires.second.sizes.speed)) (slow_within c.args.n.now.by c.args.b.now.speed c.requires.second.slow)

pub stays_beyond-requires-clause-way : goal.stays_beyond-requires-clause-way
stays_beyond-requires-clause-way c =
    subst (IsWithin (2 ^ 15)) (sym c.vector-2.ensures.value)
    (within_more _ (c.args.a.now.speed + c.args.b.now.speed) (2 ^ 15) (omega (arith, c.requires.first.sizes.speed, c.requires.second.sizes.speed))
    (both_within c.args.m.now.by c.args.n.now.by c.args.a.now.speed c.args.b.now.speed (slow_within c.args.m.now.by c.args.a.now.speed c.requires.first.slow)
    (slow_within c.args.n.now.by c.args.b.now.speed c.requires.second.slow)))
