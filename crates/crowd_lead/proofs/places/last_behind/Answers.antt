use Rattle.std.proofs.Common.{◌≡◌, ℕ, ◌+◌, ◌-◌, ◌<◌, subst, arith}
use Rattle.crowd_lead.specs.Leading.{IsNowhere}
use Rattle.crowd_lead.proofs.places.last_behind.Goals as goal

next_back : (known back : ℕ) → back < known → known - back ≡ known - 1 - back + 1
next_back known back within = omega arith

pub returns-then-is_at-clause-some : goal.returns-then-is_at-clause-some
returns-then-is_at-clause-some c = record {
  is = c.is_at.ensures.0 c.if-is_at.true;
  before = omega (arith, c.loop-back-test.true, c.min-back-end.ensures);
  near = omega (arith, c.loop-back-test.true, c.min-back-end.ensures);
  last = subst (λ (from : ℕ). IsNowhere c.args.mesh.now c.args.agent.now c.args.goal c.args.links.now from c.args.known)
      (next_back c.args.known c.loop-back.back (omega (arith, c.loop-back-test.true, c.min-back-end.ensures))) c.loop-back.invariant;
}

pub returns-clause-none : goal.returns-clause-none
returns-clause-none c place above below = c.loop-back.invariant place (omega (arith, above, c.loop-back-test.false, c.min-back-end.ensures)) below
