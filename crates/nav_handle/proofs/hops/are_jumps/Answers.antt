use Rattle.std.proofs.Common.{arith, refl}
use Rattle.nav_handle.proofs.JumpLaws.{all_jumps, jump_in}
use Rattle.nav_handle.proofs.hops.are_jumps.Goals as goal

pub returns-then-not-is_jump : goal.returns-then-not-is_jump
returns-then-not-is_jump c =
    ((λ no. absurd cc), λ are. c.if-not-is_jump.ensures.1 (jump_in c.args.jumps.now c.loop-jump.jump-index c.loop-jump-test.true are))

pub returns : goal.returns
returns c = (
  (λ yes. all_jumps c.args.jumps.now c.loop-jump.jump-index c.loop-jump-test.false (omega (arith, c.if-jumps-gt256.false)) c.loop-jump.invariant),
  λ are. refl,
)
