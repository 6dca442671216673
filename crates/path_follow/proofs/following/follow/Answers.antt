use Rattle.std.proofs.Common.{arith}
use Rattle.path_follow.proofs.Ahead.{at-goal}
use Rattle.path_follow.proofs.following.follow.Goals as goal

pub returns-then-leg-standing : goal.returns-then-leg-standing
returns-then-leg-standing c = record {
  right = at-goal c.args.mesh.now c.args.following.now c.requires.sound c.requires.can c.in_default.ensures.none c.standing_of-standing.result
      c.standing_of-standing.ensures c.next_of-next.result c.next_of-next.ensures c.len-count.result c.walking.result c.len-count.ensures
      (omega (arith, c.leg.ensures, c.if-leg-standing.true)) c.walking.ensures;
}
