use Rattle.std.proofs.Common.{arith, inl, inr}
use Rattle.std.proofs.lemmas.Int.{ints, clamps}
use Rattle.obstacle_mark.proofs.near.both.Goals as goal

pub returns : goal.returns
returns c = λ x z inside. elim inside [
  | inl here ↦ record {
    x_least = omega (arith, ints, clamps, c.min.ensures.value, c.min.ensures.self_bound, here.x_least);
    x_most = omega (arith, ints, clamps, c.max.ensures.value, c.max.ensures.self_bound, here.x_most);
    z_least = omega (arith, ints, clamps, c.min-2.ensures.value, c.min-2.ensures.self_bound, here.z_least);
    z_most = omega (arith, ints, clamps, c.max-2.ensures.value, c.max-2.ensures.self_bound, here.z_most);
  }
  | inr there ↦ record {
    x_least = omega (arith, ints, clamps, c.min.ensures.value, c.min.ensures.other_bound, there.x_least);
    x_most = omega (arith, ints, clamps, c.max.ensures.value, c.max.ensures.other_bound, there.x_most);
    z_least = omega (arith, ints, clamps, c.min-2.ensures.value, c.min-2.ensures.other_bound, there.z_least);
    z_most = omega (arith, ints, clamps, c.max-2.ensures.value, c.max-2.ensures.other_bound, there.z_most);
  }
]
