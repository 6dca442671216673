use Rattle.std.proofs.Common.{refl}
use Rattle.obstacle_registry.proofs.registry.Registry.mark.Goals as goal

pub rewrite-requires : goal.rewrite-requires
rewrite-requires c = record {
  before = c.in-Some.row;
  there = c.in-Some.ensures.there;
  id = refl;
  number = refl;
  shape = λ some. refl;
  limits = c.in-Some.ensures.shape;
}
