-- The right ray moves or stays.
use Rattle.std.proofs.Common.{refl, inl, inr, arith}
use Rattle.std.proofs.lemmas.Int.{ints}
use Rattle.funnel_path.proofs.funnel.Funnel.right_ray.Goals as goal

pub returns-else-orient-ge0 : goal.returns-else-orient-ge0
returns-else-orient-ge0 c = inr (omega (arith, ints), refl)

pub returns-then-orient-ge0 : goal.returns-then-orient-ge0
returns-then-orient-ge0 c = inl (omega (arith, ints), c.right_end.ensures)
