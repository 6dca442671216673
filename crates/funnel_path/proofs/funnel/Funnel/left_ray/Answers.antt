-- The left ray moves or stays.
use Rattle.std.proofs.Common.{refl, inl, inr, arith}
use Rattle.std.proofs.lemmas.Int.{ints}
use Rattle.funnel_path.proofs.funnel.Funnel.left_ray.Goals as goal

pub returns-else-orient-le0 : goal.returns-else-orient-le0
returns-else-orient-le0 c = inr (omega (arith, ints), refl)

pub returns-then-orient-le0 : goal.returns-then-orient-le0
returns-then-orient-le0 c = inl (omega (arith, ints), c.left_end.ensures)
