use Rattle.std.proofs.Common.{refl}
use Rattle.nav_query.proofs.rays.ray.Goals as goal

pub returns-in_default-clause-right : goal.returns-in_default-clause-right
returns-in_default-clause-right c = c.in_default.ensures.none.0 refl
