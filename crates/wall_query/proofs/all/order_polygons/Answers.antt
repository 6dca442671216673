use Rattle.std.proofs.Common.{rules}
use Rattle.std.proofs.lemmas.Fn.{always_returns_same}
use Rattle.wall_query.proofs.ListedWalls.{is_earlier, polygons_order}
use Rattle.wall_query.proofs.all.order_polygons.Goals as goal

pub returns-clause-order : goal.returns-clause-order
returns-clause-order c = c.sort_unstable_by.ensures.sorted is_earlier polygons_order (always_returns_same _ _ _ (λ a r q k. search rules))
