use Rattle.std.proofs.Common.{rules}
use Rattle.std.proofs.lemmas.Fn.{always_returns_same}
use Rattle.mesh_types.proofs.LinkOrderLaws.{before, links_order, order_is}
use Rattle.mesh_types.proofs.links.order_links.Goals as goal

pub returns : goal.returns
returns c =
    order_is c.args.links.now c.sort_unstable_by.new.self c.sort_unstable_by.ensures.permutation
    (c.sort_unstable_by.ensures.sorted before links_order (always_returns_same _ _ _ (λ a r q k. search rules)))
