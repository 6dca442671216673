use Rattle.std.proofs.Common.{subst}
use Rattle.mesh_types.specs.BorderLinks.{border_links}
use Rattle.tile_links.specs.Loose.{loose_links, HasGained}
use Rattle.tile_links.proofs.LooseLinks.{ordered_back}
use Rattle.tile_links.proofs.rim.rim_links.Goals as goal

pub returns : goal.returns
unfolding border_links
returns c =
    ordered_back c.push_links.new.links.len c.push_links.new.links.items c.as_mut_slice.result.now c.order_links.new.links
    (loose_links c.args.a.now c.args.b.now c.args.side) c.push_links.new.links.ok.0 c.as_mut_slice.ensures.value c.order_links.auto.links
    c.order_links.ensures
    (subst (λ old. HasGained old (loose_links c.args.a.now c.args.b.now c.args.side) c.push_links.new.links.items) c.new-links.ensures.items
    c.in_ok-push_links.ensures)
