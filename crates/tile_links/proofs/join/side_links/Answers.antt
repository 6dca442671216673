use Rattle.std.proofs.Common.{subst}
use Rattle.nav_ground.specs.Directions.{number}
use Rattle.tile_links.specs.Loose.{loose_over, HasGained}
use Rattle.tile_links.proofs.LooseLinks.{ordered_back}
use Rattle.tile_links.proofs.join.side_links.Goals as goal

pub returns : goal.returns
returns c =
    let more = loose_over c.args.tiled.setting.now c.args.tiled.tiles.now c.args.tile.now (number c.args.side) in
    ordered_back c.push_side_links.new.links.len c.push_side_links.new.links.items c.as_mut_slice.result.now c.order_links.new.links more
    c.push_side_links.new.links.ok.0 c.as_mut_slice.ensures.value c.order_links.auto.links c.order_links.ensures
    (subst (λ old. HasGained old more c.push_side_links.new.links.items) c.in_ok-links.ensures.items c.in_ok-push_side_links.ensures)
