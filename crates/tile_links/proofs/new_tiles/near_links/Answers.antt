use Rattle.std.proofs.Common.{[], map, ap, ◌∙◌, sym, subst}
use Rattle.std.specs.List.{filter, flat_map, range_with_len}
use Rattle.nav_ground.specs.Directions.{number}
use Rattle.tile_links.specs.KeptLinks.{leads_to_old, old_sides}
use Rattle.tile_links.specs.Loose.{loose_over, HasGained}
use Rattle.tile_links.specs.NewTiles.{is_new_across}
use Rattle.tile_links.proofs.KeptLinks.{others_gained}
use Rattle.tile_links.proofs.new_tiles.near_links.Goals as goal

pub links_with-requires-clause-others : goal.links_with-requires-clause-others
links_with-requires-clause-others c =
    let setting = c.args.tiled.setting.now in
    let news = c.args.news.now in
    let tile = c.args.tile.now in
    let f = loose_over setting c.args.tiled.tiles.now tile in
    let held = c.requires.old (sym c.is_new.ensures ∙ c.if-is_new.false) in
    let kept = c.in_ok-kept.ensures ∙ ap (filter (leads_to_old news)) c.as_slice.ensures.value in
    others_gained f (is_new_across setting news tile.tile) (range_with_len 0 4) c.in_ok-kept.kept.items (flat_map f (map number c.as_slice-2.result.now))
    (subst (HasGained [] (flat_map f (old_sides setting news tile.tile))) (sym kept) held)
    (ap (flat_map f) (ap (map number) c.as_slice-2.ensures.value ∙ c.in_ok-sides.ensures))
