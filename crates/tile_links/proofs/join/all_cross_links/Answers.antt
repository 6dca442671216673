use Rattle.std.proofs.Common.{[], ◌∷◌, ◌++◌, map, ap, ◌∙◌, sym, arith}
use Rattle.std.proofs.lemmas.List.{map_more, take_all}
use Rattle.mesh_types.specs.WholeMesh.{cross_links}
use Rattle.tile_links.proofs.TilesFit.{tile_fit, tile_few}
use Rattle.tile_links.proofs.join.all_cross_links.Goals as goal

pub shared_cross_links-requires-clause-tile : goal.shared_cross_links-requires-clause-tile
shared_cross_links-requires-clause-tile c =
    tile_fit c.args.setting.now c.args.tiles.now c.loop-place.place c.at-tile.result.now c.get.result.now c.requires.tiles (omega (arith, c.loop-place-test.true, c.len-place-end.ensures)) c.at-tile.ensures c.get.ensures

pub shared_cross_links-requires-clause-few : goal.shared_cross_links-requires-clause-few
shared_cross_links-requires-clause-few c =
    tile_few c.args.setting.now c.args.tiles.now c.loop-place.place c.at-tile.result.now c.get.result.now c.requires.tiles (omega (arith, c.loop-place-test.true, c.len-place-end.ensures)) c.at-tile.ensures c.get.ensures

pub loop-place-preserved : goal.loop-place-preserved
loop-place-preserved c =
    let f = cross_links c.args.setting.now c.args.tiles.now in
    let made = c.in_ok-shared_cross_links.ensures ∙ ap f (c.get.ensures ∙ c.at-tile.ensures) in
    c.in_ok-push.ensures.items ∙ (λ i. c.loop-place.invariant i ++ made i ∷ [])
    ∙ sym (map_more f c.args.tiles.now c.loop-place.place c.at-tile.result.now (omega (arith, c.loop-place-test.true, c.len-place-end.ensures)))

pub returns : goal.returns
returns c =
    c.loop-place.invariant
    ∙ ap (map (cross_links c.args.setting.now c.args.tiles.now)) (take_all c.loop-place.place c.args.tiles.now (omega (arith, c.loop-place-test.false, c.len-place-end.ensures)))
