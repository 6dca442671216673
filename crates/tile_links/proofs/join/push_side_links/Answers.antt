use Rattle.std.proofs.Common.{◌<◌, ◌∙◌, sym, ap, subst, arith, length, refl}
use Rattle.std.proofs.lemmas.Option.{slice_get_read}
use Rattle.mesh_types.specs.declared.mesh.TileMesh.{TileMesh}
use Rattle.nav_ground.specs.Directions.{number}
use Rattle.nav_ground.proofs.DirectionLaws.{number-below}
use Rattle.tile_links.specs.Across.{AreAcross}
use Rattle.tile_links.specs.Loose.{loose_links, HasGained}
use Rattle.tile_links.proofs.TilesAcross.{across_there, across_of}
use Rattle.tile_links.proofs.LooseLinks.{found_over}
use Rattle.tile_links.proofs.join.push_side_links.Goals as goal

pub at-requires : goal.at-requires
at-requires c =
    let there = across_there c.args.tiled.setting.now c.args.tile.now.tile (number c.args.side) c.in-Some.other c.requires.tile.in_tile.there (number-below c.args.side) (sym c.in-Some.ensures) in
    omega (arith, there, c.requires.tiles.each)

pub push_links-requires : goal.push_links-requires
push_links-requires c =
    let there = across_there c.args.tiled.setting.now c.args.tile.now.tile (number c.args.side) c.in-Some.other c.requires.tile.in_tile.there (number-below c.args.side) (sym c.in-Some.ensures) in
    let below : c.in-Some.other < length c.args.tiled.tiles.now = omega (arith, there, c.requires.tiles.each) in
    subst (AreAcross c.args.tile.now c.get-mesh.result.now) (sym c.index.ensures.value)
    (subst (λ (other : TileMesh). AreAcross c.args.tile.now other (number c.args.side)) (sym c.get-mesh.ensures)
    (across_of c.args.tiled.setting.now c.args.tiled.tiles.now c.args.tile.now c.at.result.now (number c.args.side) c.in-Some.other c.requires.tile c.requires.tiles
    (sym c.in-Some.ensures) below c.at.ensures))

pub returns-in_ok-push_links : goal.returns-in_ok-push_links
returns-in_ok-push_links c =
    let there = across_there c.args.tiled.setting.now c.args.tile.now.tile (number c.args.side) c.in-Some.other c.requires.tile.in_tile.there (number-below c.args.side) (sym c.in-Some.ensures) in
    let below : c.in-Some.other < length c.args.tiled.tiles.now = omega (arith, there, c.requires.tiles.each) in
    let same = (λ i. loose_links c.args.tile.now (c.get-mesh.ensures i) (c.index.ensures.value i))
    ∙ found_over c.args.tiled.setting.now c.args.tiled.tiles.now c.args.tile.now c.at.result.now (number c.args.side) c.in-Some.other (sym c.in-Some.ensures)
    (slice_get_read c.args.tiled.tiles.now (length c.args.tiled.tiles.now) c.in-Some.other c.at.result.now refl below c.at.ensures) in
    subst (λ links. HasGained c.args.links.now.items links c.push_links.new.links.items) same c.in_ok-push_links.ensures
