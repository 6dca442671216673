use Rattle.std.proofs.Common.{◌∙◌, ap, arith, length}
use Rattle.nav_ground.specs.declared.cell.Layer.{Layer}
use Rattle.nav_ground.proofs.LayerLaws.{length-layers_of_ground}
use Rattle.mesh_types.specs.Builds.{tile_mesh_of}
use Rattle.tile_build.proofs.KeptLayers.{kept_layer}
use Rattle.nav_book.proofs.StoredTiles.{layer_at}
use Rattle.nav_book.proofs.next_ground.tile_over.Goals as goal

pub bounds-as_slice-tile : goal.bounds-as_slice-tile
bounds-as_slice-tile g c =
    omega (arith, c.requires.there, ap length c.as_slice.ensures, length-layers_of_ground c.args.ground.now c.requires.ground)

pub build_kept_tile-requires-clause-layer : goal.build_kept_tile-requires-clause-layer
build_kept_tile-requires-clause-layer g c =
    (layer_at c.args.ground.now c.args.tile c.index-as_slice-tile.result c.requires.ground c.requires.there (rw c.as_slice.ensures at c.index-as_slice-tile.is)).rules

pub build_kept_tile-requires-clause-kept : goal.build_kept_tile-requires-clause-kept
build_kept_tile-requires-clause-kept g c =
    kept_layer c.args.ground.now c.args.tile c.index-as_slice-tile.result c.requires.ground
    (layer_at c.args.ground.now c.args.tile c.index-as_slice-tile.result c.requires.ground c.requires.there (rw c.as_slice.ensures at c.index-as_slice-tile.is)).is

pub returns-clause-mesh : goal.returns-clause-mesh
returns-clause-mesh g c =
    let at = layer_at c.args.ground.now c.args.tile c.index-as_slice-tile.result c.requires.ground c.requires.there
    (rw c.as_slice.ensures at c.index-as_slice-tile.is) in
    c.in_ok-new.ensures.ok ∙ c.in_ok-mesh.ensures.value ∙ ap (λ (layer : Layer). tile_mesh_of c.args.ground.now.setting layer c.args.shapes.now) at.is
