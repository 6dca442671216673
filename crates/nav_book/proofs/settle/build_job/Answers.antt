use Rattle.std.proofs.Common.{◌∙◌, ap, arith, length}
use Rattle.nav_ground.specs.declared.cell.Layer.{Layer}
use Rattle.nav_ground.proofs.LayerLaws.{length-layers_of_ground}
use Rattle.mesh_types.specs.Builds.{tile_mesh_of}
use Rattle.tile_build.proofs.KeptLayers.{kept_layer}
use Rattle.nav_book.proofs.StoredTiles.{layer_at}
use Rattle.nav_book.proofs.settle.build_job.Goals as goal

pub bounds-as_slice-job : goal.bounds-as_slice-job
bounds-as_slice-job g c =
    omega (arith, c.requires.job.there, ap length c.as_slice.ensures, length-layers_of_ground c.args.level.now c.requires.level)

pub build_kept_tile-requires-clause-layer : goal.build_kept_tile-requires-clause-layer
build_kept_tile-requires-clause-layer g c =
    (layer_at c.args.level.now c.args.job.now.tile c.index-as_slice-job.result c.requires.level c.requires.job.there
    (rw c.as_slice.ensures at c.index-as_slice-job.is)).rules

pub build_kept_tile-requires-clause-kept : goal.build_kept_tile-requires-clause-kept
build_kept_tile-requires-clause-kept g c =
    kept_layer c.args.level.now c.args.job.now.tile c.index-as_slice-job.result c.requires.level
    (layer_at c.args.level.now c.args.job.now.tile c.index-as_slice-job.result c.requires.level c.requires.job.there
    (rw c.as_slice.ensures at c.index-as_slice-job.is)).is

pub returns-clause-mesh : goal.returns-clause-mesh
returns-clause-mesh g c =
    let at = layer_at c.args.level.now c.args.job.now.tile c.index-as_slice-job.result c.requires.level c.requires.job.there
    (rw c.as_slice.ensures at c.index-as_slice-job.is) in
    let built = rw c.as_slice-2.ensures at c.in_ok-mesh.ensures.value in
    c.in_ok-new.ensures.ok ∙ built ∙ ap (λ (layer : Layer). tile_mesh_of c.args.level.now.setting layer c.args.job.now.shapes) at.is
