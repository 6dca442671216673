use Rattle.std.proofs.Common.{◌≡◌, ap, ◌∙◌}
use Rattle.std.specs.Prelude.{IfOk}
use Rattle.nav_ground.specs.declared.cell.Layer.{Layer}
use Rattle.mesh_types.specs.Builds.{tile_mesh_of}
use Rattle.rayon.proofs.ToStd.{slice-AllZip}
use Rattle.parallel_build.proofs.InOrder.{Answers, all_made}
use Rattle.parallel_build.proofs.tile_meshes.built.Goals as goal

pub returns : goal.returns
returns g c =
    let h = c.in_ok-tiles.ensures in
    let f = λ (layer : Layer). tile_mesh_of c.args.setting.now layer c.args.shapes.now in
    let chain = rw (c.map.ensures.base, c.map.ensures.f, c.with_min_len.ensures.base) at h.1 in
    let layers = c.args.layers.now in
    all_made f layers h.0 (λ v. v.items) c.in_ok-tiles.tiles
    (slice-AllZip chain.0 layers (chain.1 ∙ c.par_iter.ensures) (Answers f) h.0 chain.2) h.2
