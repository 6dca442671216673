use Rattle.std.proofs.Common.{◌≡◌, ◌+◌, [], List, ◌∙◌, ap, sym, subst, length}
use Rattle.nav_ground.proofs.LayerLaws.{IsLayerOf-from_ground, length-layers_of_ground}
use Rattle.mesh_types.specs.declared.mesh.TileMesh.{TileMesh}
use Rattle.mesh_types.specs.Builds.{mesh_under}
use Rattle.mesh_types.specs.WholeMesh.{mesh_of}
use Rattle.obstacle_mark.proofs.WholeFree.{KeepsRadius-from_ground}
use Rattle.tile_build.specs.Meshes.{tiles_of, tiles_under, plain_ground, HasSameParts}
use Rattle.tile_build.proofs.GroundTiles.{for_tiles}
use Rattle.tile_build.proofs.PlainMeshes.{plain_parts}
use Rattle.tile_build.proofs.build.build_tiles.Goals as goal

pub built-requires-clause-layers : goal.built-requires-clause-layers
built-requires-clause-layers g c = rw c.as_slice.ensures (IsLayerOf-from_ground c.args.ground.now c.requires.level)

pub built-requires-clause-kept : goal.built-requires-clause-kept
built-requires-clause-kept g c = rw c.as_slice.ensures (KeepsRadius-from_ground c.args.ground.now c.requires.level)

pub returns-in_err-tiles-clause-most : goal.returns-in_err-tiles-clause-most
returns-in_err-tiles-clause-most g c = for_tiles c.args.ground.now _ _ _ c.requires.level c.as_slice.ensures c.built.ensures.most

pub returns-clause-steps : goal.returns-clause-steps
returns-clause-steps g c =
    c.in_ok-tiles.ensures.steps ∙ ap (λ n. c.args.steps.now + n) (ap length c.as_slice.ensures ∙ length-layers_of_ground c.args.ground.now c.requires.level)

pub returns-clause-most : goal.returns-clause-most
returns-clause-most g c = for_tiles c.args.ground.now _ _ _ c.requires.level c.as_slice.ensures c.built.ensures.most

pub returns-clause-plain : goal.returns-clause-plain
returns-clause-plain g c = λ none.
    let ground = c.args.ground.now in
    let are : c.from_vec.result ≡ tiles_under ground [] =
    c.from_vec.ensures ∙ c.in_ok-tiles.ensures.tiles ∙ ap (tiles_of ground.setting c.args.shapes.now) c.as_slice.ensures ∙ ap (tiles_under ground) none in
    subst (λ (tiles : List TileMesh). HasSameParts (mesh_of ground.setting tiles) (mesh_under (plain_ground ground) [])) (sym are)
    (plain_parts ground c.requires.level)
