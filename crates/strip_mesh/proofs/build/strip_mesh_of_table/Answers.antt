use Rattle.std.proofs.Common.{◌∙◌, ap}
use Rattle.mesh_types.specs.StripMeshes.{strip_mesh_of}
use Rattle.strip_mesh.proofs.FitLaws.{fits}
use Rattle.strip_mesh.proofs.StripTiles.{built_as_strips, tile_covers, tile_linked, tile_back, tile_lists}
use Rattle.strip_mesh.proofs.build.strip_mesh_of_table.Goals as goal

pub returns-clause-fit : goal.returns-clause-fit
returns-clause-fit c = fits c.args.setting.now c.args.free c.in_ok-mesh.mesh c.requires.cells c.requires.tile (c.in_ok-mesh.ensures ∙ ap (strip_mesh_of c.args.setting.now) c.from_parts.ensures.free)

pub returns-clause-cover : goal.returns-clause-cover
returns-clause-cover c = tile_covers c.args.setting.now c.in_ok-mesh.mesh (returns-clause-fit c) (built_as_strips c.args.setting.now c.args.free c.in_ok-mesh.mesh (c.in_ok-mesh.ensures ∙ ap (strip_mesh_of c.args.setting.now) c.from_parts.ensures.free))

pub returns-clause-linked : goal.returns-clause-linked
returns-clause-linked c = tile_linked c.args.setting.now c.in_ok-mesh.mesh (returns-clause-fit c) (built_as_strips c.args.setting.now c.args.free c.in_ok-mesh.mesh (c.in_ok-mesh.ensures ∙ ap (strip_mesh_of c.args.setting.now) c.from_parts.ensures.free))

pub returns-clause-back : goal.returns-clause-back
returns-clause-back c = tile_back c.args.setting.now c.in_ok-mesh.mesh (returns-clause-fit c) (built_as_strips c.args.setting.now c.args.free c.in_ok-mesh.mesh (c.in_ok-mesh.ensures ∙ ap (strip_mesh_of c.args.setting.now) c.from_parts.ensures.free))

pub returns-clause-listed : goal.returns-clause-listed
returns-clause-listed c = tile_lists c.args.setting.now c.in_ok-mesh.mesh (returns-clause-fit c) (built_as_strips c.args.setting.now c.args.free c.in_ok-mesh.mesh (c.in_ok-mesh.ensures ∙ ap (strip_mesh_of c.args.setting.now) c.from_parts.ensures.free))
