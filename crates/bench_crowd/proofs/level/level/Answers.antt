use Rattle.std.proofs.Common.{[], sym, subst, ap}
use Rattle.std.proofs.lemmas.List.Elements.{All-nil}
use Rattle.std.proofs.lemmas.Result.{IfOk-weaker}
use Rattle.nav_ground.specs.Limits.{IsShape, IsSetting}
use Rattle.mesh_types.specs.declared.mesh.Mesh.{Mesh}
use Rattle.mesh_types.specs.WholeMesh.{mesh_of}
use Rattle.tile_build.proofs.BuiltTiles.{are_tiles}
use Rattle.bench_crowd.proofs.level.level.Goals as goal

pub joined-requires-clause-tiles : goal.joined-requires-clause-tiles
joined-requires-clause-tiles g c = rw (c.in_ok-tiles.ensures.tiles) (are_tiles c.args.ground.now [] c.requires.ground (All-nil IsShape))

pub returns-clause-setting : goal.returns-clause-setting
unfolding mesh_of
returns-clause-setting g c =
    IfOk-weaker c.joined.result _ _ (λ mesh is. subst IsSetting (sym (ap (λ (m : Mesh). m.setting) is)) c.requires.ground.setting) c.joined.ensures.mesh
