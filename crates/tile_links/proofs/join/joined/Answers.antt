use Rattle.std.proofs.Common.{◌≡◌, ◌∙◌, sym, subst}
use Rattle.mesh_types.specs.declared.mesh.Mesh.{Mesh}
use Rattle.mesh_types.specs.WholeMesh.{mesh_of}
use Rattle.mesh_types.specs.Passages.{IsTwoWay}
use Rattle.mesh_types.specs.Soundness.{AreTiles, IsSound}
use Rattle.tile_links.proofs.SoundMeshes.{IsSound-mesh_of, mesh_made}
use Rattle.tile_links.proofs.TwoWayMeshes.{two_way}
use Rattle.tile_links.proofs.join.joined.Goals as goal

pub all_cross_links-requires-clause-tiles : goal.all_cross_links-requires-clause-tiles
all_cross_links-requires-clause-tiles c = subst (AreTiles c.args.setting.now) (sym (c.in_ok-tiles.ensures ∙ c.into_vec.ensures)) c.requires.tiles

-- the mesh that is handed out
made : (c : goal.After-result-1) → ◌≡◌ {A = Mesh} (record { setting = c.args.setting.now; tiles = c.in_ok-tiles.tiles; cross = c.in_ok-cross.cross })
    (mesh_of c.args.setting.now c.args.tiles)
made c =
    mesh_made c.args.setting.now c.args.tiles c.in_ok-tiles.tiles c.in_ok-cross.cross (c.in_ok-tiles.ensures ∙ c.into_vec.ensures)
    (c.in_ok-cross.ensures ∙ c.in_ok-links.ensures)

pub returns-clause-mesh : goal.returns-clause-mesh
returns-clause-mesh c = made c

pub returns-clause-sound : goal.returns-clause-sound
returns-clause-sound c = subst IsSound (sym (made c)) (IsSound-mesh_of c.args.setting.now c.args.tiles c.requires.setting c.requires.tiles)

pub returns-clause-back : goal.returns-clause-back
returns-clause-back c inner = subst IsTwoWay (sym (made c)) (two_way c.args.setting.now c.args.tiles c.requires.setting c.requires.tiles inner)
