use Rattle.std.proofs.Common.{◌≡◌, ◌∙◌, ap, sym, subst, length}
use Rattle.std.proofs.lemmas.List.{length-map}
use Rattle.mesh_types.specs.declared.mesh.Mesh.{Mesh}
use Rattle.mesh_types.specs.Passages.{IsTwoWay}
use Rattle.mesh_types.specs.Soundness.{AreTiles, IsSound}
use Rattle.mesh_types.specs.WholeMesh.{cross_links, mesh_of}
use Rattle.tile_links.specs.NewTiles.{tile_after, tiles_after}
use Rattle.tile_links.proofs.KeptLinks.{links_keep_old}
use Rattle.tile_links.proofs.ReplacedTiles.{AreTiles-after, links_kept, links_of_whole}
use Rattle.tile_links.proofs.SoundMeshes.{IsSound-mesh_of, mesh_made}
use Rattle.tile_links.proofs.TwoWayMeshes.{two_way}
use Rattle.tile_links.proofs.new_tiles.replaced.Goals as goal

are_tiles : (c : goal.After-tiles-2-1) → AreTiles c.args.mesh.now.setting (tiles_after c.args.news.now c.args.mesh.now.tiles)
are_tiles c = AreTiles-after c.args.mesh.now.setting c.args.news.now c.args.mesh.now.tiles c.requires.news c.requires.mesh.tiles c.requires.few

pub tiles_after-requires-clause-order : goal.tiles_after-requires-clause-order
tiles_after-requires-clause-order c = c.requires.mesh.tiles.in_order

pub cross_after-requires-clause-tiles : goal.cross_after-requires-clause-tiles
cross_after-requires-clause-tiles c = rw c.in_ok-tiles.ensures (are_tiles c)

pub cross_after-requires-clause-beside : goal.cross_after-requires-clause-beside
cross_after-requires-clause-beside c =
    ap length (links_of_whole c.args.mesh.now c.requires.mesh)
    ∙ length-map c.args.mesh.now.tiles (cross_links c.args.mesh.now.setting c.args.mesh.now.tiles)
    ∙ sym (length-map c.args.mesh.now.tiles (tile_after c.args.news.now))
    ∙ sym (ap length c.in_ok-tiles.ensures)

pub cross_after-requires-clause-kept : goal.cross_after-requires-clause-kept
cross_after-requires-clause-kept c =
    rw (c.in_ok-tiles.ensures, links_of_whole c.args.mesh.now c.requires.mesh)
    (λ t d e. links_kept c.args.mesh.now.setting c.args.news.now c.args.mesh.now.tiles t d e c.requires.mesh.tiles)

pub cross_after-requires-clause-old : goal.cross_after-requires-clause-old
cross_after-requires-clause-old c =
    rw (c.in_ok-tiles.ensures, links_of_whole c.args.mesh.now c.requires.mesh)
    (λ t d e. links_keep_old c.args.mesh.now.setting c.args.news.now c.args.mesh.now.tiles t d e c.requires.mesh.tiles)

-- the mesh that is handed out
made : (c : goal.After-result-1) → ◌≡◌ {A = Mesh} (record { setting = c.args.mesh.now.setting; tiles = c.in_ok-tiles.tiles; cross = c.in_ok-cross.cross })
    (mesh_of c.args.mesh.now.setting (tiles_after c.args.news.now c.args.mesh.now.tiles))
made c =
    mesh_made c.args.mesh.now.setting (tiles_after c.args.news.now c.args.mesh.now.tiles) c.in_ok-tiles.tiles c.in_ok-cross.cross c.in_ok-tiles.ensures
    c.in_ok-cross.ensures

pub returns-clause-mesh : goal.returns-clause-mesh
returns-clause-mesh c = made c

pub returns-clause-sound : goal.returns-clause-sound
returns-clause-sound c =
    subst IsSound (sym (made c))
    (IsSound-mesh_of c.args.mesh.now.setting (tiles_after c.args.news.now c.args.mesh.now.tiles) c.requires.setting
    (AreTiles-after c.args.mesh.now.setting c.args.news.now c.args.mesh.now.tiles c.requires.news c.requires.mesh.tiles c.requires.few))

pub returns-clause-back : goal.returns-clause-back
returns-clause-back c inner =
    subst IsTwoWay (sym (made c))
    (two_way c.args.mesh.now.setting (tiles_after c.args.news.now c.args.mesh.now.tiles) c.requires.setting
    (AreTiles-after c.args.mesh.now.setting c.args.news.now c.args.mesh.now.tiles c.requires.news c.requires.mesh.tiles c.requires.few) inner)
