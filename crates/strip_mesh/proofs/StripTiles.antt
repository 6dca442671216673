-- What holds of each fit tile that is built as strips.
use Rattle.std.proofs.Common.{◌≡◌, ℕ, ◌∙◌, ap, refl, sym, subst}
use Rattle.nav_ground.specs.declared.setting.Setting.{Setting}
use Rattle.nav_ground.specs.declared.cell.FreeLayer.{FreeLayer}
use Rattle.nav_ground.specs.Cells.{IsInTile}
use Rattle.mesh_types.specs.declared.mesh.TileMesh.{TileMesh}
use Rattle.mesh_types.specs.Passages.{AreTwoWay, LinksConnected, ListsCrossings}
use Rattle.mesh_types.specs.FitTiles.{IsFit}
use Rattle.mesh_types.specs.StripCover.{CoversCells, IsOfStrips}
use Rattle.mesh_types.specs.StripMeshes.{strip_mesh_of}
use Rattle.strip_mesh.proofs.ConnectionLaws.{strips_linked, strips_back}
use Rattle.strip_mesh.proofs.CoverLaws.{strips_cover}
use Rattle.strip_mesh.proofs.CrossingLaws.{strips_list}

keeps_free : (setting : Setting) (free : FreeLayer) → (strip_mesh_of setting free).free ≡ free
unfolding strip_mesh_of
keeps_free setting free = refl

pub built_as_strips : (setting : Setting) (free : FreeLayer) (tile : TileMesh) → tile ≡ strip_mesh_of setting free → IsOfStrips setting tile
built_as_strips setting free tile is = is ∙ ap (strip_mesh_of setting) (sym (ap (λ (t : TileMesh). t.free) is ∙ keeps_free setting free))

pub tile_covers : (setting : Setting) (tile : TileMesh) → IsFit setting tile → IsOfStrips setting tile → CoversCells tile
tile_covers setting tile fit is = subst CoversCells (sym is) (strips_cover setting tile.free fit.free)

pub tile_linked : (setting : Setting) (tile : TileMesh) → IsFit setting tile → IsOfStrips setting tile → LinksConnected tile
tile_linked setting tile fit is = subst LinksConnected (sym is) (strips_linked setting tile.free fit.free)

pub tile_back : (setting : Setting) (tile : TileMesh) → IsFit setting tile → IsOfStrips setting tile → AreTwoWay tile.links
tile_back setting tile fit is = subst (λ (other : TileMesh). AreTwoWay other.links) (sym is) (strips_back setting tile.free fit.free)

pub tile_lists : (setting : Setting) (tile : TileMesh) → IsFit setting tile → IsOfStrips setting tile → ListsCrossings setting tile
tile_lists setting tile fit is =
    let P : ℕ → Type 0 = λ n. IsInTile setting n tile.free.cells in
    subst (ListsCrossings setting) (sym is) (strips_list setting tile.free fit.free (subst P (sym fit.of_tile) fit.in_tile))
