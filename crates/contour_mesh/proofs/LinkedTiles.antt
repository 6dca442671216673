-- In the mesh of a tile by the outlines of its regions no passage is missing, and links lead there and back.
use Rattle.std.proofs.Common.{◌≡◌, ℕ, List, refl, sym, subst, Option, Some, None}
use Rattle.std.specs.Prelude.{All, Contains}
use Rattle.std.specs.Option.{option_map}
use Rattle.nav_ground.specs.declared.setting.Setting.{Setting}
use Rattle.nav_ground.specs.declared.cell.FreeLayer.{FreeLayer}
use Rattle.nav_ground.specs.declared.cell.Window.{Window}
use Rattle.nav_ground.specs.Cells.{IsCut, IsInTile}
use Rattle.nav_ground.specs.Tiling.{tile_window}
use Rattle.mesh_types.specs.declared.region.Regions.{Regions}
use Rattle.mesh_types.specs.declared.region.PortalEdge.{PortalEdge}
use Rattle.mesh_types.specs.declared.region.RegionPart.{RegionPart}
use Rattle.mesh_types.specs.declared.mesh.TileMesh.{TileMesh}
use Rattle.mesh_types.specs.Passages.{AreTwoWay}
use Rattle.mesh_types.specs.Regions.{AreRegionsOf, regions_of}
use Rattle.mesh_types.specs.FitTiles.{IsFit}
use Rattle.mesh_types.specs.ContourMeshes.{contour_mesh_of, parts_mesh}
use Rattle.mesh_types.specs.Doors.{doors_of}
use Rattle.mesh_types.specs.Facets.{facets_of}
use Rattle.mesh_types.specs.Parts.{parts_of}
use Rattle.mesh_types.proofs.DoorLaws.{IsDoorOf, doors_are}
use Rattle.mesh_types.proofs.FacetLaws.{IsFacetOf, facets_are, parts_are}
use Rattle.mono_regions.proofs.RegionsKept.{regions_kept}
use Rattle.contour_mesh.specs.Linked.{IsOfOutlines, LinksFacing}
use Rattle.contour_mesh.proofs.DoorPairs.{facing_linked, links_two_way}
use Rattle.contour_mesh.proofs.SoundParts.{IsSoundPart, parts_sound}

-- links lead there and back, and facing doors are linked
pub record IsLinked (setting : Setting) (tile : TileMesh) : Type 0 where
  pub back : AreTwoWay tile.links
  pub linked : LinksFacing setting tile

module _ (setting : Setting) (free : FreeLayer) (cut : IsCut free.cells) (in_tile : IsInTile setting free.tile free.cells)
    (are : AreRegionsOf free.cells (regions_of free.cells)) where
  abbrev window : Window
  window = tile_window setting free.tile

  abbrev regions : Regions
  regions = regions_of free.cells

  parts_linked : (parts : List RegionPart) → parts_of window setting.error free.cells regions ≡ Some parts → IsLinked setting (parts_mesh setting free regions parts)
  unfolding parts_mesh
  parts_linked parts of =
      record {
        back = links_two_way window parts sound each doors free.tile;
        linked = λ other a b facing.
            let same : other ≡ parts = one (parts_of window setting.error free.cells regions) other parts facing.made of in
            let held : PortalEdge → List RegionPart → Type 0 = λ door some. Contains (doors_of (facets_of some)) door in
            facing_linked window parts sound each doors free.tile a b (subst (held a) same facing.has) (subst (held b) same facing.has_other) facing.facing;
      }
    where
      sound : All IsSoundPart parts
      sound = parts_sound window setting.error free.cells cut.rules regions are parts of

      each : All (IsFacetOf window parts) (facets_of parts)
      each = facets_are window parts (parts_are window free.cells cut.rules regions are in_tile.inside setting.error parts of).each

      doors : All (IsDoorOf parts (facets_of parts)) (doors_of (facets_of parts))
      doors = doors_are window parts (facets_of parts) each

      one : (o : Option (List RegionPart)) (xs ys : List RegionPart) → o ≡ Some xs → o ≡ Some ys → xs ≡ ys
      one o xs ys is is' = cc

  -- the mesh of a tile by the outlines of its regions, where it has one
  pub contour_linked : (tile : TileMesh) → contour_mesh_of setting free ≡ Some tile → IsLinked setting tile
  unfolding contour_mesh_of
  contour_linked tile is = by_case (parts_of window setting.error free.cells regions) refl is
    where
      by_case : (o : Option (List RegionPart)) → parts_of window setting.error free.cells regions ≡ o → option_map (parts_mesh setting free regions) o ≡ Some tile → IsLinked setting tile
      by_case None of same = absurd cc
      by_case (Some parts) of same =
          let at : parts_mesh setting free regions parts ≡ tile = cc in
          subst (IsLinked setting) at (parts_linked parts of)

-- each fit tile that is built by outlines
pub outlines_linked : (setting : Setting) (tile : TileMesh) → IsFit setting tile → IsOfOutlines setting tile → LinksFacing setting tile
outlines_linked setting tile fit is =
    let P : ℕ → Type 0 = λ n. IsInTile setting n tile.free.cells in
    (contour_linked setting tile.free fit.free (subst P (sym fit.of_tile) fit.in_tile) (regions_kept tile.free.cells fit.free) tile is).linked
