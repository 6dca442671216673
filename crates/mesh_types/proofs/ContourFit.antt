-- The mesh of a tile by the outlines of its regions is fit.
use Rattle.std.proofs.Common.{◌≡◌, List, get_or, refl, subst, Option, Some, None}
use Rattle.std.specs.Prelude.{All}
use Rattle.std.specs.Option.{option_map}
use Rattle.std.proofs.lemmas.List.Elements.{All-map}
use Rattle.nav_ground.specs.declared.setting.Setting.{Setting}
use Rattle.nav_ground.specs.declared.cell.FreeLayer.{FreeLayer}
use Rattle.nav_ground.specs.Cells.{IsCut, IsInTile}
use Rattle.nav_ground.specs.Tiling.{tile_window}
use Rattle.mesh_types.specs.declared.region.Regions.{Regions}
use Rattle.mesh_types.specs.declared.region.PortalEdge.{PortalEdge}
use Rattle.mesh_types.specs.declared.region.RegionPart.{RegionPart}
use Rattle.mesh_types.specs.declared.polygon.Polygon.{Polygon}
use Rattle.mesh_types.specs.declared.mesh.TileMesh.{TileMesh}
use Rattle.mesh_types.specs.Regions.{AreRegionsOf, regions_of}
use Rattle.mesh_types.specs.FitTiles.{IsFit, IsInSquare, IsPolygon}
use Rattle.mesh_types.specs.Facets.{Facet, facet_polygon, facets_of}
use Rattle.mesh_types.specs.ContourMeshes.{contour_mesh_of, parts_mesh}
use Rattle.mesh_types.specs.Doors.{doors_of}
use Rattle.mesh_types.specs.Parts.{parts_of}
use Rattle.mesh_types.proofs.DoorLaws.{IsDoorOf, doors_are, links_lead}
use Rattle.mesh_types.proofs.DoorRims.{rim_fits}
use Rattle.mesh_types.proofs.FacetLaws.{IsFacetOf, facet_inside, facet_sound, facets_are, parts_are}

-- the mesh by the parts of regions
pub parts_mesh_fits : (setting : Setting) (free : FreeLayer) (regions : Regions) (parts : List RegionPart) → IsCut free.cells → IsInTile setting free.tile free.cells
    → AreRegionsOf free.cells regions → parts_of (tile_window setting free.tile) setting.error free.cells regions ≡ Some parts
    → IsFit setting (parts_mesh setting free regions parts)
unfolding parts_mesh
parts_mesh_fits setting free regions parts cut in_tile are is =
    let window = tile_window setting free.tile in
    let of = parts_are window free.cells cut.rules regions are in_tile.inside setting.error parts is in
    let facets : List Facet = facets_of parts in
    let each : All (IsFacetOf window parts) facets = facets_are window parts of.each in
    let doors : List PortalEdge = doors_of facets in
    let all : All (IsDoorOf parts facets) doors = doors_are window parts facets each in
    record {
      of_tile = refl;
      free = cut;
      in_tile = in_tile;
      polys = All-map IsPolygon (facet_polygon free.cells regions) facets
          (λ k d there. facet_sound window free.cells cut.rules regions are parts of.few (get_or facets k d) (each k d there));
      square = All-map (λ (polygon : Polygon). All (IsInSquare window) polygon.corners) (facet_polygon free.cells regions) facets
          (λ k d there. facet_inside window free.cells cut.rules regions are parts of.few (get_or facets k d) (each k d there));
      links = links_lead free.cells regions window parts facets each doors all (parts_mesh setting free regions parts) refl;
      rim = rim_fits setting free.cells regions parts facets (parts_mesh setting free regions parts) each doors all refl;
    }

-- the mesh of a tile by the outlines of its regions, where it has one
pub contour_mesh_fits : (setting : Setting) (free : FreeLayer) (tile : TileMesh) → IsCut free.cells → IsInTile setting free.tile free.cells
    → AreRegionsOf free.cells (regions_of free.cells) → contour_mesh_of setting free ≡ Some tile → IsFit setting tile
unfolding contour_mesh_of
contour_mesh_fits setting free tile cut in_tile are is = by_case (parts_of (tile_window setting free.tile) setting.error free.cells regions) refl is
  where
    regions : Regions
    regions = regions_of free.cells

    by_case : (o : Option (List RegionPart)) → parts_of (tile_window setting free.tile) setting.error free.cells regions ≡ o
        → option_map (parts_mesh setting free regions) o ≡ Some tile → IsFit setting tile
    by_case None of same = absurd cc
    by_case (Some parts) of same =
        let at : parts_mesh setting free regions parts ≡ tile = cc in
        subst (IsFit setting) at (parts_mesh_fits setting free regions parts cut in_tile are of)
