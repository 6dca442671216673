-- A tile by outlines has few polygons and few links.
use Rattle.std.proofs.Common.{◌≡◌, List, refl, subst, arith, Option, Some, None}
use Rattle.std.specs.Option.{option_map}
use Rattle.std.proofs.lemmas.List.{length-map}
use Rattle.std.proofs.lemmas.Option.{none-some, same_Some}
use Rattle.nav_ground.specs.declared.setting.Setting.{Setting}
use Rattle.nav_ground.specs.declared.cell.FreeLayer.{FreeLayer}
use Rattle.nav_ground.specs.declared.cell.Window.{Window}
use Rattle.nav_ground.specs.Cells.{IsCut, IsInTile}
use Rattle.nav_ground.specs.Tiling.{tile_window}
use Rattle.mesh_types.specs.declared.region.RegionPart.{RegionPart}
use Rattle.mesh_types.specs.declared.region.Regions.{Regions}
use Rattle.mesh_types.specs.declared.mesh.TileMesh.{TileMesh}
use Rattle.mesh_types.specs.ContourMeshes.{contour_mesh_of, parts_mesh}
use Rattle.mesh_types.specs.Doors.{doors_of}
use Rattle.mesh_types.specs.Facets.{facet_polygon, facets_of}
use Rattle.mesh_types.specs.Parts.{parts_of}
use Rattle.mesh_types.specs.Regions.{AreRegionsOf, regions_of}
use Rattle.mesh_types.proofs.RimShares.{few_positions, named_once}
use Rattle.mesh_types.proofs.DoorTotals.{few_door_links, few_doors, few_facets}
use Rattle.mesh_types.proofs.LinkTotals.{IsSmall}

small_of_parts : (setting : Setting) (free : FreeLayer) (regions : Regions) (parts : List RegionPart) → IsCut free.cells → IsInTile setting free.tile free.cells
    → AreRegionsOf free.cells regions → parts_of (tile_window setting free.tile) setting.error free.cells regions ≡ Some parts
    → IsSmall (parts_mesh setting free regions parts)
unfolding parts_mesh
small_of_parts setting free regions parts cut in_tile are is =
    let window : Window = tile_window setting free.tile in
    record {
      polys = omega (
        arith,
        length-map (facets_of parts) (facet_polygon free.cells regions),
        few_facets window setting.error free.cells regions parts are is,
      );
      links = record {
        inner = omega (
          arith,
          few_door_links free.tile (doors_of (facets_of parts)),
          few_doors window setting.error free.cells regions parts are is,
        );
        positions = λ side. few_positions window free.cells regions (facets_of parts) side;
        once = λ side position level small. named_once window free.cells regions (facets_of parts) side position level small cut in_tile.inside;
      };
    }

pub small_contours : (setting : Setting) (free : FreeLayer) (tile : TileMesh) → IsCut free.cells → IsInTile setting free.tile free.cells
    → AreRegionsOf free.cells (regions_of free.cells) → contour_mesh_of setting free ≡ Some tile → IsSmall tile
unfolding contour_mesh_of
small_contours setting free tile cut in_tile are is = by_parts (parts_of (tile_window setting free.tile) setting.error free.cells (regions_of free.cells)) (λ parts made. small_of_parts setting free (regions_of free.cells) parts cut in_tile are made) is
  where
    by_parts : (found : Option (List RegionPart))
        → ((parts : List RegionPart) → found ≡ Some parts → IsSmall (parts_mesh setting free (regions_of free.cells) parts))
        → option_map (parts_mesh setting free (regions_of free.cells)) found ≡ Some tile → IsSmall tile
    by_parts None small is = absurd (none-some tile is)
    by_parts (Some parts) small is = subst IsSmall (same_Some (parts_mesh setting free (regions_of free.cells) parts) tile is) (small parts refl)
