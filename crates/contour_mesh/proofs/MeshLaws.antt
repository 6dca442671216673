-- The mesh of a tile by its parts.
use Rattle.std.proofs.Common.{◌≡◌, ℕ, ◌+◌, ◌-◌, ◌<◌, ◌≤◌, min, length, map, List, Option, Some, None, pos, ap, ◌∙◌, sym, subst, arith}
use Rattle.std.proofs.lemmas.Int.{ints}
use Rattle.std.specs.Prelude.{◌≤ℤ◌, ◌<ℤ◌}
use Rattle.std.specs.Option.{option_map}
use Rattle.nav_ground.specs.declared.setting.Setting.{Setting}
use Rattle.nav_ground.specs.declared.cell.Cell.{Cell}
use Rattle.nav_ground.specs.declared.cell.Window.{Window}
use Rattle.nav_ground.specs.declared.cell.FreeLayer.{FreeLayer}
use Rattle.nav_ground.specs.Limits.{IsSetting}
use Rattle.nav_ground.specs.Cells.{IsCut, IsInTile}
use Rattle.nav_ground.specs.Tiling.{corner_x, corner_z, tile_window}
use Rattle.mesh_types.specs.declared.region.Regions.{Regions}
use Rattle.mesh_types.specs.declared.region.RegionPart.{RegionPart}
use Rattle.mesh_types.specs.declared.mesh.TileMesh.{TileMesh}
use Rattle.mesh_types.specs.Regions.{AreRegionsOf, regions_of}
use Rattle.mesh_types.specs.declared.region.PortalEdge.{PortalEdge}
use Rattle.mesh_types.specs.declared.polygon.Polygon.{Polygon}
use Rattle.mesh_types.specs.declared.links.Link.{Link}
use Rattle.mesh_types.specs.declared.mesh.RimEdge.{RimEdge}
use Rattle.mesh_types.specs.ContourMeshes.{contour_mesh_of, part_storeys, parts_mesh}
use Rattle.mesh_types.specs.Storeys.{TileStoreys}
use Rattle.mesh_types.specs.Doors.{door_links, doors_of}
use Rattle.mesh_types.specs.DoorRim.{door_rim}
use Rattle.mesh_types.specs.Facets.{facet_polygon, facets_of}
use Rattle.mesh_types.specs.Parts.{parts_of}
use Rattle.mesh_types.proofs.DoorTotals.{few_facets}
use Rattle.mesh_types.proofs.FacetLaws.{parts_are}
use Rattle.contour_mesh.specs.Sides.{IsFieldWindow}

-- the columns of a tile are columns of the field
column_fits : (edge n : ℕ) → edge ≤ 1024 → pos (min edge n - 1) <ℤ pos 1024
column_fits edge n small = lower (min edge n - 1) (omega (arith, small))
  where
    lower : (m : ℕ) → m < 1024 → pos m <ℤ pos 1024
    lower m less = omega (arith, ints)

column_is : (n : ℕ) → pos 0 ≤ℤ pos n
column_is n = omega (arith, ints)

pub window_fits : (setting : Setting) (tile : ℕ) (window : Window) → IsSetting setting → window ≡ tile_window setting tile → IsFieldWindow window
window_fits setting tile window rules' is =
    subst IsFieldWindow (sym is) (record {
      right = column_is (min setting.width (corner_x setting tile + setting.tile) - 1);
      right_most = column_fits setting.width (corner_x setting tile + setting.tile) rules'.width;
      top = column_is (min setting.depth (corner_z setting tile + setting.tile) - 1);
      top_most = column_fits setting.depth (corner_z setting tile + setting.tile) rules'.depth;
    })

module _ (setting : Setting) (free : FreeLayer) (cut : IsCut free.cells) (in_tile : IsInTile setting free.tile free.cells)
    (regions : Regions) (are : AreRegionsOf free.cells regions) (window : Window) (window_is : window ≡ tile_window setting free.tile)
    (lent : List Cell) (lent_is : lent ≡ free.cells) where
  parts_at : (o : Option (List RegionPart)) → o ≡ parts_of window setting.error lent regions
      → parts_of (tile_window setting free.tile) setting.error free.cells regions ≡ o
  parts_at o is =
      sym (is ∙ ap (λ (w : Window). parts_of w setting.error lent regions) window_is
      ∙ ap (λ (cells : List Cell). parts_of (tile_window setting free.tile) setting.error cells regions) lent_is)

  pub no_more_parts : (parts : List RegionPart) → Some parts ≡ parts_of window setting.error lent regions → length parts ≤ length regions.regions
  no_more_parts parts is =
      (parts_are (tile_window setting free.tile) free.cells cut.rules regions are in_tile.inside setting.error parts (parts_at (Some parts) is)).few

  pub few_polygons : (parts : List RegionPart) → Some parts ≡ parts_of window setting.error lent regions → length (facets_of parts) ≤ 8000000
  few_polygons parts is =
      let few = few_facets (tile_window setting free.tile) setting.error free.cells regions parts are (parts_at (Some parts) is) in
      omega (arith, few, cut.rules.few)

  pub no_mesh : regions ≡ regions_of free.cells → None ≡ parts_of window setting.error lent regions → contour_mesh_of setting free ≡ None
  unfolding contour_mesh_of
  no_mesh own is =
      ap (λ (rs : Regions). option_map (parts_mesh setting free rs) (parts_of (tile_window setting free.tile) setting.error free.cells rs)) (sym own)
      ∙ ap (option_map (parts_mesh setting free regions)) (parts_at None is)

  pub mesh_is : (parts : List RegionPart) (mesh : TileMesh) → regions ≡ regions_of free.cells → Some parts ≡ parts_of window setting.error lent regions
      → mesh ≡ parts_mesh setting free regions parts → contour_mesh_of setting free ≡ Some mesh
  unfolding contour_mesh_of
  mesh_is parts mesh own is made =
      ap (λ (rs : Regions). option_map (parts_mesh setting free rs) (parts_of (tile_window setting free.tile) setting.error free.cells rs)) (sym own)
      ∙ ap (option_map (parts_mesh setting free regions)) (parts_at (Some parts) is)
      ∙ ap (λ (m : TileMesh). Some m) (sym made)

-- a mesh that is made part by part
pub mesh_of_parts : (setting : Setting) (free : FreeLayer) (regions : Regions) (parts : List RegionPart) (window : Window) (lent : List Cell) (doors : List PortalEdge)
    (polys : List Polygon) (links : List Link) (rim : List RimEdge) (storeys : TileStoreys) → window ≡ tile_window setting free.tile → lent ≡ free.cells
    → doors ≡ doors_of (facets_of parts) → polys ≡ map (facet_polygon lent regions) (facets_of parts) → links ≡ door_links free.tile doors
    → rim ≡ door_rim window lent regions doors → storeys ≡ part_storeys lent regions parts
    → record { tile = free.tile; free = free; polys = polys; links = links; rim = rim; storeys = storeys } ≡ parts_mesh setting free regions parts
unfolding parts_mesh
mesh_of_parts setting free regions parts window lent doors polys links rim storeys window_is lent_is doors_is polys_are links_are rim_is storeys_are =
    let polys' = polys_are ∙ ap (λ (cells : List Cell). map (facet_polygon cells regions) (facets_of parts)) lent_is in
    let links' = links_are ∙ ap (door_links free.tile) doors_is in
    let rim' = rim_is ∙ ap (λ (w : Window). door_rim w lent regions doors) window_is
    ∙ ap (λ (cells : List Cell). door_rim (tile_window setting free.tile) cells regions doors) lent_is
    ∙ ap (door_rim (tile_window setting free.tile) free.cells regions) doors_is in
    let storeys' = storeys_are ∙ ap (λ (cells : List Cell). part_storeys cells regions parts) lent_is in
    λ i. record { tile = free.tile; free = free; polys = polys' i; links = links' i; rim = rim' i; storeys = storeys' i }
