-- The mesh of a ground has at most 8000000 polygons and 56000000 links, whatever the obstacles.
use Rattle.std.proofs.Common.{◌≡◌, ℕ, zero, suc, ◌≤◌, List, length, get_or, ap, subst, arith, Some}
use Rattle.std.specs.Prelude.{All}
use Rattle.std.specs.List.{sum_by}
use Rattle.std.proofs.lemmas.List.Elements.{All-map, All-weaker}
use Rattle.std.proofs.lemmas.List.Sums.{sum_by-le-sum_by}
use Rattle.std.proofs.lemmas.Option.{none-some, same_Some, option_and_then_some, slice_get_within, get_or_from_slice_get}
use Rattle.nav_ground.specs.declared.setting.Setting.{Setting}
use Rattle.nav_ground.specs.declared.cell.FreeLayer.{FreeLayer}
use Rattle.nav_ground.specs.declared.cell.Layer.{Layer}
use Rattle.nav_ground.specs.declared.shape.Shape.{Shape}
use Rattle.nav_ground.specs.declared.history.Entry.{Entry}
use Rattle.nav_ground.specs.declared.history.Ground.{Ground}
use Rattle.nav_ground.specs.declared.history.Request.{Request}
use Rattle.nav_ground.specs.declared.history.Request.TheVariants.{Add, Remove}
use Rattle.nav_ground.specs.Limits.{IsShape}
use Rattle.nav_ground.specs.Cells.{IsCut, IsInTile}
use Rattle.nav_ground.specs.Grounds.{IsGround}
use Rattle.nav_ground.specs.FreeCells.{free_layer_of}
use Rattle.nav_ground.specs.History.{IsRequest, entry_at, shape_in, shape_of, alive_after, shapes_alive}
use Rattle.nav_ground.proofs.FreeLayers.{free_layer_cut}
use Rattle.nav_ground.proofs.LayerLaws.{IsLayerOf-from_ground}
use Rattle.mesh_types.specs.declared.mesh.TileMesh.{TileMesh}
use Rattle.mesh_types.specs.ContourMeshes.{mesh_of_free}
use Rattle.mesh_types.specs.WholeMesh.{mesh_of}
use Rattle.mesh_types.specs.Builds.{tile_mesh_of, mesh_under, build_of}
use Rattle.mesh_types.specs.Soundness.{link_count, polygon_count}
use Rattle.mesh_types.proofs.ContourTotals.{small_contours}
use Rattle.mesh_types.proofs.GroundCells.{few_cells_of_ground, few_free}
use Rattle.mesh_types.proofs.LinkTotals.{HasFewLinks, IsSmall, few_links, few_polygons}
use Rattle.mesh_types.proofs.RunLaws.{All-found}
use Rattle.mesh_types.proofs.TileMeshes.{of_either, mesh_of_cells}
use Rattle.mesh_types.proofs.Totals.{sum_by-map}
use Rattle.mono_regions.proofs.RegionsKept.{regions_kept}
use Rattle.strip_mesh.proofs.LinkTotals.{small_strips}
use Rattle.tile_build.specs.Meshes.{tiles_under}
use Rattle.tile_build.proofs.FreeInTile.{free_in_tile}

-- the mesh of free cells is small, of either kind
small_mesh : (setting : Setting) (free : FreeLayer) → IsCut free.cells → IsInTile setting free.tile free.cells → IsSmall (mesh_of_free setting free)
small_mesh setting free cut in_tile =
    of_either IsSmall setting free (small_strips setting free cut in_tile)
    (λ tile is. small_contours setting free tile cut in_tile (regions_kept free.cells cut) is)

-- every tile of the mesh is small
small_tiles : (ground : Ground) (shapes : List Shape) → IsGround ground → All IsShape shapes → All IsSmall (tiles_under ground shapes)
small_tiles ground shapes rules' limits =
    All-map IsSmall (λ (layer : Layer). tile_mesh_of ground.setting layer shapes) ground.layers
    (λ k d there.
    let layer : Layer = get_or ground.layers k d in
    let of_layer = IsLayerOf-from_ground ground rules' k d there in
    small_mesh ground.setting (free_layer_of layer shapes) (free_layer_cut layer shapes of_layer.rules.cells limits)
    (free_in_tile ground.setting layer shapes of_layer.inside))

-- the tiles have together no more free cells than a field has spans
few_in_tiles : (ground : Ground) (shapes : List Shape) → IsGround ground
    → sum_by (λ (tile : TileMesh). length tile.free.cells) (tiles_under ground shapes) ≤ 2000000
few_in_tiles ground shapes rules' =
    omega (
      arith,
      sum_by-map (λ (tile : TileMesh). length tile.free.cells) (λ (layer : Layer). tile_mesh_of ground.setting layer shapes) ground.layers,
      sum_by-le-sum_by (λ (layer : Layer). length (tile_mesh_of ground.setting layer shapes).free.cells) (λ (layer : Layer). length layer.cells) ground.layers
          few_in_tile,
      few_cells_of_ground ground rules',
    )
  where
    few_in_tile : (layer : Layer) → length (tile_mesh_of ground.setting layer shapes).free.cells ≤ length layer.cells
    few_in_tile layer =
        omega (
          arith,
          few_free layer shapes,
          ap (λ (free : FreeLayer). length free.cells) (mesh_of_cells ground.setting (free_layer_of layer shapes)),
        )

pub few_polygons_of_tiles : (ground : Ground) (shapes : List Shape) → IsGround ground → All IsShape shapes → polygon_count (tiles_under ground shapes) ≤ 8000000
few_polygons_of_tiles ground shapes rules' limits =
    omega (arith, few_polygons (tiles_under ground shapes) (small_tiles ground shapes rules' limits), few_in_tiles ground shapes rules')

pub few_polygons_under : (ground : Ground) (shapes : List Shape) → IsGround ground → All IsShape shapes → polygon_count (mesh_under ground shapes).tiles ≤ 8000000
unfolding mesh_of
few_polygons_under ground shapes rules' limits = few_polygons_of_tiles ground shapes rules' limits

-- each tile has few links
pub few_links_of_tiles : (ground : Ground) (shapes : List Shape) → IsGround ground → All IsShape shapes → All HasFewLinks (tiles_under ground shapes)
few_links_of_tiles ground shapes rules' limits =
    All-weaker IsSmall HasFewLinks (λ tile small. small.links) (tiles_under ground shapes) (small_tiles ground shapes rules' limits)

pub few_links_under : (ground : Ground) (shapes : List Shape) → IsGround ground → All IsShape shapes → link_count (mesh_under ground shapes) ≤ 56000000
few_links_under ground shapes rules' limits =
    omega (
      arith,
      few_links ground.setting (tiles_under ground shapes) (few_links_of_tiles ground shapes rules' limits),
      few_in_tiles ground shapes rules',
    )

-- the shape of an obstacle of a history is within its limits
shape_asked : (request : Request) (shape : Shape) → IsRequest request → shape_in request ≡ Some shape → IsShape shape
shape_asked (Add other) shape limits here = subst IsShape (same_Some other shape here) limits
shape_asked (Remove number) shape limits here = absurd (none-some shape here)

shape_limits : (history : List Entry) (number : ℕ) (shape : Shape) → All (λ (entry : Entry). IsRequest entry.request) history
    → shape_of history number ≡ Some shape → IsShape shape
shape_limits history number shape requests found =
    option_and_then_some (λ (entry : Entry). shape_in entry.request) (entry_at history number) shape found
    (λ entry there here. shape_asked entry.request shape (asked number entry there) here)
  where
    asked : (n : ℕ) (entry : Entry) → entry_at history n ≡ Some entry → IsRequest entry.request
    asked zero entry there = absurd (none-some entry there)
    asked (suc place) entry there =
        subst (λ (e : Entry). IsRequest e.request) (get_or_from_slice_get history place entry entry there)
        (requests place entry (slice_get_within history place entry there))

-- the shapes of the obstacles that are alive are within their limits
pub alive_limits : (history : List Entry) (k : ℕ) → All (λ (entry : Entry). IsRequest entry.request) history → All IsShape (shapes_alive history k)
alive_limits history k requests =
    All-found (shape_of history) IsShape (alive_after history k) (λ i d there shape found. shape_limits history _ shape requests found)

-- the mesh of a ground and a history has at most 8000000 polygons and 56000000 links
pub few_polygons_of_build : (ground : Ground) (history : List Entry) (k : ℕ) → IsGround ground → All (λ (entry : Entry). IsRequest entry.request) history
    → polygon_count (build_of ground history k).tiles ≤ 8000000
unfolding build_of
few_polygons_of_build ground history k rules' requests = few_polygons_under ground (shapes_alive history k) rules' (alive_limits history k requests)

pub few_links_of_build : (ground : Ground) (history : List Entry) (k : ℕ) → IsGround ground → All (λ (entry : Entry). IsRequest entry.request) history
    → link_count (build_of ground history k) ≤ 56000000
unfolding build_of
few_links_of_build ground history k rules' requests = few_links_under ground (shapes_alive history k) rules' (alive_limits history k requests)
