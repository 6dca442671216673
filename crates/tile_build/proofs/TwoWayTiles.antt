-- The links inside each tile of a build lead there and back, and its rim lists each crossing once.
use Rattle.std.proofs.Common.{List, get_or}
use Rattle.std.specs.Prelude.{All}
use Rattle.std.proofs.lemmas.List.Elements.{All-map}
use Rattle.nav_ground.specs.declared.setting.Setting.{Setting}
use Rattle.nav_ground.specs.declared.cell.FreeLayer.{FreeLayer}
use Rattle.nav_ground.specs.declared.cell.Layer.{Layer}
use Rattle.nav_ground.specs.declared.history.Ground.{Ground}
use Rattle.nav_ground.specs.declared.shape.Shape.{Shape}
use Rattle.nav_ground.specs.Limits.{IsShape}
use Rattle.nav_ground.specs.Cells.{IsCut, IsInTile}
use Rattle.nav_ground.specs.Grounds.{IsGround}
use Rattle.nav_ground.specs.FreeCells.{free_layer_of}
use Rattle.nav_ground.proofs.FreeLayers.{free_layer_cut}
use Rattle.nav_ground.proofs.LayerLaws.{IsLayerOf-from_ground}
use Rattle.mesh_types.specs.declared.mesh.TileMesh.{TileMesh}
use Rattle.mesh_types.specs.Builds.{tile_mesh_of}
use Rattle.mesh_types.specs.ContourMeshes.{mesh_of_free}
use Rattle.mesh_types.specs.Passages.{AreTwoWay, ListsCrossings}
use Rattle.mesh_types.proofs.TileMeshes.{of_either}
use Rattle.mono_regions.proofs.RegionsKept.{regions_kept}
use Rattle.strip_mesh.proofs.ConnectionLaws.{strips_back}
use Rattle.strip_mesh.proofs.CrossingLaws.{strips_list}
use Rattle.contour_mesh.proofs.LinkedTiles.{contour_linked}
use Rattle.contour_mesh.proofs.ListedCells.{contours_list}
use Rattle.tile_build.specs.Meshes.{tiles_under}
use Rattle.tile_build.proofs.FreeInTile.{free_in_tile}

-- the mesh of free cells, of either kind
pub mesh_two_way : (setting : Setting) (free : FreeLayer) → IsCut free.cells → IsInTile setting free.tile free.cells → AreTwoWay (mesh_of_free setting free).links
mesh_two_way setting free cut in_tile =
    of_either (λ (tile : TileMesh). AreTwoWay tile.links) setting free (strips_back setting free cut)
    (λ tile is. (contour_linked setting free cut in_tile (regions_kept free.cells cut) tile is).back)

-- and so is each of its crossings listed
pub mesh_lists : (setting : Setting) (free : FreeLayer) → IsCut free.cells → IsInTile setting free.tile free.cells → ListsCrossings setting (mesh_of_free setting free)
mesh_lists setting free cut in_tile =
    of_either (ListsCrossings setting) setting free (strips_list setting free cut in_tile)
    (contours_list setting free cut in_tile (regions_kept free.cells cut))

-- what holds of the mesh of cut free cells of a tile holds of every tile of a ground under obstacles
each_tile : (P : TileMesh → Type 0) (ground : Ground) (shapes : List Shape) → IsGround ground → All IsShape shapes
    → ((free : FreeLayer) → IsCut free.cells → IsInTile ground.setting free.tile free.cells → P (mesh_of_free ground.setting free)) → All P (tiles_under ground shapes)
each_tile P ground shapes rules' limits holds =
    All-map P (λ (layer : Layer). tile_mesh_of ground.setting layer shapes) ground.layers
    (λ k d there.
    let layer : Layer = get_or ground.layers k d in
    let of_layer = IsLayerOf-from_ground ground rules' k d there in
    holds (free_layer_of layer shapes) (free_layer_cut layer shapes of_layer.rules.cells limits) (free_in_tile ground.setting layer shapes of_layer.inside))

-- each link inside a tile of a build has its reverse
pub tiles_two_way : (ground : Ground) (shapes : List Shape) → IsGround ground → All IsShape shapes
    → All (λ (tile : TileMesh). AreTwoWay tile.links) (tiles_under ground shapes)
tiles_two_way ground shapes rules' limits =
    each_tile (λ (tile : TileMesh). AreTwoWay tile.links) ground shapes rules' limits (mesh_two_way ground.setting)

-- each free cell of a tile of a build with a kept neighbour across a side is listed once by the tile's rim
pub tiles_list : (ground : Ground) (shapes : List Shape) → IsGround ground → All IsShape shapes → All (ListsCrossings ground.setting) (tiles_under ground shapes)
tiles_list ground shapes rules' limits = each_tile (ListsCrossings ground.setting) ground shapes rules' limits (mesh_lists ground.setting)
