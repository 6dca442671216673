-- The tile meshes of a ground under obstacles are tiles of its setting.
use Rattle.std.proofs.Common.{◌≡◌, ℕ, ◌<◌, List, length, get_or, ap, ◌∙◌, arith}
use Rattle.std.specs.List.{All}
use Rattle.std.proofs.lemmas.List.{length-map, get_or-map}
use Rattle.std.proofs.lemmas.List.Elements.{All-map, All-weaker}
use Rattle.nav_ground.specs.declared.cell.Layer.{Layer}
use Rattle.nav_ground.specs.declared.history.Ground.{Ground}
use Rattle.nav_ground.specs.declared.setting.Setting.{Setting}
use Rattle.nav_ground.specs.declared.shape.Shape.{Shape}
use Rattle.nav_ground.specs.FreeCells.{free_layer_of}
use Rattle.nav_ground.specs.Grounds.{IsGround, IsLayerOf}
use Rattle.nav_ground.specs.Layers.{layer_of}
use Rattle.nav_ground.specs.Limits.{IsShape}
use Rattle.nav_ground.specs.Tiling.{tile_count}
use Rattle.nav_ground.proofs.FreeLayers.{free_layer_cut}
use Rattle.nav_ground.proofs.LayerLaws.{IsLayerOf-from_ground, length-layers_of_ground, layer_of_ground}
use Rattle.mesh_types.specs.declared.mesh.TileMesh.{TileMesh}
use Rattle.mesh_types.specs.Builds.{tile_mesh_of}
use Rattle.mesh_types.specs.Soundness.{AreTiles}
use Rattle.mesh_types.specs.FitTiles.{IsFit}
use Rattle.mesh_types.proofs.TileMeshes.{mesh_of_tile}
use Rattle.tile_build.specs.Meshes.{tiles_under}
use Rattle.tile_build.proofs.BuildTotals.{few_polygons_of_tiles}
use Rattle.tile_build.proofs.FreeInTile.{free_in_tile}
use Rattle.tile_build.proofs.TileFits.{mesh_fits}

-- each is fit for the setting
tile_fits : (setting : Setting) (shapes : List Shape) (layer : Layer) → All IsShape shapes → IsLayerOf setting layer
    → IsFit setting (tile_mesh_of setting layer shapes)
tile_fits setting shapes layer limits of =
    mesh_fits setting (free_layer_of layer shapes) (free_layer_cut layer shapes of.rules.cells limits) (free_in_tile setting layer shapes of.inside)

-- there is one for each tile
pub length-tiles_under : (ground : Ground) (shapes : List Shape) → IsGround ground → length (tiles_under ground shapes) ≡ tile_count ground.setting
length-tiles_under ground shapes rules' =
    length-map ground.layers (λ (layer : Layer). tile_mesh_of ground.setting layer shapes) ∙ length-layers_of_ground ground rules'

-- the mesh of a tile
pub get_or-tiles_under : (ground : Ground) (shapes : List Shape) (tile : ℕ) (d : TileMesh) → IsGround ground → tile < tile_count ground.setting
    → get_or (tiles_under ground shapes) tile d ≡ tile_mesh_of ground.setting (layer_of ground.setting ground.field tile) shapes
get_or-tiles_under ground shapes tile d rules' there =
    let e = layer_of ground.setting ground.field tile in
    let there' : tile < length ground.layers = omega (arith, length-layers_of_ground ground rules', there) in
    get_or-map (λ (layer : Layer). tile_mesh_of ground.setting layer shapes) ground.layers tile e d there'
    ∙ ap (λ (layer : Layer). tile_mesh_of ground.setting layer shapes) (layer_of_ground ground tile e rules' there)

tile_number : (ground : Ground) (shapes : List Shape) (tile : ℕ) (d : TileMesh) → IsGround ground → tile < tile_count ground.setting
    → (get_or (tiles_under ground shapes) tile d).tile ≡ tile
unfolding layer_of
tile_number ground shapes tile d rules' there =
    ap (λ (t : TileMesh). t.tile) (get_or-tiles_under ground shapes tile d rules' there)
    ∙ mesh_of_tile ground.setting (free_layer_of (layer_of ground.setting ground.field tile) shapes)

-- they are tiles of the setting
pub are_tiles : (ground : Ground) (shapes : List Shape) → IsGround ground → All IsShape shapes → AreTiles ground.setting (tiles_under ground shapes)
are_tiles ground shapes rules' limits = record {
  each = length-tiles_under ground shapes rules';
  in_order = λ t d there. tile_number ground shapes t d rules' (omega (arith, there, length-tiles_under ground shapes rules'));
  fit = All-map (IsFit ground.setting) (λ (layer : Layer). tile_mesh_of ground.setting layer shapes) ground.layers
      (All-weaker (IsLayerOf ground.setting) (λ (layer : Layer). IsFit ground.setting (tile_mesh_of ground.setting layer shapes))
      (λ layer of. tile_fits ground.setting shapes layer limits of) ground.layers (IsLayerOf-from_ground ground rules'));
  few = few_polygons_of_tiles ground shapes rules' limits;
}
