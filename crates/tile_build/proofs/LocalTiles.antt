-- The mesh of a layer under shapes is that under the shapes that touch its tile.
use Rattle.std.proofs.Common.{◌≡◌, ℕ, List, [], ap, ◌∙◌, sym, inl, inr}
use Rattle.std.specs.Prelude.{◌⊎◌}
use Rattle.std.proofs.lemmas.List.Elements.{All-nil}
use Rattle.nav_ground.specs.declared.cell.Cell.{Cell}
use Rattle.nav_ground.specs.FreeCells.{free_layer_of}
use Rattle.nav_ground.specs.Tiling.{IsInWindow, margin_of, tile_window, widened}
use Rattle.nav_ground.specs.declared.cell.Layer.{Layer}
use Rattle.nav_ground.specs.declared.setting.Setting.{Setting}
use Rattle.nav_ground.specs.declared.shape.Shape.{Shape}
use Rattle.nav_ground.specs.Cells.{IsInTile}
use Rattle.nav_ground.specs.Grounds.{IsWideWithin}
use Rattle.nav_ground.specs.Touching.{touching_shapes}
use Rattle.nav_ground.proofs.Locality.{free_layer_local}
use Rattle.mesh_types.specs.Builds.{tile_mesh_of}
use Rattle.mesh_types.specs.ContourMeshes.{mesh_of_free}

pub tile_mesh_local : (setting : Setting) (layer : Layer) (shapes : List Shape) → IsInTile setting layer.tile layer.cells → IsWideWithin setting layer
    → tile_mesh_of setting layer (touching_shapes setting layer.tile shapes) ≡ tile_mesh_of setting layer shapes
tile_mesh_local setting layer shapes inside within = ap (mesh_of_free setting) (free_layer_local setting layer shapes inside within)

-- a layer with the radius 0 and no wide cells
bare : Layer → Layer
bare layer = record layer { radius = 0; wide = [] }

-- where the radius is 0 nobody looks at the wide cells
bare_free : (layer : Layer) → layer.radius ≡ 0 → (shapes : List Shape) → free_layer_of layer shapes ≡ free_layer_of (bare layer) shapes
unfolding bare
bare_free layer none shapes = ap (λ (radius : ℕ). free_layer_of (record layer { radius = radius }) shapes) none

bare_within : (setting : Setting) (layer : Layer) → IsWideWithin setting (bare layer)
unfolding bare
bare_within setting layer =
    All-nil (λ (cell : Cell). IsInWindow (widened (tile_window setting layer.tile) (margin_of setting)) cell.at.x cell.at.z)

-- so the same holds there of any wide cells
pub tile_mesh_near : (setting : Setting) (layer : Layer) (shapes : List Shape) → IsInTile setting layer.tile layer.cells
    → (layer.radius ≡ 0) ⊎ IsWideWithin setting layer
    → tile_mesh_of setting layer (touching_shapes setting layer.tile shapes) ≡ tile_mesh_of setting layer shapes
unfolding bare
tile_mesh_near setting layer shapes inside (inr within) = tile_mesh_local setting layer shapes inside within
tile_mesh_near setting layer shapes inside (inl none) =
    ap (mesh_of_free setting) (bare_free layer none (touching_shapes setting layer.tile shapes))
    ∙ tile_mesh_local setting (bare layer) shapes inside (bare_within setting layer)
    ∙ ap (mesh_of_free setting) (sym (bare_free layer none shapes))
