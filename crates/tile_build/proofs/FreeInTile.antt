-- The free cells of a layer lie in its tile.
use Rattle.std.proofs.Common.{List, filter}
use Rattle.std.proofs.lemmas.List.Elements.{All-map, All-filter}
use Rattle.nav_ground.specs.declared.cell.Cell.{Cell}
use Rattle.nav_ground.specs.declared.cell.Layer.{Layer}
use Rattle.nav_ground.specs.declared.setting.Setting.{Setting}
use Rattle.nav_ground.specs.declared.shape.Shape.{Shape}
use Rattle.nav_ground.specs.Cells.{IsInTile}
use Rattle.nav_ground.specs.FreeCells.{is_taken, free_cell_of, free_layer_of}
use Rattle.nav_ground.proofs.Words.{is_free}
use Rattle.nav_ground.specs.Tiling.{tile_window, IsInWindow}

pub free_in_tile : (setting : Setting) (layer : Layer) (shapes : List Shape) → IsInTile setting layer.tile layer.cells
    → IsInTile setting (free_layer_of layer shapes).tile (free_layer_of layer shapes).cells
free_in_tile setting layer shapes rules =
    let P = λ (cell : Cell). IsInWindow (tile_window setting layer.tile) cell.at.x cell.at.z in
    record {
      there = rules.there;
      inside = All-map P (free_cell_of (is_taken layer shapes) layer.cells shapes) (filter (is_free layer shapes) layer.cells) (All-filter (is_free layer shapes) P layer.cells rules.inside);
    }
