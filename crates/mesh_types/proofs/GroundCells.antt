-- A ground has no more cells than its field has spans, and obstacles leave no more free.
use Rattle.std.proofs.Common.{ℕ, ◌≤◌, cond, List, length, get_or, ap, arith}
use Rattle.std.specs.List.{sum_by, range_with_len}
use Rattle.std.proofs.lemmas.List.{length-map}
use Rattle.std.proofs.lemmas.List.Sums.{length-filter, count_by-le-length, sum_by-le-sum_by}
use Rattle.nav_ground.specs.declared.setting.Setting.{Setting}
use Rattle.nav_ground.specs.declared.field.Field.{Field}
use Rattle.nav_ground.specs.declared.cell.Cell.{Cell}
use Rattle.nav_ground.specs.declared.cell.Layer.{Layer}
use Rattle.nav_ground.specs.declared.shape.Shape.{Shape}
use Rattle.nav_ground.specs.declared.history.Ground.{Ground}
use Rattle.nav_ground.specs.Limits.{IsSetting}
use Rattle.nav_ground.specs.Fields.{IsField}
use Rattle.nav_ground.specs.Tiling.{tile_count, tile_window, is_in_window}
use Rattle.nav_ground.specs.Clearance.{is_kept, cells_in}
use Rattle.nav_ground.specs.Layers.{cells_of, kept_cells_of, layer_cell, layer_of, layers_of}
use Rattle.nav_ground.specs.Grounds.{IsGround}
use Rattle.nav_ground.specs.FreeCells.{is_taken, free_cell_of, free_layer_of}
use Rattle.nav_ground.proofs.Words.{is_free}
use Rattle.nav_ground.proofs.Kept.{few_kept}
use Rattle.nav_ground.proofs.LayerLaws.{cells_rules}
use Rattle.mesh_types.proofs.Totals.{sum_by-map, sum_by-one, sum_by-shared, once_in_range}
use Rattle.mesh_types.proofs.OneTile.{one_tile}

-- how many cells layers have together
abbrev pub cell_count : List Layer → ℕ
cell_count layers = sum_by (λ (layer : Layer). length layer.cells) layers

-- each kept cell of a field is in the layer of one tile at most
few_in_layers : (setting : Setting) (field : Field) → IsSetting setting → IsField field → cell_count (layers_of setting field) ≤ 2000000
unfolding layers_of layer_of
few_in_layers setting field limits rules' =
    let kept : List Cell = kept_cells_of setting field in
    let count : ℕ = tile_count setting in
    let has : ℕ → Cell → ℕ = λ tile (cell : Cell). cond (is_in_window (tile_window setting tile) cell.at.x cell.at.z) 1 0 in
    let parts = sum_by-map (λ (layer : Layer). length layer.cells) (layer_of setting field) (range_with_len 0 count) in
    let counted = sum_by-le-sum_by (λ tile. length (layer_of setting field tile).cells) (λ tile. sum_by (has tile) kept) (range_with_len 0 count)
    (λ tile. omega (
      arith,
      length-map (cells_in (tile_window setting tile) kept) (layer_cell kept),
      length-filter (λ (cell : Cell). is_in_window (tile_window setting tile) cell.at.x cell.at.z) kept,
    )) in
    let shared = sum_by-shared has (λ cell. 1) (range_with_len 0 count) kept
    (λ k d there. once_in_range (λ tile. is_in_window (tile_window setting tile) (get_or kept k d).at.x (get_or kept k d).at.z) 1 0 count
    (λ i j less below in_i in_j. omega (arith, less, one_tile setting i j (get_or kept k d).at.x (get_or kept k d).at.z limits in_i in_j))) in
    let cells = cells_of setting field in
    let test = is_kept cells setting.agent.radius in
    omega (arith, parts, counted, shared, sum_by-one kept, length-filter test cells, count_by-le-length test cells, (cells_rules setting field limits rules').rules.few)

pub few_cells_of_ground : (ground : Ground) → IsGround ground → cell_count ground.layers ≤ 2000000
few_cells_of_ground ground rules' =
    omega (arith, ap cell_count rules'.layers, few_in_layers ground.setting ground.field rules'.setting rules'.field)

-- obstacles leave no more free cells than there are cells
pub few_free : (layer : Layer) (shapes : List Shape) → length (free_layer_of layer shapes).cells ≤ length layer.cells
few_free layer shapes = few_kept (free_cell_of (is_taken layer shapes) layer.cells shapes) (is_free layer shapes) layer.cells
