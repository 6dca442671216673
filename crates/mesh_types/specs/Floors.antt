-- Floors: where one stands in a column of cells, from the bottom up.
use Rattle.std.specs.Prelude.{ℕ, List, map, filter}
use Rattle.std.specs.List.{flat_map}
use Rattle.nav_base.specs.declared.point.FloorAt.{FloorAt}
use Rattle.nav_ground.specs.declared.cell.Cell.{Cell}
use Rattle.nav_ground.specs.declared.cell.FreeLayer.{FreeLayer}
use Rattle.nav_ground.specs.CellColumns.{is_in_column}

-- the floors of a column in a list of free layers: of each layer in order, the height and the area of each of its cells in the column
abbrev pub floors_at : ℕ → ℕ → List FreeLayer → List FloorAt
floors_at x z layers =
    flat_map (λ (layer : FreeLayer). map (λ (cell : Cell). record { y = cell.floor; area = cell.area })
    (filter (is_in_column x z) layer.cells))
    layers
