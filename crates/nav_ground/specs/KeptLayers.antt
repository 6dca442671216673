-- KeptLayers: the free cells that are kept in one of three forms.
use Rattle.std.specs.Prelude.{List}
use Rattle.nav_ground.specs.declared.cell.Cell.{Cell}
use Rattle.nav_ground.specs.declared.free_layer.PackedFreeCells.{PackedFreeCells}
use Rattle.nav_ground.specs.declared.free_layer.PackedFreeCells.TheVariants.{Own, Whole, Marked}

-- the cells of each form
abbrev pub cells_kept : PackedFreeCells → List Cell
cells_kept (Own cells) = cells
cells_kept (Whole cells) = cells
cells_kept (Marked cells) = cells
