-- Marks: how the free cells of a tile are kept as marks beside the cells of its layer.
use Rattle.std.specs.Prelude.{◌≡◌, ℕ, ◌%◌, ◌/◌, ◌==◌, if◌then◌else◌, List, [], ◌∷◌, length, Option, Some, None}
use Rattle.std.specs.List.{cons_option}
use Rattle.nav_ground.specs.declared.cell.Cell.{Cell}
use Rattle.nav_ground.specs.declared.free_layer.CellMark.{CellMark}
use Rattle.nav_ground.specs.CellColumns.{AreOrdered}

-- of some levels those whose bit is set, the first level's in the lowest bit
abbrev pub levels_left : ℕ → List (Option ℕ) → List (Option ℕ)
levels_left sides [] = []
levels_left sides (level ∷ levels) = (if sides % 2 == 1 then level else None) ∷ levels_left (sides / 2) levels

-- the cell with a mark's area and the levels that the mark keeps
abbrev pub marked_cell : CellMark → Cell → Cell
marked_cell mark cell = record cell { area = mark.area; next = levels_left mark.sides cell.next }

-- the same, or none where the area is 0
abbrev pub cell_left : CellMark → Cell → Option Cell
cell_left mark cell = if mark.area == 0 then None else Some (marked_cell mark cell)

-- what marks leave of the cells beside them
abbrev pub cells_left : List CellMark → List Cell → List Cell
cells_left [] cells = []
cells_left (mark ∷ marks) [] = []
cells_left (mark ∷ marks) (cell ∷ cells) = cons_option (cell_left mark cell) (cells_left marks cells)

-- a mark stands beside each cell, and they leave some free cells
pub record AreLeft (cells free : List Cell) (marks : List CellMark) : Type 0 where
  pub beside : length marks ≡ length cells
  pub left : cells_left marks cells ≡ free

-- a mark stands beside each cell, and the cells are in order
pub record AreMarked (cells : List Cell) (marks : List CellMark) : Type 0 where
  pub beside : length marks ≡ length cells
  pub order : AreOrdered cells
