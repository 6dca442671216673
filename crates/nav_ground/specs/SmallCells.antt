-- Small cells: which cells fit into the small numbers that a stored cell is kept in.
use Rattle.std.specs.Prelude.{◌≡◌, ◌≤◌, length, All}
use Rattle.nav_ground.specs.declared.cell.Cell.{Cell}
use Rattle.nav_ground.specs.Levels.{IsSmallLevel}

-- each number of the cell fits into 16 bits, its area into 8, and no level that it names is the number that stands for none
pub record IsSmall (cell : Cell) : Type 0 where
  pub x : cell.at.x ≤ 65535
  pub z : cell.at.z ≤ 65535
  pub level : cell.at.level ≤ 65535
  pub floor : cell.floor ≤ 65535
  pub ceiling : cell.ceiling ≤ 65535
  pub area : cell.area ≤ 255
  pub sides : length cell.next ≡ 4
  pub levels : All IsSmallLevel cell.next
