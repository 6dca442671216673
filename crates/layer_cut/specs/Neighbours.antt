-- Neighbours: the places that cells name, and the cells that stand there.
use Rattle.std.specs.Prelude.{◌≡◌, ℕ, ◌<◌, Bool, true, ◌&&◌, ◌||◌, ◌==◌, nat_lt, List, Contains}
use Rattle.nav_ground.specs.declared.cell.Cell.{Cell}
use Rattle.nav_ground.specs.declared.cell.CellRef.{CellRef}
use Rattle.nav_ground.specs.Cells.{is_toward}
use Rattle.nav_ground.specs.Clearance.{places_of}

-- a place has a neighbouring column in a direction, and lies in the largest field
pub record HasColumnToward (dir : ℕ) (at : CellRef) : Type 0 where
  pub x : at.x < 1024
  pub z : at.z < 1024
  pub to : CellRef
  pub toward : is_toward dir at to ≡ true

-- a cell of the list has the place
abbrev pub IsPlaceOf : List Cell → CellRef → Type 0
IsPlaceOf cells place = Contains (places_of cells) place

-- a place comes before another: by z, then x, then level
abbrev pub is_before : CellRef → CellRef → Bool
is_before a b = nat_lt a.z b.z || (a.z == b.z && (nat_lt a.x b.x || (a.x == b.x && nat_lt a.level b.level)))

-- the column of a place comes before that of another
abbrev pub is_in_earlier_column : CellRef → CellRef → Bool
is_in_earlier_column a b = nat_lt a.z b.z || (a.z == b.z && nat_lt a.x b.x)
