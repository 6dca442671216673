-- Clearance near the shapes that stop agents alone, in layers whose cells keep their radius where none stands.
use Rattle.std.specs.Prelude.{◌≡◌, ℕ, Bool, true, false, not, ◌&&◌, if◌then◌else◌, All, List, [], Option, None, Some}
use Rattle.std.specs.List.{list_any}
use Rattle.nav_ground.specs.declared.cell.Cell.{Cell}
use Rattle.nav_ground.specs.declared.cell.CellRef.{CellRef}
use Rattle.nav_ground.specs.declared.cell.Layer.{Layer}
use Rattle.nav_ground.specs.declared.cell.Window.{Window}
use Rattle.nav_ground.specs.declared.shape.Shape.{Shape}
use Rattle.nav_ground.specs.FreeCells.{is_blocked, is_crowded, is_same_place}
use Rattle.nav_ground.specs.Tiling.{IsInWindow, is_in_window, widened}

-- each cell of a layer keeps the layer's radius from what never changes, as all cells of a ground's layers do: without shapes none is taken
abbrev pub KeepsRadius : Layer → Type 0
KeepsRadius layer = All (λ (cell : Cell). is_crowded layer [] cell ≡ false) layer.cells

-- the cells that shapes block lie in a rectangle; without a rectangle they block none
abbrev pub HoldsBlocked : List Shape → Option Window → Type 0
HoldsBlocked shapes None = (cell : Cell) → is_blocked shapes cell ≡ false
HoldsBlocked shapes (Some window) = (cell : Cell) → is_blocked shapes cell ≡ true → IsInWindow window cell.at.x cell.at.z

-- a place lies no more than so many columns from a rectangle and is none of the clear ones
abbrev pub is_crowded_near : Window → ℕ → List CellRef → CellRef → Bool
is_crowded_near window radius clear at = is_in_window (widened window radius) at.x at.z && not (list_any (is_same_place at) clear)

-- what a cell is left with once those are taken
abbrev pub area_near : Window → ℕ → List CellRef → Cell → Option ℕ → Option ℕ
area_near window radius clear cell before = if is_crowded_near window radius clear cell.at then None else before
