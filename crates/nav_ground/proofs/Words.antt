-- Words: short names for parts of definitions, for proofs alone. Each is the same as the text that the definitions say in full.
use Rattle.std.specs.Prelude.{ℕ, Bool, not, ◌&&◌, List}
use Rattle.std.specs.List.{list_any}
use Rattle.nav_ground.specs.declared.cell.Cell.{Cell}
use Rattle.nav_ground.specs.declared.cell.Layer.{Layer}
use Rattle.nav_ground.specs.declared.shape.Shape.{Shape}
use Rattle.nav_ground.specs.declared.history.Entry.{Entry}
use Rattle.nav_ground.specs.Cells.{is_naming}
use Rattle.nav_ground.specs.FreeCells.{is_taken}
use Rattle.nav_ground.specs.History.{is_added}

-- an entry added an obstacle
abbrev pub is_adding : Entry → Bool
is_adding entry = is_added entry.reply

-- a cell of a layer is free
abbrev pub is_free : Layer → List Shape → Cell → Bool
is_free layer shapes cell = not (is_taken layer shapes cell)

-- the neighbour that a free cell names in a direction is lost where it is a taken cell of the same layer
abbrev pub is_lost : (Cell → Bool) → List Cell → Cell → ℕ → Bool
is_lost taken cells cell dir = list_any (λ (other : Cell). is_naming dir cell other.at && taken other) cells
