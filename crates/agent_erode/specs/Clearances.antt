-- Which cells no cheap walk ends at.
use Rattle.std.specs.Prelude.{ℕ, Bool, not, List}
use Rattle.std.specs.List.{list_any, range_with_len}
use Rattle.nav_ground.specs.declared.cell.Cell.{Cell}
use Rattle.nav_ground.specs.Clearance.{is_walk_end}

-- a walk that costs less than a bound ends at a cell
abbrev pub is_ended_below : List Cell → ℕ → Cell → Bool
is_ended_below cells bound cell = list_any (λ cost. is_walk_end cells cost cell) (range_with_len 0 bound)

-- no walk that costs less than a bound does
abbrev pub is_beyond : List Cell → ℕ → Cell → Bool
is_beyond cells bound cell = not (is_ended_below cells bound cell)
