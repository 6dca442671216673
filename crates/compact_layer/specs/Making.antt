-- The level and the ceiling of a cell, from what stands directly before and after its span.
use Rattle.std.specs.Prelude.{ℕ, ◌+◌, ◌-◌, ◌==◌, ◌&&◌, if◌then◌else◌, List, [], ◌∷◌, length, Option, None, slice_get}
use Rattle.std.specs.Option.{option_map_or}
use Rattle.nav_ground.specs.declared.field.Span.{Span}
use Rattle.nav_ground.specs.declared.cell.Cell.{Cell}

-- one above the level of the last of the cells before, if that lies in the span's column, else 0
abbrev pub level_over : List Cell → Span → ℕ
level_over cells span =
    option_map_or (λ (last : Cell). if last.at.x == span.x && last.at.z == span.z then last.at.level + 1 else 0) (slice_get cells (length cells - 1)) 0

-- the bottom of the next span, if that lies in the span's column, else 65535
abbrev pub ceiling_over : Option Span → Span → ℕ
ceiling_over next span =
    option_map_or (λ (above : Span). if above.x == span.x && above.z == span.z then above.bottom else 65535) next 65535

-- the cell on a span, with a level and a ceiling, not yet connected
abbrev pub cell_with : Span → ℕ → ℕ → Cell
cell_with span level ceiling = record {
  at = record { x = span.x; z = span.z; level = level };
  floor = span.top;
  ceiling = ceiling;
  area = span.area;
  next = None ∷ None ∷ None ∷ None ∷ [];
}
