-- The made level: a square of SIZE columns a side, with one span in each.
use Rattle.std.specs.Prelude.{ℕ, ◌+◌, ◌*◌, ◌/◌, ◌%◌, ◌≤◌, ◌==◌, if◌then◌else◌, List, map}
use Rattle.std.specs.List.{range_with_len}
use Rattle.nav_ground.specs.declared.setting.Setting.{Setting}
use Rattle.nav_ground.specs.declared.setting.MeshKind.TheVariants.{Contours}
use Rattle.nav_ground.specs.declared.field.Span.{Span}
use Rattle.nav_ground.specs.declared.field.Field.{Field}
use Rattle.span_text.specs.FieldFormat.{plain_setting}
use Rattle.nav_gen.specs.Draws.{draw}

-- a level is made in these sizes
abbrev pub IsMadeSize : ℕ → Type 0
IsMadeSize size = (32 ≤ size) × (size ≤ 512)

-- the setting of a level of a size
abbrev pub made_setting : ℕ → Setting
made_setting size = plain_setting size size 32 (record { height = 10; climb = 4; radius = 2 }) 169 Contours 64

-- the span of a column, which its draw decides: one in 64 is a pillar that nobody walks on, 40 high; the others are floors, 10 or 11 high.
-- Columns are numbered row by row.
abbrev pub made_span : (size column drawn : ℕ) → Span
made_span size column drawn = record {
  x = column % size;
  z = column / size;
  bottom = 0;
  top = if drawn % 64 == 0 then 40 else 10 + drawn / 64 % 2;
  area = if drawn % 64 == 0 then 0 else 63;
}

-- the spans of a level, one draw a column, from a state on
abbrev pub made_spans : (state size : ℕ) → List Span
made_spans state size = map (λ column. made_span size column (draw state column)) (range_with_len 0 (size * size))

-- the field that a number and a size determine
abbrev pub made_field : (number size : ℕ) → Field
made_field number size = record { width = size; depth = size; spans = made_spans number size }
