-- The area of a span by what is directly below and above it.
use Rattle.std.specs.Prelude.{ℕ, ◌+◌, nat_le, nat_lt, ◌==◌, if◌then◌else◌, Option}
use Rattle.std.specs.Option.{option_map_or}
use Rattle.nav_ground.specs.declared.field.Span.{Span}

-- the area of a span over the one directly below it
abbrev pub area_hung : ℕ → Span → Option Span → ℕ
area_hung climb span below =
    if span.area == 0 then option_map_or (λ (other : Span). if nat_le span.top (other.top + climb) then other.area else 0) below 0
    else span.area

-- the area of a span under a ceiling, where so much is needed
abbrev pub area_under : ℕ → ℕ → ℕ → ℕ
area_under ceiling needed area = if nat_lt ceiling needed then 0 else area
