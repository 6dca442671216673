-- Filters: the areas of spans after each of three filters, each of which reads the areas as they were before it.
use Rattle.std.specs.Prelude.{ℕ, ◌+◌, Bool, nat_lt, nat_le, min, max, true, ◌==◌, ◌&&◌, ◌||◌, if◌then◌else◌, List, ◌∷◌, ◌++◌, map, filter}
use Rattle.std.specs.List.{list_any, filter_map, zip}
use Rattle.std.specs.Option.{option_map_or}
use Rattle.nav_ground.specs.declared.setting.Agent.{Agent}
use Rattle.nav_ground.specs.declared.field.Span.{Span}
use Rattle.nav_ground.specs.declared.field.Field.{Field}
use Rattle.nav_ground.specs.Column.{Gap, gaps_of, column_toward, span_below, ceiling_of}

-- low hanging: a span with area 0 takes the area of the span directly below it, where its top is at most the climb above that one's
abbrev pub low_hanging_area : ℕ → List Span → Span → ℕ
low_hanging_area climb spans span =
    if span.area == 0 then option_map_or (λ (below : Span). if nat_le span.top (below.top + climb) then below.area else 0) (span_below spans span) 0
    else span.area

-- the areas of a field's spans after the first filter
abbrev pub low_hanging_areas : Field → Agent → List ℕ
low_hanging_areas field agent = map (low_hanging_area agent.climb field.spans) field.spans

-- the areas beside the spans, with 0 for each span of a kind
abbrev pub areas_without : (Span → Bool) → List Span → List ℕ → List ℕ
areas_without is_taken spans areas = map (λ (beside : Span × ℕ). if is_taken beside.0 then 0 else beside.1) (zip spans areas)

-- a gap is open to a span where an agent's height fits between the greater of the two floors (the span's, for a gap without one) and the
-- lesser of the two ceilings
abbrev pub is_open : ℕ → List Span → Span → Gap → Bool
is_open height spans span gap =
    nat_le (option_map_or (λ floor. max span.top floor) gap.floor span.top + height) (min (ceiling_of spans span) gap.ceiling)

-- the gaps of the four neighbouring columns that are open to a span
abbrev pub gaps_beside : List Span → Span → List Gap
gaps_beside spans span =
    gaps_of (column_toward 0 spans span) ++ gaps_of (column_toward 1 spans span)
    ++ gaps_of (column_toward 2 spans span) ++ gaps_of (column_toward 3 spans span)

-- those of them that are open to the span
abbrev pub open_gaps : ℕ → List Span → Span → List Gap
open_gaps height spans span = filter (is_open height spans span) (gaps_beside spans span)

-- the column of a span is at the field's edge, so that a neighbouring column lies outside
abbrev pub is_at_edge : Field → Span → Bool
is_at_edge field span = span.x == 0 || span.z == 0 || span.x + 1 == field.width || span.z + 1 == field.depth

-- a gap's floor is more than the climb below a height; a gap without a floor is so below every height
abbrev pub is_drop : ℕ → ℕ → Gap → Bool
is_drop climb height gap = option_map_or (λ floor. nat_lt (floor + climb) height) gap.floor true

-- two heights differ by at most the climb
abbrev pub is_near : ℕ → ℕ → ℕ → Bool
is_near climb a b = nat_le a (b + climb) && nat_le b (a + climb)

-- a height, and the floors of gaps that differ from it by at most the climb
abbrev pub near_floors : ℕ → ℕ → List Gap → List ℕ
near_floors climb height gaps = height ∷ filter (is_near climb height) (filter_map (λ (gap : Gap). gap.floor) gaps)

-- two of the heights differ by more than the climb
abbrev pub is_steep : ℕ → List ℕ → Bool
is_steep climb heights = list_any (λ low. list_any (λ high. nat_lt (low + climb) high) heights) heights

-- a ledge: at the field's edge, or beside an open drop, or where two of its own floor and the near floors of open gaps differ by more than
-- the climb
unfoldable pub is_ledge : Field → Agent → Span → Bool
is_ledge field agent span =
    is_at_edge field span
    || list_any (is_drop agent.climb span.top) (open_gaps agent.height field.spans span)
    || is_steep agent.climb (near_floors agent.climb span.top (open_gaps agent.height field.spans span))

-- the areas after the second filter: 0 for each ledge
abbrev pub ledge_areas : Field → List ℕ → Agent → List ℕ
ledge_areas field areas agent = areas_without (is_ledge field agent) field.spans areas

-- a ceiling is too low: an agent's height does not fit above the span
abbrev pub is_low_ceiling : List Span → Agent → Span → Bool
is_low_ceiling spans agent span = nat_lt (ceiling_of spans span) (span.top + agent.height)

-- the areas after the third filter: 0 for each span whose ceiling is too low
abbrev pub low_ceiling_areas : Field → List ℕ → Agent → List ℕ
low_ceiling_areas field areas agent = areas_without (is_low_ceiling field.spans agent) field.spans areas

-- the areas that the three filters leave, one after the other
abbrev pub filtered_areas : Field → Agent → List ℕ
filtered_areas field agent = low_ceiling_areas field (ledge_areas field (low_hanging_areas field agent) agent) agent
