-- What is seen of gaps, one after the other.
use Rattle.std.specs.Prelude.{ℕ, ◌+◌, ◌<◌, ◌≤◌, Bool, true, false, ◌||◌, nat_le, nat_lt, min, max, if◌then◌else◌, List, fold}
use Rattle.std.specs.Option.{option_map_or}
use Rattle.nav_ground.specs.Column.{Gap}
use Rattle.span_filters.specs.declared.gaps.AgentStand.{AgentStand}
use Rattle.span_filters.specs.declared.gaps.GapsSeen.{GapsSeen}

-- an agent stands on a span of the largest field, and climbs less than its height
pub record IsStand (stand : AgentStand) : Type 0 where
  pub floor : stand.floor ≤ 8191
  pub height : stand.height < 256
  pub climb : stand.climb < stand.height

-- a gap is open to a stand
abbrev pub is_open_to : AgentStand → Gap → Bool
is_open_to stand gap =
    nat_le (option_map_or (λ floor. max stand.floor floor) gap.floor stand.floor + stand.height) (min stand.ceiling gap.ceiling)

-- one more floor of an open gap: a drop, or too high to count, or within the climb
abbrev pub with_floor : AgentStand → GapsSeen → ℕ → GapsSeen
with_floor stand seen floor =
    if nat_lt (floor + stand.climb) stand.floor then record seen { beside_drop = true }
    else (if nat_le floor (stand.floor + stand.climb) then record seen { least = min seen.least floor; greatest = max seen.greatest floor }
    else seen)

-- one more gap
abbrev pub with_gap : AgentStand → GapsSeen → Gap → GapsSeen
with_gap stand seen gap =
    if is_open_to stand gap then option_map_or (with_floor stand seen) gap.floor (record seen { beside_drop = true }) else seen

-- what is seen over a list of gaps
abbrev pub seen_over : AgentStand → GapsSeen → List Gap → GapsSeen
seen_over stand seen gaps = fold (with_gap stand) seen gaps

-- before any gap the own floor alone is seen
abbrev pub seen_at_first : AgentStand → GapsSeen
seen_at_first stand = record { beside_drop = false; least = stand.floor; greatest = stand.floor }

-- what is seen makes a span a ledge: a drop, or floors that differ by more than the climb
abbrev pub shows_ledge : GapsSeen → ℕ → Bool
shows_ledge seen climb = seen.beside_drop || nat_lt (seen.least + climb) seen.greatest
