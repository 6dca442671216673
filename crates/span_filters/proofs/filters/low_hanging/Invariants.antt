use Rattle.std.proofs.Common.{◌≡◌, take, map}
use Rattle.nav_ground.specs.Filters.{low_hanging_area}
use Rattle.span_filters.proofs.filters.low_hanging.Given as goal

-- the areas so far
abbrev pub invariant-loop-i : goal.invariant-loop-i
invariant-loop-i l = l.areas.items ≡ map (low_hanging_area l.agent.climb l.spans) (take l.i l.spans)
