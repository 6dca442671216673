use Rattle.std.proofs.Common.{◌≡◌, take}
use Rattle.nav_ground.specs.Filters.{areas_without, is_low_ceiling}
use Rattle.span_filters.proofs.filters.low_ceilings.Given as goal

-- the areas that are left so far
abbrev pub invariant-loop-i : goal.invariant-loop-i
invariant-loop-i l = l.left.items ≡ areas_without (is_low_ceiling l.spans l.agent) (take l.i l.spans) (take l.i l.areas)
