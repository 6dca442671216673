use Rattle.std.proofs.Common.{ℕ, ◌<◌, ◌≤◌, ◌-◌, All}
use Rattle.corridor_search.specs.Changes.{IsGentleInto}
use Rattle.corridor_search.specs.Islands.{outer_of}
use Rattle.corridor_search.proofs.changed.are_gentle_near.Given as goal

-- the links from the tiles so far that enter the tile are gentle
abbrev pub invariant-loop-beside : goal.invariant-loop-beside
invariant-loop-beside l = (t : ℕ) → l.middle - 1 ≤ t → t < l.beside → All (IsGentleInto l.mesh l.marks l.tile) (outer_of l.mesh t)
