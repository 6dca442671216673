use Rattle.std.proofs.Common.{ℕ, ◌<◌, All}
use Rattle.corridor_search.specs.Islands.{inner_of}
use Rattle.corridor_search.specs.Landmarks.{IsGentle}
use Rattle.corridor_search.proofs.landmarks.are_inner_gentle.Given as goal

-- the links of the tiles so far are gentle
abbrev pub invariant-loop-tile : goal.invariant-loop-tile
invariant-loop-tile l = (t : ℕ) → t < l.tile → All (IsGentle l.mesh l.marks) (inner_of l.mesh t)
