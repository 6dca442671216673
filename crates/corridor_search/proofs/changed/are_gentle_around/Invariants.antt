use Rattle.std.proofs.Common.{ℕ, ◌<◌, get_or}
use Rattle.corridor_search.specs.Changes.{AreGentleAround}
use Rattle.corridor_search.proofs.changed.are_gentle_around.Given as goal

-- the links that touch the tiles so far are gentle
abbrev pub invariant-loop-tile : goal.invariant-loop-tile
invariant-loop-tile l = (k d : ℕ) → k < l.tile-index → AreGentleAround l.mesh l.marks (get_or l.tiles k d)
