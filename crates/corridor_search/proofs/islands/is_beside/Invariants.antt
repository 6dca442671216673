use Rattle.std.proofs.Common.{ℕ, ◌<◌, get_or}
use Rattle.corridor_search.specs.Islands.{AreFar}
use Rattle.corridor_search.proofs.islands.is_beside.Given as goal

-- the tiles so far are far from the one
abbrev pub invariant-loop-other : goal.invariant-loop-other
invariant-loop-other l = (k d : ℕ) → k < l.other-index → AreFar l.row l.tile (get_or l.tiles k d)
