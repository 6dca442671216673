use Rattle.std.proofs.Common.{◌≡◌, ℕ, ◌<◌, get_or}
use Rattle.corridor_search.proofs.islands.has_tile.Given as goal

-- none so far is the tile
abbrev pub invariant-loop-other : goal.invariant-loop-other
invariant-loop-other l = (k d : ℕ) → k < l.other-index → get_or l.tiles k d ≡ l.tile → ⊥
