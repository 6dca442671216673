use Rattle.std.proofs.Common.{ℕ, ◌<◌, All}
use Rattle.corridor_search.specs.Islands.{inner_of, IsFromInside}
use Rattle.corridor_search.proofs.islands.are_inner_alone.Given as goal

-- the links inside the tiles so far leave the island alone
abbrev pub invariant-loop-tile : goal.invariant-loop-tile
invariant-loop-tile l = (t : ℕ) → t < l.tile → All (IsFromInside l.island) (inner_of l.mesh t)
