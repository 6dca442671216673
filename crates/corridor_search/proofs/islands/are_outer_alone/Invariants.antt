use Rattle.std.proofs.Common.{ℕ, ◌<◌, All}
use Rattle.corridor_search.specs.Islands.{outer_of, IsFromInside}
use Rattle.corridor_search.proofs.islands.are_outer_alone.Given as goal

-- the links over the borders of the tiles so far leave the island alone
abbrev pub invariant-loop-tile : goal.invariant-loop-tile
invariant-loop-tile l = (t : ℕ) → t < l.tile → All (IsFromInside l.island) (outer_of l.mesh t)
