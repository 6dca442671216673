use Rattle.std.proofs.Common.{ℕ, ◌<◌, get_or}
use Rattle.mesh_types.specs.declared.links.PolyRef.{PolyRef}
use Rattle.corridor_search.specs.Islands.{IsReached}
use Rattle.corridor_search.proofs.islands.tiles_of.Given as goal

-- the polygons so far stand in the tiles
abbrev pub invariant-loop-at : goal.invariant-loop-at
invariant-loop-at l = (k : ℕ) (d : PolyRef) → k < l.at-index → IsReached l.tiles.items (get_or l.island k d)
