use Rattle.crowd_filter.specs.Placing.{IsInTileBefore, IsSearchedAmong}
use Rattle.crowd_filter.proofs.tiles.better_in_tile.Given as goal

-- the polygons so far
abbrev pub invariant-loop-index : goal.invariant-loop-index
invariant-loop-index l = IsSearchedAmong l.mesh l.agent (IsInTileBefore l.tile l.index) l.fn.had l.found
