use Rattle.kept_paths.specs.Beginnings.{IsNearestBefore}
use Rattle.kept_paths.proofs.beginnings.nearest.Given as goal

-- the nearest of the tiles so far
abbrev pub invariant-loop-tile : goal.invariant-loop-tile
invariant-loop-tile l = IsNearestBefore l.mesh l.path l.tile 0 l.best
