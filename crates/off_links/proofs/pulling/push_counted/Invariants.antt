use Rattle.std.proofs.Common.{◌≡◌, ◌++◌, map, take}
use Rattle.mesh_types.specs.Stretches.{counted_from}
use Rattle.off_links.proofs.pulling.push_counted.Given as goal

-- the corners so far, counted from the place
abbrev pub invariant-loop-corner : goal.invariant-loop-corner
invariant-loop-corner l = l.turns.items ≡ l.fn.turns.items ++ map (counted_from l.first) (take l.corner-index l.corners)
