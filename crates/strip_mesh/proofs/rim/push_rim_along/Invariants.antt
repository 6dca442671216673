use Rattle.std.proofs.Common.{◌≡◌, ◌++◌, map, take}
use Rattle.mesh_types.specs.StripRim.{rim_edge}
use Rattle.strip_mesh.specs.Indexed.{run_in}
use Rattle.strip_mesh.proofs.rim.push_rim_along.Given as goal

-- the entries along the parts so far
abbrev pub invariant-loop-part : goal.invariant-loop-part
invariant-loop-part l = l.rim.items ≡ l.initial.rim.items ++ map (rim_edge l.of.strip l.edge (run_in l.of.strips.now l.of.strip)) (take l.part-index l.parts)
