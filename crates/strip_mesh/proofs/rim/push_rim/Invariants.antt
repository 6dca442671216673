use Rattle.std.proofs.Common.{◌≡◌, ◌++◌}
use Rattle.std.specs.List.{flat_map, range_with_len}
use Rattle.mesh_types.specs.StripRim.{strip_rim_over}
use Rattle.strip_mesh.specs.Indexed.{runs_in}
use Rattle.strip_mesh.proofs.rim.push_rim.Given as goal

-- the entries over the edges so far
abbrev pub invariant-loop-edge : goal.invariant-loop-edge
invariant-loop-edge l = l.rim.items ≡ l.initial.rim.items ++ flat_map (strip_rim_over l.of.window.now (runs_in l.of.strips.now) l.of.strip) (range_with_len 0 l.edge)
