use Rattle.std.proofs.Common.{◌≡◌}
use Rattle.std.specs.List.{flat_map, range_with_len}
use Rattle.mesh_types.specs.StripRim.{strip_rim_over}
use Rattle.strip_mesh.specs.Indexed.{runs_in}
use Rattle.strip_mesh.proofs.rim.rim.Given as goal

-- the entries of the strips so far
abbrev pub invariant-loop-strip : goal.invariant-loop-strip
invariant-loop-strip l = l.rim.items ≡ flat_map (λ s. flat_map (strip_rim_over l.window (runs_in l.strips) s) (range_with_len 0 4)) (range_with_len 0 l.strip)
