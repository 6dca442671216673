use Rattle.std.proofs.Common.{◌≡◌}
use Rattle.std.specs.Prelude.{filter}
use Rattle.std.specs.List.{range_with_len}
use Rattle.mesh_types.specs.Simplified.{does_change}
use Rattle.contour_simplify.proofs.kept.changes.Given as goal

-- the places so far where the code changes
abbrev pub invariant-loop-place : goal.invariant-loop-place
invariant-loop-place l = l.places.items ≡ filter (does_change l.edges) (range_with_len 0 l.place)
