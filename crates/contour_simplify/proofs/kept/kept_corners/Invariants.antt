use Rattle.std.proofs.Common.{◌≡◌, take}
use Rattle.std.specs.List.{flat_map}
use Rattle.mesh_types.specs.Simplified.{left_of_run}
use Rattle.mesh_types.specs.Words.{runs_between}
use Rattle.contour_simplify.proofs.kept.kept_corners.Given as goal

-- what the runs so far leave
abbrev pub invariant-loop-run : goal.invariant-loop-run
invariant-loop-run l = l.corners.items ≡ flat_map (left_of_run l.error l.round) (take l.run (runs_between l.kept_round))
