use Rattle.std.proofs.Common.{◌≡◌, get_or}
use Rattle.std.specs.Prelude.{None}
use Rattle.std.specs.List.{filter_map, range_with_len}
use Rattle.mesh_types.specs.Runs.{run_with}
use Rattle.mesh_types.proofs.region.runs.Given as goal

-- the runs that begin at the places so far
abbrev pub invariant-loop-place : goal.invariant-loop-place
invariant-loop-place l = l.runs.items ≡ filter_map (λ place. run_with l.labels place (get_or l.labels place None)) (range_with_len 0 l.place)
