use Rattle.std.proofs.Common.{◌≡◌, map}
use Rattle.std.specs.List.{range_with_len}
use Rattle.mesh_types.specs.StripPolygons.{strip_runs}
use Rattle.mono_regions.specs.Joining.{joined_from}
use Rattle.mono_regions.proofs.joins.joined_strips.Given as goal

-- what the strips so far join
abbrev pub invariant-loop-number : goal.invariant-loop-number
invariant-loop-number l = l.joined.items ≡ map (joined_from (strip_runs l.cells)) (range_with_len 0 l.number)
