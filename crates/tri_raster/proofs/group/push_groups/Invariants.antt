use Rattle.std.proofs.Common.{◌≤◌, length}
use Rattle.std.specs.Prelude.{All}
use Rattle.tri_raster.specs.Columns.{IsUpright, IsLimited}
use Rattle.tri_raster.proofs.GroupLaws.{HasGroups, IsByBottoms}
use Rattle.tri_raster.proofs.group.push_groups.Given as goal

-- the groups so far
abbrev pub invariant-loop-rest : goal.invariant-loop-rest
invariant-loop-rest l =
    HasGroups l.climb l.x l.z l.shadows l.rest l.fn.spans.items l.spans.items
    × (length l.spans.items ≤ 2000000)
    × All IsUpright l.rest
    × IsByBottoms l.rest
    × All IsLimited l.rest

abbrev pub decreases-loop-rest : goal.decreases-loop-rest
decreases-loop-rest l = length l.rest
