use Rattle.std.proofs.Common.{◌≡◌, ◌-◌, length}
use Rattle.std.specs.List.{find, range_with_len}
use Rattle.mesh_types.specs.Merging.{is_facing}
use Rattle.poly_merge.proofs.edge.facing.Given as goal

-- the edges that are left decide
abbrev pub invariant-loop-facing : goal.invariant-loop-facing
invariant-loop-facing l =
    find (is_facing l.first l.edge l.second) (range_with_len 0 (length l.second))
    ≡ find (is_facing l.first l.edge l.second) (range_with_len l.facing (length l.second - l.facing))
