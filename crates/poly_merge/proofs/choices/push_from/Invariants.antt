use Rattle.std.proofs.Common.{◌≡◌, ◌+◌, ◌-◌, ◌++◌, map}
use Rattle.std.specs.List.{flat_map, range_with_len}
use Rattle.mesh_types.specs.Merging.{merges_between}
use Rattle.poly_merge.specs.Seen.{admissible_of, seen}
use Rattle.poly_merge.proofs.choices.push_from.Given as goal

-- those with the pieces so far
abbrev pub invariant-loop-second : goal.invariant-loop-second
invariant-loop-second l =
    map seen l.choices.items
    ≡ map seen l.fn.choices.items ++ admissible_of l.corners l.pieces (flat_map (merges_between l.pieces l.first) (range_with_len (l.first + 1) (l.second - (l.first + 1))))
