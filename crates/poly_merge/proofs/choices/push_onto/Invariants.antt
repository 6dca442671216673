use Rattle.std.proofs.Common.{◌≡◌, ◌++◌, map}
use Rattle.std.specs.List.{flat_map, range_with_len}
use Rattle.mesh_types.specs.Merging.{merges_between}
use Rattle.poly_merge.specs.Seen.{admissible_of, seen}
use Rattle.poly_merge.proofs.choices.push_onto.Given as goal

-- those with the pieces so far
abbrev pub invariant-loop-first : goal.invariant-loop-first
invariant-loop-first l =
    map seen l.choices.items
    ≡ map seen l.fn.choices.items ++ admissible_of l.corners l.pieces (flat_map (λ first. merges_between l.pieces first l.second) (range_with_len 0 l.first))
