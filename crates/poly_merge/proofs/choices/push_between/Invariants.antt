use Rattle.std.proofs.Common.{◌≡◌, ◌++◌, [], map}
use Rattle.std.specs.List.{cons_option, flat_map, range_with_len}
use Rattle.mesh_types.specs.Merging.{merge_over}
use Rattle.poly_merge.specs.Seen.{admissible_of, seen}
use Rattle.poly_merge.proofs.choices.push_between.Given as goal

-- those over the edges so far
abbrev pub invariant-loop-edge : goal.invariant-loop-edge
invariant-loop-edge l =
    map seen l.choices.items
    ≡ map seen l.fn.choices.items
    ++ admissible_of l.corners l.pieces (flat_map (λ edge. cons_option (merge_over l.pieces l.first l.second edge) []) (range_with_len 0 l.edge))
