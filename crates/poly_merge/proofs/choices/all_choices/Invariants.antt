use Rattle.std.proofs.Common.{◌≡◌, map}
use Rattle.std.specs.List.{flat_map, range_with_len}
use Rattle.mesh_types.specs.Merging.{merges_from}
use Rattle.poly_merge.specs.Seen.{admissible_of, seen}
use Rattle.poly_merge.proofs.choices.all_choices.Given as goal

-- those of the first pieces with the ones behind them
abbrev pub invariant-loop-first : goal.invariant-loop-first
invariant-loop-first l = map seen l.choices.items ≡ admissible_of l.corners l.pieces (flat_map (merges_from l.pieces) (range_with_len 0 l.first))
