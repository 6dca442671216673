use Rattle.std.proofs.Common.{◌≡◌, map, take}
use Rattle.std.specs.List.{filter_map}
use Rattle.poly_merge.specs.Seen.{left_over, seen}
use Rattle.poly_merge.proofs.choices.choices_left.Given as goal

-- those of the merges so far
abbrev pub invariant-loop-choice : goal.invariant-loop-choice
invariant-loop-choice l = map seen l.choices.items ≡ filter_map (left_over (seen l.made)) (map seen (take l.choice-index l.before))
