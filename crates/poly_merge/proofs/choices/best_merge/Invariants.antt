use Rattle.std.proofs.Common.{◌≡◌, map, take}
use Rattle.std.specs.Prelude.{None, IfSome}
use Rattle.std.specs.List.{fold}
use Rattle.std.specs.Option.{option_map}
use Rattle.mesh_types.specs.Choices.{or_later}
use Rattle.poly_merge.specs.Seen.{IsMergeOf, comes_before, seen}
use Rattle.poly_merge.proofs.choices.best_merge.Given as goal

-- the one that comes next of the merges so far
abbrev pub invariant-loop-choice : goal.invariant-loop-choice
invariant-loop-choice l = record {
  best : option_map seen l.best ≡ fold (or_later (comes_before l.corners l.pieces)) None (map seen (take l.choice-index l.choices));
  there : IfSome l.best (IsMergeOf l.pieces);
}
