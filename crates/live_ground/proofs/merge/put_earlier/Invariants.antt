use Rattle.std.proofs.Common.{◌≤◌, ◌-◌, ◌∷◌, List, drop, length}
use Rattle.nav_ground.specs.declared.field.Span.{Span}
use Rattle.live_ground.specs.Merging.{IsMerged}
use Rattle.live_ground.proofs.merge.put_earlier.Given as goal

-- the list stays one of both kinds of spans
abbrev pub invariant-loop-upto : goal.invariant-loop-upto
invariant-loop-upto l = record {
  most : l.upto ≤ length l.news;
  merged : (old left : List Span) → IsMerged l.fn.window old l.news l.fn.made.items (l.span ∷ left) (drop l.next l.news)
      → IsMerged l.fn.window old l.news l.made.items (l.span ∷ left) (drop l.upto l.news);
}

abbrev pub decreases-loop-upto : goal.decreases-loop-upto
decreases-loop-upto l = length l.news - l.upto
