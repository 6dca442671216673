use Rattle.std.proofs.Common.{◌≤◌, drop, length}
use Rattle.live_ground.specs.Merging.{IsMerged}
use Rattle.live_ground.proofs.merge.merged.Given as goal

-- the list is one of both kinds of spans
abbrev pub invariant-loop-i : goal.invariant-loop-i
invariant-loop-i l = record {
  most : l.next ≤ length l.news;
  merged : IsMerged l.window l.old l.news l.made.items (drop l.i l.old) (drop l.next l.news);
}
