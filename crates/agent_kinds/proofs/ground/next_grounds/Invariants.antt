use Rattle.std.proofs.Common.{◌≡◌, length}
use Rattle.agent_kinds.proofs.Grounds.{AreFirstGrounds}
use Rattle.agent_kinds.proofs.ground.next_grounds.Given as goal

-- the grounds of the levels so far
abbrev pub invariant-loop-level : goal.invariant-loop-level
invariant-loop-level g l = record {
  many : length l.nexts.items ≡ l.level-index;
  first : AreFirstGrounds l.window l.field l.levels l.nexts.items;
}
