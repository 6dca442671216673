use Rattle.std.proofs.Common.{length, vec_len}
use Rattle.agent_kinds.specs.KindGrounds.{IsChangedTo}
use Rattle.agent_kinds.proofs.Downwards.{HaveTurnedFrom}
use Rattle.agent_kinds.proofs.Grounds.{AreFirstGrounds}
use Rattle.agent_kinds.proofs.ground.show_grounds.Given as goal

-- the levels whose grounds are not left show them
abbrev pub invariant-loop-next : goal.invariant-loop-next
invariant-loop-next l = record {
  left : AreFirstGrounds l.fn.window l.fn.field l.fn.levels l.nexts.items;
  turned : HaveTurnedFrom (IsChangedTo l.fn.window l.fn.field) (length l.nexts.items) l.fn.levels l.levels;
}

abbrev pub decreases-loop-next : goal.decreases-loop-next
decreases-loop-next l = vec_len l.nexts
