use Rattle.std.proofs.Common.{length, vec_len}
use Rattle.build_queue.specs.StepContracts.{IsShowStep}
use Rattle.agent_kinds.proofs.Downwards.{HaveTurnedFrom}
use Rattle.agent_kinds.proofs.Meshes.{AreLeft}
use Rattle.agent_kinds.proofs.publish.show_all.Given as goal

-- the levels whose meshes are not left show them
abbrev pub invariant-loop-mesh : goal.invariant-loop-mesh
invariant-loop-mesh l = record {
  left : AreLeft l.fn.levels l.meshes.items;
  turned : HaveTurnedFrom IsShowStep (length l.meshes.items) l.fn.levels l.levels;
}

abbrev pub decreases-loop-mesh : goal.decreases-loop-mesh
decreases-loop-mesh l = vec_len l.meshes
