use Rattle.std.proofs.Common.{take}
use Rattle.path_queries.specs.Batches.{AreRightPlans}
use Rattle.path_queries.proofs.batch.plans_by.Given as goal

-- the answers so far are those of the starts so far
abbrev pub invariant-loop-start : goal.invariant-loop-start
invariant-loop-start l = AreRightPlans l.mesh l.goal l.filter (take l.start-index l.starts) l.answers.items
