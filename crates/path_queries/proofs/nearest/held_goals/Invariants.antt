use Rattle.path_queries.proofs.HeldLaws.{AreHeldBefore}
use Rattle.path_queries.proofs.nearest.held_goals.Given as goal

-- the goals so far
abbrev pub invariant-loop-which : goal.invariant-loop-which
invariant-loop-which l = AreHeldBefore l.mesh l.goals l.which l.held.items
