use Rattle.std.proofs.Common.{drop}
use Rattle.off_links.proofs.Stretches.{IsPulling}
use Rattle.off_links.proofs.pulling.turns.Given as goal

-- the steps so far were pulled
abbrev pub invariant-loop-place : goal.invariant-loop-place
invariant-loop-place l =
    IsPulling l.fn.mesh l.fn.question.jumps l.fn.question.from l.fn.question.to l.fn.ends.1 l.steps (drop l.place l.steps) l.place l.from l.first l.portals.items
    l.turns.items
