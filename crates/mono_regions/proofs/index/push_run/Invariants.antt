use Rattle.std.proofs.Common.{length, ◌-◌, ◌≡◌, ◌++◌}
use Rattle.mono_regions.specs.Indices.{run_at}
use Rattle.mono_regions.proofs.Walks.{rest_from}
use Rattle.mono_regions.proofs.Marking.{IsMarking}
use Rattle.mono_regions.proofs.index.push_run.Given as goal

-- the cells so far and those that are left make the strip, and the number stands at those so far
abbrev pub invariant-loop-at : goal.invariant-loop-at
invariant-loop-at l =
    (l.order.items ++ rest_from l.cells l.at ≡ l.initial.order.items ++ run_at l.cells l.first)
    × IsMarking l.cells l.first l.at l.number l.initial.owners.items l.owners.items

abbrev pub decreases-loop-at : goal.decreases-loop-at
decreases-loop-at l = length l.cells - l.at
