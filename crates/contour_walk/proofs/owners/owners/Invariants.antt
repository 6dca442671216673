use Rattle.contour_walk.proofs.Marks.{HasNumbers}
use Rattle.contour_walk.proofs.owners.owners.Given as goal

-- each cell has the number of the first of the regions so far, from the last on, that holds it
abbrev pub invariant-loop-number : goal.invariant-loop-number
invariant-loop-number l = HasNumbers l.cells l.regions l.number l.owners.items
