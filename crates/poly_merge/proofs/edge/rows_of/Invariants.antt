use Rattle.std.proofs.Common.{◌≡◌, true, All, take}
use Rattle.nav_base.specs.Convex.{corner_at}
use Rattle.poly_merge.specs.Rows.{lies_in}
use Rattle.poly_merge.proofs.edge.rows_of.Given as goal

-- the corners so far lie in the rows so far
abbrev pub invariant-loop-place : goal.invariant-loop-place
invariant-loop-place l = All (λ place. lies_in l.rows (corner_at l.corners place) ≡ true) (take l.place-index l.places)
