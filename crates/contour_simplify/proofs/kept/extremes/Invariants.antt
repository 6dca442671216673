use Rattle.std.specs.List.{IsFirstBest}
use Rattle.mesh_types.specs.Rings.{beginnings}
use Rattle.mesh_types.specs.LinkOrder.{is_point_before}
use Rattle.contour_simplify.proofs.kept.extremes.Given as goal

-- the least and the greatest of the corners so far
abbrev pub invariant-loop-place : goal.invariant-loop-place
invariant-loop-place l = record {
  least : IsFirstBest is_point_before (beginnings l.edges) l.place l.least;
  greatest : IsFirstBest (λ p q. is_point_before q p) (beginnings l.edges) l.place l.greatest;
}
