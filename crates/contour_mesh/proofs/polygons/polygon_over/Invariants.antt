use Rattle.std.proofs.Common.{◌≡◌, map, take}
use Rattle.nav_base.specs.Convex.{corner_at}
use Rattle.contour_mesh.proofs.polygons.polygon_over.Given as goal

-- the corners at the places so far
abbrev pub invariant-loop-place : goal.invariant-loop-place
invariant-loop-place l = l.corners.items ≡ map (corner_at l.outline) (take l.place-index l.places)
