use Rattle.std.proofs.Common.{◌≡◌, ◌+◌}
use Rattle.std.specs.Prelude.{slice_range}
use Rattle.path_follow.specs.Following.{path_polygons}
use Rattle.path_follow.proofs.looking.polygons_between.Given as goal

-- the polygons so far
abbrev pub invariant-loop-link : goal.invariant-loop-link
invariant-loop-link l = l.polys.items ≡ slice_range (path_polygons l.following) l.first (l.first + l.link-index + 1)
