-- The path so far is pulled, and the apex is where its last corner or the start is.
use Rattle.std.proofs.Common.{◌-◌, ◌<◌, length}
use Rattle.nav_base.specs.Point.{HasCoordinates}
use Rattle.mesh_types.specs.Chains.{IsBehind, portal_at}
use Rattle.funnel_path.proofs.PullLaws.{IsPulled}
use Rattle.funnel_path.proofs.pull.Given as goal

abbrev pub invariant-loop-corner : goal.invariant-loop-corner
invariant-loop-corner l = record {
  pulled : IsPulled l.fn.start l.portals l.goal l.corners.items l.apex l.first;
  behind : l.first < length l.portals → IsBehind (portal_at l.portals l.first) l.apex;
  coordinates : HasCoordinates l.apex;
}

abbrev pub decreases-loop-corner : goal.decreases-loop-corner
decreases-loop-corner l = length l.portals - l.first
