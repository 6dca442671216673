use Rattle.std.proofs.Common.{◌≡◌, get_or}
use Rattle.std.specs.List.{IsFirstBest}
use Rattle.nav_base.specs.Deviation.{deviation_of}
use Rattle.mesh_types.specs.Simplified.{origin, deviates_more}
use Rattle.contour_simplify.proofs.run.farthest.Given as goal

-- the first corner of greatest deviation of those so far, with its deviation
abbrev pub invariant-loop-index : goal.invariant-loop-index
invariant-loop-index l = record {
  best : IsFirstBest (deviates_more l.half.first l.half.last) l.half.inner.now l.index l.place;
  most : l.most ≡ deviation_of l.half.first l.half.last (get_or l.half.inner.now l.place origin);
}
