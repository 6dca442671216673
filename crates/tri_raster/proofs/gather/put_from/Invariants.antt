use Rattle.std.proofs.Common.{ℕ, ◌<◌}
use Rattle.std.specs.List.{All}
use Rattle.std.specs.Prelude.{slice_index_or}
use Rattle.tri_raster.specs.declared.triangle.Tri.{Tri}
use Rattle.tri_raster.specs.declared.triangle.Mark.{Mark}
use Rattle.tri_raster.specs.Spots.{IsSpotOf}
use Rattle.tri_raster.specs.Bounds.{IsWider, StaysFilled, AreAboutBetween}
use Rattle.tri_raster.proofs.gather.put_from.Given as goal

-- the others so far
abbrev pub invariant-loop-other : goal.invariant-loop-other
invariant-loop-other l = record {
  wider : IsWider l.initial.bounds l.bounds;
  filled : (tri : Tri) (z : ℕ) → IsSpotOf tri z l.mark.spot → All (λ (other : Mark). IsSpotOf tri z other.spot) l.others → StaysFilled tri z l.initial.bounds l.bounds;
  about : (i : ℕ) (d : Mark) → i < l.other-index → AreAboutBetween l.mark.spot (slice_index_or l.others i d).spot l.bounds;
}
