use Rattle.std.proofs.Common.{ℕ, ◌<◌}
use Rattle.std.specs.List.{All}
use Rattle.std.specs.Prelude.{slice_index_or}
use Rattle.tri_raster.specs.declared.triangle.Tri.{Tri}
use Rattle.tri_raster.specs.declared.triangle.Mark.{Mark}
use Rattle.tri_raster.specs.Spots.{IsSpotOf}
use Rattle.tri_raster.specs.Bounds.{IsWider, StaysFilled, AreAbout, AreAboutCrossings}
use Rattle.tri_raster.proofs.gather.gather.Given as goal

-- the marks so far, and each two of them
abbrev pub invariant-loop-i : goal.invariant-loop-i
invariant-loop-i l = record {
  wider : IsWider l.initial.bounds l.bounds;
  filled : (tri : Tri) (z : ℕ) → All (λ (mark : Mark). IsSpotOf tri z mark.spot) l.marks → StaysFilled tri z l.initial.bounds l.bounds;
  about : (j : ℕ) (d : Mark) → j < l.i → AreAbout (slice_index_or l.marks j d).spot l.bounds;
  crossings : (j k : ℕ) (d e : Mark) → j < l.i → k < l.i → AreAboutCrossings (slice_index_or l.marks j d).spot (slice_index_or l.marks k e).spot l.bounds;
}
