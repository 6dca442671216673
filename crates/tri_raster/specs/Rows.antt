-- What one triangle leaves in one row of columns.
use Rattle.std.specs.Prelude.{ℕ, ◌+◌, ◌*◌, ◌<◌, ◌≤◌, ◌⊎◌, min, max, List, [], ◌∷◌, length, fold}
use Rattle.tri_raster.specs.declared.triangle.Mark.{Mark}
use Rattle.tri_raster.specs.declared.triangle.Tri.{Tri}
use Rattle.tri_raster.specs.declared.triangle.Shadow.{Shadow}
use Rattle.tri_raster.specs.declared.triangle.Bound.{Bound}
use Rattle.tri_raster.specs.declared.triangle.Hits.{Hits}
use Rattle.tri_raster.specs.Triangles.{Weights, IsInside}
use Rattle.tri_raster.specs.Rasters.{IsShadow}
use Rattle.tri_raster.specs.Bounds.{bound_at}

-- a triangle has a part inside a row of columns: some corner is behind the row's front, and some before its back
pub record MeetsRow (tri : Tri) (z : ℕ) : Type 0 where
  pub behind : (16 * z < tri.a.z) ⊎ ((16 * z < tri.b.z) ⊎ (16 * z < tri.c.z))
  pub before : (tri.a.z < 16 * z + 16) ⊎ ((tri.b.z < 16 * z + 16) ⊎ (tri.c.z < 16 * z + 16))

abbrev pub shadow_of : Bound → ℕ → Shadow
shadow_of bound area = record { bottom = bound.low; top = max bound.high (bound.low + 1); area = area }

-- the columns of a row that a triangle hits are those of a range, and its shadow there is that of their bounds
pub record AreRowShadows (tri : Tri) (z : ℕ) (bounds : List Bound) (hits : Hits) : Type 0 where
  pub within : hits.end ≤ length bounds
  pub shadows : (x : ℕ) → hits.first ≤ x → x < hits.end → IsShadow (tri ∷ []) x z (shadow_of (bound_at bounds x) tri.area)
  pub low : (x : ℕ) → hits.first ≤ x → x < hits.end → (bound_at bounds x).low ≤ 8190
  pub no_others : (x : ℕ) (p : Weights) → x < length bounds → (x < hits.first) ⊎ (hits.end ≤ x) → IsInside tri x z p → ⊥

-- from the least column of the spots to the greatest that lies left of a spot or about it, within the width
abbrev pub hits_of : List Mark → ℕ → Hits
hits_of marks width = record {
  first = fold (λ (first : ℕ) (mark : Mark). min first mark.column) 1024 marks;
  end = min (fold (λ (end : ℕ) (mark : Mark). max end mark.end) 0 marks) width;
}
