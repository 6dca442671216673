-- Bounds of heights, gathered from spots.
use Rattle.std.specs.Int.{div_ceil}
use Rattle.std.specs.Prelude.{◌≡◌, ℕ, ◌+◌, ◌-◌, ◌*◌, ◌/◌, ◌<◌, ◌≤◌, ◌⊎◌, min, max, List, length, slice_index_or, slice_set}
use Rattle.tri_raster.specs.declared.triangle.Tri.{Tri}
use Rattle.tri_raster.specs.declared.triangle.Spot.{Spot}
use Rattle.tri_raster.specs.declared.triangle.Mark.{Mark}
use Rattle.tri_raster.specs.declared.triangle.Bound.{Bound}
use Rattle.tri_raster.specs.Triangles.{Weights, count_of, y_of, IsOver}
use Rattle.tri_raster.specs.Spots.{IsSized, mark_of}

-- what stands where no bound does
abbrev pub no_bound : Bound
no_bound = record { low = 0; high = 0 }

-- the bounds at a place of a list
abbrev pub bound_at : List Bound → ℕ → Bound
bound_at bounds x = slice_index_or bounds x no_bound

-- a bound with one more height, between two whole numbers
abbrev pub widened : Bound → ℕ → ℕ → Bound
widened bound low high = record { low = min bound.low low; high = max bound.high high }

abbrev pub put_at : List Bound → ℕ → ℕ → ℕ → List Bound
put_at bounds x low high = slice_set bounds x (widened (bound_at bounds x) low high)

-- bounds that nothing was put into: no height is above 8190
abbrev pub fresh : Bound
fresh = record { low = 8191; high = 0 }

-- a bound lies about a spot
pub record IsAbout (spot : Spot) (bound : Bound) : Type 0 where
  pub low : bound.low * spot.n ≤ spot.y
  pub high : spot.y ≤ bound.high * spot.n

-- both ends of a bound are heights of points of the triangle over the column, down and up to whole numbers
pub record IsReached (tri : Tri) (x z : ℕ) (bound : Bound) : Type 0 where
  pub low_point : Weights
  pub low_over : IsOver tri x z low_point
  pub low : y_of tri low_point < (bound.low + 1) * count_of low_point
  pub high_point : Weights
  pub high_over : IsOver tri x z high_point
  pub high : bound.high * count_of high_point < y_of tri high_point + count_of high_point

abbrev pub IsFilled : Tri → ℕ → ℕ → Bound → Type 0
IsFilled tri x z bound = (bound ≡ fresh) ⊎ (IsReached tri x z bound)

-- each bound is as wide or wider
pub record IsWider (old new : List Bound) : Type 0 where
  pub same : length new ≡ length old
  pub lower : (x : ℕ) → (bound_at new x).low ≤ (bound_at old x).low
  pub higher : (x : ℕ) → (bound_at old x).high ≤ (bound_at new x).high

-- bounds that were fresh, or reached by a triangle, still are one of both
abbrev pub StaysFilled : Tri → ℕ → List Bound → List Bound → Type 0
StaysFilled tri z old new = (x : ℕ) → IsFilled tri x z (bound_at old x) → IsFilled tri x z (bound_at new x)

-- the bound of each column that a spot lies in, border included, lies about it
abbrev pub AreAbout : Spot → List Bound → Type 0
AreAbout spot bounds = (x : ℕ) → x < length bounds → 16 * x * spot.n ≤ spot.x → spot.x ≤ (16 * x + 16) * spot.n → IsAbout spot (bound_at bounds x)

-- where the segment between two spots, on different sides of the line left of column `line`, crosses it
abbrev pub line_crossing : Spot → Spot → ℕ → Spot
line_crossing left right line = record {
  n = (right.x - 16 * line * right.n) * left.n + (16 * line * left.n - left.x) * right.n;
  x = 16 * line * ((right.x - 16 * line * right.n) * left.n + (16 * line * left.n - left.x) * right.n);
  y = (right.x - 16 * line * right.n) * left.y + (16 * line * left.n - left.x) * right.y;
}

-- the bounds of the two columns beside each line between two spots lie about the crossing
abbrev pub AreAboutCrossings : Spot → Spot → List Bound → Type 0
AreAboutCrossings left right bounds = (line x : ℕ) → left.x < 16 * line * left.n → 16 * line * right.n < right.x → (line ≡ x) ⊎ (line ≡ x + 1) → x < length bounds
    → IsAbout (line_crossing left right line) (bound_at bounds x)

-- the same, whichever spot is left of the other
abbrev pub AreAboutBetween : Spot → Spot → List Bound → Type 0
AreAboutBetween a b bounds = AreAboutCrossings a b bounds × AreAboutCrossings b a bounds

-- a mark is that of its spot, whose numbers are within their limits
pub record IsMark (mark : Mark) : Type 0 where
  pub sized : IsSized mark.spot
  pub value : mark ≡ mark_of mark.spot

-- the height of a crossing, down and up to whole numbers
pub record IsHeight (left right : Spot) (line low high : ℕ) : Type 0 where
  pub floor : low ≡ (line_crossing left right line).y / (line_crossing left right line).n
  pub ceiling : high ≡ div_ceil (line_crossing left right line).y (line_crossing left right line).n
