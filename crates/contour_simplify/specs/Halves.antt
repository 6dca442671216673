-- Halves: parts of runs.
use Rattle.std.specs.Prelude.{ℕ, ◌≡◌, ◌+◌, ◌<◌, true, false, List, [], ◌∷◌, ◌++◌, length, slice_index_or, take, drop, All}
use Rattle.std.specs.List.{list_any}
use Rattle.nav_base.specs.declared.point.Point.{Point}
use Rattle.nav_base.specs.Point.{IsCellCorner}
use Rattle.mesh_types.specs.Choices.{first_best_place}
use Rattle.mesh_types.specs.Simplified.{deviates_more, deviates_over}
use Rattle.contour_simplify.specs.declared.run.RunHalf.{RunHalf}

-- all corners of the half are corners of cells
pub record IsHalf (half : RunHalf) : Type 0 where
  pub first : IsCellCorner half.first
  pub inner : All IsCellCorner half.inner.now
  pub last : IsCellCorner half.last

-- the half has these ends, and these corners between them
pub record IsPart (half : RunHalf) (first : Point) (inner : List Point) (last : Point) : Type 0 where
  pub begins : half.first ≡ first
  pub between : half.inner.now ≡ inner
  pub ends : half.last ≡ last

-- no inner corner deviates over the error
pub record IsStraight (error : ℕ) (half : RunHalf) : Type 0 where
  pub none : list_any (deviates_over error half.first half.last) half.inner.now ≡ false

-- one does, and this is the place of the first of greatest deviation
pub record IsSplit (error : ℕ) (half : RunHalf) (place : ℕ) : Type 0 where
  pub some : list_any (deviates_over error half.first half.last) half.inner.now ≡ true
  pub there : place < length half.inner.now
  pub best : first_best_place (deviates_more half.first half.last) half.inner.now ≡ place

-- the two parts of a half at an inner corner were put onto a stack, the one before that corner on top
pub record ArePartsOn (half : RunHalf) (place : ℕ) (d : Point) (old new : List RunHalf) : Type 0 where
  pub before : RunHalf
  pub after : RunHalf
  pub pushed : new ≡ (old ++ after ∷ []) ++ before ∷ []
  pub first : IsPart before half.first (take place half.inner.now) (slice_index_or half.inner.now place d)
  pub second : IsPart after (slice_index_or half.inner.now place d) (drop (place + 1) half.inner.now) half.last
