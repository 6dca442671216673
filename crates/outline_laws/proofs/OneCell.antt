-- The contour of one cell alone is flat at each error from 50 on.
use Rattle.std.proofs.Common.{◌≡◌, ℕ, ◌*◌, ◌≤◌, false, List, [], ◌∷◌, refl, ◌∙◌, inl, inr, arith}
use Rattle.std.specs.Prelude.{nat_lt}
use Rattle.std.proofs.lemmas.Bool.{cases_lt, le-ltb}
use Rattle.nav_base.specs.Deviation.{deviation_of}
use Rattle.nav_base.specs.Point.{cross_of, dot_of}
use Rattle.mesh_types.specs.declared.region.Code.TheVariants.{Wall}
use Rattle.mesh_types.specs.declared.region.Simplified.TheVariants.{Flat}
use Rattle.mesh_types.specs.declared.region.UnitEdge.{UnitEdge}
use Rattle.mesh_types.specs.Choices.{first_best_place}
use Rattle.mesh_types.specs.Simplified.{deviates_over, kept_corners, kept_edges, kept_inside, kept_places, kept_walking, left_of_run, simplified_of}
use Rattle.mesh_types.specs.StripPolygons.{corner}
use Rattle.mesh_types.specs.Words.{twice_round}
use Rattle.outline_laws.specs.UnitRings.{IsUnitRing, SomeAreFlat}
use Rattle.outline_laws.proofs.KeptCorners.{two_runs}
use Rattle.outline_laws.proofs.RingLiterals.{ring_shown}

abbrev wall : ℕ → ℕ → ℕ → ℕ → UnitEdge
wall x z x' z' = record { from = corner x z; to = corner x' z'; code = Wall }

-- one cell with a wall all round
abbrev cell : List UnitEdge
cell = wall 0 0 1 0 ∷ wall 1 0 1 1 ∷ wall 1 1 0 1 ∷ wall 0 1 0 0 ∷ []

cell_ring : IsUnitRing cell
unfolding dot_of
cell_ring = ring_shown cell refl refl refl refl refl (omega arith)

-- its least and its greatest corner are kept
cell_places : kept_places cell ≡ 0 ∷ 2 ∷ []
unfolding kept_places first_best_place
cell_places = refl

-- neither of the others deviates by more than a half
half : (error : ℕ) → 50 ≤ error → nat_lt (error * 2) 100 ≡ false
half error large = le-ltb (error * 2) 100 (omega (arith, large))

below_diagonal : (error : ℕ) → 50 ≤ error → deviates_over error (corner 0 0) (corner 1 1) (corner 1 0) ≡ false
unfolding deviation_of dot_of cross_of
below_diagonal error large = half error large

above_diagonal : (error : ℕ) → 50 ≤ error → deviates_over error (corner 0 0) (corner 1 1) (corner 0 1) ≡ false
unfolding deviation_of dot_of cross_of
above_diagonal error large = half error large

first_run : (error : ℕ) → 50 ≤ error → left_of_run error (twice_round cell) (0, 2) ≡ corner 0 0 ∷ []
unfolding left_of_run kept_inside kept_walking
first_run error large = rw (below_diagonal error large) refl

second_run : (error : ℕ) → 50 ≤ error → left_of_run error (twice_round cell) (2, 4) ≡ corner 1 1 ∷ []
unfolding left_of_run kept_inside kept_walking
second_run error large = rw (above_diagonal error large) refl

cell_corners : (error : ℕ) → 50 ≤ error → kept_corners error cell ≡ corner 0 0 ∷ corner 1 1 ∷ []
cell_corners error large = two_runs error cell 0 2 cell_places ∙ rw (first_run error large, second_run error large) refl

cell_flat : (error : ℕ) → 50 ≤ error → simplified_of error cell ≡ Flat
unfolding simplified_of kept_edges
cell_flat error large = rw (cell_corners error large) refl

pub some_are_flat : SomeAreFlat
some_are_flat error coarse = elim (cases_lt 49 error) [
  | inl large ↦ (cell, cell_ring, cell_flat error (omega (arith, large)))
  | inr small ↦ absurd (coarse (omega (arith, small)))
]
