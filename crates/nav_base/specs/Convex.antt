-- Strict convexity of a polygon that is given by its corners.
use Rattle.std.specs.Prelude.{ℕ, ℤ, pos, List, length, slice_index_or, ◌≢◌, ◌+◌, ◌≤◌, ◌==◌, ◌<ℤ◌, EachIndex, if◌then◌else◌}
use Rattle.nav_base.specs.declared.point.Point.{Point}
use Rattle.nav_base.specs.Point.{orient_of}

-- the corner at a place of the list
abbrev pub corner_at : List Point → ℕ → Point
corner_at corners i = slice_index_or corners i (record { x = pos 0; z = pos 0 })

-- the place after i, and the first place after the last
abbrev pub place_after : ℕ → ℕ → ℕ
place_after count i = if i + 1 == count then 0 else i + 1

-- where the corner at j lies, seen from the edge that begins at i: positive to its left, 0 on its line
abbrev pub side_of_edge : List Point → ℕ → ℕ → ℤ
side_of_edge corners i j = orient_of (corner_at corners i) (corner_at corners (place_after (length corners) i)) (corner_at corners j)

-- the corner at j ends the edge that begins at i, or lies strictly to its left
abbrev pub LiesLeft : List Point → ℕ → ℕ → Type 0
LiesLeft corners i j = j ≢ i → j ≢ place_after (length corners) i → pos 0 <ℤ side_of_edge corners i j

-- there are at least three corners, and each lies strictly to the left of each edge that it does not end
pub record IsStrictlyConvex (corners : List Point) : Type 0 where
  pub enough : 3 ≤ length corners
  pub left : EachIndex corners (λ i. EachIndex corners (LiesLeft corners i))
