-- Ears: how an outline is cut into triangles, ear by ear.
--
-- The corners of an outline are named by their places, from 0. The remaining places stand in a list that runs round: its first follows its last.
use Rattle.std.specs.Prelude.{◌≡◌, ℕ, zero, suc, ◌-◌, ◌<◌, ◌≤◌, ℤ, pos, ◌+ℤ◌, Bool, not, ◌&&◌, nat_lt, List, [], ◌∷◌, length, slice_index, filter, All, Option, Result, Ok, Err, if◌then◌else◌}
use Rattle.std.specs.Int.Signed.{le_z, lt_z}
use Rattle.std.specs.Ordering.{int_eq}
use Rattle.std.specs.Option.{option_map_or}
use Rattle.std.specs.List.{list_any, range_with_len, remove}
use Rattle.nav_base.specs.declared.point.Point.{Point}
use Rattle.nav_base.specs.Point.{HasCoordinates, cross_of, from_to, orient_of}
use Rattle.nav_base.specs.Convex.{corner_at, place_after}
use Rattle.nav_base.specs.Deviation.{square_of}
use Rattle.mesh_types.specs.declared.region.Triangle.{Triangle}
use Rattle.mesh_types.specs.Choices.{first_best}
use Rattle.mesh_types.specs.Rings.{place_before}
use Rattle.mesh_types.specs.Rounds.{sum_round}

-- an outline that can be cut: it has at least three corners, its places are numbers of 32 bits, and its corners are points of the plane
pub record CanBeCut (corners : List Point) : Type 0 where
  pub enough : 3 ≤ length corners
  pub few : length corners < 4294967295
  pub points : All HasCoordinates corners

-- each of the places names a corner
abbrev pub ArePlacesOf : List Point → List ℕ → Type 0
ArePlacesOf corners places = All (λ place. place < length corners) places

-- the three places of a triangle name corners
pub record IsTriangleOf (corners : List Point) (t : Triangle) : Type 0 where
  pub a : t.a < length corners
  pub b : t.b < length corners
  pub c : t.c < length corners

-- ---- a triangle of places

-- positive where the triangle's corners run counterclockwise
abbrev pub turn_of : List Point → Triangle → ℤ
turn_of corners t = orient_of (corner_at corners t.a) (corner_at corners t.b) (corner_at corners t.c)

-- two points are the same
abbrev pub is_same_point : Point → Point → Bool
is_same_point p q = int_eq p.x q.x && int_eq p.z q.z

-- a point differs from all three corners of a triangle
abbrev pub is_apart : Point → Point → Point → Point → Bool
is_apart a b c p = not (is_same_point p a) && not (is_same_point p b) && not (is_same_point p c)

-- a point lies in the triangle from a to b to c, which runs counterclockwise, or on its rim
abbrev pub is_inside : Point → Point → Point → Point → Bool
is_inside a b c p = le_z (pos 0) (orient_of a b p) && le_z (pos 0) (orient_of b c p) && le_z (pos 0) (orient_of c a p)

-- the corner at a place lies in the triangle, at a point other than its corners
abbrev pub is_blocked_by : List Point → Triangle → ℕ → Bool
is_blocked_by corners t place =
    is_apart (corner_at corners t.a) (corner_at corners t.b) (corner_at corners t.c) (corner_at corners place)
    && is_inside (corner_at corners t.a) (corner_at corners t.b) (corner_at corners t.c) (corner_at corners place)

-- ---- ears

-- the triangle of the place at a position, between the places before and after it
abbrev pub triangle_at : List ℕ → ℕ → Triangle
triangle_at rest i = record { a = slice_index rest (place_before (length rest) i); b = slice_index rest i; c = slice_index rest (place_after (length rest) i) }

-- an ear: the list turns to the left there, and no remaining corner blocks the triangle
abbrev pub is_ear : List Point → List ℕ → ℕ → Bool
is_ear corners rest i = lt_z (pos 0) (turn_of corners (triangle_at rest i)) && not (list_any (is_blocked_by corners (triangle_at rest i)) rest)

-- the square of the distance between the corners before and after a position
abbrev pub width_at : List Point → List ℕ → ℕ → ℕ
width_at corners rest i = square_of (from_to (corner_at corners (triangle_at rest i).a) (corner_at corners (triangle_at rest i).c))

-- the position of the narrowest ear, and of equally narrow ones the first
unfoldable pub best_ear : List Point → List ℕ → Option ℕ
best_ear corners rest =
    first_best (λ i j. nat_lt (width_at corners rest i) (width_at corners rest j)) (filter (is_ear corners rest) (range_with_len 0 (length rest)))

-- ---- the cut

-- a triangle before those that the rest gives
abbrev pub put_before : Triangle → Result (List Triangle) (List ℕ) → Result (List Triangle) (List ℕ)
put_before t (Ok triangles) = Ok (t ∷ triangles)
put_before t (Err left) = Err left

-- the last three places give a triangle where it runs counterclockwise
abbrev pub last_cut : List Point → List ℕ → Result (List Triangle) (List ℕ)
last_cut corners rest = if lt_z (pos 0) (turn_of corners (triangle_at rest 1)) then Ok (triangle_at rest 1 ∷ []) else Err rest

-- The best ear is cut off as often as there are places above three: that gives its triangle, and its place leaves the list. Where there is no ear, or
-- the last triangle does not run counterclockwise, the remaining places are left.
unfoldable pub cut_ears : List Point → ℕ → List ℕ → Result (List Triangle) (List ℕ)
cut_ears corners zero rest = last_cut corners rest
cut_ears corners (suc above) rest = option_map_or (λ i. put_before (triangle_at rest i) (cut_ears corners above (remove rest i))) (best_ear corners rest) (Err rest)

-- the triangles of an outline, or the places that are left where there is no ear
unfoldable pub ears_of : List Point → Result (List Triangle) (List ℕ)
ears_of corners = cut_ears corners (length corners - 3) (range_with_len 0 (length corners))

-- the triangles are those of the outline
pub record AreEarsOf (corners : List Point) (triangles : List Triangle) : Type 0 where
  pub cut : ears_of corners ≡ Ok triangles

-- ---- areas

-- twice the area of triangles together
abbrev pub turns_of : List Point → List Triangle → ℤ
turns_of corners [] = pos 0
turns_of corners (t ∷ triangles) = turn_of corners t +ℤ turns_of corners triangles

-- twice the area that places run round, by the cross of each corner and the next
abbrev pub area_of : List Point → List ℕ → ℤ
area_of corners places = sum_round (λ a b. cross_of (corner_at corners a) (corner_at corners b)) places

-- twice the area that an outline runs round
abbrev pub outline_area : List Point → ℤ
outline_area corners = area_of corners (range_with_len 0 (length corners))
