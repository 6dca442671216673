-- What a polygon holds lies to the left of a line, or on it, where all corners do.
use Rattle.std.proofs.Common.{◌≡◌, ℕ, ◌<◌, ℤ, pos, ◌-ℤ◌, ◌≤ℤ◌, [], ◌∷◌, length, refl, arith}
use Rattle.std.proofs.lemmas.Int.{ints}
use lib.IntN.{neg_ℤ}
use Rattle.nav_base.specs.declared.point.Point.{Point}
use Rattle.nav_base.specs.Point.{cross_of, dot_of, orient_of}
use Rattle.nav_base.specs.Convex.{IsStrictlyConvex}
use Rattle.nav_base.proofs.Polynomials.{opposite, difference, equal}
use Rattle.nav_base.proofs.PointTerms.{Place, place, coordinates, dot_term, orient_term}
use Rattle.mesh_types.specs.declared.polygon.Polygon.{Polygon}
use Rattle.mesh_types.specs.Located.{Holds}
use Rattle.mesh_types.specs.Portals.{edge_begin}
use Rattle.mesh_types.proofs.HeldPoints.{held_half_plane}

-- the way to the left of the line from s to t
abbrev leftward : Point → Point → Point
leftward s t = record { x = neg_ℤ (t.z -ℤ s.z); z = t.x -ℤ s.x }

leftward_term : Place → Place → Place
leftward_term s t = record { x = opposite (difference t.z s.z); z = difference t.x s.x }

-- a turn is how much further a point lies that way than the line does
orient_of-leftward : (s t q : Point) → orient_of s t q ≡ dot_of (leftward s t) q -ℤ dot_of (leftward s t) s
unfolding cross_of dot_of orient_of leftward_term
orient_of-leftward s t q =
    equal (coordinates (s ∷ t ∷ q ∷ [])) (orient_term (place 0) (place 1) (place 2))
    (difference (dot_term (leftward_term (place 0) (place 1)) (place 2)) (dot_term (leftward_term (place 0) (place 1)) (place 0))) refl

pub held_on_left : (polygon : Polygon) (s t q : Point) → IsStrictlyConvex polygon.corners → Holds polygon q
    → ((k : ℕ) → k < length polygon.corners → pos 0 ≤ℤ orient_of s t (edge_begin polygon k)) → pos 0 ≤ℤ orient_of s t q
held_on_left polygon s t q convex holds corners =
    ahead (orient_of s t q) (dot_of (leftward s t) q) (dot_of (leftward s t) s) (orient_of-leftward s t q)
    (held_half_plane polygon q (leftward s t) (dot_of (leftward s t) s) convex holds
    (λ k there. reached (orient_of s t (edge_begin polygon k)) (dot_of (leftward s t) (edge_begin polygon k)) (dot_of (leftward s t) s)
    (orient_of-leftward s t (edge_begin polygon k)) (corners k there)))
  where
    ahead : (turn far line : ℤ) → turn ≡ far -ℤ line → line ≤ℤ far → pos 0 ≤ℤ turn
    ahead turn far line is more = omega (arith, ints, is, more)

    reached : (turn far line : ℤ) → turn ≡ far -ℤ line → pos 0 ≤ℤ turn → line ≤ℤ far
    reached turn far line is left = omega (arith, ints, is, left)
