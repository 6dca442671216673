-- A point inside a portal: it lies on the portal, and on each walk along the portal's line one end comes before it and the other after it.
use Rattle.std.proofs.Common.{◌≡◌, ◌≢◌, ℤ, pos, negsuc, zero, suc, ◌*ℤ◌, ◌≤ℤ◌, ◌<ℤ◌, ◌⊎◌, inl, inr, [], ◌∷◌, refl, arith}
use Rattle.std.proofs.lemmas.Int.{ints}
use lib.IntN.{*ℤ_comm}
use Rattle.nav_base.specs.declared.point.Point.{Point}
use Rattle.nav_base.specs.Point.{from_to, dot_of, cross_of, orient_of}
use Rattle.nav_base.proofs.Polynomials.{equal}
use Rattle.nav_base.proofs.PointTerms.{Place, place, coordinates, from_to_term, dot_term}
use Rattle.nav_base.proofs.OrientLaws.{dot_of-exchanged, dot_of-product}
use Rattle.nav_base.proofs.Signs.{product-negative}
use Rattle.mesh_types.specs.declared.links.Portal.{Portal}
use Rattle.mesh_types.specs.Portals.{along}
use Rattle.mesh_types.specs.Segments.{LiesOn}
use Rattle.funnel_path.specs.PassedOver.{IsInside}
use Rattle.funnel_path.proofs.SideRules.{without}
use Rattle.funnel_path.proofs.PointLaws.{exchanged-zero, length-positive}

-- it lies on the portal
seen_back : (a l r : Point) → dot_of (from_to l a) (from_to r a) ≡ dot_of (from_to a l) (from_to a r)
unfolding dot_of
seen_back a l r =
    let p : Place = place 0 in
    equal (coordinates (a ∷ l ∷ r ∷ [])) (dot_term (from_to_term (place 1) p) (from_to_term (place 2) p)) (dot_term (from_to_term p (place 1)) (from_to_term p (place 2))) refl

pub inside_lies : (a : Point) (portal : Portal) → IsInside a portal → LiesOn a portal
inside_lies a portal inside =
    at_most (dot_of (from_to portal.left a) (from_to portal.right a)) (dot_of (from_to a portal.left) (from_to a portal.right)) (seen_back a portal.left portal.right) inside.between
  where
    at_most : (m n : ℤ) → m ≡ n → n <ℤ pos 0 → m ≤ℤ pos 0
    at_most m n e h = omega (arith, ints)

-- a product below 0 has factors on both sides of 0
opposite_signs : (m n : ℤ) → (m *ℤ n) <ℤ pos 0 → ((m <ℤ pos 0) × (pos 0 <ℤ n)) ⊎ ((n <ℤ pos 0) × (pos 0 <ℤ m))
opposite_signs (pos m) (pos n) h = absurd (omega (arith, ints))
opposite_signs (pos zero) (negsuc n) h = absurd (omega (arith, ints))
opposite_signs (pos (suc m)) (negsuc n) h = inr (omega (arith, ints), omega (arith, ints))
opposite_signs (negsuc m) (pos zero) h = absurd (omega (arith, ints))
opposite_signs (negsuc m) (pos (suc n)) h = inl (omega (arith, ints), omega (arith, ints))
opposite_signs (negsuc m) (negsuc n) h = absurd (omega (arith, ints))

-- the scalar products of a walk with the ways to two points on its line have the product of the ways' scalar product and the walk's square
along_line : (a q l r : Point) → orient_of a q l ≡ pos 0 → dot_of (from_to a l) (from_to a r) *ℤ dot_of (from_to a q) (from_to a q) ≡ dot_of (from_to a l) (from_to a q) *ℤ dot_of (from_to a r) (from_to a q)
unfolding orient_of
along_line a q l r on_line =
    let u = from_to a l in
    let w = from_to a r in
    let v = from_to a q in
    without (dot_of u w *ℤ dot_of v v) (dot_of u v *ℤ dot_of w v) (cross_of u v) (cross_of w v) (dot_of-product u v w) (exchanged-zero a l q on_line)

-- one end comes before it and the other after it
pub inside_along : (a q : Point) (portal : Portal) → IsInside a portal → a ≢ q → orient_of a q portal.left ≡ pos 0
    → ((along a q portal.left <ℤ pos 0) × (pos 0 <ℤ along a q portal.right)) ⊎ ((along a q portal.right <ℤ pos 0) × (pos 0 <ℤ along a q portal.left))
inside_along a q portal inside apart left =
    opposite_signs (dot_of v u) (dot_of v w)
    (below (dot_of u w *ℤ dot_of v v) (dot_of u v *ℤ dot_of w v) (dot_of v v *ℤ dot_of u w) (dot_of v u *ℤ dot_of v w) (along_line a q portal.left portal.right left) (*ℤ_comm (dot_of u w) (dot_of v v))
    (λ i. dot_of-exchanged u v i *ℤ dot_of-exchanged w v i) (product-negative (dot_of v v) (dot_of u w) (length-positive a q apart) inside.between))
  where
    u : Point
    u = from_to a portal.left

    w : Point
    w = from_to a portal.right

    v : Point
    v = from_to a q

    below : (m n m' n' : ℤ) → m ≡ n → m ≡ m' → n' ≡ n → m' <ℤ pos 0 → n' <ℤ pos 0
    below m n m' n' e e' e'' h = omega (arith, ints)
