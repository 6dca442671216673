-- Points that are seen from one another: what the signs of a few sides and scalar products say of the others.
use Rattle.std.proofs.Common.{◌≡◌, ◌≢◌, ℤ, pos, ◌+ℤ◌, ◌-ℤ◌, ◌*ℤ◌, ◌≤ℤ◌, ◌<ℤ◌, inl, inr, [], ◌∷◌, ap, sym, subst, ◌∙◌, refl, arith}
use Rattle.std.proofs.lemmas.Int.{ints}
use lib.IntN.{*ℤ_comm}
use Rattle.nav_base.specs.declared.point.Point.{Point}
use Rattle.nav_base.specs.Point.{from_to, dot_of, cross_of, orient_of}
use Rattle.nav_base.proofs.Polynomials.{number, sum, product, equal}
use Rattle.nav_base.proofs.PointTerms.{Place, place, coordinates, from_to_term, dot_term, orient_term}
use Rattle.nav_base.proofs.OrientLaws.{orient_of-rotated, orient_of-turned, orient_of-exchanged, orient_of-start, orient_of-still, orient_of-parts, orient_of-fan, orient_of-product, orient_of-order, orient_of-order_beyond, dot_of-fan}
use Rattle.nav_base.proofs.Signs.{square-not_negative, product-not_negative, product-not_positive, factor-not_negative, factor-not_positive, factor-zero}
use Rattle.funnel_path.proofs.SideRules.{positive-not_zero, opposite-not_negative, opposite-not_positive, opposite-positive, opposite-negative, opposite-zero, not_negative-signs, difference-positive, sum-not_negative, sum-zero, weighted-not_negative, weighted-positive_right, weighted_difference-positive, square-zero, zero-product}

-- the points of the equations below, as terms
abbrev p₀ : Place
p₀ = place 0

abbrev p₁ : Place
p₁ = place 1

abbrev p₂ : Place
p₂ = place 2

abbrev p₃ : Place
p₃ = place 3

abbrev p₄ : Place
p₄ = place 4

-- ---- the order of three points

-- the second and the third point exchanged
pub exchanged-not_negative : (a b c : Point) → orient_of a c b ≤ℤ pos 0 → pos 0 ≤ℤ orient_of a b c
exchanged-not_negative a b c h = opposite-not_negative (orient_of a b c) (orient_of a c b) (orient_of-exchanged a c b) h

pub exchanged-not_positive : (a b c : Point) → pos 0 ≤ℤ orient_of a c b → orient_of a b c ≤ℤ pos 0
exchanged-not_positive a b c h = opposite-not_positive (orient_of a b c) (orient_of a c b) (orient_of-exchanged a c b) h

pub exchanged-positive : (a b c : Point) → orient_of a c b <ℤ pos 0 → pos 0 <ℤ orient_of a b c
exchanged-positive a b c h = opposite-positive (orient_of a b c) (orient_of a c b) (orient_of-exchanged a c b) h

pub exchanged-negative : (a b c : Point) → pos 0 <ℤ orient_of a c b → orient_of a b c <ℤ pos 0
exchanged-negative a b c h = opposite-negative (orient_of a b c) (orient_of a c b) (orient_of-exchanged a c b) h

pub exchanged-zero : (a b c : Point) → orient_of a c b ≡ pos 0 → orient_of a b c ≡ pos 0
exchanged-zero a b c h = opposite-zero (orient_of a b c) (orient_of a c b) (orient_of-exchanged a c b) h

-- the first and the second point exchanged
pub turned-not_negative : (a b c : Point) → orient_of b a c ≤ℤ pos 0 → pos 0 ≤ℤ orient_of a b c
turned-not_negative a b c h = opposite-not_negative (orient_of a b c) (orient_of b a c) (orient_of-turned b a c) h

pub turned-zero : (a b c : Point) → orient_of b a c ≡ pos 0 → orient_of a b c ≡ pos 0
turned-zero a b c h = opposite-zero (orient_of a b c) (orient_of b a c) (orient_of-turned b a c) h

-- a portal from r to l that is seen from behind by a is seen from a with r to the right of l
pub faces : (a r l : Point) → pos 0 <ℤ orient_of r l a → pos 0 <ℤ orient_of a r l
faces a r l h = subst (λ (n : ℤ). pos 0 <ℤ n) (orient_of-rotated a r l) h

pub faces_back : (a r l : Point) → pos 0 <ℤ orient_of a r l → pos 0 <ℤ orient_of r l a
faces_back a r l h = subst (λ (n : ℤ). pos 0 <ℤ n) (sym (orient_of-rotated a r l)) h

-- a walk that turns at a point begins elsewhere than at its second and its third point
pub turn-second : (a b c : Point) → pos 0 <ℤ orient_of a b c → a ≢ b
turn-second a b c h e = positive-not_zero (orient_of a b c) h (ap (λ (p : Point). orient_of p b c) e ∙ orient_of-still b c)

pub turn-third : (a b c : Point) → pos 0 <ℤ orient_of a b c → a ≢ c
turn-third a b c h e = positive-not_zero (orient_of a b c) h (ap (λ (p : Point). orient_of p b c) e ∙ orient_of-start c b)

-- ---- lengths

-- a way of no length
pub dot_of-still : (u c : Point) → dot_of u (from_to c c) ≡ pos 0
unfolding dot_of
dot_of-still u c = equal (coordinates (u ∷ c ∷ [])) (dot_term p₀ (from_to_term p₁ p₁)) (number (pos 0)) refl

-- a square is not negative
pub length-not_negative : (u : Point) → pos 0 ≤ℤ dot_of u u
unfolding dot_of
length-not_negative u = sum-not_negative (u.x *ℤ u.x +ℤ u.z *ℤ u.z) (u.x *ℤ u.x) (u.z *ℤ u.z) refl (square-not_negative u.x) (square-not_negative u.z)

-- two points at no distance are one
pub length-zero : (a b : Point) → dot_of (from_to a b) (from_to a b) ≡ pos 0 → a ≡ b
unfolding dot_of
length-zero a b none =
    let x = b.x -ℤ a.x in
    let z = b.z -ℤ a.z in
    let both = sum-zero (x *ℤ x) (z *ℤ z) none (square-not_negative x) (square-not_negative z) in
    let across = same a.x b.x (square-zero x both.0) in
    let along = same a.z b.z (square-zero z both.1) in
    λ i. record { x = across i; z = along i }
  where
    same : (m n : ℤ) → n -ℤ m ≡ pos 0 → m ≡ n
    same m n e = omega (arith, ints)

-- two different points have a distance
pub length-positive : (a b : Point) → a ≢ b → pos 0 <ℤ dot_of (from_to a b) (from_to a b)
length-positive a b apart =
    elim (not_negative-signs (dot_of (from_to a b) (from_to a b)) (length-not_negative (from_to a b))) [ inl none ↦ absurd (apart (length-zero a b none)) | inr some ↦ some ]

-- ---- rays from one point

-- a point lies in the wedge from a between the rays to r, on the right, and to l, on the left
pub record LiesBetweenRays (a r l q : Point) : Type 0 where
  pub wide : pos 0 <ℤ orient_of a r l
  pub from_right : pos 0 ≤ℤ orient_of a r q
  pub from_left : pos 0 ≤ℤ orient_of a q l

-- the ray's order against a point on the left, by its order against the wedge's rays
fan_left : (a r l q p : Point) → orient_of a r l *ℤ orient_of a q p ≡ orient_of a r q *ℤ orient_of a l p +ℤ orient_of a q l *ℤ orient_of a r p
unfolding cross_of orient_of
fan_left a r l q p =
    equal (coordinates (a ∷ r ∷ l ∷ q ∷ p ∷ [])) (product (orient_term p₀ p₁ p₂) (orient_term p₀ p₃ p₄))
    (sum (product (orient_term p₀ p₁ p₃) (orient_term p₀ p₂ p₄)) (product (orient_term p₀ p₃ p₂) (orient_term p₀ p₁ p₄))) refl

-- a point to the right of both rays is to the right of each ray between them
pub ray-right : (a r l q p : Point) → LiesBetweenRays a r l q → orient_of a r p ≤ℤ pos 0 → orient_of a l p ≤ℤ pos 0 → pos 0 ≤ℤ orient_of a p q
ray-right a r l q p b h k =
    weighted-not_negative (orient_of a r l) (orient_of a p q) (orient_of a q l) (orient_of a p r) (orient_of a r q) (orient_of a p l) (orient_of-fan a r l p q) b.wide b.from_left (exchanged-not_negative a p r h) b.from_right (exchanged-not_negative a p l k)

pub ray-right_strictly : (a r l q p : Point) → LiesBetweenRays a r l q → pos 0 <ℤ orient_of a r q → orient_of a r p ≤ℤ pos 0 → orient_of a l p <ℤ pos 0 → pos 0 <ℤ orient_of a p q
ray-right_strictly a r l q p b inside h k =
    weighted-positive_right (orient_of a r l) (orient_of a p q) (orient_of a q l) (orient_of a p r) (orient_of a r q) (orient_of a p l) (orient_of-fan a r l p q) b.wide b.from_left (exchanged-not_negative a p r h) inside (exchanged-positive a p l k)

-- and one to the left of both is to the left of each
pub ray-left : (a r l q p : Point) → LiesBetweenRays a r l q → pos 0 ≤ℤ orient_of a l p → pos 0 ≤ℤ orient_of a r p → pos 0 ≤ℤ orient_of a q p
ray-left a r l q p b h k =
    weighted-not_negative (orient_of a r l) (orient_of a q p) (orient_of a r q) (orient_of a l p) (orient_of a q l) (orient_of a r p) (fan_left a r l q p) b.wide b.from_right h b.from_left k

pub ray-left_strictly : (a r l q p : Point) → LiesBetweenRays a r l q → pos 0 <ℤ orient_of a q l → pos 0 ≤ℤ orient_of a l p → pos 0 <ℤ orient_of a r p → pos 0 <ℤ orient_of a q p
ray-left_strictly a r l q p b inside h k =
    weighted-positive_right (orient_of a r l) (orient_of a q p) (orient_of a r q) (orient_of a l p) (orient_of a q l) (orient_of a r p) (fan_left a r l q p) b.wide b.from_right h inside k

-- a point between the rays and not beyond the portal from r to l lies behind each walk from s to t that a, r and l lie behind
pub behind-between : (s t a r l q : Point) → LiesBetweenRays a r l q → pos 0 ≤ℤ orient_of r l q
    → pos 0 ≤ℤ orient_of s t a → pos 0 ≤ℤ orient_of s t l → pos 0 ≤ℤ orient_of s t r → pos 0 ≤ℤ orient_of s t q
behind-between s t a r l q b before at_a at_l at_r =
    factor-not_negative (orient_of a r l) (orient_of s t q) b.wide
    (three (orient_of a r l *ℤ orient_of s t q) (orient_of r l q *ℤ orient_of s t a) (orient_of a r q *ℤ orient_of s t l) (orient_of a q l *ℤ orient_of s t r) (orient_of-product a r l s t q)
    (product-not_negative (orient_of r l q) (orient_of s t a) before at_a) (product-not_negative (orient_of a r q) (orient_of s t l) b.from_right at_l) (product-not_negative (orient_of a q l) (orient_of s t r) b.from_left at_r))
  where
    three : (e m n o : ℤ) → e ≡ m +ℤ n +ℤ o → pos 0 ≤ℤ m → pos 0 ≤ℤ n → pos 0 ≤ℤ o → pos 0 ≤ℤ e
    three e m n o is p q r = omega (arith, ints)

-- a point between the rays and not before the portal from r to l lies ahead of each walk from s to t that r and l lie ahead of and a behind
pub ahead-between : (s t a r l q : Point) → LiesBetweenRays a r l q → orient_of r l q ≤ℤ pos 0
    → pos 0 ≤ℤ orient_of s t a → orient_of s t l ≤ℤ pos 0 → orient_of s t r ≤ℤ pos 0 → orient_of s t q ≤ℤ pos 0
ahead-between s t a r l q b beyond at_a at_l at_r =
    factor-not_positive (orient_of a r l) (orient_of s t q) b.wide
    (three (orient_of a r l *ℤ orient_of s t q) (orient_of r l q *ℤ orient_of s t a) (orient_of s t a *ℤ orient_of r l q) (orient_of a r q *ℤ orient_of s t l) (orient_of a q l *ℤ orient_of s t r) (orient_of-product a r l s t q)
    (*ℤ_comm (orient_of r l q) (orient_of s t a))
    (product-not_positive (orient_of s t a) (orient_of r l q) at_a beyond) (product-not_positive (orient_of a r q) (orient_of s t l) b.from_right at_l) (product-not_positive (orient_of a q l) (orient_of s t r) b.from_left at_r))
  where
    three : (e m m' n o : ℤ) → e ≡ m +ℤ n +ℤ o → m ≡ m' → m' ≤ℤ pos 0 → n ≤ℤ pos 0 → o ≤ℤ pos 0 → e ≤ℤ pos 0
    three e m m' n o is turn p q r = omega (arith, ints)

-- a point on both rays of a wedge is its apex
pub rays-meet : (a r l q : Point) → pos 0 <ℤ orient_of a r l → orient_of a r q ≡ pos 0 → orient_of a q l ≡ pos 0 → a ≡ q
rays-meet a r l q wide right left =
    length-zero a q (factor-zero (orient_of a r l) (dot_of (from_to a q) (from_to a q)) wide
    (both (orient_of a r l *ℤ dot_of (from_to a q) (from_to a q)) (orient_of a q l *ℤ dot_of (from_to a q) (from_to a r)) (orient_of a r q *ℤ dot_of (from_to a q) (from_to a l)) (dot_of-fan (from_to a q) a r l q)
    (zero-product (orient_of a q l) (dot_of (from_to a q) (from_to a r)) left) (zero-product (orient_of a r q) (dot_of (from_to a q) (from_to a l)) right)))
  where
    both : (e m n : ℤ) → e ≡ m +ℤ n → m ≡ pos 0 → n ≡ pos 0 → e ≡ pos 0
    both e m n is h k = omega (arith, ints)

-- ---- the order of points in a half plane

-- Of three points that lie further ahead than a for the walk from s to t: where p is not to the left of r, and q not to its right, and not
-- both on its ray, q is to the left of p.
pub order_in_half_plane : (s t a r p q : Point) → orient_of s t r <ℤ orient_of s t a → orient_of s t p <ℤ orient_of s t a → orient_of s t q <ℤ orient_of s t a
    → orient_of a r p ≤ℤ pos 0 → pos 0 ≤ℤ orient_of a r q → orient_of a r p <ℤ orient_of a r q → pos 0 <ℤ orient_of a p q
order_in_half_plane s t a r p q at_r at_p at_q h k apart =
    weighted_difference-positive (orient_of s t a -ℤ orient_of s t r) (orient_of a p q) (orient_of s t a -ℤ orient_of s t p) (orient_of a r q) (orient_of s t a -ℤ orient_of s t q) (orient_of a r p) (orient_of-order s t a r p q)
    (difference-positive (orient_of s t r) (orient_of s t a) at_r) (difference-positive (orient_of s t p) (orient_of s t a) at_p) (difference-positive (orient_of s t q) (orient_of s t a) at_q) k h apart

-- the same against the walk from b to c, which leads ahead
pub order_against_walk : (s t b c p q : Point) → orient_of s t c <ℤ orient_of s t b → orient_of s t p <ℤ orient_of s t c → orient_of s t q <ℤ orient_of s t c
    → orient_of b c p ≤ℤ pos 0 → pos 0 ≤ℤ orient_of b c q → orient_of b c p <ℤ orient_of b c q → pos 0 <ℤ orient_of c p q
order_against_walk s t b c p q at_c at_p at_q h k apart =
    weighted_difference-positive (orient_of s t b -ℤ orient_of s t c) (orient_of c p q) (orient_of s t c -ℤ orient_of s t p) (orient_of b c q) (orient_of s t c -ℤ orient_of s t q) (orient_of b c p) (orient_of-order_beyond s t b c p q)
    (difference-positive (orient_of s t c) (orient_of s t b) at_c) (difference-positive (orient_of s t p) (orient_of s t c) at_p) (difference-positive (orient_of s t q) (orient_of s t c) at_q) k h apart

-- a point between the rays to a portal's ends, other than the apex, lies further ahead than the apex
pub further_ahead : (a r l q : Point) → LiesBetweenRays a r l q → a ≢ q → orient_of r l q <ℤ orient_of r l a
further_ahead a r l q b apart =
    ahead (orient_of r l a) (orient_of r l q) (orient_of a r q) (orient_of a q l) (orient_of-parts a r l q) b.from_right b.from_left (λ right left. apart (rays-meet a r l q b.wide right left))
  where
    ahead : (e m n o : ℤ) → e ≡ m +ℤ n +ℤ o → pos 0 ≤ℤ n → pos 0 ≤ℤ o → (n ≡ pos 0 → o ≡ pos 0 → ⊥) → m <ℤ e
    ahead e m n o is p q apart =
        elim (not_negative-signs n p) [
          | inr more ↦ omega (arith, ints)
          | inl none ↦ elim (not_negative-signs o q) [ inr more ↦ omega (arith, ints) | inl none' ↦ absurd (apart none none') ]
        ]
