-- The laws of crosses, scalar products and the sides of walks. Each is an equation of polynomials in the coordinates, true of all points.
use Rattle.std.proofs.Common.{◌≡◌, ℤ, pos, ◌+ℤ◌, ◌-ℤ◌, ◌*ℤ◌, [], ◌∷◌, ◌++◌, refl, ◌∙◌}
use lib.IntN.{neg_ℤ}
use Rattle.nav_base.specs.declared.point.Point.{Point}
use Rattle.nav_base.specs.Point.{from_to, dot_of, cross_of, orient_of}
use Rattle.nav_base.proofs.Polynomials.{Term, at, number, opposite, sum, difference, product, equal}
use Rattle.nav_base.proofs.PointTerms.{Place, place, coordinates, from_to_term, moved, moved_term, dot_term, cross_term, orient_term}

-- the points of the equations below, as terms
abbrev p₀ : Place
p₀ = place 0

abbrev p₁ : Place
p₁ = place 1

abbrev p₂ : Place
p₂ = place 2

abbrev p₃ : Place
p₃ = place 3

abbrev p₄ : Place
p₄ = place 4

abbrev p₅ : Place
p₅ = place 5

-- ---- the side of a walk

-- a rotation of the three points changes nothing
pub orient_of-rotated : (a b c : Point) → orient_of b c a ≡ orient_of a b c
unfolding cross_of dot_of orient_of
orient_of-rotated a b c = equal (coordinates (a ∷ b ∷ c ∷ [])) (orient_term p₁ p₂ p₀) (orient_term p₀ p₁ p₂) refl

-- an exchange of two points changes the sign
pub orient_of-turned : (a b c : Point) → orient_of b a c ≡ neg_ℤ (orient_of a b c)
unfolding cross_of dot_of orient_of
orient_of-turned a b c = equal (coordinates (a ∷ b ∷ c ∷ [])) (orient_term p₁ p₀ p₂) (opposite (orient_term p₀ p₁ p₂)) refl

-- the same with the second and the third point
pub orient_of-exchanged : (a b c : Point) → orient_of a c b ≡ neg_ℤ (orient_of a b c)
unfolding cross_of dot_of orient_of
orient_of-exchanged a b c = equal (coordinates (a ∷ b ∷ c ∷ [])) (orient_term p₀ p₂ p₁) (opposite (orient_term p₀ p₁ p₂)) refl

-- a point lies on the line of a walk that begins or ends with it, and on each line where the walk stays at one place
pub orient_of-start : (a b : Point) → orient_of a b a ≡ pos 0
unfolding cross_of dot_of orient_of
orient_of-start a b = equal (coordinates (a ∷ b ∷ [])) (orient_term p₀ p₁ p₀) (number (pos 0)) refl

pub orient_of-end : (a b : Point) → orient_of a b b ≡ pos 0
unfolding cross_of dot_of orient_of
orient_of-end a b = equal (coordinates (a ∷ b ∷ [])) (orient_term p₀ p₁ p₁) (number (pos 0)) refl

pub orient_of-still : (a b : Point) → orient_of a a b ≡ pos 0
unfolding cross_of dot_of orient_of
orient_of-still a b = equal (coordinates (a ∷ b ∷ [])) (orient_term p₀ p₀ p₁) (number (pos 0)) refl

-- to move all three points by one vector changes nothing
pub orient_of-moved : (v a b c : Point) → orient_of (moved a v) (moved b v) (moved c v) ≡ orient_of a b c
unfolding cross_of dot_of orient_of
orient_of-moved v a b c = equal (coordinates (v ∷ a ∷ b ∷ c ∷ [])) (orient_term (moved_term p₁ p₀) (moved_term p₂ p₀) (moved_term p₃ p₀)) (orient_term p₁ p₂ p₃) refl

-- four points: the two triangles on the one diagonal have the area of the two on the other
pub orient_of-four : (a b c d : Point) → orient_of a b c +ℤ orient_of a c d ≡ orient_of a b d +ℤ orient_of b c d
unfolding cross_of dot_of orient_of
orient_of-four a b c d = equal (coordinates (a ∷ b ∷ c ∷ d ∷ [])) (sum (orient_term p₀ p₁ p₂) (orient_term p₀ p₂ p₃)) (sum (orient_term p₀ p₁ p₃) (orient_term p₁ p₂ p₃)) refl

-- a triangle is made of the three on its sides that meet in any point
pub orient_of-parts : (a r l q : Point) → orient_of r l a ≡ orient_of r l q +ℤ orient_of a r q +ℤ orient_of a q l
unfolding cross_of dot_of orient_of
orient_of-parts a r l q = equal (coordinates (a ∷ r ∷ l ∷ q ∷ [])) (orient_term p₁ p₂ p₀) (sum (sum (orient_term p₁ p₂ p₃) (orient_term p₀ p₁ p₃)) (orient_term p₀ p₃ p₂)) refl

-- The side is affine in each point: to move a point adds a cross.
pub orient_of-third_moved : (v a b c : Point) → orient_of a b (moved c v) ≡ orient_of a b c +ℤ cross_of (from_to a b) v
unfolding cross_of dot_of orient_of
orient_of-third_moved v a b c = equal (coordinates (v ∷ a ∷ b ∷ c ∷ [])) (orient_term p₁ p₂ (moved_term p₃ p₀)) (sum (orient_term p₁ p₂ p₃) (cross_term (from_to_term p₁ p₂) p₀)) refl

pub orient_of-second_moved : (v a b c : Point) → orient_of a (moved b v) c ≡ orient_of a b c +ℤ cross_of (from_to c a) v
unfolding cross_of dot_of orient_of
orient_of-second_moved v a b c = equal (coordinates (v ∷ a ∷ b ∷ c ∷ [])) (orient_term p₁ (moved_term p₂ p₀) p₃) (sum (orient_term p₁ p₂ p₃) (cross_term (from_to_term p₃ p₁) p₀)) refl

pub orient_of-first_moved : (v a b c : Point) → orient_of (moved a v) b c ≡ orient_of a b c +ℤ cross_of (from_to b c) v
unfolding cross_of dot_of orient_of
orient_of-first_moved v a b c = equal (coordinates (v ∷ a ∷ b ∷ c ∷ [])) (orient_term (moved_term p₁ p₀) p₂ p₃) (sum (orient_term p₁ p₂ p₃) (cross_term (from_to_term p₂ p₃) p₀)) refl

-- the difference of the sides of two points
pub orient_of-apart : (s t p q : Point) → orient_of s t q -ℤ orient_of s t p ≡ cross_of (from_to s t) (from_to p q)
unfolding cross_of dot_of orient_of
orient_of-apart s t p q = equal (coordinates (s ∷ t ∷ p ∷ q ∷ [])) (difference (orient_term p₀ p₁ p₃) (orient_term p₀ p₁ p₂)) (cross_term (from_to_term p₀ p₁) (from_to_term p₂ p₃)) refl

-- ---- crosses and scalar products

pub cross_of-itself : (u : Point) → cross_of u u ≡ pos 0
unfolding cross_of dot_of orient_of
cross_of-itself u = equal (coordinates (u ∷ [])) (cross_term p₀ p₀) (number (pos 0)) refl

pub cross_of-exchanged : (u v : Point) → cross_of v u ≡ neg_ℤ (cross_of u v)
unfolding cross_of dot_of orient_of
cross_of-exchanged u v = equal (coordinates (u ∷ v ∷ [])) (cross_term p₁ p₀) (opposite (cross_term p₀ p₁)) refl

pub dot_of-exchanged : (u v : Point) → dot_of v u ≡ dot_of u v
unfolding cross_of dot_of orient_of
dot_of-exchanged u v = equal (coordinates (u ∷ v ∷ [])) (dot_term p₁ p₀) (dot_term p₀ p₁) refl

-- two crosses and two scalar products of the same vectors
pub dot_of-cross_of : (u v w : Point) → dot_of u w *ℤ cross_of u v ≡ dot_of u u *ℤ cross_of w v +ℤ cross_of u w *ℤ dot_of u v
unfolding cross_of dot_of orient_of
dot_of-cross_of u v w = equal (coordinates (u ∷ v ∷ w ∷ [])) (product (dot_term p₀ p₂) (cross_term p₀ p₁)) (sum (product (dot_term p₀ p₀) (cross_term p₂ p₁)) (product (cross_term p₀ p₂) (dot_term p₀ p₁))) refl

pub dot_of-product : (u v w : Point) → dot_of u w *ℤ dot_of v v ≡ dot_of u v *ℤ dot_of w v +ℤ cross_of u v *ℤ cross_of w v
unfolding cross_of dot_of orient_of
dot_of-product u v w = equal (coordinates (u ∷ v ∷ w ∷ [])) (product (dot_term p₀ p₂) (dot_term p₁ p₁)) (sum (product (dot_term p₀ p₁) (dot_term p₂ p₁)) (product (cross_term p₀ p₁) (cross_term p₂ p₁))) refl

-- a linear form, the scalar product with f, at three vectors weighted by each other's crosses
pub dot_of-weighted : (f u v w : Point) → dot_of f u *ℤ cross_of v w +ℤ dot_of f v *ℤ cross_of w u +ℤ dot_of f w *ℤ cross_of u v ≡ pos 0
unfolding cross_of dot_of orient_of
dot_of-weighted f u v w = equal (coordinates (f ∷ u ∷ v ∷ w ∷ [])) (sum (sum (product (dot_term p₀ p₁) (cross_term p₂ p₃)) (product (dot_term p₀ p₂) (cross_term p₃ p₁))) (product (dot_term p₀ p₃) (cross_term p₁ p₂))) (number (pos 0)) refl

-- ---- products of sides

-- the product identity: the side of q from any walk is the mean of those of a, l and r, weighted by the parts into which q divides their triangle
pub orient_of-product : (a r l s t q : Point) → orient_of a r l *ℤ orient_of s t q ≡ orient_of r l q *ℤ orient_of s t a +ℤ orient_of a r q *ℤ orient_of s t l +ℤ orient_of a q l *ℤ orient_of s t r
unfolding cross_of dot_of orient_of
orient_of-product a r l s t q =
    equal (coordinates (a ∷ r ∷ l ∷ s ∷ t ∷ q ∷ [])) (product (orient_term p₀ p₁ p₂) (orient_term p₃ p₄ p₅))
    (sum (sum (product (orient_term p₁ p₂ p₅) (orient_term p₃ p₄ p₀)) (product (orient_term p₀ p₁ p₅) (orient_term p₃ p₄ p₂))) (product (orient_term p₀ p₅ p₂) (orient_term p₃ p₄ p₁))) refl

-- the same where the walk begins at a: seen from one point, four others
pub orient_of-fan : (a r l p q : Point) → orient_of a r l *ℤ orient_of a p q ≡ orient_of a q l *ℤ orient_of a p r +ℤ orient_of a r q *ℤ orient_of a p l
unfolding cross_of dot_of orient_of
orient_of-fan a r l p q =
    equal (coordinates (a ∷ r ∷ l ∷ p ∷ q ∷ [])) (product (orient_term p₀ p₁ p₂) (orient_term p₀ p₃ p₄))
    (sum (product (orient_term p₀ p₄ p₂) (orient_term p₀ p₃ p₁)) (product (orient_term p₀ p₁ p₄) (orient_term p₀ p₃ p₂))) refl

-- the order of three points that are seen from a, weighted by how far each lies in front of a for the walk from s to t
pub orient_of-order : (s t a r p q : Point)
    → (orient_of s t a -ℤ orient_of s t r) *ℤ orient_of a p q
    ≡ (orient_of s t a -ℤ orient_of s t p) *ℤ orient_of a r q -ℤ (orient_of s t a -ℤ orient_of s t q) *ℤ orient_of a r p
unfolding cross_of dot_of orient_of
orient_of-order s t a r p q =
    let f : Place → Term = orient_term p₀ p₁ in
    equal (coordinates (s ∷ t ∷ a ∷ r ∷ p ∷ q ∷ [])) (product (difference (f p₂) (f p₃)) (orient_term p₂ p₄ p₅))
    (difference (product (difference (f p₂) (f p₄)) (orient_term p₂ p₃ p₅)) (product (difference (f p₂) (f p₅)) (orient_term p₂ p₃ p₄))) refl

-- the order of two points that are seen from c, against the walk from b to c
pub orient_of-order_beyond : (s t b c p q : Point)
    → (orient_of s t b -ℤ orient_of s t c) *ℤ orient_of c p q
    ≡ (orient_of s t c -ℤ orient_of s t p) *ℤ orient_of b c q -ℤ (orient_of s t c -ℤ orient_of s t q) *ℤ orient_of b c p
unfolding cross_of dot_of orient_of
orient_of-order_beyond s t b c p q =
    let f : Place → Term = orient_term p₀ p₁ in
    equal (coordinates (s ∷ t ∷ b ∷ c ∷ p ∷ q ∷ [])) (product (difference (f p₂) (f p₃)) (orient_term p₃ p₄ p₅))
    (difference (product (difference (f p₃) (f p₄)) (orient_term p₂ p₃ p₅)) (product (difference (f p₃) (f p₅)) (orient_term p₂ p₃ p₄))) refl

-- the side of a point near the line through r and l, from those of r and l
pub orient_of-between : (s t r l a : Point)
    → dot_of (from_to r l) (from_to r l) *ℤ orient_of s t a
    ≡ dot_of (from_to r l) (from_to r a) *ℤ orient_of s t l +ℤ dot_of (from_to r l) (from_to a l) *ℤ orient_of s t r +ℤ orient_of r l a *ℤ dot_of (from_to s t) (from_to r l)
unfolding cross_of dot_of orient_of
orient_of-between s t r l a =
    let f : Place → Term = orient_term p₀ p₁ in
    let along : Place = from_to_term p₂ p₃ in
    equal (coordinates (s ∷ t ∷ r ∷ l ∷ a ∷ [])) (product (dot_term along along) (f p₄))
    (sum (sum (product (dot_term along (from_to_term p₂ p₄)) (f p₃)) (product (dot_term along (from_to_term p₄ p₃)) (f p₂))) (product (orient_term p₂ p₃ p₄) (dot_term (from_to_term p₀ p₁) along))) refl

-- how far a point lies along a vector, from the two points between which it is seen from a
pub dot_of-fan : (v a r l q : Point)
    → orient_of a r l *ℤ dot_of v (from_to a q) ≡ orient_of a q l *ℤ dot_of v (from_to a r) +ℤ orient_of a r q *ℤ dot_of v (from_to a l)
unfolding cross_of dot_of orient_of
dot_of-fan v a r l q =
    equal (coordinates (v ∷ a ∷ r ∷ l ∷ q ∷ [])) (product (orient_term p₁ p₂ p₃) (dot_term p₀ (from_to_term p₁ p₄)))
    (sum (product (orient_term p₁ p₄ p₃) (dot_term p₀ (from_to_term p₁ p₂))) (product (orient_term p₁ p₂ p₄) (dot_term p₀ (from_to_term p₁ p₃)))) refl

-- how far a point lies ahead of the walk from b to c
pub orient_of-ahead : (s t b c x : Point)
    → (orient_of s t b -ℤ orient_of s t c) *ℤ dot_of (from_to b c) (from_to c x)
    ≡ (orient_of s t c -ℤ orient_of s t x) *ℤ dot_of (from_to b c) (from_to b c) +ℤ orient_of b c x *ℤ dot_of (from_to s t) (from_to b c)
unfolding cross_of dot_of orient_of
orient_of-ahead s t b c x =
    let f : Place → Term = orient_term p₀ p₁ in
    let along : Place = from_to_term p₂ p₃ in
    equal (coordinates (s ∷ t ∷ b ∷ c ∷ x ∷ [])) (product (difference (f p₂) (f p₃)) (dot_term along (from_to_term p₃ p₄)))
    (sum (product (difference (f p₃) (f p₄)) (dot_term along along)) (product (orient_term p₂ p₃ p₄) (dot_term (from_to_term p₀ p₁) along))) refl

-- two walks, each seen from the other's ends
pub orient_of-facing : (r l b c : Point) → orient_of r l b -ℤ orient_of r l c ≡ orient_of b c l -ℤ orient_of b c r
unfolding cross_of dot_of orient_of
orient_of-facing r l b c = equal (coordinates (r ∷ l ∷ b ∷ c ∷ [])) (difference (orient_term p₀ p₁ p₂) (orient_term p₀ p₁ p₃)) (difference (orient_term p₂ p₃ p₁) (orient_term p₂ p₃ p₀)) refl

-- the point where the line through s and g meets the line through r and l, seen from any walk: by its weights on r and l, and on s and g
pub orient_of-crossing : (u v s g r l : Point)
    → orient_of s g l *ℤ orient_of u v r -ℤ orient_of s g r *ℤ orient_of u v l ≡ orient_of r l s *ℤ orient_of u v g -ℤ orient_of r l g *ℤ orient_of u v s
unfolding cross_of dot_of orient_of
orient_of-crossing u v s g r l =
    let f : Place → Term = orient_term p₀ p₁ in
    equal (coordinates (u ∷ v ∷ s ∷ g ∷ r ∷ l ∷ []))
    (difference (product (orient_term p₂ p₃ p₅) (f p₄)) (product (orient_term p₂ p₃ p₄) (f p₅)))
    (difference (product (orient_term p₄ p₅ p₂) (f p₃)) (product (orient_term p₄ p₅ p₃) (f p₂))) refl

-- The side is affine in each point: that of a weighted mean r of p and q is the weighted mean of theirs.
pub orient_of-mean : (m n : ℤ) (s t p q r : Point) → (m +ℤ n) *ℤ r.x ≡ m *ℤ p.x +ℤ n *ℤ q.x → (m +ℤ n) *ℤ r.z ≡ m *ℤ p.z +ℤ n *ℤ q.z
    → (m +ℤ n) *ℤ orient_of s t r ≡ m *ℤ orient_of s t p +ℤ n *ℤ orient_of s t q
unfolding cross_of dot_of orient_of
orient_of-mean m n s t p q r across along =
    let m' : Term = at 10 in
    let n' : Term = at 11 in
    let numbers = coordinates (s ∷ t ∷ p ∷ q ∷ r ∷ []) ++ m ∷ n ∷ [] in
    let along' : Place = from_to_term p₀ p₁ in
    equal numbers (product (sum m' n') (orient_term p₀ p₁ p₄))
    (difference (product along'.x (difference (product (sum m' n') p₄.z) (product (sum m' n') p₀.z))) (product along'.z (difference (product (sum m' n') p₄.x) (product (sum m' n') p₀.x)))) refl
    ∙ (λ i. (t.x -ℤ s.x) *ℤ (along i -ℤ (m +ℤ n) *ℤ s.z) -ℤ (t.z -ℤ s.z) *ℤ (across i -ℤ (m +ℤ n) *ℤ s.x))
    ∙ equal numbers
    (difference (product along'.x (difference (sum (product m' p₂.z) (product n' p₃.z)) (product (sum m' n') p₀.z))) (product along'.z (difference (sum (product m' p₂.x) (product n' p₃.x)) (product (sum m' n') p₀.x))))
    (sum (product m' (orient_term p₀ p₁ p₂)) (product n' (orient_term p₀ p₁ p₃))) refl
