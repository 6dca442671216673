-- Points on one line: inside a portal, beside it, and portals on the line of another.
use Rattle.std.proofs.Common.{◌≡◌, ◌≢◌, ℤ, pos, ◌+ℤ◌, ◌-ℤ◌, ◌*ℤ◌, ◌≤ℤ◌, ◌<ℤ◌, ◌⊎◌, inl, inr, [], ◌∷◌, ap, sym, ◌∙◌, refl, arith}
use Rattle.std.proofs.lemmas.Int.{ints}
use lib.IntN.{*ℤ_comm}
use Rattle.nav_base.specs.declared.point.Point.{Point}
use Rattle.nav_base.specs.Point.{from_to, dot_of, cross_of, orient_of}
use Rattle.nav_base.proofs.Polynomials.{sum, difference, product, equal}
use Rattle.nav_base.proofs.PointTerms.{Place, place, coordinates, from_to_term, dot_term, cross_term, orient_term}
use Rattle.nav_base.proofs.OrientLaws.{dot_of-exchanged, orient_of-start, orient_of-end, orient_of-between}
use Rattle.nav_base.proofs.Signs.{product-not_negative, product-not_positive, product-positive, product-negative, factor-zero}
use Rattle.mesh_types.specs.declared.links.Portal.{Portal}
use Rattle.funnel_path.specs.PassedOver.{IsInside, IsInLine, LookAlike, LookOpposite}
use Rattle.funnel_path.proofs.SideRules.{positive-weak, positive-not_zero, signs, sum-zero, sum-positive, weighted-not_negative, weighted-not_positive, zero-product, without, multiple-not_positive, multiple-positive}
use Rattle.funnel_path.proofs.PointLaws.{dot_of-still, length-not_negative, length-positive, exchanged-not_negative}

-- the points of the equations below, as terms
abbrev p₀ : Place
p₀ = place 0

abbrev p₁ : Place
p₁ = place 1

abbrev p₂ : Place
p₂ = place 2

abbrev p₃ : Place
p₃ = place 3

abbrev p₄ : Place
p₄ = place 4

-- ---- a point between two others

-- what lies between a portal's ends has a part of the portal on either side
pub record HasParts (a r l : Point) : Type 0 where
  pub on_line : orient_of r l a ≡ pos 0
  pub from_right : pos 0 <ℤ dot_of (from_to r l) (from_to r a)
  pub to_left : pos 0 <ℤ dot_of (from_to r l) (from_to a l)
  pub wide : pos 0 <ℤ dot_of (from_to r l) (from_to r l)

from_right_parts : (a r l : Point) → dot_of (from_to r l) (from_to r a) ≡ dot_of (from_to a r) (from_to a r) -ℤ dot_of (from_to a l) (from_to a r)
unfolding dot_of
from_right_parts a r l =
    let from : Place → Place → Place = from_to_term in
    equal (coordinates (a ∷ r ∷ l ∷ [])) (dot_term (from p₁ p₂) (from p₁ p₀)) (difference (dot_term (from p₀ p₁) (from p₀ p₁)) (dot_term (from p₀ p₂) (from p₀ p₁))) refl

to_left_parts : (a r l : Point) → dot_of (from_to r l) (from_to a l) ≡ dot_of (from_to a l) (from_to a l) -ℤ dot_of (from_to a l) (from_to a r)
unfolding dot_of
to_left_parts a r l =
    let from : Place → Place → Place = from_to_term in
    equal (coordinates (a ∷ r ∷ l ∷ [])) (dot_term (from p₁ p₂) (from p₀ p₂)) (difference (dot_term (from p₀ p₂) (from p₀ p₂)) (dot_term (from p₀ p₂) (from p₀ p₁))) refl

whole_parts : (a r l : Point) → dot_of (from_to r l) (from_to r l) ≡ dot_of (from_to r l) (from_to r a) +ℤ dot_of (from_to r l) (from_to a l)
unfolding dot_of
whole_parts a r l =
    let from : Place → Place → Place = from_to_term in
    equal (coordinates (a ∷ r ∷ l ∷ [])) (dot_term (from p₁ p₂) (from p₁ p₂)) (sum (dot_term (from p₁ p₂) (from p₁ p₀)) (dot_term (from p₁ p₂) (from p₀ p₂))) refl

pub parts_of : (a r l : Point) → orient_of r l a ≡ pos 0 → dot_of (from_to a l) (from_to a r) <ℤ pos 0 → HasParts a r l
parts_of a r l on_line between = record {
  on_line = on_line;
  from_right = right;
  to_left = left;
  wide = sum-positive (dot_of (from_to r l) (from_to r l)) (dot_of (from_to r l) (from_to r a)) (dot_of (from_to r l) (from_to a l)) (whole_parts a r l) right (positive-weak (dot_of (from_to r l) (from_to a l)) left);
}
  where
    less : (e m n : ℤ) → e ≡ m -ℤ n → pos 0 ≤ℤ m → n <ℤ pos 0 → pos 0 <ℤ e
    less e m n is h k = omega (arith, ints)

    right : pos 0 <ℤ dot_of (from_to r l) (from_to r a)
    right = less (dot_of (from_to r l) (from_to r a)) (dot_of (from_to a r) (from_to a r)) (dot_of (from_to a l) (from_to a r)) (from_right_parts a r l) (length-not_negative (from_to a r)) between

    left : pos 0 <ℤ dot_of (from_to r l) (from_to a l)
    left = less (dot_of (from_to r l) (from_to a l)) (dot_of (from_to a l) (from_to a l)) (dot_of (from_to a l) (from_to a r)) (to_left_parts a r l) (length-not_negative (from_to a l)) between

pub inside_parts : (a : Point) (portal : Portal) → IsInside a portal → HasParts a portal.right portal.left
inside_parts a portal is = parts_of a portal.right portal.left is.on_line is.between

-- the side of a point between two others is a mean of theirs
mean : (s t a r l : Point) → orient_of r l a ≡ pos 0
    → dot_of (from_to r l) (from_to r l) *ℤ orient_of s t a ≡ dot_of (from_to r l) (from_to r a) *ℤ orient_of s t l +ℤ dot_of (from_to r l) (from_to a l) *ℤ orient_of s t r
mean s t a r l on_line =
    without (dot_of (from_to r l) (from_to r l) *ℤ orient_of s t a) (dot_of (from_to r l) (from_to r a) *ℤ orient_of s t l +ℤ dot_of (from_to r l) (from_to a l) *ℤ orient_of s t r) (orient_of r l a) (dot_of (from_to s t) (from_to r l))
    (orient_of-between s t r l a) on_line

-- a point between two others lies behind what they lie behind, and ahead of what they lie ahead of
pub between-not_negative : (s t a r l : Point) → HasParts a r l → pos 0 ≤ℤ orient_of s t l → pos 0 ≤ℤ orient_of s t r → pos 0 ≤ℤ orient_of s t a
between-not_negative s t a r l is h k =
    weighted-not_negative (dot_of (from_to r l) (from_to r l)) (orient_of s t a) (dot_of (from_to r l) (from_to r a)) (orient_of s t l) (dot_of (from_to r l) (from_to a l)) (orient_of s t r) (mean s t a r l is.on_line) is.wide
    (positive-weak (dot_of (from_to r l) (from_to r a)) is.from_right) h (positive-weak (dot_of (from_to r l) (from_to a l)) is.to_left) k

pub between-not_positive : (s t a r l : Point) → HasParts a r l → orient_of s t l ≤ℤ pos 0 → orient_of s t r ≤ℤ pos 0 → orient_of s t a ≤ℤ pos 0
between-not_positive s t a r l is h k =
    weighted-not_positive (dot_of (from_to r l) (from_to r l)) (orient_of s t a) (dot_of (from_to r l) (from_to r a)) (orient_of s t l) (dot_of (from_to r l) (from_to a l)) (orient_of s t r) (mean s t a r l is.on_line) is.wide
    (positive-weak (dot_of (from_to r l) (from_to r a)) is.from_right) h (positive-weak (dot_of (from_to r l) (from_to a l)) is.to_left) k

-- both of two points lie on the line from s to t
pub record LieOnLine (s t l r : Point) : Type 0 where
  pub left : orient_of s t l ≡ pos 0
  pub right : orient_of s t r ≡ pos 0

-- where the point between lies on a line, and the two on one side of it, they lie on the line too
pub between-behind : (s t a r l : Point) → HasParts a r l → orient_of s t a ≡ pos 0 → pos 0 ≤ℤ orient_of s t l → pos 0 ≤ℤ orient_of s t r → LieOnLine s t l r
between-behind s t a r l is at h k = record {
  left = factor-zero (dot_of (from_to r l) (from_to r a)) (orient_of s t l) is.from_right none.0;
  right = factor-zero (dot_of (from_to r l) (from_to a l)) (orient_of s t r) is.to_left none.1;
}
  where
    none : (dot_of (from_to r l) (from_to r a) *ℤ orient_of s t l ≡ pos 0) × (dot_of (from_to r l) (from_to a l) *ℤ orient_of s t r ≡ pos 0)
    none =
        sum-zero (dot_of (from_to r l) (from_to r a) *ℤ orient_of s t l) (dot_of (from_to r l) (from_to a l) *ℤ orient_of s t r)
        (sym (mean s t a r l is.on_line) ∙ *ℤ_comm (dot_of (from_to r l) (from_to r l)) (orient_of s t a) ∙ zero-product (orient_of s t a) (dot_of (from_to r l) (from_to r l)) at)
        (product-not_negative (dot_of (from_to r l) (from_to r a)) (orient_of s t l) (positive-weak (dot_of (from_to r l) (from_to r a)) is.from_right) h)
        (product-not_negative (dot_of (from_to r l) (from_to a l)) (orient_of s t r) (positive-weak (dot_of (from_to r l) (from_to a l)) is.to_left) k)

pub between-ahead : (s t a r l : Point) → HasParts a r l → orient_of s t a ≡ pos 0 → orient_of s t l ≤ℤ pos 0 → orient_of s t r ≤ℤ pos 0 → LieOnLine s t l r
between-ahead s t a r l is at h k = record {
  left = factor-zero (dot_of (from_to r l) (from_to r a)) (orient_of s t l) is.from_right none.0;
  right = factor-zero (dot_of (from_to r l) (from_to a l)) (orient_of s t r) is.to_left none.1;
}
  where
    both : (m n : ℤ) → m +ℤ n ≡ pos 0 → m ≤ℤ pos 0 → n ≤ℤ pos 0 → (m ≡ pos 0) × (n ≡ pos 0)
    both m n is p q = (omega (arith, ints), omega (arith, ints))

    none : (dot_of (from_to r l) (from_to r a) *ℤ orient_of s t l ≡ pos 0) × (dot_of (from_to r l) (from_to a l) *ℤ orient_of s t r ≡ pos 0)
    none =
        both (dot_of (from_to r l) (from_to r a) *ℤ orient_of s t l) (dot_of (from_to r l) (from_to a l) *ℤ orient_of s t r)
        (sym (mean s t a r l is.on_line) ∙ *ℤ_comm (dot_of (from_to r l) (from_to r l)) (orient_of s t a) ∙ zero-product (orient_of s t a) (dot_of (from_to r l) (from_to r l)) at)
        (product-not_positive (dot_of (from_to r l) (from_to r a)) (orient_of s t l) (positive-weak (dot_of (from_to r l) (from_to r a)) is.from_right) h)
        (product-not_positive (dot_of (from_to r l) (from_to a l)) (orient_of s t r) (positive-weak (dot_of (from_to r l) (from_to a l)) is.to_left) k)

-- ---- what is seen from inside a portal

left_side : (a r l q : Point) → dot_of (from_to r l) (from_to a l) *ℤ orient_of r l q ≡ dot_of (from_to r l) (from_to r l) *ℤ orient_of a l q +ℤ orient_of r l a *ℤ dot_of (from_to r l) (from_to q l)
unfolding cross_of dot_of orient_of
left_side a r l q =
    let along : Place = from_to_term p₁ p₂ in
    equal (coordinates (a ∷ r ∷ l ∷ q ∷ [])) (product (dot_term along (from_to_term p₀ p₂)) (orient_term p₁ p₂ p₃))
    (sum (product (dot_term along along) (orient_term p₀ p₂ p₃)) (product (orient_term p₁ p₂ p₀) (dot_term along (from_to_term p₃ p₂)))) refl

right_side : (a r l q : Point) → dot_of (from_to r l) (from_to r a) *ℤ orient_of r l q ≡ dot_of (from_to r l) (from_to r l) *ℤ orient_of a q r +ℤ orient_of r l a *ℤ dot_of (from_to r l) (from_to r q)
unfolding cross_of dot_of orient_of
right_side a r l q =
    let along : Place = from_to_term p₁ p₂ in
    equal (coordinates (a ∷ r ∷ l ∷ q ∷ [])) (product (dot_term along (from_to_term p₁ p₀)) (orient_term p₁ p₂ p₃))
    (sum (product (dot_term along along) (orient_term p₀ p₃ p₁)) (product (orient_term p₁ p₂ p₀) (dot_term along (from_to_term p₁ p₃)))) refl

-- one who goes from inside a portal to a point ahead of it has its left end not to the right, and its right end not to the left
pub inside-left : (a r l q : Point) → HasParts a r l → orient_of r l q ≤ℤ pos 0 → pos 0 ≤ℤ orient_of a q l
inside-left a r l q is ahead =
    exchanged-not_negative a q l
    (multiple-not_positive (dot_of (from_to r l) (from_to r l)) (orient_of a l q) (dot_of (from_to r l) (from_to a l)) (orient_of r l q)
    (sym (without (dot_of (from_to r l) (from_to a l) *ℤ orient_of r l q) (dot_of (from_to r l) (from_to r l) *ℤ orient_of a l q) (orient_of r l a) (dot_of (from_to r l) (from_to q l)) (left_side a r l q) is.on_line))
    is.wide (positive-weak (dot_of (from_to r l) (from_to a l)) is.to_left) ahead)

pub inside-right : (a r l q : Point) → HasParts a r l → orient_of r l q ≤ℤ pos 0 → orient_of a q r ≤ℤ pos 0
inside-right a r l q is ahead =
    multiple-not_positive (dot_of (from_to r l) (from_to r l)) (orient_of a q r) (dot_of (from_to r l) (from_to r a)) (orient_of r l q)
    (sym (without (dot_of (from_to r l) (from_to r a) *ℤ orient_of r l q) (dot_of (from_to r l) (from_to r l) *ℤ orient_of a q r) (orient_of r l a) (dot_of (from_to r l) (from_to r q)) (right_side a r l q) is.on_line))
    is.wide (positive-weak (dot_of (from_to r l) (from_to r a)) is.from_right) ahead

-- ---- lines

three_on_line : (s t a b c : Point) → dot_of (from_to s t) (from_to s t) *ℤ orient_of a b c
    ≡ orient_of s t a *ℤ dot_of (from_to s t) (from_to b c) +ℤ orient_of s t b *ℤ dot_of (from_to s t) (from_to c a) +ℤ orient_of s t c *ℤ dot_of (from_to s t) (from_to a b)
unfolding cross_of dot_of orient_of
three_on_line s t a b c =
    let along : Place = from_to_term p₀ p₁ in
    equal (coordinates (s ∷ t ∷ a ∷ b ∷ c ∷ [])) (product (dot_term along along) (orient_term p₂ p₃ p₄))
    (sum (sum (product (orient_term p₀ p₁ p₂) (dot_term along (from_to_term p₃ p₄))) (product (orient_term p₀ p₁ p₃) (dot_term along (from_to_term p₄ p₂)))) (product (orient_term p₀ p₁ p₄) (dot_term along (from_to_term p₂ p₃)))) refl

-- three points on the line through two different ones are on one line
pub on_one_line : (s t a b c : Point) → s ≢ t → orient_of s t a ≡ pos 0 → orient_of s t b ≡ pos 0 → orient_of s t c ≡ pos 0 → orient_of a b c ≡ pos 0
on_one_line s t a b c apart at_a at_b at_c =
    factor-zero (dot_of (from_to s t) (from_to s t)) (orient_of a b c) (length-positive s t apart)
    (three_on_line s t a b c
    ∙ (λ i. zero-product (orient_of s t a) (dot_of (from_to s t) (from_to b c)) at_a i +ℤ zero-product (orient_of s t b) (dot_of (from_to s t) (from_to c a)) at_b i +ℤ zero-product (orient_of s t c) (dot_of (from_to s t) (from_to a b)) at_c i))

-- the portal whose ends lie on the line of another has that one on its line
pub in_line_turned : (a b : Portal) → b.left ≢ b.right → LieOnLine b.right b.left a.left a.right → IsInLine a b
in_line_turned a b apart on = record {
  left = on_one_line b.right b.left a.left a.right b.left (λ e. apart (sym e)) on.left on.right (orient_of-end b.right b.left);
  right = on_one_line b.right b.left a.left a.right b.right (λ e. apart (sym e)) on.left on.right (orient_of-start b.right b.left);
}

-- ---- two portals on one line

in_line_side : (l r l' r' x : Point) → dot_of (from_to r l) (from_to r' l') *ℤ orient_of r l x
    ≡ dot_of (from_to r l) (from_to r l) *ℤ orient_of r' l' x +ℤ orient_of l r l' *ℤ dot_of (from_to r l) (from_to x r') +ℤ orient_of l r r' *ℤ dot_of (from_to r l) (from_to l' x)
unfolding cross_of dot_of orient_of
in_line_side l r l' r' x =
    let along : Place = from_to_term p₁ p₀ in
    equal (coordinates (l ∷ r ∷ l' ∷ r' ∷ x ∷ [])) (product (dot_term along (from_to_term p₃ p₂)) (orient_term p₁ p₀ p₄))
    (sum (sum (product (dot_term along along) (orient_term p₃ p₂ p₄)) (product (orient_term p₀ p₁ p₂) (dot_term along (from_to_term p₄ p₃)))) (product (orient_term p₀ p₁ p₃) (dot_term along (from_to_term p₂ p₄)))) refl

-- the side of a point from two portals on one line
pub in_line-multiple : (a b : Portal) (x : Point) → IsInLine a b
    → dot_of (from_to a.right a.left) (from_to b.right b.left) *ℤ orient_of a.right a.left x ≡ dot_of (from_to a.right a.left) (from_to a.right a.left) *ℤ orient_of b.right b.left x
in_line-multiple a b x is =
    in_line_side a.left a.right b.left b.right x
    ∙ (λ i. dot_of (from_to a.right a.left) (from_to a.right a.left) *ℤ orient_of b.right b.left x +ℤ zero-product (orient_of a.left a.right b.left) (dot_of (from_to a.right a.left) (from_to x b.right)) is.left i +ℤ zero-product (orient_of a.left a.right b.right) (dot_of (from_to a.right a.left) (from_to b.left x)) is.right i)
    ∙ none (dot_of (from_to a.right a.left) (from_to a.right a.left) *ℤ orient_of b.right b.left x)
  where
    none : (n : ℤ) → n +ℤ pos 0 +ℤ pos 0 ≡ n
    none n = omega (arith, ints)

-- two portals on one line that look the same way: what lies behind one lies behind the other, and what lies ahead ahead
pub alike-behind : (a b : Portal) (x : Point) → a.left ≢ a.right → IsInLine a b → LookAlike a b → pos 0 <ℤ orient_of a.right a.left x → pos 0 <ℤ orient_of b.right b.left x
alike-behind a b x apart is alike h =
    multiple-positive (dot_of (from_to a.right a.left) (from_to a.right a.left)) (orient_of b.right b.left x) (dot_of (from_to a.right a.left) (from_to b.right b.left)) (orient_of a.right a.left x)
    (sym (in_line-multiple a b x is)) (length-positive a.right a.left (λ e. apart (sym e))) alike h

pub alike-ahead : (a b : Portal) (x : Point) → IsInLine a b → LookAlike a b → orient_of b.right b.left x ≤ℤ pos 0 → orient_of a.right a.left x ≤ℤ pos 0
alike-ahead a b x is alike h =
    multiple-not_positive (dot_of (from_to a.right a.left) (from_to b.right b.left)) (orient_of a.right a.left x) (dot_of (from_to a.right a.left) (from_to a.right a.left)) (orient_of b.right b.left x)
    (in_line-multiple a b x is) alike (length-not_negative (from_to a.right a.left)) h

-- the square of the scalar product of two portals on one line
ways_square : (l r l' r' : Point) → dot_of (from_to r l) (from_to r l) *ℤ dot_of (from_to r' l') (from_to r' l')
    ≡ dot_of (from_to r l) (from_to r' l') *ℤ dot_of (from_to r l) (from_to r' l') +ℤ orient_of l r l' *ℤ cross_of (from_to r' l') (from_to r l) +ℤ orient_of l r r' *ℤ cross_of (from_to r l) (from_to r' l')
unfolding cross_of dot_of orient_of
ways_square l r l' r' =
    let u : Place = from_to_term p₁ p₀ in
    let v : Place = from_to_term p₃ p₂ in
    equal (coordinates (l ∷ r ∷ l' ∷ r' ∷ [])) (product (dot_term u u) (dot_term v v))
    (sum (sum (product (dot_term u v) (dot_term u v)) (product (orient_term p₀ p₁ p₂) (cross_term v u))) (product (orient_term p₀ p₁ p₃) (cross_term u v))) refl

-- two portals of some width on one line look the same way or opposite ways
pub in_line-ways : (a b : Portal) → a.left ≢ a.right → b.left ≢ b.right → IsInLine a b → LookAlike a b ⊎ LookOpposite a b
in_line-ways a b apart apart' is =
    elim (signs (dot_of (from_to a.right a.left) (from_to b.right b.left))) [
      | inl opposite ↦ inr opposite
      | inr (inl none) ↦ absurd (positive-not_zero (dot_of (from_to a.right a.left) (from_to a.right a.left) *ℤ dot_of (from_to b.right b.left) (from_to b.right b.left))
          (product-positive (dot_of (from_to a.right a.left) (from_to a.right a.left)) (dot_of (from_to b.right b.left) (from_to b.right b.left)) (length-positive a.right a.left (λ e. apart (sym e))) (length-positive b.right b.left (λ e. apart' (sym e))))
          (ways_square a.left a.right b.left b.right
          ∙ (λ i. zero-product (dot_of (from_to a.right a.left) (from_to b.right b.left)) (dot_of (from_to a.right a.left) (from_to b.right b.left)) none i
          +ℤ zero-product (orient_of a.left a.right b.left) (cross_of (from_to b.right b.left) (from_to a.right a.left)) is.left i
          +ℤ zero-product (orient_of a.left a.right b.right) (cross_of (from_to a.right a.left) (from_to b.right b.left)) is.right i)))
      | inr (inr alike) ↦ inl alike
    ]

-- what lies behind two portals on one line lies on one side of both
pub opposite_apart : (a b : Portal) (x : Point) → IsInLine a b → LookOpposite a b → pos 0 <ℤ orient_of a.right a.left x → pos 0 <ℤ orient_of b.right b.left x → ⊥
opposite_apart a b x is opposite h k =
    apart (orient_of a.right a.left x *ℤ dot_of (from_to a.right a.left) (from_to b.right b.left)) (dot_of (from_to a.right a.left) (from_to a.right a.left) *ℤ orient_of b.right b.left x)
    (*ℤ_comm (orient_of a.right a.left x) (dot_of (from_to a.right a.left) (from_to b.right b.left)) ∙ in_line-multiple a b x is)
    (product-negative (orient_of a.right a.left x) (dot_of (from_to a.right a.left) (from_to b.right b.left)) h opposite)
    (product-not_negative (dot_of (from_to a.right a.left) (from_to a.right a.left)) (orient_of b.right b.left x) (length-not_negative (from_to a.right a.left)) (positive-weak (orient_of b.right b.left x) k))
  where
    apart : (m n : ℤ) → m ≡ n → m <ℤ pos 0 → pos 0 ≤ℤ n → ⊥
    apart m n e h k = omega (arith, ints)

-- what lies inside a portal is neither of its ends
pub inside-left_apart : (c l r : Point) → dot_of (from_to c l) (from_to c r) <ℤ pos 0 → l ≢ c
inside-left_apart c l r between e =
    none (dot_of (from_to c l) (from_to c r)) between (ap (λ (p : Point). dot_of (from_to c p) (from_to c r)) e ∙ dot_of-exchanged (from_to c r) (from_to c c) ∙ dot_of-still (from_to c r) c)
  where
    none : (n : ℤ) → n <ℤ pos 0 → n ≡ pos 0 → ⊥
    none n h e = omega (arith, ints)

pub inside-right_apart : (c l r : Point) → dot_of (from_to c l) (from_to c r) <ℤ pos 0 → r ≢ c
inside-right_apart c l r between e = inside-left_apart c r l (same (dot_of (from_to c r) (from_to c l)) (dot_of (from_to c l) (from_to c r)) (dot_of-exchanged (from_to c l) (from_to c r)) between) e
  where
    same : (m n : ℤ) → m ≡ n → n <ℤ pos 0 → m <ℤ pos 0
    same m n e h = omega (arith, ints)
