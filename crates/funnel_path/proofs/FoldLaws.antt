-- Folds: where a portal's end lies inside the wedge through the one before it and the portal looks back, and where two portals on one line
-- look opposite ways round a point that lies on both.
use Rattle.std.proofs.Common.{◌≡◌, ◌≢◌, ℤ, pos, ◌+ℤ◌, ◌-ℤ◌, ◌*ℤ◌, ◌≤ℤ◌, ◌<ℤ◌, inl, inr, [], ◌∷◌, ap, sym, ◌∙◌, refl, arith}
use Rattle.std.proofs.lemmas.Int.{ints}
use lib.IntN.{neg_ℤ, *ℤ_comm}
use Rattle.nav_base.specs.declared.point.Point.{Point}
use Rattle.nav_base.specs.Point.{from_to, dot_of, cross_of, orient_of}
use Rattle.nav_base.proofs.Polynomials.{number, sum, difference, product, opposite, equal}
use Rattle.nav_base.proofs.PointTerms.{Place, place, coordinates, from_to_term, dot_term, cross_term, orient_term}
use Rattle.nav_base.proofs.OrientLaws.{orient_of-end}
use Rattle.nav_base.proofs.Signs.{product-not_negative, factor-zero}
use Rattle.mesh_types.specs.declared.links.Portal.{Portal}
use Rattle.mesh_types.specs.Chains.{IsFold}
use Rattle.funnel_path.specs.PassedOver.{IsInside, IsInLine, LookOpposite}
use Rattle.funnel_path.proofs.SideRules.{positive-weak, zero-at_least, positive-not_zero, opposite-negative, not_positive-signs, without, multiple-positive, multiple-negative}
use Rattle.funnel_path.proofs.PointLaws.{dot_of-still, length-not_negative, length-positive, faces, turned-not_negative, turned-zero}
use Rattle.funnel_path.proofs.LineLaws.{LieOnLine, HasParts, inside_parts, in_line-multiple, in_line_turned, on_one_line}

-- the points of the equations below, as terms
abbrev p₀ : Place
p₀ = place 0

abbrev p₁ : Place
p₁ = place 1

abbrev p₂ : Place
p₂ = place 2

abbrev p₃ : Place
p₃ = place 3

abbrev p₄ : Place
p₄ = place 4

-- ---- round a point on both portals

-- how far along a portal's way the parts of another portal on either side of a point lead
left_part : (l r l' r' c : Point) → dot_of (from_to r' l') (from_to r' l') *ℤ dot_of (from_to r l) (from_to c l')
    ≡ dot_of (from_to r' l') (from_to c l') *ℤ dot_of (from_to r l) (from_to r' l') +ℤ orient_of r' l' c *ℤ cross_of (from_to r l) (from_to r' l')
unfolding cross_of dot_of orient_of
left_part l r l' r' c =
    let u : Place = from_to_term p₁ p₀ in
    let v : Place = from_to_term p₃ p₂ in
    equal (coordinates (l ∷ r ∷ l' ∷ r' ∷ c ∷ [])) (product (dot_term v v) (dot_term u (from_to_term p₄ p₂)))
    (sum (product (dot_term v (from_to_term p₄ p₂)) (dot_term u v)) (product (orient_term p₃ p₂ p₄) (cross_term u v))) refl

right_part : (l r l' r' c : Point) → dot_of (from_to r' l') (from_to r' l') *ℤ dot_of (from_to r l) (from_to r' c)
    ≡ dot_of (from_to r' l') (from_to r' c) *ℤ dot_of (from_to r l) (from_to r' l') +ℤ orient_of r' l' c *ℤ cross_of (from_to r' l') (from_to r l)
unfolding cross_of dot_of orient_of
right_part l r l' r' c =
    let u : Place = from_to_term p₁ p₀ in
    let v : Place = from_to_term p₃ p₂ in
    equal (coordinates (l ∷ r ∷ l' ∷ r' ∷ c ∷ [])) (product (dot_term v v) (dot_term u (from_to_term p₃ p₄)))
    (sum (product (dot_term v (from_to_term p₃ p₄)) (dot_term u v)) (product (orient_term p₃ p₂ p₄) (cross_term v u))) refl

left_gap : (l r l' c : Point) → dot_of (from_to l l') (from_to r l) ≡ dot_of (from_to r l) (from_to c l') -ℤ dot_of (from_to r l) (from_to c l)
unfolding dot_of
left_gap l r l' c =
    let u : Place = from_to_term p₁ p₀ in
    equal (coordinates (l ∷ r ∷ l' ∷ c ∷ [])) (dot_term (from_to_term p₀ p₂) u) (difference (dot_term u (from_to_term p₃ p₂)) (dot_term u (from_to_term p₃ p₀))) refl

right_gap : (l r r' c : Point) → dot_of (from_to r r') (from_to l r) ≡ dot_of (from_to r l) (from_to r' c) -ℤ dot_of (from_to r l) (from_to r c)
unfolding dot_of
right_gap l r r' c =
    let u : Place = from_to_term p₁ p₀ in
    equal (coordinates (l ∷ r ∷ r' ∷ c ∷ [])) (dot_term (from_to_term p₁ p₂) (from_to_term p₀ p₁)) (difference (dot_term u (from_to_term p₂ p₃)) (dot_term u (from_to_term p₁ p₃))) refl

gap : (e m n : ℤ) → e ≡ m -ℤ n → m <ℤ pos 0 → pos 0 ≤ℤ n → e <ℤ pos 0
gap e m n is h k = omega (arith, ints)

-- a product of a positive number and a negative one is a positive number times a third: that is negative
part : (d x u v z w : ℤ) → d *ℤ x ≡ u *ℤ v +ℤ z *ℤ w → z ≡ pos 0 → pos 0 <ℤ d → pos 0 <ℤ u → v <ℤ pos 0 → x <ℤ pos 0
part d x u v z w is none some some' h = multiple-negative d x u v (without (d *ℤ x) (u *ℤ v) z w is none) some some' h

-- Two portals on one line that look opposite ways fold where a point lies on the first, at an end or between, and between the ends of the second.
pub folds_round : (a b : Portal) (c : Point) → IsInLine a b → LookOpposite a b
    → pos 0 ≤ℤ dot_of (from_to a.right a.left) (from_to c a.left) → pos 0 ≤ℤ dot_of (from_to a.right a.left) (from_to a.right c)
    → HasParts c b.right b.left → IsFold a b
folds_round a b c in_line ways left right parts = record {
  left_on_line = in_line.left;
  right_on_line = in_line.right;
  opposite = ways;
  left_inside = gap (dot_of (from_to a.left b.left) (from_to a.right a.left)) (dot_of (from_to a.right a.left) (from_to c b.left)) (dot_of (from_to a.right a.left) (from_to c a.left)) (left_gap a.left a.right b.left c)
      (part (dot_of (from_to b.right b.left) (from_to b.right b.left)) (dot_of (from_to a.right a.left) (from_to c b.left)) (dot_of (from_to b.right b.left) (from_to c b.left)) (dot_of (from_to a.right a.left) (from_to b.right b.left))
      (orient_of b.right b.left c) (cross_of (from_to a.right a.left) (from_to b.right b.left)) (left_part a.left a.right b.left b.right c) parts.on_line parts.wide parts.to_left ways) left;
  right_inside = gap (dot_of (from_to a.right b.right) (from_to a.left a.right)) (dot_of (from_to a.right a.left) (from_to b.right c)) (dot_of (from_to a.right a.left) (from_to a.right c)) (right_gap a.left a.right b.right c)
      (part (dot_of (from_to b.right b.left) (from_to b.right b.left)) (dot_of (from_to a.right a.left) (from_to b.right c)) (dot_of (from_to b.right b.left) (from_to b.right c)) (dot_of (from_to a.right a.left) (from_to b.right b.left))
      (orient_of b.right b.left c) (cross_of (from_to b.right b.left) (from_to a.right a.left)) (right_part a.left a.right b.left b.right c) parts.on_line parts.wide parts.from_right ways) right;
}

-- they fold where a point lies inside both
pub folds_inside : (a b : Portal) (c : Point) → IsInLine a b → LookOpposite a b → IsInside c a → IsInside c b → IsFold a b
folds_inside a b c in_line ways is is' =
    let parts = inside_parts c a is in
    folds_round a b c in_line ways (positive-weak (dot_of (from_to a.right a.left) (from_to c a.left)) parts.to_left) (positive-weak (dot_of (from_to a.right a.left) (from_to a.right c)) parts.from_right) (inside_parts c b is')

-- and where an end of the first lies inside the second
pub folds_at_left : (a b : Portal) → IsInLine a b → LookOpposite a b → IsInside a.left b → IsFold a b
folds_at_left a b in_line ways is =
    folds_round a b a.left in_line ways (zero-at_least (dot_of (from_to a.right a.left) (from_to a.left a.left)) (dot_of-still (from_to a.right a.left) a.left)) (length-not_negative (from_to a.right a.left)) (inside_parts a.left b is)

pub folds_at_right : (a b : Portal) → IsInLine a b → LookOpposite a b → IsInside a.right b → IsFold a b
folds_at_right a b in_line ways is =
    folds_round a b a.right in_line ways (length-not_negative (from_to a.right a.left)) (zero-at_least (dot_of (from_to a.right a.left) (from_to a.right a.right)) (dot_of-still (from_to a.right a.left) a.right)) (inside_parts a.right b is)

-- ---- in front of a portal whose right end lies inside the wedge

-- a portal's ways from a point of a wedge to its ends
to_right : (a r l q : Point) → orient_of a r l *ℤ dot_of (from_to r l) (from_to r q) ≡ orient_of a r q *ℤ dot_of (from_to r l) (from_to r l) +ℤ orient_of r l q *ℤ dot_of (from_to r l) (from_to r a)
unfolding cross_of dot_of orient_of
to_right a r l q =
    let u : Place = from_to_term p₁ p₂ in
    equal (coordinates (a ∷ r ∷ l ∷ q ∷ [])) (product (orient_term p₀ p₁ p₂) (dot_term u (from_to_term p₁ p₃)))
    (sum (product (orient_term p₀ p₁ p₃) (dot_term u u)) (product (orient_term p₁ p₂ p₃) (dot_term u (from_to_term p₁ p₀)))) refl

to_left : (a r l q : Point) → orient_of a r l *ℤ dot_of (from_to r l) (from_to q l) ≡ orient_of a q l *ℤ dot_of (from_to r l) (from_to r l) +ℤ orient_of r l q *ℤ dot_of (from_to r l) (from_to a l)
unfolding cross_of dot_of orient_of
to_left a r l q =
    let u : Place = from_to_term p₁ p₂ in
    equal (coordinates (a ∷ r ∷ l ∷ q ∷ [])) (product (orient_term p₀ p₁ p₂) (dot_term u (from_to_term p₃ p₂)))
    (sum (product (orient_term p₀ p₃ p₂) (dot_term u u)) (product (orient_term p₁ p₂ p₃) (dot_term u (from_to_term p₀ p₂)))) refl

right_gap_turned : (l r r' : Point) → dot_of (from_to r r') (from_to l r) ≡ neg_ℤ (dot_of (from_to r l) (from_to r r'))
unfolding dot_of
right_gap_turned l r r' =
    equal (coordinates (l ∷ r ∷ r' ∷ [])) (dot_term (from_to_term p₁ p₂) (from_to_term p₀ p₁)) (opposite (dot_term (from_to_term p₁ p₀) (from_to_term p₁ p₂))) refl

-- the second portal, seen from behind the first
pub record LooksBack (apex : Point) (a b : Portal) : Type 0 where
  pub behind : pos 0 <ℤ orient_of a.right a.left apex
  pub inside_right : pos 0 <ℤ orient_of apex a.right b.right
  pub inside_left : pos 0 <ℤ orient_of apex b.right a.left
  pub front : orient_of b.right b.left apex ≤ℤ pos 0
  pub left_ahead : orient_of a.right a.left b.left ≤ℤ pos 0
  pub right_ahead : orient_of a.right a.left b.right ≤ℤ pos 0
  pub left_behind : pos 0 ≤ℤ orient_of b.right b.left a.left
  pub right_behind : pos 0 ≤ℤ orient_of b.right b.left a.right

-- the product identity of the wedge at the second portal's right end, as a sum of three parts
three_parts : (a r l r' l' : Point) → orient_of l r r' *ℤ orient_of l' r' a +ℤ orient_of a r r' *ℤ orient_of r' l' l +ℤ orient_of a r' l *ℤ orient_of r' l' r ≡ pos 0
unfolding cross_of dot_of orient_of
three_parts a r l r' l' =
    equal (coordinates (a ∷ r ∷ l ∷ r' ∷ l' ∷ []))
    (sum (sum (product (orient_term p₂ p₁ p₃) (orient_term p₄ p₃ p₀)) (product (orient_term p₀ p₁ p₃) (orient_term p₃ p₄ p₂))) (product (orient_term p₀ p₃ p₂) (orient_term p₃ p₄ p₁)))
    (number (pos 0)) refl

-- numbers that are not negative and whose sum is 0
record AreZero (m n o : ℤ) : Type 0 where
  first : m ≡ pos 0
  second : n ≡ pos 0
  third : o ≡ pos 0

all_zero : (m n o : ℤ) → m +ℤ n +ℤ o ≡ pos 0 → pos 0 ≤ℤ m → pos 0 ≤ℤ n → pos 0 ≤ℤ o → AreZero m n o
all_zero m n o none p q r = record { first = omega (arith, ints); second = omega (arith, ints); third = omega (arith, ints) }

parts_zero : (apex : Point) (a b : Portal) → LooksBack apex a b
    → AreZero (orient_of a.left a.right b.right *ℤ orient_of b.left b.right apex) (orient_of apex a.right b.right *ℤ orient_of b.right b.left a.left) (orient_of apex b.right a.left *ℤ orient_of b.right b.left a.right)
parts_zero apex a b is =
    all_zero (orient_of a.left a.right b.right *ℤ orient_of b.left b.right apex) (orient_of apex a.right b.right *ℤ orient_of b.right b.left a.left) (orient_of apex b.right a.left *ℤ orient_of b.right b.left a.right)
    (three_parts apex a.right a.left b.right b.left)
    (product-not_negative (orient_of a.left a.right b.right) (orient_of b.left b.right apex) (turned-not_negative a.left a.right b.right is.right_ahead) (turned-not_negative b.left b.right apex is.front))
    (product-not_negative (orient_of apex a.right b.right) (orient_of b.right b.left a.left) (positive-weak (orient_of apex a.right b.right) is.inside_right) is.left_behind)
    (product-not_negative (orient_of apex b.right a.left) (orient_of b.right b.left a.right) (positive-weak (orient_of apex b.right a.left) is.inside_left) is.right_behind)

-- the first portal lies on the second one's line
first_on_second : (apex : Point) (a b : Portal) → LooksBack apex a b → LieOnLine b.right b.left a.left a.right
first_on_second apex a b is = record {
  left = factor-zero (orient_of apex a.right b.right) (orient_of b.right b.left a.left) is.inside_right (parts_zero apex a b is).second;
  right = factor-zero (orient_of apex b.right a.left) (orient_of b.right b.left a.right) is.inside_left (parts_zero apex a b is).third;
}

-- the apex lies strictly in front of the second portal
in_front : (apex : Point) (a b : Portal) → b.left ≢ b.right → LooksBack apex a b → orient_of b.right b.left apex <ℤ pos 0
in_front apex a b apart is =
    elim (not_positive-signs (orient_of b.right b.left apex) is.front) [
      | inr less ↦ less
      | inl none ↦ absurd (positive-not_zero (orient_of apex a.right a.left) (faces apex a.right a.left is.behind)
          (on_one_line b.right b.left apex a.right a.left (λ e. apart (sym e)) none (first_on_second apex a b is).right (first_on_second apex a b is).left))
    ]

-- A portal whose right end lies strictly inside the wedge through the one before it, and that is not seen from behind, is seen from its front
-- and folds back.
pub record FoldsBack (apex : Point) (a b : Portal) : Type 0 where
  pub front : orient_of b.right b.left apex <ℤ pos 0
  pub folds : IsFold a b

pub folds_back : (apex : Point) (a b : Portal) → b.left ≢ b.right → LooksBack apex a b → FoldsBack apex a b
folds_back apex a b apart is = record {
  front = front;
  folds = record {
    left_on_line = in_line.left;
    right_on_line = in_line.right;
    opposite = opposite_ways;
    left_inside = gap (dot_of (from_to a.left b.left) (from_to a.right a.left)) (dot_of (from_to a.right a.left) (from_to b.right b.left)) (dot_of (from_to a.right a.left) (from_to b.right a.left)) (left_gap a.left a.right b.left b.right)
        opposite_ways (positive-weak (dot_of (from_to a.right a.left) (from_to b.right a.left)) left_way);
    right_inside = opposite-negative (dot_of (from_to a.right b.right) (from_to a.left a.right)) (dot_of (from_to a.right a.left) (from_to a.right b.right)) (right_gap_turned a.left a.right b.right) right_way;
  };
}
  where
    front : orient_of b.right b.left apex <ℤ pos 0
    front = in_front apex a b apart is

    in_line : IsInLine a b
    in_line = in_line_turned a b apart (first_on_second apex a b is)

    wide : pos 0 <ℤ orient_of apex a.right a.left
    wide = faces apex a.right a.left is.behind

    length : pos 0 <ℤ dot_of (from_to a.right a.left) (from_to a.right a.left)
    length = length-positive a.right a.left (λ e. positive-not_zero (orient_of apex a.right a.left) wide (ap (λ (p : Point). orient_of apex p a.left) e ∙ orient_of-end apex a.left))

    opposite_ways : LookOpposite a b
    opposite_ways =
        multiple-negative (orient_of a.right a.left apex) (dot_of (from_to a.right a.left) (from_to b.right b.left)) (dot_of (from_to a.right a.left) (from_to a.right a.left)) (orient_of b.right b.left apex)
        (*ℤ_comm (orient_of a.right a.left apex) (dot_of (from_to a.right a.left) (from_to b.right b.left)) ∙ in_line-multiple a b apex in_line) is.behind length front

    right_zero : orient_of a.right a.left b.right ≡ pos 0
    right_zero = turned-zero a.right a.left b.right in_line.right

    right_way : pos 0 <ℤ dot_of (from_to a.right a.left) (from_to a.right b.right)
    right_way =
        multiple-positive (orient_of apex a.right a.left) (dot_of (from_to a.right a.left) (from_to a.right b.right)) (orient_of apex a.right b.right) (dot_of (from_to a.right a.left) (from_to a.right a.left))
        (without (orient_of apex a.right a.left *ℤ dot_of (from_to a.right a.left) (from_to a.right b.right)) (orient_of apex a.right b.right *ℤ dot_of (from_to a.right a.left) (from_to a.right a.left)) (orient_of a.right a.left b.right) (dot_of (from_to a.right a.left) (from_to a.right apex))
        (to_right apex a.right a.left b.right) right_zero) wide is.inside_right length

    left_way : pos 0 <ℤ dot_of (from_to a.right a.left) (from_to b.right a.left)
    left_way =
        multiple-positive (orient_of apex a.right a.left) (dot_of (from_to a.right a.left) (from_to b.right a.left)) (orient_of apex b.right a.left) (dot_of (from_to a.right a.left) (from_to a.right a.left))
        (without (orient_of apex a.right a.left *ℤ dot_of (from_to a.right a.left) (from_to b.right a.left)) (orient_of apex b.right a.left *ℤ dot_of (from_to a.right a.left) (from_to a.right a.left)) (orient_of a.right a.left b.right) (dot_of (from_to a.right a.left) (from_to apex a.left))
        (to_left apex a.right a.left b.right) right_zero) wide is.inside_left length
