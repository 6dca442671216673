-- Points that hold a bend: the farther end of a portal from beside it, what is not behind for one who goes ahead, and what lies in a wedge
-- between two that hold it.
use Rattle.std.proofs.Common.{◌≡◌, ◌≢◌, ℤ, pos, ◌+ℤ◌, ◌-ℤ◌, ◌*ℤ◌, ◌≤ℤ◌, ◌<ℤ◌, ◌⊎◌, inl, inr, [], ◌∷◌, ap, sym, subst, ◌∙◌, refl, arith}
use Rattle.std.proofs.lemmas.Int.{ints}
use lib.IntN.{neg_ℤ, *ℤ_comm}
use Rattle.nav_base.specs.declared.point.Point.{Point}
use Rattle.nav_base.specs.Point.{from_to, dot_of, cross_of, orient_of}
use Rattle.nav_base.proofs.Polynomials.{sum, difference, product, opposite, equal}
use Rattle.nav_base.proofs.PointTerms.{Place, place, coordinates, from_to_term, dot_term, orient_term}
use Rattle.nav_base.proofs.OrientLaws.{orient_of-rotated, orient_of-turned, orient_of-fan, orient_of-ahead, orient_of-order_beyond, dot_of-exchanged, dot_of-fan, dot_of-product}
use Rattle.nav_base.proofs.Signs.{product-not_negative, product-not_positive, product-positive, product-negative, factor-positive, factor-zero}
use Rattle.mesh_types.specs.declared.answers.Side.TheVariants.{L, R}
use Rattle.mesh_types.specs.Bends.{IsStraightOn, IsHolding}
use Rattle.funnel_path.proofs.SideRules.{positive-not_zero, opposite-negative, opposite-positive, opposite-zero, signs, not_negative-signs, not_positive-signs, difference-positive, difference-not_negative, zero-product, without, multiple-not_negative, factor-negative, product-negatives}
use Rattle.funnel_path.proofs.PointLaws.{LiesBetweenRays, rays-meet, turned-zero, length-not_negative, length-zero, length-positive}

-- the points of the equations below, as terms
abbrev p₀ : Place
p₀ = place 0

abbrev p₁ : Place
p₁ = place 1

abbrev p₂ : Place
p₂ = place 2

abbrev p₃ : Place
p₃ = place 3

abbrev p₄ : Place
p₄ = place 4

-- how far a point lies back, for one who came, is how far it does not lie ahead
back : (b c x : Point) → dot_of (from_to c b) (from_to c x) ≡ neg_ℤ (dot_of (from_to b c) (from_to c x))
unfolding dot_of
back b c x =
    equal (coordinates (b ∷ c ∷ x ∷ [])) (dot_term (from_to_term p₁ p₀) (from_to_term p₁ p₂)) (opposite (dot_term (from_to_term p₀ p₁) (from_to_term p₁ p₂))) refl

-- the lengths of a way and the next: the square of their scalar product and that of the turn
squares : (b c x : Point) → dot_of (from_to b c) (from_to b c) *ℤ dot_of (from_to c x) (from_to c x)
    ≡ dot_of (from_to b c) (from_to c x) *ℤ dot_of (from_to b c) (from_to c x) +ℤ orient_of b c x *ℤ orient_of b c x
unfolding cross_of dot_of orient_of
squares b c x =
    let u : Place = from_to_term p₀ p₁ in
    let v : Place = from_to_term p₁ p₂ in
    equal (coordinates (b ∷ c ∷ x ∷ [])) (product (dot_term u u) (dot_term v v)) (sum (product (dot_term u v) (dot_term u v)) (product (orient_term p₀ p₁ p₂) (orient_term p₀ p₁ p₂))) refl

-- on the line of a way, a point that is neither before its end nor there is straight on
straight : (b c x : Point) → b ≢ c → x ≢ c → orient_of b c x ≡ pos 0 → pos 0 ≤ℤ dot_of (from_to b c) (from_to c x) → IsStraightOn b c x
straight b c x apart apart' on_line not_back = record {
  on_line = on_line;
  onward = opposite-negative (dot_of (from_to c b) (from_to c x)) (dot_of (from_to b c) (from_to c x)) (back b c x) onward;
}
  where
    meet : dot_of (from_to b c) (from_to c x) ≡ pos 0 → ⊥
    meet none =
        apart' (sym (length-zero c x (factor-zero (dot_of (from_to b c) (from_to b c)) (dot_of (from_to c x) (from_to c x)) (length-positive b c apart)
        (without (dot_of (from_to b c) (from_to b c) *ℤ dot_of (from_to c x) (from_to c x)) (dot_of (from_to b c) (from_to c x) *ℤ dot_of (from_to b c) (from_to c x)) (orient_of b c x) (orient_of b c x) (squares b c x) on_line
        ∙ zero-product (dot_of (from_to b c) (from_to c x)) (dot_of (from_to b c) (from_to c x)) none))))

    onward : pos 0 <ℤ dot_of (from_to b c) (from_to c x)
    onward = elim (not_negative-signs (dot_of (from_to b c) (from_to c x)) not_back) [ inl none ↦ absurd (meet none) | inr some ↦ some ]

-- ---- the farther end of a portal

lengths : (a p q : Point) → dot_of (from_to a p) (from_to a p) *ℤ (dot_of (from_to a q) (from_to a q) -ℤ dot_of (from_to a p) (from_to a p))
    ≡ (dot_of (from_to a p) (from_to a q) +ℤ dot_of (from_to a p) (from_to a p)) *ℤ dot_of (from_to a p) (from_to p q) +ℤ orient_of a p q *ℤ orient_of a p q
unfolding cross_of dot_of orient_of
lengths a p q =
    let u : Place = from_to_term p₀ p₁ in
    let w : Place = from_to_term p₀ p₂ in
    equal (coordinates (a ∷ p ∷ q ∷ [])) (product (dot_term u u) (difference (dot_term w w) (dot_term u u)))
    (sum (product (sum (dot_term u w) (dot_term u u)) (dot_term u (from_to_term p₁ p₂))) (product (orient_term p₀ p₁ p₂) (orient_term p₀ p₁ p₂))) refl

-- from beside a portal its farther end q is straight on at its nearer end p
pub farther_end : (a p q : Point) → orient_of a p q ≡ pos 0 → pos 0 ≤ℤ dot_of (from_to a p) (from_to a q) → dot_of (from_to a p) (from_to a p) ≤ℤ dot_of (from_to a q) (from_to a q) → p ≢ q → a ≢ p → IsStraightOn a p q
farther_end a p q on_line outside nearer apart apart' =
    straight a p q apart' (λ e. apart (sym e)) on_line
    (multiple-not_negative (dot_of (from_to a p) (from_to a q) +ℤ dot_of (from_to a p) (from_to a p)) (dot_of (from_to a p) (from_to p q)) (dot_of (from_to a p) (from_to a p)) (dot_of (from_to a q) (from_to a q) -ℤ dot_of (from_to a p) (from_to a p))
    (sym (without (dot_of (from_to a p) (from_to a p) *ℤ (dot_of (from_to a q) (from_to a q) -ℤ dot_of (from_to a p) (from_to a p))) ((dot_of (from_to a p) (from_to a q) +ℤ dot_of (from_to a p) (from_to a p)) *ℤ dot_of (from_to a p) (from_to p q)) (orient_of a p q) (orient_of a p q) (lengths a p q) on_line))
    (more (dot_of (from_to a p) (from_to a q)) (dot_of (from_to a p) (from_to a p)) outside (length-positive a p apart'))
    (length-not_negative (from_to a p)) (difference-not_negative (dot_of (from_to a p) (from_to a p)) (dot_of (from_to a q) (from_to a q)) nearer))
  where
    more : (m n : ℤ) → pos 0 ≤ℤ m → pos 0 <ℤ n → pos 0 <ℤ (m +ℤ n)
    more m n h k = omega (arith, ints)

-- ---- what is not behind

-- For one who comes from b to c, ahead for the walk from s to t: a point other than c that is not behind c for that walk, and on the line
-- through b and c, is straight on.
pub not_behind : (s t b c x : Point) → orient_of s t c <ℤ orient_of s t b → orient_of s t x ≤ℤ orient_of s t c → orient_of b c x ≡ pos 0 → x ≢ c → IsStraightOn b c x
not_behind s t b c x ahead beyond on_line apart =
    straight b c x (λ e. differ (orient_of s t b) (orient_of s t c) (ap (orient_of s t) e) ahead) apart on_line
    (multiple-not_negative (orient_of s t b -ℤ orient_of s t c) (dot_of (from_to b c) (from_to c x)) (orient_of s t c -ℤ orient_of s t x) (dot_of (from_to b c) (from_to b c))
    (without ((orient_of s t b -ℤ orient_of s t c) *ℤ dot_of (from_to b c) (from_to c x)) ((orient_of s t c -ℤ orient_of s t x) *ℤ dot_of (from_to b c) (from_to b c)) (orient_of b c x) (dot_of (from_to s t) (from_to b c)) (orient_of-ahead s t b c x) on_line)
    (difference-positive (orient_of s t c) (orient_of s t b) ahead) (difference-not_negative (orient_of s t x) (orient_of s t c) beyond) (length-not_negative (from_to b c)))
  where
    differ : (m n : ℤ) → m ≡ n → n <ℤ m → ⊥
    differ m n e h = omega (arith, ints)

-- so it holds a bend on the left where it is not to the right, and on the right where it is not to the left
pub holds_left : (s t b c x : Point) → orient_of s t c <ℤ orient_of s t b → orient_of s t x ≤ℤ orient_of s t c → x ≢ c → pos 0 ≤ℤ orient_of b c x → IsHolding L b c x
holds_left s t b c x ahead beyond apart h =
    elim (not_negative-signs (orient_of b c x) h) [ inl on_line ↦ inl (not_behind s t b c x ahead beyond on_line apart) | inr left ↦ inr left ]

pub holds_right : (s t b c x : Point) → orient_of s t c <ℤ orient_of s t b → orient_of s t x ≤ℤ orient_of s t c → x ≢ c → orient_of b c x ≤ℤ pos 0 → IsHolding R b c x
holds_right s t b c x ahead beyond apart h =
    elim (not_positive-signs (orient_of b c x) h) [ inl on_line ↦ inl (not_behind s t b c x ahead beyond on_line apart) | inr right ↦ inr right ]

-- and on one side or the other
pub holds_either : (s t b c x : Point) → orient_of s t c <ℤ orient_of s t b → orient_of s t x ≤ℤ orient_of s t c → x ≢ c → IsHolding L b c x ⊎ IsHolding R b c x
holds_either s t b c x ahead beyond apart =
    elim (signs (orient_of b c x)) [
      | inl right ↦ inr (inr right)
      | inr (inl on_line) ↦ inl (inl (not_behind s t b c x ahead beyond on_line apart))
      | inr (inr left) ↦ inl (inr left)
    ]

-- ---- between two points that hold a bend

-- the side and the scalar product of a point that holds: the side is positive, or 0 and the product negative
abbrev IsGood : ℤ → ℤ → Type 0
IsGood side along = ((side ≡ pos 0) × (along <ℤ pos 0)) ⊎ (pos 0 <ℤ side)

-- a weight times a side and times a product
data Part (weight side along : ℤ) : Type 0 where
  to_side : pos 0 <ℤ side → Part weight side along
  onward : side ≡ pos 0 → along <ℤ pos 0 → Part weight side along
  nothing : weight ≡ pos 0 → side ≡ pos 0 → along ≡ pos 0 → Part weight side along

part_of : (a s t : ℤ) → pos 0 ≤ℤ a → IsGood s t → Part a (a *ℤ s) (a *ℤ t)
part_of a s t h good =
    elim (not_negative-signs a h) [
      | inl none ↦ nothing none (zero-product a s none) (zero-product a t none)
      | inr some ↦ elim good [
        | inl ahead ↦ onward (*ℤ_comm a s ∙ zero-product s a ahead.0) (product-negative a t some ahead.1)
        | inr side ↦ to_side (product-positive a s some side)
      ]
    ]

joined : (a b s s' s'' t t' t'' : ℤ) → s'' ≡ s +ℤ s' → t'' ≡ t +ℤ t' → (a ≡ pos 0 → b ≡ pos 0 → ⊥) → Part a s t → Part b s' t' → IsGood s'' t''
joined a b s s' s'' t t' t'' e e' some (to_side h) (to_side k) = inr (omega (arith, ints))
joined a b s s' s'' t t' t'' e e' some (to_side h) (onward k k') = inr (omega (arith, ints))
joined a b s s' s'' t t' t'' e e' some (to_side h) (nothing z k k') = inr (omega (arith, ints))
joined a b s s' s'' t t' t'' e e' some (onward h h') (to_side k) = inr (omega (arith, ints))
joined a b s s' s'' t t' t'' e e' some (onward h h') (onward k k') = inl (omega (arith, ints), omega (arith, ints))
joined a b s s' s'' t t' t'' e e' some (onward h h') (nothing z k k') = inl (omega (arith, ints), omega (arith, ints))
joined a b s s' s'' t t' t'' e e' some (nothing z h h') (to_side k) = inr (omega (arith, ints))
joined a b s s' s'' t t' t'' e e' some (nothing z h h') (onward k k') = inl (omega (arith, ints), omega (arith, ints))
joined a b s s' s'' t t' t'' e e' some (nothing z h h') (nothing z' k k') = absurd (some z z')

mean_good : (d a b s s' s'' t t' t'' : ℤ) → d *ℤ s'' ≡ a *ℤ s +ℤ b *ℤ s' → d *ℤ t'' ≡ a *ℤ t +ℤ b *ℤ t' → pos 0 <ℤ d → pos 0 ≤ℤ a → pos 0 ≤ℤ b → (a ≡ pos 0 → b ≡ pos 0 → ⊥)
    → IsGood s t → IsGood s' t' → IsGood s'' t''
mean_good d a b s s' s'' t t' t'' e e' wide h k some good good' =
    elim (joined a b (a *ℤ s) (b *ℤ s') (d *ℤ s'') (a *ℤ t) (b *ℤ t') (d *ℤ t'') e e' some (part_of a s t h good) (part_of b s' t' k good')) [
      | inl ahead ↦ inl (factor-zero d s'' wide ahead.0, factor-negative d t'' wide ahead.1)
      | inr side ↦ inr (factor-positive d s'' wide side)
    ]

-- the side of a point in the wedge from c, seen by one who comes from b
fan_side : (b c r l q : Point) → orient_of c r l *ℤ orient_of b c q ≡ orient_of c q l *ℤ orient_of b c r +ℤ orient_of c r q *ℤ orient_of b c l
unfolding cross_of orient_of
fan_side b c r l q =
    equal (coordinates (b ∷ c ∷ r ∷ l ∷ q ∷ [])) (product (orient_term p₁ p₂ p₃) (orient_term p₀ p₁ p₄))
    (sum (product (orient_term p₁ p₄ p₃) (orient_term p₀ p₁ p₂)) (product (orient_term p₁ p₂ p₄) (orient_term p₀ p₁ p₃))) refl

-- what lies between the rays from a bend to two points that hold it on the left, other than the bend, holds it on the left
pub between_left : (b c r l q : Point) → LiesBetweenRays c r l q → c ≢ q → IsHolding L b c r → IsHolding L b c l → IsHolding L b c q
between_left b c r l q is apart good good' =
    from (mean_good (orient_of c r l) (orient_of c q l) (orient_of c r q) (orient_of b c r) (orient_of b c l) (orient_of b c q)
    (dot_of (from_to c b) (from_to c r)) (dot_of (from_to c b) (from_to c l)) (dot_of (from_to c b) (from_to c q)) (fan_side b c r l q) (dot_of-fan (from_to c b) c r l q) is.wide is.from_left is.from_right
    (λ left right. apart (rays-meet c r l q is.wide right left)) (into r good) (into l good'))
  where
    into : (x : Point) → IsHolding L b c x → IsGood (orient_of b c x) (dot_of (from_to c b) (from_to c x))
    into x (inl ahead) = inl (ahead.on_line, ahead.onward)
    into x (inr side) = inr side

    from : IsGood (orient_of b c q) (dot_of (from_to c b) (from_to c q)) → IsHolding L b c q
    from (inl ahead) = inl (record { on_line = ahead.0; onward = ahead.1 })
    from (inr side) = inr side

-- and the same on the right
pub between_right : (b c r l q : Point) → LiesBetweenRays c r l q → c ≢ q → IsHolding R b c r → IsHolding R b c l → IsHolding R b c q
between_right b c r l q is apart good good' =
    from (mean_good (orient_of c r l) (orient_of c q l) (orient_of c r q) (orient_of c b r) (orient_of c b l) (orient_of c b q)
    (dot_of (from_to c b) (from_to c r)) (dot_of (from_to c b) (from_to c l)) (dot_of (from_to c b) (from_to c q)) (orient_of-fan c r l b q) (dot_of-fan (from_to c b) c r l q) is.wide is.from_left is.from_right
    (λ left right. apart (rays-meet c r l q is.wide right left)) (into r good) (into l good'))
  where
    into : (x : Point) → IsHolding R b c x → IsGood (orient_of c b x) (dot_of (from_to c b) (from_to c x))
    into x (inl ahead) = inl (opposite-zero (orient_of c b x) (orient_of b c x) (orient_of-turned b c x) ahead.on_line, ahead.onward)
    into x (inr side) = inr (opposite-positive (orient_of c b x) (orient_of b c x) (orient_of-turned b c x) side)

    from : IsGood (orient_of c b q) (dot_of (from_to c b) (from_to c q)) → IsHolding R b c q
    from (inl ahead) = inl (record { on_line = opposite-zero (orient_of b c q) (orient_of c b q) (orient_of-turned c b q) ahead.0; onward = ahead.1 })
    from (inr side) = inr (opposite-negative (orient_of b c q) (orient_of c b q) (orient_of-turned c b q) side)

-- ---- both ends of a portal

-- For one who comes from b to c, ahead for the walk from s to t: of two points that are not behind c, where r is not to the right and l to
-- the left of r, l is to the left.
pub left_of_left : (s t b c r l : Point) → orient_of s t c <ℤ orient_of s t b → orient_of s t r ≤ℤ orient_of s t c → orient_of s t l ≤ℤ orient_of s t c
    → pos 0 <ℤ orient_of c r l → pos 0 ≤ℤ orient_of b c r → pos 0 <ℤ orient_of b c l
left_of_left s t b c r l ahead at_r at_l wide right =
    factor_of (orient_of s t c -ℤ orient_of s t r) (orient_of b c l) (difference-not_negative (orient_of s t r) (orient_of s t c) at_r)
    (rest ((orient_of s t b -ℤ orient_of s t c) *ℤ orient_of c r l) ((orient_of s t c -ℤ orient_of s t r) *ℤ orient_of b c l) ((orient_of s t c -ℤ orient_of s t l) *ℤ orient_of b c r) (orient_of-order_beyond s t b c r l)
    (product-positive (orient_of s t b -ℤ orient_of s t c) (orient_of c r l) (difference-positive (orient_of s t c) (orient_of s t b) ahead) wide)
    (product-not_negative (orient_of s t c -ℤ orient_of s t l) (orient_of b c r) (difference-not_negative (orient_of s t l) (orient_of s t c) at_l) right))
  where
    rest : (e m n : ℤ) → e ≡ m -ℤ n → pos 0 <ℤ e → pos 0 ≤ℤ n → pos 0 <ℤ m
    rest e m n is h k = omega (arith, ints)

    factor_of : (m n : ℤ) → pos 0 ≤ℤ m → pos 0 <ℤ (m *ℤ n) → pos 0 <ℤ n
    factor_of m n h k = elim (not_negative-signs m h) [ inl zero ↦ absurd (positive-not_zero (m *ℤ n) k (zero-product m n zero)) | inr some ↦ factor-positive m n some k ]

-- the sides of a portal's ends for one who bends on its line
beside_multiple : (b c l r : Point) → dot_of (from_to c l) (from_to c r) *ℤ orient_of b c l ≡ dot_of (from_to c l) (from_to c l) *ℤ orient_of b c r +ℤ orient_of r l c *ℤ dot_of (from_to c l) (from_to b c)
unfolding cross_of dot_of orient_of
beside_multiple b c l r =
    let u : Place = from_to_term p₁ p₂ in
    equal (coordinates (b ∷ c ∷ l ∷ r ∷ [])) (product (dot_term u (from_to_term p₁ p₃)) (orient_term p₀ p₁ p₂))
    (sum (product (dot_term u u) (orient_term p₀ p₁ p₃)) (product (orient_term p₃ p₂ p₁) (dot_term u (from_to_term p₀ p₁)))) refl

beside : (b c l r : Point) → orient_of r l c ≡ pos 0 → dot_of (from_to c l) (from_to c r) *ℤ orient_of b c l ≡ dot_of (from_to c l) (from_to c l) *ℤ orient_of b c r
beside b c l r on_line =
    without (dot_of (from_to c l) (from_to c r) *ℤ orient_of b c l) (dot_of (from_to c l) (from_to c l) *ℤ orient_of b c r) (orient_of r l c) (dot_of (from_to c l) (from_to b c)) (beside_multiple b c l r) on_line

-- A bend beside a portal is an end of it where the other end lies to one side, and this one not. This is so with l to the left,
pub at_left_end : (b c l r : Point) → orient_of r l c ≡ pos 0 → pos 0 ≤ℤ dot_of (from_to c l) (from_to c r) → pos 0 ≤ℤ orient_of b c l → orient_of b c r <ℤ pos 0 → c ≡ l
at_left_end b c l r on_line outside left right =
    elim (not_negative-signs (dot_of (from_to c l) (from_to c l)) (length-not_negative (from_to c l))) [
      | inl none ↦ length-zero c l none
      | inr some ↦ absurd (apart (dot_of (from_to c l) (from_to c r) *ℤ orient_of b c l) (dot_of (from_to c l) (from_to c l) *ℤ orient_of b c r) (beside b c l r on_line)
          (product-not_negative (dot_of (from_to c l) (from_to c r)) (orient_of b c l) outside left) (product-negative (dot_of (from_to c l) (from_to c l)) (orient_of b c r) some right))
    ]
  where
    apart : (m n : ℤ) → m ≡ n → pos 0 ≤ℤ m → n <ℤ pos 0 → ⊥
    apart m n e h k = omega (arith, ints)

-- and with r to the right
pub at_right_end : (b c l r : Point) → orient_of r l c ≡ pos 0 → pos 0 ≤ℤ dot_of (from_to c l) (from_to c r) → pos 0 <ℤ orient_of b c l → orient_of b c r ≤ℤ pos 0 → c ≡ r
at_right_end b c l r on_line outside left right =
    elim (not_negative-signs (dot_of (from_to c r) (from_to c r)) (length-not_negative (from_to c r))) [
      | inl none ↦ length-zero c r none
      | inr some ↦ absurd (apart (dot_of (from_to c r) (from_to c l) *ℤ orient_of b c r) (dot_of (from_to c r) (from_to c r) *ℤ orient_of b c l) (beside b c r l (turned-zero l r c on_line))
          (product-not_positive (dot_of (from_to c r) (from_to c l)) (orient_of b c r) (subst (λ (n : ℤ). pos 0 ≤ℤ n) (dot_of-exchanged (from_to c r) (from_to c l)) outside) right)
          (product-positive (dot_of (from_to c r) (from_to c r)) (orient_of b c l) some left))
    ]
  where
    apart : (m n : ℤ) → m ≡ n → m ≤ℤ pos 0 → pos 0 <ℤ n → ⊥
    apart m n e h k = omega (arith, ints)

end_squares : (c l r : Point) → dot_of (from_to c l) (from_to c l) *ℤ dot_of (from_to c r) (from_to c r)
    ≡ dot_of (from_to c l) (from_to c r) *ℤ dot_of (from_to c l) (from_to c r) +ℤ orient_of r l c *ℤ orient_of r l c
unfolding cross_of dot_of orient_of
end_squares c l r =
    let u : Place = from_to_term p₀ p₁ in
    let w : Place = from_to_term p₀ p₂ in
    equal (coordinates (c ∷ l ∷ r ∷ [])) (product (dot_term u u) (dot_term w w)) (sum (product (dot_term u w) (dot_term u w)) (product (orient_term p₂ p₁ p₀) (orient_term p₂ p₁ p₀))) refl

-- beside a portal, at neither end, its left end is not to the right where its right end is not
pub both_ends : (b c l r : Point) → orient_of r l c ≡ pos 0 → pos 0 ≤ℤ dot_of (from_to c l) (from_to c r) → c ≢ l → c ≢ r → pos 0 ≤ℤ orient_of b c r → pos 0 ≤ℤ orient_of b c l
both_ends b c l r on_line outside apart apart' right =
    elim (not_negative-signs (dot_of (from_to c l) (from_to c r)) outside) [
      | inl none ↦ absurd (positive-not_zero (dot_of (from_to c l) (from_to c l) *ℤ dot_of (from_to c r) (from_to c r))
          (product-positive (dot_of (from_to c l) (from_to c l)) (dot_of (from_to c r) (from_to c r)) (length-positive c l apart) (length-positive c r apart'))
          (without (dot_of (from_to c l) (from_to c l) *ℤ dot_of (from_to c r) (from_to c r)) (dot_of (from_to c l) (from_to c r) *ℤ dot_of (from_to c l) (from_to c r)) (orient_of r l c) (orient_of r l c) (end_squares c l r) on_line
          ∙ zero-product (dot_of (from_to c l) (from_to c r)) (dot_of (from_to c l) (from_to c r)) none))
      | inr more ↦ multiple-not_negative (dot_of (from_to c l) (from_to c r)) (orient_of b c l) (dot_of (from_to c l) (from_to c l)) (orient_of b c r) (beside b c l r on_line) more (length-not_negative (from_to c l)) right
    ]

-- two points straight on are not on both sides of the bend
pub opposite_onward : (b c l r : Point) → dot_of (from_to c l) (from_to c r) <ℤ pos 0 → IsStraightOn b c l → IsStraightOn b c r → ⊥
unfolding orient_of
opposite_onward b c l r between left right =
    apart (dot_of v v *ℤ dot_of u w) (dot_of u v *ℤ dot_of w v)
    (*ℤ_comm (dot_of v v) (dot_of u w) ∙ without (dot_of u w *ℤ dot_of v v) (dot_of u v *ℤ dot_of w v) (cross_of u v) (cross_of w v) (dot_of-product u v w) (orient_of-rotated b c l ∙ left.on_line))
    (product-not_positive (dot_of v v) (dot_of u w) (length-not_negative v) (below (dot_of u w) between))
    (product-negatives (dot_of u v) (dot_of w v) (same (dot_of u v) (dot_of v u) (dot_of-exchanged v u) left.onward) (same (dot_of w v) (dot_of v w) (dot_of-exchanged v w) right.onward))
  where
    u : Point
    u = from_to c l

    w : Point
    w = from_to c r

    v : Point
    v = from_to c b

    below : (n : ℤ) → n <ℤ pos 0 → n ≤ℤ pos 0
    below n h = omega (arith, ints)

    same : (m n : ℤ) → m ≡ n → n <ℤ pos 0 → m <ℤ pos 0
    same m n e h = omega (arith, ints)

    apart : (m n : ℤ) → m ≡ n → m ≤ℤ pos 0 → pos 0 <ℤ n → ⊥
    apart m n e h k = omega (arith, ints)
