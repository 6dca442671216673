-- How near to a point the points on the left of an edge can be, in all and on a row.
use Rattle.std.proofs.Common.{◌≡◌, ℕ, ◌+◌, ◌*◌, ◌-◌, ◌≤◌, ◌<◌, ℤ, pos, ◌-ℤ◌, ◌*ℤ◌, ◌≤ℤ◌, ◌<ℤ◌, false, inl, inr, ap, subst, ◌∙◌, arith}
use Rattle.std.specs.Prelude.{int_le, unsigned_abs}
use Rattle.std.proofs.lemmas.Bool.{cases_lt}
use Rattle.std.proofs.lemmas.Int.{ints, unsigned_abs-mul}
use Rattle.std.proofs.lemmas.Nat.{mul-le}
use Rattle.nav_base.specs.declared.point.Point.{Point}
use Rattle.nav_base.specs.Deviation.{square_of}
use Rattle.nav_base.specs.Point.{cross_of, dot_of, from_to, orient_of}
use Rattle.nav_base.proofs.LengthLaws.{square_of-product}
use Rattle.nav_base.proofs.OrientLaws.{orient_of-apart}
use Rattle.mesh_place.proofs.Squares.{square_parts}
use Rattle.wall_slide.specs.Facing.{beside}

-- what the test of a number says, where it is read from a value
pub below : (read n : ℤ) → read ≡ n → int_le (pos 0) read ≡ false → n <ℤ pos 0
below read n is test = subst (λ (m : ℤ). m <ℤ pos 0) is (grind (arith, ints))

-- the way from a point on the right to one that is not on the right turns by no less than the first one's turn
turned : (f g c : ℤ) → g -ℤ f ≡ c → f <ℤ pos 0 → pos 0 ≤ℤ g → unsigned_abs f ≤ unsigned_abs c
turned f g c is right left = omega (arith, ints)

some : (f : ℤ) → f <ℤ pos 0 → 0 < unsigned_abs f
some f right = omega (arith, ints)

-- products, one step more
one_more : (k n : ℕ) → k * (n + 1) ≡ k * n + k
one_more k n = omega arith

-- no point to the left of an edge is nearer to one on its right than the edge's line
pub line_beyond : (s t p q : Point) (square : ℕ) → orient_of s t p <ℤ pos 0
    → square * square_of (from_to s t) ≤ unsigned_abs (orient_of s t p) * unsigned_abs (orient_of s t p) → pos 0 ≤ℤ orient_of s t q
    → square ≤ square_of (from_to p q)
line_beyond s t p q square right far left =
    elim (cases_lt (square_of (from_to p q)) square) [
      | inl less ↦
          absurd (never square (square_of (from_to s t)) (square_of (from_to p q)) (unsigned_abs (orient_of s t p))
          (unsigned_abs (cross_of (from_to s t) (from_to p q))) (unsigned_abs (dot_of (from_to s t) (from_to p q))) far
          (square_of-product (from_to s t) (from_to p q))
          (turned (orient_of s t p) (orient_of s t q) (cross_of (from_to s t) (from_to p q)) (orient_of-apart s t p q) right left)
          (some (orient_of s t p) right) less)
      | inr least ↦ least
    ]
  where
    never : (n l f a c e : ℕ) → n * l ≤ a * a → l * f ≡ e * e + c * c → a ≤ c → 0 < a → f < n → ⊥
    never n l f a c e far is more any less =
        let step : l * (f + 1) ≤ l * n = mul-le l (f + 1) l n (omega arith) (omega (arith, less)) in
        let turn : l * n ≡ n * l = omega arith in
        let few : l ≤ 0 = omega (arith, step, turn, one_more l f, far, is, mul-le a a c c more more) in
        let none : l * f ≤ 0 * f = mul-le l f 0 f few (omega arith) in
        omega (arith, none, is, mul-le a a c c more more, mul-le 1 1 a a (omega (arith, any)) (omega (arith, any)))

-- and none of those of a row is nearer than where the line crosses the row
module _ (s t p q : Point) (z square : ℕ) where
  level_cross : (u v : Point) → v.z ≡ pos 0 → unsigned_abs (cross_of u v) ≡ unsigned_abs u.z * unsigned_abs v.x
  unfolding cross_of
  level_cross u v level = ap (λ (n : ℤ). unsigned_abs (u.x *ℤ n -ℤ u.z *ℤ v.x)) level ∙ first u.x (u.z *ℤ v.x) ∙ unsigned_abs-mul u.z v.x
    where
      first : (m n : ℤ) → unsigned_abs (m *ℤ pos 0 -ℤ n) ≡ unsigned_abs n
      first m n = omega (arith, ints)

  nothing : (n : ℤ) → n -ℤ n ≡ pos 0
  nothing n = omega (arith, ints)

  abbrev across : ℕ
  across = unsigned_abs (q.x -ℤ p.x)

  abbrev along : ℕ
  along = unsigned_abs (pos z -ℤ p.z)

  beside_is : square_of (from_to p (beside p z)) ≡ along * along
  beside_is =
      square_parts (from_to p (beside p z)) ∙ ap (λ (n : ℤ). unsigned_abs n * unsigned_abs n + along * along) (nothing p.x) ∙ no_more (along * along)
    where
      no_more : (n : ℕ) → 0 + n ≡ n
      no_more n = omega arith

  far_is : q.z ≡ pos z → square_of (from_to p q) ≡ across * across + along * along
  far_is on = square_parts (from_to p q) ∙ ap (λ (n : ℤ). across * across + unsigned_abs (n -ℤ p.z) * unsigned_abs (n -ℤ p.z)) on

  -- nor than the row
  pub beside_beyond : square ≤ square_of (from_to p (beside p z)) → q.z ≡ pos z → square ≤ square_of (from_to p q)
  beside_beyond far on = omega (arith, far, far_is on, beside_is)

  never : (n d r w a : ℕ) → r * r * (n - d) ≤ a * a → a ≤ r * w → 0 < a → w * w + d < n → ⊥
  never n d r w a far most any less =
      let step : r * r * (w * w + 1) ≤ r * r * (n - d) = mul-le (r * r) (w * w + 1) (r * r) (n - d) (omega arith) (omega (arith, less)) in
      let square : r * w * (r * w) ≡ r * r * (w * w) = omega arith in
      let wide = mul-le a a (r * w) (r * w) most most in
      let few : r * r ≤ 0 = omega (arith, step, one_more (r * r) (w * w), far, wide, square) in
      let none : r * r * (w * w) ≤ 0 * (w * w) = mul-le (r * r) (w * w) 0 (w * w) few (omega arith) in
      omega (arith, none, wide, square, mul-le 1 1 a a (omega (arith, any)) (omega (arith, any)))

  pub row_beyond : orient_of s t (beside p z) <ℤ pos 0
      → unsigned_abs (t.z -ℤ s.z) * unsigned_abs (t.z -ℤ s.z) * (square - square_of (from_to p (beside p z)))
      ≤ unsigned_abs (orient_of s t (beside p z)) * unsigned_abs (orient_of s t (beside p z)) → q.z ≡ pos z → pos 0 ≤ℤ orient_of s t q → square ≤ square_of (from_to p q)
  row_beyond right far on left =
      elim (cases_lt (square_of (from_to p q)) square) [
        | inl less ↦
            absurd (never square (square_of (from_to p (beside p z))) (unsigned_abs (t.z -ℤ s.z)) across (unsigned_abs (orient_of s t (beside p z))) far most
            (some (orient_of s t (beside p z)) right) (omega (arith, less, far_is on, beside_is)))
        | inr least ↦ least
      ]
    where
      crossed : unsigned_abs (cross_of (from_to s t) (from_to (beside p z) q)) ≡ unsigned_abs (t.z -ℤ s.z) * across
      crossed = level_cross (from_to s t) (from_to (beside p z) q) (ap (λ (n : ℤ). n -ℤ pos z) on ∙ nothing (pos z))

      most : unsigned_abs (orient_of s t (beside p z)) ≤ unsigned_abs (t.z -ℤ s.z) * across
      most =
          omega (
            arith,
            crossed,
            turned (orient_of s t (beside p z)) (orient_of s t q) (cross_of (from_to s t) (from_to (beside p z) q)) (orient_of-apart s t (beside p z) q) right left,
          )
