-- Pivots: where a line turns at an end of a portal, no line over the portal gains by it.
use Rattle.std.proofs.Common.{◌≡◌, ℕ, suc, ◌+◌, ◌*◌, ◌≤◌, ◌<◌, ℤ, pos, negsuc, ◌+ℤ◌, ◌-ℤ◌, ◌*ℤ◌, ◌≤ℤ◌, [], ◌∷◌, refl, sym, ap, subst, ◌∙◌, arith}
use Rattle.std.specs.Prelude.{unsigned_abs}
use Rattle.std.proofs.lemmas.Int.{ints}
use Rattle.std.proofs.lemmas.Nat.{mul-le}
use Rattle.nav_base.specs.declared.point.Point.{Point}
use Rattle.nav_base.specs.Point.{dot_of, cross_of}
use Rattle.nav_base.specs.Deviation.{square_of}
use Rattle.nav_base.proofs.Polynomials.{at, number, sum, difference, product, equal}
use Rattle.nav_base.proofs.PointTerms.{place, coordinates, dot_term, cross_term}
use Rattle.nav_base.proofs.LengthLaws.{dot_of-itself}
use Rattle.nav_base.proofs.OrientLaws.{dot_of-exchanged}
use Rattle.nav_base.proofs.Signs.{product-not_negative}
use Rattle.line_fans.proofs.Scales.{IsScale, scalar_next, absolute-same}

-- From direction w a line may turn to direction w' round the end of a portal whose other end lies in direction e: e is w some times, less w' some
-- times. So it lies on the outer side of the turn.
pub record IsPivot (w w' e : Point) : Type 0 where
  pub k : ℕ
  pub y : ℕ
  pub z : ℕ
  pub some : 0 < k
  pub x_parts : pos k *ℤ e.x ≡ pos y *ℤ w.x -ℤ pos z *ℤ w'.x
  pub z_parts : pos k *ℤ e.z ≡ pos y *ℤ w.z -ℤ pos z *ℤ w'.z

-- the scalar product of a vector and one that lies along e
along_line : (t e v : Point) → dot_of e e *ℤ dot_of t v ≡ dot_of e v *ℤ dot_of t e +ℤ cross_of e v *ℤ cross_of e t
unfolding dot_of cross_of
along_line t e v =
    equal (coordinates (t ∷ e ∷ v ∷ [])) (product (dot_term (place 1) (place 1)) (dot_term (place 0) (place 2)))
    (sum (product (dot_term (place 1) (place 2)) (dot_term (place 0) (place 1))) (product (cross_term (place 1) (place 2)) (cross_term (place 1) (place 0)))) refl

on_line : (t e v : Point) → cross_of e v ≡ pos 0 → dot_of e e *ℤ dot_of t v ≡ dot_of e v *ℤ dot_of t e
on_line t e v on = along_line t e v ∙ (λ i. dot_of e v *ℤ dot_of t e +ℤ on i *ℤ cross_of e t) ∙ equal ((dot_of e v *ℤ dot_of t e) ∷ cross_of e t ∷ []) (sum (at 0) (product (number (pos 0)) (at 1))) (at 0) refl

-- the scalar product of a vector with the other end's direction
in_parts : (w w' e t : Point) (pivot : IsPivot w w' e) → pos pivot.k *ℤ dot_of t e ≡ pos pivot.y *ℤ dot_of t w -ℤ pos pivot.z *ℤ dot_of t w'
unfolding dot_of
in_parts w w' e t pivot =
    equal (t.x ∷ t.z ∷ e.x ∷ e.z ∷ pos pivot.k ∷ []) (product (at 4) (dot_term (place 0) (place 1))) (sum (product (at 0) (product (at 4) (at 2))) (product (at 1) (product (at 4) (at 3)))) refl
    ∙ (λ i. t.x *ℤ pivot.x_parts i +ℤ t.z *ℤ pivot.z_parts i)
    ∙ equal (t.x ∷ t.z ∷ w.x ∷ w.z ∷ w'.x ∷ w'.z ∷ pos pivot.y ∷ pos pivot.z ∷ [])
    (sum (product (at 0) (difference (product (at 6) (at 2)) (product (at 7) (at 4)))) (product (at 1) (difference (product (at 6) (at 3)) (product (at 7) (at 5)))))
    (difference (product (at 6) (dot_term (place 0) (place 1))) (product (at 7) (dot_term (place 0) (place 2)))) refl

-- both scaled products, k times the squared length of e
products : (k e a b h we ve n n' p q : ℤ) → e *ℤ a ≡ h *ℤ we → e *ℤ b ≡ h *ℤ ve → k *ℤ we ≡ p → k *ℤ ve ≡ q
    → (k *ℤ e) *ℤ (n *ℤ a -ℤ n' *ℤ b) ≡ h *ℤ (n *ℤ p -ℤ n' *ℤ q)
products k e a b h we ve n n' p q is_a is_b is_p is_q =
    equal (k ∷ e ∷ a ∷ b ∷ n ∷ n' ∷ []) (product (product (at 0) (at 1)) (difference (product (at 4) (at 2)) (product (at 5) (at 3))))
    (difference (product (at 4) (product (at 0) (product (at 1) (at 2)))) (product (at 5) (product (at 0) (product (at 1) (at 3))))) refl
    ∙ (λ i. n *ℤ (k *ℤ is_a i) -ℤ n' *ℤ (k *ℤ is_b i))
    ∙ equal (k ∷ h ∷ we ∷ ve ∷ n ∷ n' ∷ []) (difference (product (at 4) (product (at 0) (product (at 1) (at 2)))) (product (at 5) (product (at 0) (product (at 1) (at 3)))))
    (product (at 1) (difference (product (at 4) (product (at 0) (at 2))) (product (at 5) (product (at 0) (at 3))))) refl
    ∙ (λ i. h *ℤ (n *ℤ is_p i -ℤ n' *ℤ is_q i))

-- with what the two scales leave over, a sum of numbers that are not negative
left_over : (h n n' y z s s' j : ℤ)
    → h *ℤ (n *ℤ (y *ℤ s -ℤ z *ℤ j) -ℤ n' *ℤ (y *ℤ j -ℤ z *ℤ s')) +ℤ h *ℤ (y *ℤ s +ℤ z *ℤ s')
    ≡ h *ℤ (y *ℤ (n *ℤ s +ℤ s -ℤ n' *ℤ j) +ℤ z *ℤ (n' *ℤ s' +ℤ s' -ℤ n *ℤ j))
left_over h n n' y z s s' j =
    equal (h ∷ n ∷ n' ∷ y ∷ z ∷ s ∷ s' ∷ j ∷ [])
    (sum (product (at 0) (difference (product (at 1) (difference (product (at 3) (at 5)) (product (at 4) (at 7)))) (product (at 2) (difference (product (at 3) (at 7)) (product (at 4) (at 6))))))
    (product (at 0) (sum (product (at 3) (at 5)) (product (at 4) (at 6)))))
    (product (at 0) (sum (product (at 3) (difference (sum (product (at 1) (at 5)) (at 5)) (product (at 2) (at 7)))) (product (at 4) (difference (sum (product (at 2) (at 6)) (at 6)) (product (at 1) (at 7)))))) refl

sum-not_negative : (a b : ℤ) → pos 0 ≤ℤ a → pos 0 ≤ℤ b → pos 0 ≤ℤ (a +ℤ b)
sum-not_negative a b p q = omega (arith, ints)

-- a number is no less than less a slack, where some times the number is
divided : (k slack : ℕ) (d : ℤ) → 0 < k → pos 0 ≤ℤ (pos k *ℤ d +ℤ pos slack) → pos 0 ≤ℤ (d +ℤ pos slack)
divided k slack (pos t) some h = omega (arith, ints)
divided k slack (negsuc t) some h = let whole : 1 * suc t ≤ k * suc t = mul-le 1 (suc t) k (suc t) some (omega arith) in omega (arith, ints, whole)

-- what the turn may cost at most, whatever the scale
abbrev pub slack_of : (w w' e v : Point) → IsPivot w w' e → ℕ
slack_of w w' e v pivot = unsigned_abs (dot_of e v) * (pivot.y * square_of w + pivot.z * square_of w')

-- what is left of the next multiple
spare : (n s : ℕ) (t : ℤ) → t ≤ℤ pos ((n + 1) * s) → pos 0 ≤ℤ (pos n *ℤ pos s +ℤ pos s -ℤ t)
spare n s t h = turned (pos n *ℤ pos s +ℤ pos s) (pos ((n + 1) * s)) t (ap pos (omega arith)) h
  where
    turned : (p q t : ℤ) → p ≡ q → t ≤ℤ q → pos 0 ≤ℤ (p -ℤ t)
    turned p q t e h = omega (arith, ints)

not_negative : (n : ℕ) → pos 0 ≤ℤ pos n
not_negative n = omega (arith, ints)

-- the same over numbers
bounded : (k e h s s' y z n n' : ℕ) (a b j : ℤ)
    → (pos k *ℤ pos e) *ℤ (pos n *ℤ a -ℤ pos n' *ℤ b) ≡ pos h *ℤ (pos n *ℤ (pos y *ℤ pos s -ℤ pos z *ℤ j) -ℤ pos n' *ℤ (pos y *ℤ j -ℤ pos z *ℤ pos s'))
    → 0 < k → 0 < e → (pos n' *ℤ j) ≤ℤ pos ((n + 1) * s) → (pos n *ℤ j) ≤ℤ pos ((n' + 1) * s')
    → (pos n' *ℤ b) ≤ℤ (pos n *ℤ a +ℤ pos (h * (y * s + z * s')))
bounded k e h s s' y z n n' a b j same some some' one other = moved (pos n *ℤ a) (pos n' *ℤ b) (pos (h * (y * s + z * s'))) (divided (k * e) (h * (y * s + z * s')) (pos n *ℤ a -ℤ pos n' *ℤ b) (mul-le 1 1 k e some some') whole)
  where
    moved : (p q g : ℤ) → pos 0 ≤ℤ ((p -ℤ q) +ℤ g) → q ≤ℤ (p +ℤ g)
    moved p q g h = omega (arith, ints)

    sums : pos 0 ≤ℤ (pos h *ℤ (pos y *ℤ (pos n *ℤ pos s +ℤ pos s -ℤ pos n' *ℤ j) +ℤ pos z *ℤ (pos n' *ℤ pos s' +ℤ pos s' -ℤ pos n *ℤ j)))
    sums =
        product-not_negative (pos h) (pos y *ℤ (pos n *ℤ pos s +ℤ pos s -ℤ pos n' *ℤ j) +ℤ pos z *ℤ (pos n' *ℤ pos s' +ℤ pos s' -ℤ pos n *ℤ j)) (not_negative h)
        (sum-not_negative (pos y *ℤ (pos n *ℤ pos s +ℤ pos s -ℤ pos n' *ℤ j)) (pos z *ℤ (pos n' *ℤ pos s' +ℤ pos s' -ℤ pos n *ℤ j))
        (product-not_negative (pos y) (pos n *ℤ pos s +ℤ pos s -ℤ pos n' *ℤ j) (not_negative y) (spare n s (pos n' *ℤ j) one))
        (product-not_negative (pos z) (pos n' *ℤ pos s' +ℤ pos s' -ℤ pos n *ℤ j) (not_negative z) (spare n' s' (pos n *ℤ j) other)))

    whole : pos 0 ≤ℤ ((pos k *ℤ pos e) *ℤ (pos n *ℤ a -ℤ pos n' *ℤ b) +ℤ pos h *ℤ (pos y *ℤ pos s +ℤ pos z *ℤ pos s'))
    whole =
        subst (λ (t : ℤ). pos 0 ≤ℤ t)
        (sym (left_over (pos h) (pos n) (pos n') (pos y) (pos z) (pos s) (pos s') j) ∙ (λ i. sym same i +ℤ pos h *ℤ (pos y *ℤ pos s +ℤ pos z *ℤ pos s'))) sums

pub pivot_bound : (m n n' : ℕ) (w w' e v : Point) (pivot : IsPivot w w' e) → IsScale m w n → IsScale m w' n' → 0 < square_of e → cross_of e v ≡ pos 0 → pos 0 ≤ℤ dot_of e v
    → (pos n' *ℤ dot_of w' v) ≤ℤ (pos n *ℤ dot_of w v +ℤ pos (slack_of w w' e v pivot))
pivot_bound m n n' w w' e v pivot is is' some on onward =
    bounded pivot.k (square_of e) (unsigned_abs (dot_of e v)) (square_of w) (square_of w') pivot.y pivot.z n n' (dot_of w v) (dot_of w' v) (dot_of w w')
    ((λ i. (pos pivot.k *ℤ sym (dot_of-itself e) i) *ℤ (pos n *ℤ dot_of w v -ℤ pos n' *ℤ dot_of w' v))
    ∙ products (pos pivot.k) (dot_of e e) (dot_of w v) (dot_of w' v) (dot_of e v) (dot_of w e) (dot_of w' e) (pos n) (pos n') (pos pivot.y *ℤ dot_of w w -ℤ pos pivot.z *ℤ dot_of w w') (pos pivot.y *ℤ dot_of w' w -ℤ pos pivot.z *ℤ dot_of w' w')
    (on_line w e v on) (on_line w' e v on) (in_parts w w' e w pivot) (in_parts w w' e w' pivot)
    ∙ (λ i. positive i *ℤ (pos n *ℤ (pos pivot.y *ℤ dot_of-itself w i -ℤ pos pivot.z *ℤ dot_of w w') -ℤ pos n' *ℤ (pos pivot.y *ℤ dot_of-exchanged w w' i -ℤ pos pivot.z *ℤ dot_of-itself w' i))))
    pivot.some some
    (subst (λ (t : ℤ). (pos n' *ℤ t) ≤ℤ pos ((n + 1) * square_of w)) (dot_of-exchanged w w') (scalar_next m n n' w w' is is'))
    (scalar_next m n' n w' w is' is)
  where
    positive : dot_of e v ≡ pos (unsigned_abs (dot_of e v))
    positive = absolute-same (dot_of e v) onward
