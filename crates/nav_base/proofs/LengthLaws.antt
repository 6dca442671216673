-- Lengths of vectors: the squares, and the triangle inequality for roots that are rounded up.
use Rattle.std.proofs.Common.{◌≡◌, ℕ, ◌+◌, ◌*◌, ◌≤◌, ℤ, pos, negsuc, ◌+ℤ◌, ◌*ℤ◌, [], ◌∷◌, refl, sym, ap, subst, ◌∙◌, inl, inr, arith}
use Rattle.std.specs.Prelude.{unsigned_abs}
use Rattle.std.proofs.lemmas.Int.{ints}
use Rattle.std.proofs.lemmas.Nat.{mul-le}
use Rattle.std.proofs.lemmas.Bool.{cases_lt}
use Rattle.nav_base.specs.declared.point.Point.{Point}
use Rattle.nav_base.specs.Point.{from_to, dot_of, cross_of}
use Rattle.nav_base.specs.Deviation.{square_of}
use Rattle.nav_base.specs.Root.{ceil_sqrt_of}
use Rattle.nav_base.proofs.Polynomials.{sum, equal}
use Rattle.nav_base.proofs.PointTerms.{place, coordinates, from_to_term, moved, moved_term, dot_term}
use Rattle.nav_base.proofs.OrientLaws.{dot_of-product}
use Rattle.nav_base.proofs.RootLaws.{ceil_sqrt_of-least, ceil_sqrt_of-at_most}

-- a whole number times itself is the square of its absolute value
pub square-absolute : (n : ℤ) → n *ℤ n ≡ pos (unsigned_abs n * unsigned_abs n)
square-absolute (pos n) = refl
square-absolute (negsuc n) = refl

-- the squared length of a vector, over whole numbers
pub dot_of-itself : (v : Point) → dot_of v v ≡ pos (square_of v)
unfolding dot_of
dot_of-itself v = parts ∙ ap pos (sym (ap unsigned_abs parts))
  where
    parts : dot_of v v ≡ pos (unsigned_abs v.x * unsigned_abs v.x + unsigned_abs v.z * unsigned_abs v.z)
    parts = λ i. square-absolute v.x i +ℤ square-absolute v.z i

-- the squared lengths of two vectors are the squares of their scalar product and their cross, added
pub square_of-product : (u v : Point) → square_of u * square_of v ≡ unsigned_abs (dot_of u v) * unsigned_abs (dot_of u v) + unsigned_abs (cross_of u v) * unsigned_abs (cross_of u v)
square_of-product u v =
    ap unsigned_abs ((λ i. sym (dot_of-itself u) i *ℤ sym (dot_of-itself v) i) ∙ dot_of-product u v u ∙ (λ i. square-absolute (dot_of u v) i +ℤ square-absolute (cross_of u v) i))

-- the squared length of a sum of two vectors
pub square_of-moved : (u v : Point) → square_of (moved u v) ≤ square_of u + 2 * unsigned_abs (dot_of u v) + square_of v
unfolding dot_of
square_of-moved u v =
    added (dot_of (moved u v) (moved u v)) (dot_of u u) (dot_of u v) (dot_of v v)
    (equal (coordinates (u ∷ v ∷ [])) (dot_term (moved_term (place 0) (place 1)) (moved_term (place 0) (place 1)))
    (sum (sum (dot_term (place 0) (place 0)) (sum (dot_term (place 0) (place 1)) (dot_term (place 0) (place 1)))) (dot_term (place 1) (place 1))) refl)
  where
    added : (n p d q : ℤ) → n ≡ p +ℤ (d +ℤ d) +ℤ q → unsigned_abs n ≤ unsigned_abs p + 2 * unsigned_abs d + unsigned_abs q
    added n p d q e = omega (arith, ints)

-- the square of a number that is at most another is at most its square, and the other way round
root-at_most : (m n : ℕ) → m * m ≤ n * n → m ≤ n
root-at_most m n h = elim (cases_lt n m) [ inl above ↦ absurd (omega (arith, mul-le (n + 1) (n + 1) m m (omega arith) (omega arith))) | inr below ↦ below ]

-- the root of the squared length of a sum of two vectors is at most the sum of their roots
pub ceil_sqrt_of-moved : (u v : Point) → ceil_sqrt_of (square_of (moved u v)) ≤ ceil_sqrt_of (square_of u) + ceil_sqrt_of (square_of v)
ceil_sqrt_of-moved u v =
    bounded (square_of u) (square_of v) (unsigned_abs (dot_of u v)) (square_of (moved u v)) (ceil_sqrt_of (square_of u)) (ceil_sqrt_of (square_of v))
    (ceil_sqrt_of-least (square_of u)).reaches (ceil_sqrt_of-least (square_of v)).reaches (omega (arith, square_of-product u v)) (square_of-moved u v)
  where
    bounded : (p q d n a b : ℕ) → p ≤ a * a → q ≤ b * b → d * d ≤ p * q → n ≤ p + 2 * d + q → ceil_sqrt_of n ≤ a + b
    bounded p q d n a b ha hb hd hn =
        let scalar : d ≤ a * b = root-at_most d (a * b) (omega (arith, mul-le p q (a * a) (b * b) ha hb)) in
        ceil_sqrt_of-at_most n (a + b) (omega arith)

-- the same for the distances of three points
pub ceil_sqrt_of-from_to : (a b c : Point) → ceil_sqrt_of (square_of (from_to a c)) ≤ ceil_sqrt_of (square_of (from_to a b)) + ceil_sqrt_of (square_of (from_to b c))
unfolding dot_of
ceil_sqrt_of-from_to a b c =
    let whole = moved_term (from_to_term (place 0) (place 1)) (from_to_term (place 1) (place 2)) in
    subst (λ (n : ℕ). ceil_sqrt_of n ≤ ceil_sqrt_of (square_of (from_to a b)) + ceil_sqrt_of (square_of (from_to b c)))
    (ap unsigned_abs (equal (coordinates (a ∷ b ∷ c ∷ [])) (dot_term whole whole) (dot_term (from_to_term (place 0) (place 2)) (from_to_term (place 0) (place 2))) refl))
    (ceil_sqrt_of-moved (from_to a b) (from_to b c))
