-- Vectors that are made as long as a great number, as near as whole multiples come: their scalar products with others.
use Rattle.std.proofs.Common.{◌≡◌, ℕ, zero, suc, ◌+◌, ◌*◌, ◌/◌, ◌≤◌, ◌<◌, ℤ, pos, negsuc, ◌*ℤ◌, ◌≤ℤ◌, refl, ap, ◌∙◌, inl, inr, arith}
use Rattle.std.specs.Prelude.{unsigned_abs}
use Rattle.std.proofs.lemmas.Int.{ints}
use Rattle.std.proofs.lemmas.Nat.{mul-le, div-add-mod', mod_below}
use Rattle.std.proofs.lemmas.Bool.{cases_lt}
use Rattle.nav_base.specs.declared.point.Point.{Point}
use Rattle.nav_base.specs.Point.{dot_of, cross_of}
use Rattle.nav_base.specs.Deviation.{square_of}
use Rattle.nav_base.specs.Root.{ceil_sqrt_of}
use Rattle.nav_base.proofs.LengthLaws.{square_of-product}
use Rattle.nav_base.proofs.RootLaws.{ceil_sqrt_of-least}

-- n times a vector is no longer than m, and n + 1 times it is longer
pub record IsScale (m : ℕ) (w : Point) (n : ℕ) : Type 0 where
  pub low : n * n * square_of w ≤ m * m
  pub high : m * m < (n + 1) * (n + 1) * square_of w

pub root-at_most : (m n : ℕ) → m * m ≤ n * n → m ≤ n
root-at_most m n h = elim (cases_lt n m) [ inl above ↦ absurd (omega (arith, mul-le (n + 1) (n + 1) m m (omega arith) (omega arith))) | inr below ↦ below ]

-- the greatest number whose square is at most another
record IsRootDown (q n : ℕ) : Type 0 where
  low : n * n ≤ q
  next : q < (n + 1) * (n + 1)

root_down : (q : ℕ) → (n : ℕ) × IsRootDown q n
root_down q = by (ceil_sqrt_of (q + 1)) (ceil_sqrt_of-least (q + 1)).reaches (ceil_sqrt_of-least (q + 1)).least
  where
    by : (c : ℕ) → q + 1 ≤ c * c → ((r : ℕ) → q + 1 ≤ r * r → c ≤ r) → (n : ℕ) × IsRootDown q n
    by zero h least = absurd (omega (arith, h))
    by (suc n) h least = (
      n,
      record {
        low = elim (cases_lt q (n * n)) [ inl above ↦ absurd (omega (arith, least n (omega (arith, above)))) | inr below ↦ below ];
        next = omega (arith, h);
      },
    )

-- a number lies between a multiple of its quotient and the next
div_low : (n s : ℕ) → n / s * s ≤ n
div_low n s = omega (arith, div-add-mod' n s)

div_high : (n s : ℕ) → 0 < s → n < n / s * s + s
div_high n s some = omega (arith, div-add-mod' n s, mod_below n s some)

-- each vector of some length has such a multiple
pub scale : (m : ℕ) (w : Point) → 0 < square_of w → (n : ℕ) × IsScale m w n
scale m w some = by (root_down (m * m / square_of w))
  where
    within : (n s q : ℕ) → n * n ≤ q → q * s ≤ m * m → n * n * s ≤ m * m
    within n s q h k = omega (arith, k, mul-le (n * n) s q s h (omega arith))

    beyond : (n s q : ℕ) → q < (n + 1) * (n + 1) → m * m < q * s + s → m * m < (n + 1) * (n + 1) * s
    beyond n s q h k =
        let more : (q + 1) * s ≤ (n + 1) * (n + 1) * s = mul-le (q + 1) s ((n + 1) * (n + 1)) s (omega (arith, h)) (omega arith) in
        let parts : (q + 1) * s ≡ q * s + s = omega arith in
        omega (arith, k, more, parts)

    by : ((n : ℕ) × IsRootDown (m * m / square_of w) n) → (n : ℕ) × IsScale m w n
    by (n, root) = (
      n,
      record {
        low = within n (square_of w) (m * m / square_of w) root.low (div_low (m * m) (square_of w));
        high = beyond n (square_of w) (m * m / square_of w) root.next (div_high (m * m) (square_of w) some);
      },
    )

-- a product of squares is the square of the product
squares : (n t s u : ℕ) → t * t ≤ s * u → (n * t) * (n * t) ≤ n * n * s * u
squares n t s u h = let whole = mul-le (n * n) (t * t) (n * n) (s * u) (omega arith) h in grind (arith, whole)

-- a whole number is at most its absolute value
absolute : (n : ℕ) (a : ℤ) (bound : ℕ) → n * unsigned_abs a ≤ bound → (pos n *ℤ a) ≤ℤ pos bound
absolute n (pos t) bound h = omega (arith, ints, h)
absolute n (negsuc t) bound h = omega (arith, ints)

-- the square of a scalar product is at most the product of the squared lengths
dot_square : (u v : Point) → unsigned_abs (dot_of u v) * unsigned_abs (dot_of u v) ≤ square_of u * square_of v
dot_square u v = omega (arith, square_of-product u v)

-- a scaled vector's scalar product with another is at most the product of their lengths
pub scalar_bound : (m n r : ℕ) (w y : Point) → n * n * square_of w ≤ m * m → square_of y ≤ r * r → (pos n *ℤ dot_of w y) ≤ℤ pos (m * r)
scalar_bound m n r w y low h = absolute n (dot_of w y) (m * r) (root-at_most (n * unsigned_abs (dot_of w y)) (m * r) (sizes (square_of w) (square_of y) (squares n (unsigned_abs (dot_of w y)) (square_of w) (square_of y) (dot_square w y)) low h))
  where
    sizes : {k : ℕ} (s u : ℕ) → k ≤ n * n * s * u → n * n * s ≤ m * m → u ≤ r * r → k ≤ (m * r) * (m * r)
    sizes s u part low h = let whole = mul-le (n * n * s) u (m * m) (r * r) low h in grind (arith, part, whole)

-- a scaled vector's scalar product with another is at most that of the next multiple of the other with itself
pub scalar_next : (m n n' : ℕ) (w w' : Point) → IsScale m w n → IsScale m w' n' → (pos n' *ℤ dot_of w' w) ≤ℤ pos ((n + 1) * square_of w)
scalar_next m n n' w w' is is' =
    absolute n' (dot_of w' w) ((n + 1) * square_of w)
    (root-at_most (n' * unsigned_abs (dot_of w' w)) ((n + 1) * square_of w) (sizes (square_of w) (square_of w') (squares n' (unsigned_abs (dot_of w' w)) (square_of w') (square_of w) (dot_square w' w)) is'.low is.high))
  where
    sizes : {k : ℕ} (s s' : ℕ) → k ≤ n' * n' * s' * s → n' * n' * s' ≤ m * m → m * m < (n + 1) * (n + 1) * s → k ≤ ((n + 1) * s) * ((n + 1) * s)
    sizes s s' part low high = let whole = mul-le (n' * n' * s') s ((n + 1) * (n + 1) * s) s (omega (arith, low, high)) (omega arith) in grind (arith, part, whole)

-- a vector points along another, or is none
pub record AreAlong (w u : Point) : Type 0 where
  pub across : cross_of w u ≡ pos 0
  pub onward : pos 0 ≤ℤ dot_of w u

-- so the next multiple of the vector reaches as far as the other's length says
pub along_bound : (m n parts : ℕ) (w u : Point) → AreAlong w u → m * m < (n + 1) * (n + 1) * square_of w → parts * parts ≤ 4096 * 4096 * square_of u
    → m * parts ≤ 4096 * (n + 1) * unsigned_abs (dot_of w u)
along_bound m n parts w u along high floor =
    root-at_most (m * parts) (4096 * (n + 1) * unsigned_abs (dot_of w u))
    (sizes (unsigned_abs (dot_of w u)) (square_of w) (square_of u)
    (square_of-product w u ∙ (λ i. unsigned_abs (dot_of w u) * unsigned_abs (dot_of w u) + unsigned_abs (along.across i) * unsigned_abs (along.across i)) ∙ omega arith) high floor)
  where
    sizes : (t s k : ℕ) → s * k ≡ t * t → m * m < (n + 1) * (n + 1) * s → parts * parts ≤ 4096 * 4096 * k → (m * parts) * (m * parts) ≤ (4096 * (n + 1) * t) * (4096 * (n + 1) * t)
    sizes t s k same high floor =
        let first = mul-le (m * m) (parts * parts) ((n + 1) * (n + 1) * s) (4096 * 4096 * k) (omega (arith, high)) floor in
        let second : (n + 1) * (n + 1) * (4096 * 4096) * (s * k) ≡ (n + 1) * (n + 1) * (4096 * 4096) * (t * t) = ap (λ (j : ℕ). (n + 1) * (n + 1) * (4096 * 4096) * j) same in
        grind (arith, first, second)

-- a whole number that is not negative
pub absolute-same : (t : ℤ) → pos 0 ≤ℤ t → t ≡ pos (unsigned_abs t)
absolute-same (pos t) h = refl
absolute-same (negsuc t) h = absurd (omega (arith, ints, h))
