-- A vector that is cut to a length is no longer than that.
use Rattle.std.proofs.Common.{◌≡◌, ℕ, ◌+◌, ◌*◌, ◌<◌, ◌≤◌, inl, inr, arith}
use Rattle.std.specs.Prelude.{unsigned_abs}
use Rattle.std.proofs.lemmas.Bool.{cases_lt}
use Rattle.std.proofs.lemmas.Nat.{mul-le}
use Rattle.nav_base.specs.declared.point.Point.{Point}
use Rattle.nav_base.specs.Deviation.{square_of}
use Rattle.crowd_moves.proofs.PairLaws.{squares_sum}

-- a factor of two products may be left out
cancels : (m n k : ℕ) → 0 < k → m * k ≤ n * k → m ≤ n
cancels m n k some h = elim (cases_lt n m) [ inl above ↦ absurd (over (m * k) h (mul-le (n + 1) k m k (omega (arith, above)) (omega arith))) | inr most ↦ most ]
  where
    spread : (n k : ℕ) → (n + 1) * k ≡ n * k + k
    spread n k = omega arith

    apart : (a b k p : ℕ) → b ≡ a + k → 0 < k → p ≤ a → b ≤ p → ⊥
    apart a b k p e some f g = omega arith

    over : (p : ℕ) → p ≤ n * k → (n + 1) * k ≤ p → ⊥
    over p f g = apart (n * k) ((n + 1) * k) k p (spread n k) some f g

-- squares of products, summed
gathers : (a b k : ℕ) → (a * k) * (a * k) + (b * k) * (b * k) ≡ (a * a + b * b) * (k * k)
gathers a b k = omega arith

-- parts that are to others as a lesser length is to a greater one make a square of at most that length
shrinks : (a b x z s d : ℕ) → 0 < d → a * d ≤ x * s → b * d ≤ z * s → x * x + z * z ≤ d * d → a * a + b * b ≤ s * s
shrinks a b x z s d some p q whole =
    cancels (a * a + b * b) (s * s) (d * d) (mul-le 1 1 d d some some)
    (chain (gathers a b d) (gathers x z s) (mul-le (a * d) (a * d) (x * s) (x * s) p p) (mul-le (b * d) (b * d) (z * s) (z * s) q q)
    (mul-le (x * x + z * z) (s * s) (d * d) (s * s) whole (omega arith)) (swap (d * d) (s * s)))
  where
    swap : (m n : ℕ) → m * n ≡ n * m
    swap m n = omega arith

    chain : {u v w u' v' w' r t : ℕ} → u + v ≡ w → u' + v' ≡ w' → u ≤ u' → v ≤ v' → w' ≤ r → r ≡ t → w ≤ t
    chain e e' f g h i = omega arith

-- so a vector with such parts is no longer than that
pub no_longer : (v w : Point) (most length : ℕ) → square_of v ≤ length * length → most < length
    → unsigned_abs w.x * length ≤ unsigned_abs v.x * most → unsigned_abs w.z * length ≤ unsigned_abs v.z * most → square_of w ≤ most * most
no_longer v w most length whole shorter across along =
    rw (squares_sum w) (shrinks (unsigned_abs w.x) (unsigned_abs w.z) (unsigned_abs v.x) (unsigned_abs v.z) most length (omega (arith, shorter)) across along
    (under (squares_sum v) whole))
  where
    under : {m n k : ℕ} → m ≡ n → m ≤ k → n ≤ k
    under e h = omega arith

-- what is no more than the square of a length is no more than that of a greater one
pub under_longer : {n length most : ℕ} → n ≤ length * length → length ≤ most → n ≤ most * most
under_longer {length = length} {most = most} h shorter = omega (arith, h, mul-le length length most most shorter shorter)
