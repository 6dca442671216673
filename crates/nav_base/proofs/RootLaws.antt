-- The laws of roots that are rounded up.
use Rattle.std.proofs.Common.{◌≡◌, ℕ, zero, suc, ◌+◌, ◌*◌, ◌≤◌, ◌<◌, Bool, true, false, cond, refl, arith, inl, inr, sym}
use Rattle.std.specs.Prelude.{nat_le}
use Rattle.std.proofs.lemmas.Nat.{mul-le}
use Rattle.std.proofs.lemmas.Bool.{cases_lt}
use Rattle.std.proofs.lemmas.Bool.Decides.{nat_tests}
use Rattle.nav_base.specs.Root.{IsLeastRoot, ceil_sqrt_of}

-- a number is at most another where its square is below a number that the other's square reaches
root_below : (b n r : ℕ) → b * b < n → n ≤ r * r → b < r
root_below b n r under h = elim (cases_lt b r) [ inl below ↦ below | inr above ↦ absurd (omega (arith, mul-le r r b b above above)) ]

-- a number is the least root of its square
pub IsLeastRoot-square : (n root : ℕ) → root * root ≡ n → IsLeastRoot n root
IsLeastRoot-square n root e = record { reaches = omega arith; least = λ r h. elim (cases_lt r root) [ inl below ↦ absurd (omega (arith, mul-le (suc r) (suc r) root root below below)) | inr above ↦ above ] }

-- the number after b is the least root of what lies above the square of b, up to its own square
pub IsLeastRoot-above : (n b : ℕ) → b * b < n → n ≤ (b + 1) * (b + 1) → IsLeastRoot n (b + 1)
IsLeastRoot-above n b under reached = record { reaches = reached; least = λ r h. omega (arith, root_below b n r under h) }

-- one number more: the root stays as long as its square reaches
next_root : (n root : ℕ) (reached : Bool) → nat_le (suc n) (root * root) ≡ reached → IsLeastRoot n root → IsLeastRoot (suc n) (cond reached root (root + 1))
next_root n root true e is = record { reaches = grind (arith, nat_tests); least = λ r h. is.least r (omega arith) }
next_root n root false e is = let over : root * root < suc n = grind (arith, nat_tests) in let same : root * root ≡ n = omega (arith, is.reaches) in IsLeastRoot-above (suc n) root over (omega arith)

-- the definition gives the least root
pub ceil_sqrt_of-least : (n : ℕ) → IsLeastRoot n (ceil_sqrt_of n)
unfolding ceil_sqrt_of
ceil_sqrt_of-least zero = record { reaches = omega arith; least = λ r h. omega arith }
ceil_sqrt_of-least (suc n) = next_root n (ceil_sqrt_of n) (nat_le (suc n) (ceil_sqrt_of n * ceil_sqrt_of n)) refl (ceil_sqrt_of-least n)

-- there is one least root
pub ceil_sqrt_of-only : (n root : ℕ) → IsLeastRoot n root → root ≡ ceil_sqrt_of n
ceil_sqrt_of-only n root is =
    let known = ceil_sqrt_of-least n in
    omega (arith, is.least (ceil_sqrt_of n) known.reaches, known.least root is.reaches)

-- the root of a greater number is at least as great
pub ceil_sqrt_of-monotone : (m n : ℕ) → m ≤ n → ceil_sqrt_of m ≤ ceil_sqrt_of n
ceil_sqrt_of-monotone m n h = (ceil_sqrt_of-least m).least (ceil_sqrt_of n) (omega (arith, (ceil_sqrt_of-least n).reaches))

-- the root of a square
pub ceil_sqrt_of-square : (r : ℕ) → ceil_sqrt_of (r * r) ≡ r
ceil_sqrt_of-square r = sym (ceil_sqrt_of-only (r * r) r (IsLeastRoot-square (r * r) r refl))

-- a number with a square of at least n is at least the root of n
pub ceil_sqrt_of-at_most : (n r : ℕ) → n ≤ r * r → ceil_sqrt_of n ≤ r
ceil_sqrt_of-at_most n r h = (ceil_sqrt_of-least n).least r h
