-- What the tests of a number's sign say, where the number is read from a value.
use Rattle.std.proofs.Common.{◌≡◌, Bool, true, false, ℤ, pos, sym, refl, subst, arith}
use Rattle.std.specs.Prelude.{int_lt, int_le, ◌≤ℤ◌, ◌<ℤ◌, ◌↔◌, IsTrue, MatchBool}
use Rattle.std.proofs.lemmas.Int.{ints}
use Rattle.std.proofs.lemmas.Bool.{false≢true}

pub below_zero : (read n : ℤ) → read ≡ n → MatchBool (int_lt read (pos 0)) (n <ℤ pos 0) (pos 0 ≤ℤ n)
below_zero read n is = subst (λ (m : ℤ). MatchBool (int_lt m (pos 0)) (n <ℤ pos 0) (pos 0 ≤ℤ n)) (sym is) (by_test (int_lt n (pos 0)) refl)
  where
    by_test : (b : Bool) → int_lt n (pos 0) ≡ b → MatchBool b (n <ℤ pos 0) (pos 0 ≤ℤ n)
    by_test true e = grind (arith, ints)
    by_test false e = grind (arith, ints)

pub above_zero : (read n : ℤ) → read ≡ n → MatchBool (int_lt (pos 0) read) (pos 0 <ℤ n) (n ≤ℤ pos 0)
above_zero read n is = subst (λ (m : ℤ). MatchBool (int_lt (pos 0) m) (pos 0 <ℤ n) (n ≤ℤ pos 0)) (sym is) (by_test (int_lt (pos 0) n) refl)
  where
    by_test : (b : Bool) → int_lt (pos 0) n ≡ b → MatchBool b (pos 0 <ℤ n) (n ≤ℤ pos 0)
    by_test true e = grind (arith, ints)
    by_test false e = grind (arith, ints)

pub at_most_zero : (read n : ℤ) → read ≡ n → MatchBool (int_le read (pos 0)) (n ≤ℤ pos 0) (pos 0 <ℤ n)
at_most_zero read n is = subst (λ (m : ℤ). MatchBool (int_le m (pos 0)) (n ≤ℤ pos 0) (pos 0 <ℤ n)) (sym is) (by_test (int_le n (pos 0)) refl)
  where
    by_test : (b : Bool) → int_le n (pos 0) ≡ b → MatchBool b (n ≤ℤ pos 0) (pos 0 <ℤ n)
    by_test true e = grind (arith, ints)
    by_test false e = grind (arith, ints)

pub at_least_zero : (read n : ℤ) → read ≡ n → MatchBool (int_le (pos 0) read) (pos 0 ≤ℤ n) (n <ℤ pos 0)
at_least_zero read n is = subst (λ (m : ℤ). MatchBool (int_le (pos 0) m) (pos 0 ≤ℤ n) (n <ℤ pos 0)) (sym is) (by_test (int_le (pos 0) n) refl)
  where
    by_test : (b : Bool) → int_le (pos 0) n ≡ b → MatchBool b (pos 0 ≤ℤ n) (n <ℤ pos 0)
    by_test true e = grind (arith, ints)
    by_test false e = grind (arith, ints)

-- a test holds exactly where the first of two opposites does
pub holds_where : (b : Bool) (n : ℤ) → MatchBool b (n <ℤ pos 0) (pos 0 ≤ℤ n) → IsTrue b ↔ (n <ℤ pos 0)
holds_where true n below = (λ e. below, λ less. refl)
holds_where false n not_below = (λ e. absurd (false≢true e), λ less. absurd (omega (arith, ints)))
