-- The least number of a range that passes a test.
use Rattle.std.proofs.Common.{◌≡◌, ℕ, zero, suc, ◌+◌, ◌<◌, ◌≤◌, Bool, true, false, cond, Some, None, ap, sym, ◌∙◌, refl, ⊎_elim, arith}
use Rattle.std.specs.Prelude.{find}
use Rattle.std.specs.List.{range_with_len}
use Rattle.std.proofs.lemmas.Bool.{cases_lt}
use Rattle.std.proofs.lemmas.Option.{none-some, same_Some}
use Rattle.build_queue.specs.Flags.{least_below}

-- where none is found, none passes
none_found : (p : ℕ → Bool) (first count : ℕ) → find p (range_with_len first count) ≡ None → (n : ℕ) → first ≤ n → n < first + count → p n ≡ false
none_found p first zero none n least most = absurd (omega (arith, least, most))
none_found p first (suc count) none n least most =
    by_test (λ rest past. none_found p (first + 1) count rest n (omega (arith, past)) (omega (arith, most))) (p first) refl none
  where
    by_test : (find p (range_with_len (first + 1) count) ≡ None → first < n → p n ≡ false) → (b : Bool) → p first ≡ b
        → cond b (Some first) (find p (range_with_len (first + 1) count)) ≡ None → p n ≡ false
    by_test later true is some = absurd (none-some first (sym some))
    by_test later false is rest =
        ⊎_elim (λ past. later rest past) (λ here. let same : n ≡ first = omega (arith, here, least) in ap p same ∙ is) (cases_lt first n)

-- where none passes, none is found
all_fail : (p : ℕ → Bool) (first count : ℕ) → ((n : ℕ) → first ≤ n → n < first + count → p n ≡ false) → find p (range_with_len first count) ≡ None
all_fail p first zero fails = refl
all_fail p first (suc count) fails =
    let here : p first ≡ false = fails first (omega arith) (omega arith) in
    let rest = all_fail p (first + 1) count (λ n least most. fails n (omega (arith, least)) (omega (arith, most))) in
    ap (λ b. cond b (Some first) (find p (range_with_len (first + 1) count))) here ∙ rest

-- the first that passes is found
first_found : (p : ℕ → Bool) (first count t : ℕ) → first ≤ t → t < first + count → p t ≡ true → ((n : ℕ) → first ≤ n → n < t → p n ≡ false)
    → find p (range_with_len first count) ≡ Some t
first_found p first zero t least most passes before = absurd (omega (arith, least, most))
first_found p first (suc count) t least most passes before =
    ⊎_elim
    (λ past.
    ap (λ b. cond b (Some first) (find p (range_with_len (first + 1) count))) (before first (omega arith) past)
    ∙ first_found p (first + 1) count t (omega (arith, past)) (omega (arith, most)) passes (λ n low high. before n (omega (arith, low)) high))
    (λ here.
    let same : first ≡ t = omega (arith, here, least) in
    ap (λ b. cond b (Some first) (find p (range_with_len (first + 1) count))) (ap p same ∙ passes) ∙ ap Some same)
    (cases_lt first t)

-- two tests that agree find the same
found_same : (p q : ℕ → Bool) (first count : ℕ) → ((n : ℕ) → first ≤ n → n < first + count → p n ≡ q n)
    → find p (range_with_len first count) ≡ find q (range_with_len first count)
found_same p q first zero same = refl
found_same p q first (suc count) same =
    let here : p first ≡ q first = same first (omega arith) (omega arith) in
    let rest = found_same p q (first + 1) count (λ n least most. same n (omega (arith, least)) (omega (arith, most))) in
    ap (λ b. cond b (Some first) (find p (range_with_len (first + 1) count))) here ∙ ap (cond (q first) (Some first)) rest

-- what is found passes and is in the range
found_passes : (p : ℕ → Bool) (first count t : ℕ) → find p (range_with_len first count) ≡ Some t → (t < first + count) × (p t ≡ true)
found_passes p first zero t found = absurd (none-some t found)
found_passes p first (suc count) t found =
    by_test (λ rest. let later = found_passes p (first + 1) count t rest in (omega (arith, later), later.1)) (p first) refl found
  where
    by_test : (find p (range_with_len (first + 1) count) ≡ Some t → (t < first + suc count) × (p t ≡ true)) → (b : Bool) → p first ≡ b
        → cond b (Some first) (find p (range_with_len (first + 1) count)) ≡ Some t → (t < first + suc count) × (p t ≡ true)
    by_test later true is here = let same = same_Some first t here in (omega (arith, same), ap p (sym same) ∙ is)
    by_test later false is rest = later rest

-- the same of the numbers below a count
pub none_below : (count : ℕ) (p : ℕ → Bool) (n : ℕ) → least_below count p ≡ None → n < count → p n ≡ false
none_below count p n none there = none_found p 0 count none n (omega arith) (omega (arith, there))

pub least_below-none : (count : ℕ) (p : ℕ → Bool) → ((n : ℕ) → n < count → p n ≡ false) → least_below count p ≡ None
least_below-none count p fails = all_fail p 0 count (λ n _ most. fails n (omega (arith, most)))

pub least_below-some : (count t : ℕ) (p : ℕ → Bool) → t < count → p t ≡ true → ((n : ℕ) → n < t → p n ≡ false) → least_below count p ≡ Some t
least_below-some count t p there passes before = first_found p 0 count t (omega arith) (omega (arith, there)) passes (λ n _ most. before n most)

pub least_below-same : (count : ℕ) (p q : ℕ → Bool) → ((n : ℕ) → n < count → p n ≡ q n) → least_below count p ≡ least_below count q
least_below-same count p q same = found_same p q 0 count (λ n _ most. same n (omega (arith, most)))

pub least_passes : (count t : ℕ) (p : ℕ → Bool) → least_below count p ≡ Some t → (t < count) × (p t ≡ true)
least_passes count t p found = let is = found_passes p 0 count t found in (omega (arith, is), is.1)
