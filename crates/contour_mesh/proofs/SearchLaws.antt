-- What is found among things that are made of numbers.
use Rattle.std.proofs.Common.{◌≡◌, ℕ, zero, suc, ◌+◌, ◌<◌, Bool, true, false, cond, List, [], ◌∷◌, map, filter, get_or, Some, None, ap, ◌∙◌, sym, refl, arith, tests, inl, inr}
use Rattle.std.specs.Prelude.{◌==◌, ◌&&◌, ◌||◌, nat_le, nat_lt}
use Rattle.std.specs.List.{find, list_any, range_with_len}
use Rattle.std.proofs.lemmas.Bool.{cases_eq, cond-false, cond-true, eq-eqb, eqb-true, false_from_ne_true, ne_eqb}
use Rattle.std.proofs.lemmas.List.FromFn.{get_or-range_with_len, length-range_with_len}
use Rattle.std.proofs.lemmas.Map.Views.{any-filter_same}
use Rattle.nav_ground.proofs.Found.{first_found}

-- where one number alone can make what passes, it is found if it is there and does
pub find-at : {X : Type 0} (test : X → Bool) (make : ℕ → X) (n : ℕ) (ns : List ℕ) → ((k : ℕ) → (k ≡ n → ⊥) → test (make k) ≡ false)
    → find test (map make ns) ≡ cond (list_any (λ k. k == n) ns && test (make n)) (Some (make n)) None
find-at test make n [] others = refl
find-at {X = X} test make n (k ∷ ns) others =
    let rest = find-at test make n ns others in
    elim (cases_eq k n) [
      | inl here ↦ at_it here rest (test (make n)) refl
      | inr other ↦
          cond-false (test (make k)) (Some (make k)) (find test (map make ns)) (others k other) ∙ rest
          ∙ ap (λ b. cond ((b || list_any (λ j. j == n) ns) && test (make n)) (Some (make n)) None) (sym (ne_eqb k n other))
    ]
  where
    none_left : (b : Bool) → cond (b && false) (Some (make n)) None ≡ None
    none_left true = refl
    none_left false = refl

    at_it : k ≡ n → find test (map make ns) ≡ cond (list_any (λ j. j == n) ns && test (make n)) (Some (make n)) None → (b : Bool) → test (make n) ≡ b
        → find test (map make (k ∷ ns)) ≡ cond (((k == n) || list_any (λ j. j == n) ns) && test (make n)) (Some (make n)) None
    at_it here rest true is =
        cond-true (test (make k)) (Some (make k)) (find test (map make ns)) (ap (λ j. test (make j)) here ∙ is)
        ∙ ap (λ j. Some (make j)) here
        ∙ sym (ap (λ b. cond ((b || list_any (λ j. j == n) ns) && test (make n)) (Some (make n)) None) (eq-eqb k n here)
        ∙ ap (λ b. cond b (Some (make n)) None) is)
    at_it here rest false is =
        cond-false (test (make k)) (Some (make k)) (find test (map make ns)) (ap (λ j. test (make j)) here ∙ is)
        ∙ rest
        ∙ ap (λ b. cond (list_any (λ j. j == n) ns && b) (Some (make n)) None) is
        ∙ none_left (list_any (λ j. j == n) ns)
        ∙ sym (ap (λ b. cond ((b || list_any (λ j. j == n) ns) && test (make n)) (Some (make n)) None) (eq-eqb k n here)
        ∙ ap (λ b. cond b (Some (make n)) None) is)

pub none-made : {X : Type 0} (test : X → Bool) (make : ℕ → X) (ns : List ℕ) → ((k : ℕ) → test (make k) ≡ false) → find test (map make ns) ≡ None
none-made test make [] fails = refl
none-made test make (k ∷ ns) fails = cond-false (test (make k)) (Some (make k)) (find test (map make ns)) (fails k) ∙ none-made test make ns fails

-- whether a number is in a range
pub in_range : (n first count : ℕ) → list_any (λ k. k == n) (range_with_len first count) ≡ (nat_le first n && nat_lt n (first + count))
in_range n first zero = grind (arith, tests)
in_range n first (suc count) =
    let rest = in_range n (first + 1) count in
    ap (λ b. (first == n) || b) rest ∙ one_more n first count
  where
    one_more : (n first count : ℕ) → ((first == n) || (nat_le (first + 1) n && nat_lt n (first + 1 + count))) ≡ (nat_le first n && nat_lt n (first + suc count))
    one_more n first count = grind (arith, tests)

-- and whether it is among those that a test keeps
pub in_kept : (p : ℕ → Bool) (n : ℕ) (ns : List ℕ) → list_any (λ k. k == n) (filter p ns) ≡ (p n && list_any (λ k. k == n) ns)
in_kept p n ns = any-filter_same (λ k. k == n) p (p n) (λ k same. ap p (eqb-true k n same)) ns

-- where none of a range is found, none passes
pub none_passes : (p : ℕ → Bool) (count n : ℕ) → find p (range_with_len 0 count) ≡ None → n < count → p n ≡ false
none_passes p count n none there =
    false_from_ne_true (p n) (λ passes.
    let at : get_or (range_with_len 0 count) n 0 ≡ n = get_or-range_with_len 0 count n 0 there ∙ omega arith in
    let found = first_found p (range_with_len 0 count) n 0 (omega (arith, there, length-range_with_len 0 count)) (ap p at ∙ passes) in
    let clash = sym none ∙ found.is in
    cc)
