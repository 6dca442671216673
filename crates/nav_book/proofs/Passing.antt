-- The numbers of a range that pass a test, one after another.
use Rattle.std.proofs.Common.{◌≡◌, ℕ, zero, suc, ◌+◌, ◌<◌, ◌≤◌, Bool, true, false, List, [], ◌∷◌, ap, ◌∙◌, sym, refl, arith, inl, inr, Some, None}
use Rattle.std.specs.List.{filter, find, range_with_len}
use Rattle.std.proofs.lemmas.Bool.{cases_Bool, cond-true, cond-false}

-- a number is the first of a range that passes
pub record IsFirst (p : ℕ → Bool) (a n t : ℕ) : Type 0 where
  pub least : a ≤ t
  pub below : t < a + n
  pub passes : p t ≡ true
  pub found : find p (range_with_len a n) ≡ Some t

pub first_passing : (p : ℕ → Bool) (a n t : ℕ) (more : List ℕ) → filter p (range_with_len a n) ≡ t ∷ more → IsFirst p a n t
first_passing p a zero t more is = absurd cc
first_passing p a (suc n) t more is =
    let later : List ℕ = range_with_len (a + 1) n in
    elim (cases_Bool (p a)) [
      | inl passing ↦
          let same : a ∷ filter p later ≡ t ∷ more = sym (cond-true (p a) (a ∷ filter p later) (filter p later) passing) ∙ is in
          let here : a ≡ t = cc in
          record {
            least = omega (arith, here);
            below = omega (arith, here);
            passes = ap p (sym here) ∙ passing;
            found = cond-true (p a) (Some a) (find p later) passing ∙ ap (λ (u : ℕ). Some u) here;
          }
      | inr failing ↦
          let first = first_passing p (a + 1) n t more (sym (cond-false (p a) (a ∷ filter p later) (filter p later) failing) ∙ is) in
          record {
            least = omega (arith, first.least);
            below = omega (arith, first.below);
            passes = first.passes;
            found = cond-false (p a) (Some a) (find p later) failing ∙ first.found;
          }
    ]

-- two tests that agree from a number on pass the same
same_from : (p q : ℕ → Bool) (a n : ℕ) → ((u : ℕ) → a ≤ u → q u ≡ p u) → filter q (range_with_len a n) ≡ filter p (range_with_len a n)
same_from p q a zero agree = refl
same_from p q a (suc n) agree =
    let later : List ℕ = range_with_len (a + 1) n in
    let rest : filter q later ≡ filter p later = same_from p q (a + 1) n (λ u beyond. agree u (omega (arith, beyond))) in
    elim (cases_Bool (p a)) [
      | inl passing ↦
          cond-true (q a) (a ∷ filter q later) (filter q later) (agree a (omega arith) ∙ passing) ∙ ap (λ (us : List ℕ). a ∷ us) rest
          ∙ sym (cond-true (p a) (a ∷ filter p later) (filter p later) passing)
      | inr failing ↦
          cond-false (q a) (a ∷ filter q later) (filter q later) (agree a (omega arith) ∙ failing) ∙ rest
          ∙ sym (cond-false (p a) (a ∷ filter p later) (filter p later) failing)
    ]

-- a test that fails at the first number that passed, and else agrees, passes the others
pub others_passing : (p q : ℕ → Bool) (a n t : ℕ) (more : List ℕ) → filter p (range_with_len a n) ≡ t ∷ more → q t ≡ false
    → ((u : ℕ) → (u ≡ t → ⊥) → q u ≡ p u) → filter q (range_with_len a n) ≡ more
others_passing p q a zero t more is fails agree = absurd cc
others_passing p q a (suc n) t more is fails agree =
    let later : List ℕ = range_with_len (a + 1) n in
    elim (cases_Bool (p a)) [
      | inl passing ↦
          let same : a ∷ filter p later ≡ t ∷ more = sym (cond-true (p a) (a ∷ filter p later) (filter p later) passing) ∙ is in
          let here : a ≡ t = cc in
          let rest : filter p later ≡ more = cc in
          cond-false (q a) (a ∷ filter q later) (filter q later) (ap q here ∙ fails)
          ∙ same_from p q (a + 1) n (λ u beyond. agree u (λ is_t. absurd (omega (arith, beyond, here, is_t)))) ∙ rest
      | inr failing ↦
          let behind : filter p later ≡ t ∷ more = sym (cond-false (p a) (a ∷ filter p later) (filter p later) failing) ∙ is in
          let first = first_passing p (a + 1) n t more behind in
          cond-false (q a) (a ∷ filter q later) (filter q later) (agree a (λ is_t. absurd (omega (arith, first.least, is_t))) ∙ failing)
          ∙ others_passing p q (a + 1) n t more behind fails agree
    ]

-- nothing is found exactly where nothing passes
pub none_found : (p : ℕ → Bool) (us : List ℕ) → filter p us ≡ [] → find p us ≡ None
none_found p [] is = refl
none_found p (u ∷ us) is =
    elim (cases_Bool (p u)) [
      | inl passing ↦ let e : u ∷ filter p us ≡ [] = sym (cond-true (p u) (u ∷ filter p us) (filter p us) passing) ∙ is in absurd cc
      | inr failing ↦ cond-false (p u) (Some u) (find p us) failing ∙ none_found p us (sym (cond-false (p u) (u ∷ filter p us) (filter p us) failing) ∙ is)
    ]

pub none_passes : (p : ℕ → Bool) (us : List ℕ) → find p us ≡ None → filter p us ≡ []
none_passes p [] is = refl
none_passes p (u ∷ us) is =
    elim (cases_Bool (p u)) [
      | inl passing ↦ let e : Some u ≡ None = sym (cond-true (p u) (Some u) (find p us) passing) ∙ is in absurd cc
      | inr failing ↦ cond-false (p u) (u ∷ filter p us) (filter p us) failing ∙ none_passes p us (sym (cond-false (p u) (Some u) (find p us) failing) ∙ is)
    ]
