-- Levels that take a step one after another.
use Rattle.std.proofs.Common.{◌≡◌, ℕ, suc, ◌+◌, ◌<◌, ◌≤◌, List, [], ◌∷◌, length, get_or, set, map, ap, ◌∙◌, sym, subst, refl, arith, inl, inr}
use Rattle.std.specs.Prelude.{All}
use Rattle.std.specs.List.{AllZip}
use Rattle.std.proofs.lemmas.Bool.{cases_lt}
use Rattle.std.proofs.lemmas.List.{get_or_default, get_or-map, get_or-set_other, get_or-set_same, length-map, length-set, same_lists}
use Rattle.build_queue.specs.BookState.{BookState, IsBook}
use Rattle.agent_kinds.specs.Kinds.{AreKinds}
use Rattle.agent_kinds.proofs.AtOne.{CommonState, common_of, kinds_after}

-- so many levels have taken a step; the others are as they were
pub record HaveTurned (R : BookState → BookState → Type 0) (count : ℕ) (before now : List BookState) : Type 0 where
  pub as_many : length now ≡ length before
  pub turned : (k : ℕ) (d : BookState) → k < count → k < length before → R (get_or before k d) (get_or now k d)
  pub rest : (k : ℕ) (d : BookState) → count ≤ k → get_or now k d ≡ get_or before k d

-- all have
pub record HaveAllTurned (R : BookState → BookState → Type 0) (before now : List BookState) : Type 0 where
  pub as_many : length now ≡ length before
  pub each : (k : ℕ) (d : BookState) → k < length before → R (get_or before k d) (get_or now k d)

pub none_turned : (R : BookState → BookState → Type 0) (states : List BookState) → HaveTurned R 0 states states
none_turned R states = record { as_many = refl; turned = λ k d none there. absurd (omega (arith, none)); rest = λ k d past. refl }

module _ (R : BookState → BookState → Type 0) (i : ℕ) (before now : List BookState) (have : HaveTurned R i before now) where
  -- the next one is as it was
  pub next_is : (d : BookState) → get_or now i d ≡ get_or before i d
  next_is d = have.rest i d (omega arith)

  pub one_more : (e new : BookState) → i < length now → R (get_or now i e) new → HaveTurned R (i + 1) before (set now i new)
  one_more e new there turn = record {
    as_many = length-set now i new ∙ have.as_many;
    turned = λ k d below within. elim (cases_lt k i) [
      | inl earlier ↦
          subst (λ (s : BookState). R (get_or before k d) s) (sym (get_or-set_other now i k new d (λ same. omega (arith, earlier, same))))
          (have.turned k d earlier within)
      | inr other ↦
          let last : k ≡ i = omega (arith, below, other) in
          subst (λ (n : ℕ). R (get_or before n d) (get_or (set now i new) n d)) (sym last)
          (subst (λ (s : BookState). R s (get_or (set now i new) i d)) (get_or_default now i e d there ∙ next_is d)
          (subst (λ (s : BookState). R (get_or now i e) s) (sym (get_or-set_same now i new d there)) turn))
    ];
    rest = λ k d beyond. get_or-set_other now i k new d (λ same. omega (arith, beyond, same)) ∙ have.rest k d (omega (arith, beyond));
  }

  pub all_turned : length before ≤ i → HaveAllTurned R before now
  all_turned end = record { as_many = have.as_many; each = λ k d there. have.turned k d (omega (arith, there, end)) there }

-- what follows from a step of each
pub weaker : (R S : BookState → BookState → Type 0) (count : ℕ) (before now : List BookState) → ((a b : BookState) → R a b → S a b)
    → HaveTurned R count before now → HaveTurned S count before now
weaker R S count before now follows have = record {
  as_many = have.as_many;
  turned = λ k d below there. follows (get_or before k d) (get_or now k d) (have.turned k d below there);
  rest = have.rest;
}

-- where those that are as they were count as well
pub some_turned : (R : BookState → BookState → Type 0) (count : ℕ) (before now : List BookState)
    → ((k : ℕ) (d : BookState) → k < length before → R (get_or before k d) (get_or before k d)) → HaveTurned R count before now → HaveAllTurned R before now
some_turned R count before now stay have = record {
  as_many = have.as_many;
  each = λ k d there. elim (cases_lt k count) [
    | inl earlier ↦ have.turned k d earlier there
    | inr later ↦ subst (λ (s : BookState). R (get_or before k d) s) (sym (have.rest k d later)) (stay k d there)
  ];
}

-- as two lists side by side
pub zipped : (R : BookState → BookState → Type 0) (before now : List BookState) → HaveAllTurned R before now → AllZip R before now
zipped R before now have = by_cases before now have.as_many have.each
  where
    by_cases : (xs ys : List BookState) → length ys ≡ length xs → ((k : ℕ) (d : BookState) → k < length xs → R (get_or xs k d) (get_or ys k d)) → AllZip R xs ys
    by_cases [] [] each turn = tt
    by_cases [] (y ∷ ys) each turn = absurd (omega (arith, each))
    by_cases (x ∷ xs) [] each turn = absurd (omega (arith, each))
    by_cases (x ∷ xs) (y ∷ ys) each turn =
        (turn 0 x (omega arith), by_cases xs ys (omega (arith, each)) (λ k d there. turn (suc k) d (omega (arith, there))))

-- a step that a function says
pub record IsStepBy (f : BookState → BookState) (old new : BookState) : Type 0 where
  pub state : new ≡ f old
  pub rules : IsBook new

module _ (f : BookState → BookState) (before now : List BookState) (have : HaveAllTurned (IsStepBy f) before now) where
  pub mapped : now ≡ map f before
  mapped = same_lists now (map f before) (have.as_many ∙ sym (length-map before f)) (λ k d there.
      let within : k < length before = omega (arith, there, have.as_many) in
      (have.each k d within).state ∙ sym (get_or-map f before k d d within))

  pub all_books : All IsBook now
  all_books = λ k d there. (have.each k d (omega (arith, there, have.as_many))).rules

  pub still_kinds : (step : CommonState → CommonState) → AreKinds before → ((state : BookState) → common_of (f state) ≡ step (common_of state)) → AreKinds now
  still_kinds step kinds same =
      kinds_after step before now kinds have.as_many all_books
      (λ k d there. ap common_of (have.each k d there).state ∙ same (get_or before k d))
