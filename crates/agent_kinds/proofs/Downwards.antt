-- Levels that take a step one after another, the last one first.
use Rattle.std.proofs.Common.{◌≡◌, ℕ, ◌+◌, ◌<◌, ◌≤◌, List, length, get_or, set, ◌∙◌, sym, subst, refl, arith, inl, inr}
use Rattle.std.proofs.lemmas.Bool.{cases_lt}
use Rattle.std.proofs.lemmas.List.{get_or_default, get_or-set_other, get_or-set_same, length-set}
use Rattle.build_queue.specs.BookState.{BookState}
use Rattle.agent_kinds.proofs.Turns.{HaveAllTurned}

-- the levels from a place on have taken a step; those before it are as they were
pub record HaveTurnedFrom (R : BookState → BookState → Type 0) (first : ℕ) (before now : List BookState) : Type 0 where
  pub as_many : length now ≡ length before
  pub turned : (k : ℕ) (d : BookState) → first ≤ k → k < length before → R (get_or before k d) (get_or now k d)
  pub rest : (k : ℕ) (d : BookState) → k < first → get_or now k d ≡ get_or before k d

pub none_from : (R : BookState → BookState → Type 0) (states : List BookState) (n : ℕ) → length states ≤ n → HaveTurnedFrom R n states states
none_from R states n end = record { as_many = refl; turned = λ k d past there. absurd (omega (arith, past, there, end)); rest = λ k d below. refl }

module _ (R : BookState → BookState → Type 0) (i : ℕ) (before now : List BookState) (have : HaveTurnedFrom R (i + 1) before now) where
  pub last_is : (d : BookState) → get_or now i d ≡ get_or before i d
  last_is d = have.rest i d (omega arith)

  pub one_more_from : (e new : BookState) → i < length now → R (get_or now i e) new → HaveTurnedFrom R i before (set now i new)
  one_more_from e new there turn = record {
    as_many = length-set now i new ∙ have.as_many;
    turned = λ k d past within. elim (cases_lt i k) [
      | inl later ↦
          subst (λ (s : BookState). R (get_or before k d) s) (sym (get_or-set_other now i k new d (λ same. omega (arith, later, same))))
          (have.turned k d (omega (arith, later)) within)
      | inr other ↦
          let here : k ≡ i = omega (arith, past, other) in
          subst (λ (n : ℕ). R (get_or before n d) (get_or (set now i new) n d)) (sym here)
          (subst (λ (s : BookState). R s (get_or (set now i new) i d)) (get_or_default now i e d there ∙ last_is d)
          (subst (λ (s : BookState). R (get_or now i e) s) (sym (get_or-set_same now i new d there)) turn))
    ];
    rest = λ k d below. get_or-set_other now i k new d (λ same. omega (arith, below, same)) ∙ have.rest k d (omega (arith, below));
  }

pub all_from : (R : BookState → BookState → Type 0) (n : ℕ) (before now : List BookState) → n ≡ 0 → HaveTurnedFrom R n before now → HaveAllTurned R before now
all_from R n before now none have = record { as_many = have.as_many; each = λ k d there. have.turned k d (omega (arith, none)) there }
