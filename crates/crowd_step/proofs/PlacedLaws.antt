-- Placed: agents added one after the other, of which all keep a condition.
use Rattle.std.proofs.Common.{◌≡◌, ℕ, ◌+◌, ◌<◌, ◌≤◌, List, [], ◌∷◌, ◌++◌, length, get_or, sym, subst, inl, inr, arith, length-append}
use Rattle.std.specs.Prelude.{All}
use Rattle.std.proofs.lemmas.Bool.{cases_lt}
use Rattle.std.proofs.lemmas.List.{get_or_append_left, get_or-append-add}
use Rattle.crowd_moves.specs.declared.agents.CrowdAgent.{CrowdAgent}

-- so many agents, which all keep it
pub record AreAllSo (P : CrowdAgent → Type 0) (agents : List CrowdAgent) (count : ℕ) : Type 0 where
  pub many : length agents ≡ count
  pub all : All P agents

pub all_more : (P : CrowdAgent → Type 0) (agents longer : List CrowdAgent) (count : ℕ) (b : CrowdAgent) → AreAllSo P agents count → P b
    → longer ≡ agents ++ b ∷ [] → AreAllSo P longer (count + 1)
all_more P agents longer count b so keeps is = subst (λ (xs : List CrowdAgent). AreAllSo P xs (count + 1)) (sym is) (record {
  many = more so.many;
  all = λ k d below. elim (cases_lt k (length agents)) [
    | inl front ↦ subst P (sym (get_or_append_left agents (b ∷ []) d k front)) (so.all k d front)
    | inr last ↦
        let here : length agents + 0 ≡ k = end k below last in
        subst (λ (n : ℕ). P (get_or (agents ++ b ∷ []) n d)) here (subst P (sym (get_or-append-add agents (b ∷ []) 0 d)) keeps)
  ];
})
  where
    more : length agents ≡ count → length (agents ++ b ∷ []) ≡ count + 1
    more many = omega (arith, many, length-append agents (b ∷ []))

    end : (k : ℕ) → k < length (agents ++ b ∷ []) → length agents ≤ k → length agents + 0 ≡ k
    end k below last = omega (arith, below, last, length-append agents (b ∷ []))
