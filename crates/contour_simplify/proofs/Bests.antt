-- The first place whose element none beats, found by a loop.
use Rattle.std.proofs.Common.{◌≡◌, ℕ, zero, suc, ◌+◌, ◌-◌, ◌<◌, Bool, true, false, List, length, get_or, arith, refl, subst, ap, ◌∙◌}
use Rattle.std.specs.List.{IsFirstBest, list_any}
use Rattle.std.specs.Cmp.{IsStrictWeakOrder}
use Rattle.std.proofs.lemmas.List.{get_or_default}
use Rattle.std.proofs.lemmas.List.Folds.{list_any_at, list_any_none}
use Rattle.std.proofs.lemmas.List.MinMax.{IsFirstBest-none, IsFirstBest-keeps, IsFirstBest-takes}
use Rattle.std.proofs.lemmas.List.Sums.{prefix_len_is}
use Rattle.mesh_types.specs.Choices.{first_best_place}

module _ {X : Type 0} (beats : X → X → Bool) where
  -- the place that a loop over all of them ends with is the first that none beats
  pub best_is : (xs : List X) (place : ℕ) (d : X) → IsFirstBest beats xs (length xs) place → first_best_place beats xs ≡ place
  unfolding first_best_place
  best_is xs place d best =
      prefix_len_is (λ x. list_any (λ y. beats y x) xs) xs place d (omega (arith, best.0))
      (λ k before. list_any_at (λ y. beats y (get_or xs k d)) xs place d best.0 (best.2 k d before))
      (λ _. list_any_none (λ y. beats y (get_or xs place d)) xs
      (λ k e inside. ap (beats (get_or xs k e)) (get_or_default xs place d e best.0) ∙ best.1 k e inside))

  -- one more place
  one_more : IsStrictWeakOrder beats → (xs : List X) (d : X) (i place : ℕ) → i < length xs → IsFirstBest beats xs i place
      → (next : ℕ) × IsFirstBest beats xs (i + 1) next
  one_more order xs d i place there best = by_case (beats (get_or xs i d) (get_or xs place d)) refl
    where
      own : get_or xs i d ≡ get_or xs i (get_or xs i d)
      own = get_or_default xs i d (get_or xs i d) there

      other : get_or xs place d ≡ get_or xs place (get_or xs place d)
      other = get_or_default xs place d (get_or xs place d) (omega (arith, there, best.0))

      by_case : (test : Bool) → beats (get_or xs i d) (get_or xs place d) ≡ test → (next : ℕ) × IsFirstBest beats xs (i + 1) next
      by_case true is = (i, IsFirstBest-takes order xs i place (get_or xs i d) (get_or xs place d) best there own other is)
      by_case false is = (place, IsFirstBest-keeps order xs i place (get_or xs i d) (get_or xs place d) best there own other is)

  some_best : IsStrictWeakOrder beats → (xs : List X) (d : X) (i : ℕ) → i < length xs → (place : ℕ) × IsFirstBest beats xs (i + 1) place
  some_best order xs d zero there = (0, IsFirstBest-none order xs)
  some_best order xs d (suc i) there =
      let before = some_best order xs d i (omega (arith, there)) in
      one_more order xs d (suc i) before.0 there (subst (λ n. IsFirstBest beats xs n before.0) {x = i + 1} {y = suc i} (omega arith) before.1)

  -- where there are elements, one of them is the first that none beats
  pub best_there : IsStrictWeakOrder beats → (xs : List X) (d : X) → 0 < length xs → first_best_place beats xs < length xs
  best_there order xs d some =
      let last : ℕ = length xs - 1 in
      let found = some_best order xs d last (omega (arith, some)) in
      let best : IsFirstBest beats xs (length xs) found.0 = subst (λ n. IsFirstBest beats xs n found.0) {x = last + 1} {y = length xs} (omega (arith, some)) found.1 in
      omega (arith, best.0, best_is xs found.0 d best)
