-- Lemmas on lists that go on from one another.
use Rattle.std.proofs.Common.{◌≡◌, ◌≢◌, ℕ, ◌<◌, ◌≤◌, List, [], ◌∷◌, ◌++◌, length, Option, Some, false, ◌==◌, refl, sym, ◌∙◌, ap, subst, ⊎_elim, ne_eqb, append-nil, append_assoc, length-append, arith}
use Rattle.std.specs.Prelude.{All}
use Rattle.std.proofs.lemmas.List.Elements.{All-nil, All-push, All-head, All-tail, filter-append}
use Rattle.turn_lock.specs.Growth.{made_by, Extends, Grows}

module _ {E : Type 0} (maker : E → ℕ) where
  pub Extends-itself : (number : ℕ) (xs : List E) → Extends maker number xs xs
  Extends-itself number xs = record { rest = []; longer = sym (append-nil xs); others = All-nil (λ e. maker e ≢ number) }

  pub Extends-length : (number : ℕ) (seen now : List E) → Extends maker number seen now → length seen ≤ length now
  Extends-length number seen now x = omega (arith, ap length x.longer, length-append seen x.rest)

  pub Extends-nothing : (number : ℕ) (now : List E) → All (λ e. maker e ≢ number) now → Extends maker number [] now
  Extends-nothing number now others = record { rest = now; longer = refl; others = others }

  -- an entry of another maker may follow
  pub Extends-more : (number : ℕ) (seen now : List E) (e : E) → maker e ≢ number → Extends maker number seen now → Extends maker number seen (now ++ e ∷ [])
  Extends-more number seen now e apart x =
      record { rest = x.rest ++ e ∷ []; longer = ap (λ l. l ++ e ∷ []) x.longer ∙ append_assoc seen x.rest (e ∷ []); others = All-push (λ e. maker e ≢ number) x.rest e x.others apart }

  pub Extends-grown : (number by : ℕ) (seen now after : List E) → number ≢ by → Grows maker (Some by) now after → Extends maker number seen now → Extends maker number seen after
  Extends-grown number by seen now after apart grows x = ⊎_elim
      (λ same. subst (Extends maker number seen) (sym same) x)
      (λ (e, named, longer). let own : by ≡ maker e = cc in subst (Extends maker number seen) (sym longer) (Extends-more number seen now e (λ is. apart (sym is ∙ sym own)) x))
      grows

  pub Grows-length : (by : Option ℕ) (now after : List E) → Grows maker by now after → length now ≤ length after
  Grows-length by now after grows = ⊎_elim (λ same. let long = ap length same in omega arith) (λ (e, named, longer). omega (arith, ap length longer, length-append now (e ∷ []))) grows

  pub Grows-makers : (by count : ℕ) (now after : List E) → by < count → Grows maker (Some by) now after → All (λ e. maker e < count) now → All (λ e. maker e < count) after
  Grows-makers by count now after below grows all = ⊎_elim
      (λ same. subst (All (λ e. maker e < count)) (sym same) all)
      (λ (e, named, longer). let own : by ≡ maker e = cc in subst (All (λ e. maker e < count)) (sym longer) (All-push (λ e. maker e < count) now e all (omega arith)))
      grows

  none_made : (number : ℕ) (xs : List E) → All (λ e. maker e ≢ number) xs → made_by maker number xs ≡ []
  none_made number [] all = refl
  none_made number (x ∷ xs) all =
      let other : (maker x == number) ≡ false = ne_eqb (maker x) number (All-head (λ e. maker e ≢ number) x xs all) in
      rw other (none_made number xs (All-tail (λ e. maker e ≢ number) x xs all))

  -- where a list goes on from what a pass has seen, the pass's own entries in the list are those that it has seen, in their order
  pub Extends-own : (number : ℕ) (seen now : List E) → Extends maker number seen now → made_by maker number now ≡ made_by maker number seen
  Extends-own number seen now x =
      ap (made_by maker number) x.longer ∙ filter-append (λ e. maker e == number) seen x.rest ∙ ap (λ l. made_by maker number seen ++ l) (none_made number x.rest x.others) ∙ append-nil (made_by maker number seen)
