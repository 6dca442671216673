-- What the first kind tells of all.
use Rattle.std.proofs.Common.{◌≡◌, ℕ, ◌<◌, List, length, get_or, Some, Result, Ok, Err, nat_eq, inl, inr, ap, ◌∙◌, sym, subst}
use Rattle.std.specs.Prelude.{All, IfOk, MatchBool, slice_get}
use Rattle.std.proofs.lemmas.Bool.Decides.{eqb_tells}
use Rattle.std.proofs.lemmas.List.Elements.{Contains-get_or}
use Rattle.std.proofs.lemmas.Option.{get_or_from_slice_get}
use Rattle.nav_ground.specs.History.{alive_after}
use Rattle.build_queue.specs.BookState.{BookState}
use Rattle.build_queue.specs.Renewal.{IsAllShown}
use Rattle.agent_kinds.specs.Kinds.{AreAtOne, AreKinds}
use Rattle.kinds_handle.specs.KindRenewals.{AreAliveIn}

module _ (states : List BookState) (first : BookState) (kinds : AreKinds states) (is : slice_get states 0 ≡ Some first) where
  -- each is at one with it
  one_with : (k : ℕ) (d : BookState) → k < length states → AreAtOne (get_or states k d) first
  one_with k d there =
      subst (AreAtOne (get_or states k d)) (get_or_from_slice_get states 0 first d is)
      (kinds.at_one (get_or states k d) (get_or states 0 d) (Contains-get_or states k d there) (Contains-get_or states 0 d kinds.some))

  pub shown_by_first : first.published ≡ length first.history → All IsAllShown states
  shown_by_first shown = λ k d there.
      let one = one_with k d there in
      record { shown = one.published ∙ shown ∙ sym (ap length one.history) }

  pub shown_by_all : All IsAllShown states → first.published ≡ length first.history
  shown_by_all all =
      let one = one_with 0 first kinds.some in
      sym one.published ∙ (all 0 first kinds.some).shown ∙ ap length one.history

  pub alive_by_first : (numbers : List ℕ) → numbers ≡ alive_after first.history (length first.history) → All (AreAliveIn numbers) states
  alive_by_first numbers alive = λ k d there.
      let one = one_with k d there in
      alive ∙ (λ i. alive_after (sym one.history i) (length (sym one.history i)))

  pub all_by_first : (published many : ℕ) → published ≡ first.published → many ≡ length first.history
      → MatchBool (nat_eq published many) (All IsAllShown states) (¬ All IsAllShown states)
  all_by_first published many shown counted = elim (eqb_tells published many) [
    | inl same ↦ subst (λ b. MatchBool b (All IsAllShown states) (¬ All IsAllShown states)) (sym same.0)
        (shown_by_first (sym shown ∙ same.1 ∙ counted))
    | inr apart ↦ subst (λ b. MatchBool b (All IsAllShown states) (¬ All IsAllShown states)) (sym apart.0)
        (λ all. apart.1 (shown ∙ shown_by_all all ∙ sym counted))
  ]

  pub alive_told : {E : Type 0} (told : Result (List ℕ) E) → IfOk told (λ numbers. numbers ≡ alive_after first.history (length first.history))
      → IfOk told (λ numbers. All (AreAliveIn numbers) states)
  alive_told (Ok numbers) alive = alive_by_first numbers alive
  alive_told (Err why) alive = tt
