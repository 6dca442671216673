use Rattle.std.proofs.Common.{◌≡◌, ℕ, refl, subst, sym, ap, ◌∙◌, inl, inr, arith, List, length, get_or}
use Rattle.std.specs.Prelude.{slice_get, Some}
use Rattle.std.proofs.lemmas.Bool.{both_ways, cases_lt}
use Rattle.std.proofs.lemmas.Option.{get_or_from_slice_get}
use Rattle.crowd_moves.specs.Contacts.{end_at}
use Rattle.crowd_moves.specs.Steps.{IsClearBeside}
use Rattle.crowd_moves.proofs.StepLaws.{free_of_contacts}
use Rattle.crowd_moves.proofs.steps.is_free.Goals as goal

pub returns-then-not-is_clear_beside : goal.returns-then-not-is_clear_beside
returns-then-not-is_clear_beside c = (
  λ h. absurd (both_ways _ refl h),
  λ free. absurd (both_ways c.is_clear_beside.result c.if-not-is_clear_beside.true
      (c.is_clear_beside.ensures.1 (record { clear = λ a b n apart is_a is_b is_n. free _ a b n apart is_a is_b is_n }))),
)

pub loop-k-preserved : goal.loop-k-preserved
loop-k-preserved c =
    λ k j from below is. elim (cases_lt k c.loop-k.k) [
      | inl before ↦ c.loop-k.invariant k j from before is
      | inr most ↦
          let last : c.loop-k.k ≡ k = omega (arith, most, below) in
          subst (λ (n : ℕ). IsClearBeside c.args.crowd.height c.args.crowd.agents.now c.args.moves.now c.args.i c.args.made.now n)
          (ap (λ (n : ℕ). get_or c.as_slice-others.result.now n 0) last ∙ get_or_from_slice_get c.as_slice-others.result.now k j 0 is)
          (c.is_clear_beside.ensures.0 c.if-not-is_clear_beside.false)
    ]

pub returns : goal.returns
returns c =
    let same : c.as_slice-others.result.now ≡ c.args.crowd.contacts.now.others.items = c.as_slice-others.ensures.value in
    let begins : c.as_slice.result.now ≡ c.args.crowd.contacts.now.first.items = c.as_slice.ensures.value in
    let ends : c.places-begin.result.1 ≡ end_at c.args.crowd.contacts.now.first.items c.args.i (length c.args.crowd.contacts.now.others.items) =
    c.places-begin.ensures.end ∙ (λ i. end_at (begins i) c.args.i (length (same i))) in (
      λ true. free_of_contacts c.args.crowd.height c.args.crowd.agents.now c.args.moves.now c.args.crowd.contacts.now.first.items c.args.crowd.contacts.now.others.items
          c.args.i c.args.made.now c.requires.movers c.requires.mover c.requires.there c.requires.contacts
          (λ k j from below is. c.loop-k.invariant k j from (omega (arith, below, ends, c.loop-k-test.false))
          (subst (λ (xs : List ℕ). slice_get xs k ≡ Some j) (sym same) is)),
      λ free. refl,
    )
