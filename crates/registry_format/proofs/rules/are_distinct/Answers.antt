use Rattle.std.proofs.Common.{◌≢◌, ◌∙◌, sym, rules, arith, subst, take_all}
use Rattle.std.specs.Prelude.{AllPairs}
use Rattle.std.proofs.lemmas.List.{get_or-take, length-take}
use Rattle.registry_format.proofs.Loops.{same_at}
use Rattle.registry_format.proofs.Pairs.{pairs_more}
use Rattle.registry_format.proofs.rules.are_distinct.Goals as goal

pub returns-then-not-is_absent : goal.returns-then-not-is_absent
returns-then-not-is_absent c = (
  λ told. absurd (search rules),
  λ pairs.
      let yes = c.is_absent.ensures.1 (λ k d within same.
      let below = length-take c.loop-at.at c.args.places.now in
      pairs k c.loop-at.at d (omega (arith, within, below, c.loop-at-test.true)) c.loop-at-test.true
      (sym (get_or-take c.loop-at.at c.args.places.now k d (omega (arith, within, below, c.loop-at-test.true))) ∙ same
      ∙ same_at c.args.places.now c.loop-at.at _ d c.loop-at-test.true)) in
      absurd (search rules),
)

pub loop-at-preserved : goal.loop-at-preserved
loop-at-preserved c =
    let absent = c.is_absent.ensures.0 (search rules) in
    pairs_more (λ a b. a ≢ b) c.args.places.now c.loop-at.at c.loop-at-test.true c.loop-at.invariant
    (λ k d below same.
    absent k d (omega (arith, below, length-take c.loop-at.at c.args.places.now, c.loop-at-test.true))
    (get_or-take c.loop-at.at c.args.places.now k d below ∙ same ∙ same_at c.args.places.now c.loop-at.at d _ c.loop-at-test.true))

pub returns : goal.returns
returns c = (
  λ told. subst (AllPairs (λ a b. a ≢ b)) (take_all c.loop-at.at c.args.places.now (omega (arith, c.loop-at-test.false))) c.loop-at.invariant,
  λ all. search rules,
)
