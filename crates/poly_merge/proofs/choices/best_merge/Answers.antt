use Rattle.std.proofs.Common.{[], ◌∷◌, get_or, map, take, sym, ap, ◌∙◌}
use Rattle.std.specs.Prelude.{None}
use Rattle.std.specs.List.{fold}
use Rattle.std.proofs.lemmas.List.{map_more, take_all}
use Rattle.std.proofs.lemmas.List.Sums.{fold-append}
use Rattle.mesh_types.specs.Choices.{or_later}
use Rattle.poly_merge.specs.Seen.{comes_before, seen}
use Rattle.poly_merge.proofs.Choosing.{choices_there, next_merge}
use Rattle.poly_merge.proofs.Walks.{no_merge}
use Rattle.poly_merge.proofs.choices.best_merge.Goals as goal

pub first_of-best-requires-clause-merge : goal.first_of-best-requires-clause-merge
first_of-best-requires-clause-merge c =
    choices_there c.args.corners.now c.args.pieces.now c.args.choices.now c.requires.choices c.loop-choice.choice-index no_merge c.loop-choice-test.true

pub loop-choice-preserved : goal.loop-choice-preserved
loop-choice-preserved c =
    let next = or_later (comes_before c.args.corners.now c.args.pieces.now) in
    let one = get_or c.args.choices.now c.loop-choice.choice-index no_merge in
    record {
      best = c.first_of-best.ensures.value
          ∙ ap (λ o. next o (seen one)) c.loop-choice.invariant.best
          ∙ sym (fold-append next None (map seen (take c.loop-choice.choice-index c.args.choices.now)) (seen one ∷ []))
          ∙ ap (fold next None) (sym (map_more seen c.args.choices.now c.loop-choice.choice-index no_merge c.loop-choice-test.true));
      there = c.first_of-best.ensures.there;
    }

pub returns-clause-value : goal.returns-clause-value
returns-clause-value c =
    c.loop-choice.invariant.best
    ∙ ap (λ ms. fold (or_later (comes_before c.args.corners.now c.args.pieces.now)) None (map seen ms)) (take_all c.loop-choice.choice-index c.args.choices.now c.loop-choice-test.false)
    ∙ next_merge c.args.corners.now c.args.pieces.now (map seen c.args.choices.now) c.requires.choices
