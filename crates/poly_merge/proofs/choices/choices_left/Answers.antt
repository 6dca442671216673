use Rattle.std.proofs.Common.{[], ◌∷◌, ◌++◌, get_or, map, take, sym, ap, ◌∙◌}
use Rattle.std.specs.List.{cons_option, filter_map}
use Rattle.std.proofs.lemmas.List.{map_more, take_all}
use Rattle.std.proofs.lemmas.List.Elements.{filter_map-append}
use Rattle.poly_merge.specs.Seen.{left_over, seen}
use Rattle.poly_merge.proofs.Walks.{no_merge}
use Rattle.poly_merge.proofs.choices.choices_left.Goals as goal

pub loop-choice-preserved : goal.loop-choice-preserved
loop-choice-preserved c =
    let made = seen c.args.made in
    let so_far = map seen (take c.loop-choice.choice-index c.args.before.now) in
    let one = get_or c.args.before.now c.loop-choice.choice-index no_merge in
    c.in_ok-push_left.ensures
    ∙ ap (λ ms. ms ++ cons_option (left_over made (seen one)) []) c.loop-choice.invariant
    ∙ sym (filter_map-append (left_over made) so_far (seen one ∷ []))
    ∙ ap (filter_map (left_over made)) (sym (map_more seen c.args.before.now c.loop-choice.choice-index no_merge c.loop-choice-test.true))

pub returns : goal.returns
returns c = c.loop-choice.invariant ∙ ap (λ ms. filter_map (left_over (seen c.args.made)) (map seen ms)) (take_all c.loop-choice.choice-index c.args.before.now c.loop-choice-test.false)
