use Rattle.std.proofs.Common.{List, map, ap, ◌∙◌, sym, subst}
use Rattle.std.specs.Prelude.{All}
use Rattle.std.specs.List.{AllZip}
use Rattle.build_queue.specs.BookState.{BookState}
use Rattle.build_queue.specs.GroundSteps.{IsAtRest}
use Rattle.agent_kinds.specs.KindGrounds.{AreSameBeyond, over_field}
use Rattle.agent_kinds.specs.Kinds.{AreKinds}
use Rattle.agent_kinds.proofs.Resting.{changed_all, differ_all, same_beyond, same_to_all, unchanged_ground}
use Rattle.agent_kinds.proofs.ground.change_grounds.Goals as goal

pub next_grounds-requires-clause-rest : goal.next_grounds-requires-clause-rest
next_grounds-requires-clause-rest g c =
    subst (λ (list : List BookState). All IsAtRest list) (sym c.publication-answer.ensures.same)
    (same_to_all c.args.field.now c.args.levels.now c.publication-answer.result c.in-Same.k c.requires.kinds c.publication-answer.ensures.answer
    c.in-Same.is).rest

pub show_grounds-requires-clause-rest : goal.show_grounds-requires-clause-rest
show_grounds-requires-clause-rest g c =
    subst (λ (list : List BookState). All IsAtRest list) (sym c.publication-answer.ensures.same)
    (same_to_all c.args.field.now c.args.levels.now c.publication-answer.result c.in-Same.k c.requires.kinds c.publication-answer.ensures.answer
    c.in-Same.is).rest

pub returns-in_err-nexts-in-Same-clause-differ : goal.returns-in_err-nexts-in-Same-clause-differ
returns-in_err-nexts-in-Same-clause-differ g c =
    subst (λ (list : List BookState). AllZip (AreSameBeyond c.args.window) c.args.levels.now list) (sym c.publication-answer.ensures.same)
    (same_beyond c.args.window c.args.levels.now)

pub returns-in_ok-nexts-in-Same-clause-state : goal.returns-in_ok-nexts-in-Same-clause-state
returns-in_ok-nexts-in-Same-clause-state g c =
    changed_all c.args.window c.args.field.now c.publication-answer.new.levels c.show_grounds.new.levels c.show_grounds.ensures.changed
    ∙ ap (map (over_field c.args.field.now)) c.publication-answer.ensures.same
    ∙ sym (same_to_all c.args.field.now c.args.levels.now c.publication-answer.result c.in-Same.k c.requires.kinds c.publication-answer.ensures.answer
    c.in-Same.is).all

pub returns-in_ok-nexts-in-Same-clause-differ : goal.returns-in_ok-nexts-in-Same-clause-differ
returns-in_ok-nexts-in-Same-clause-differ g c =
    subst (λ (list : List BookState). AllZip (AreSameBeyond c.args.window) list c.show_grounds.new.levels) c.publication-answer.ensures.same
    (differ_all c.args.window c.args.field.now c.publication-answer.new.levels c.show_grounds.new.levels c.show_grounds.ensures.changed)

pub returns-in_default : goal.returns-in_default
returns-in_default g c = record {
  answer = c.publication-answer.ensures.answer;
  state = c.publication-answer.ensures.same
      ∙ sym (unchanged_ground c.args.field.now c.args.levels.now c.publication-answer.result c.publication-answer.ensures.answer c.in_default.not-Same);
  differ = subst (λ (list : List BookState). AllZip (AreSameBeyond c.args.window) c.args.levels.now list) (sym c.publication-answer.ensures.same)
      (same_beyond c.args.window c.args.levels.now);
  refused = tt;
  rules = subst (λ (list : List BookState). AreKinds list) (sym c.publication-answer.ensures.same) c.requires.kinds;
}
