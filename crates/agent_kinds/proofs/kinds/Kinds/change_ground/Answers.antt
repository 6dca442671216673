use Rattle.std.proofs.Common.{◌≡◌, ◌∙◌, List, Err, Ok, length, ap, subst, sym}
use Rattle.std.specs.Prelude.{All}
use Rattle.std.specs.List.{AllZip}
use Rattle.std.specs.Vec.{with_items}
use Rattle.std.proofs.lemmas.List.{with_items_is}
use Rattle.std.proofs.lemmas.Result.{err_from_is_err_and}
use Rattle.nav_ground.specs.declared.field.Field.{Field}
use Rattle.build_queue.specs.BookState.{BookState}
use Rattle.live_ground.specs.declared.kept_field.ChangeRefusal.{ChangeRefusal}
use Rattle.live_ground.specs.Changes.{AreSpansFor, IsRectangleIn}
use Rattle.agent_kinds.specs.Firsts.{first_awaited}
use Rattle.agent_kinds.specs.KindGrounds.{AreOver, AreSameBeyond, AreSpansOfKinds, after_change}
use Rattle.agent_kinds.specs.Kinds.{AreKinds}
use Rattle.agent_kinds.specs.KindSteps.{publication_by}
use Rattle.agent_kinds.proofs.FieldKept.{few_told, kept_anew, kept_by, many_told, memory_not_many, ok_not_err}
use Rattle.agent_kinds.proofs.OverField.{of_field, over_changed, over_unchanged}
use Rattle.agent_kinds.proofs.Resting.{same_beyond}
use Rattle.agent_kinds.proofs.kinds.Kinds.change_ground.Goals as goal

pub changed-requires-clause-window : goal.changed-requires-clause-window
changed-requires-clause-window g c =
    let states = c.self.inside.levels.items in
    let all : All (AreSpansOfKinds c.args.window c.args.spans.now) states = subst (All (AreSpansOfKinds c.args.window c.args.spans.now)) (sym c.self.view_is) c.requires in
    of_field (λ (field : Field). IsRectangleIn field c.args.window) c.self.inside.field states c.self.invariant.kinds.some c.self.invariant.over
    (λ k d there. (all k d there).inside)

pub changed-requires-clause-spans : goal.changed-requires-clause-spans
changed-requires-clause-spans g c =
    let states = c.self.inside.levels.items in
    let all : All (AreSpansOfKinds c.args.window c.args.spans.now) states = subst (All (AreSpansOfKinds c.args.window c.args.spans.now)) (sym c.self.view_is) c.requires in
    of_field (λ (field : Field). AreSpansFor field c.args.window c.args.spans.now) c.self.inside.field states c.self.invariant.kinds.some c.self.invariant.over
    (λ k d there. (all k d there).rules)

pub returns-in_err-field-clause-differ : goal.returns-in_err-field-clause-differ
returns-in_err-field-clause-differ g c = same_beyond c.args.window c.args.self.now

pub returns-in_err-field-clause-many : goal.returns-in_err-field-clause-many
returns-in_err-field-clause-many g c =
    let p = err_from_is_err_and c.from_residual.result c.from_residual.ensures.1 in
    many_told c.args.window c.args.spans.now c.self.inside.field c.args.self.now c.in_err-field.field-0.0 c.changed.result c.from_residual.result
    (subst AreKinds c.self.view_is c.self.invariant.kinds) (subst (AreOver c.self.inside.field) c.self.view_is c.self.invariant.over) c.in_err-field.was
    (p.1 ∙ ap Err p.2) c.changed.ensures.many

pub invariant_of-self : goal.invariant_of-self
invariant_of-self g c =
    kept_by c.self.inside c.as_mut_slice.result.now c.change_grounds.new.levels (λ (states : List BookState). states) c.as_mut_slice.ensures.value
    c.change_grounds.auto.levels c.change_grounds.ensures.rules c.in_err-answer.ensures.refused (λ (states : List BookState) over. over) c.self.invariant

pub returns-in_err-answer-clause-many : goal.returns-in_err-answer-clause-many
returns-in_err-answer-clause-many g c =
    let p = err_from_is_err_and c.from_residual-in_err-answer.result c.from_residual-in_err-answer.ensures.1 in
    few_told c.args.window c.args.spans.now c.self.inside.field c.args.self.now c.in_ok-field.field c.changed.result c.from_residual-in_err-answer.result
    (subst AreKinds c.self.view_is c.self.invariant.kinds) (subst (AreOver c.self.inside.field) c.self.view_is c.self.invariant.over) c.in_ok-field.was
    (memory_not_many c.from_residual-in_err-answer.result (p.1 ∙ ap Err p.2)) c.changed.ensures.many

pub invariant_of-self-in-Same : goal.invariant_of-self-in-Same
invariant_of-self-in-Same g c =
    let old = c.as_mut_slice.result.now in
    let field = c.in_ok-field.field in
    let kinds : AreKinds old = subst AreKinds (sym c.as_mut_slice.ensures.value) c.self.invariant.kinds in
    let anew = kept_anew c.self.inside field old c.change_grounds.new.levels c.as_mut_slice.ensures.value c.change_grounds.auto.levels c.change_grounds.ensures.rules
    (over_changed field old c.change_grounds.new.levels c.in_ok-answer.answer c.in-Same.k kinds c.in_ok-answer.ensures.answer c.in-Same.is c.in_ok-answer.ensures.state) in
    record { kinds = anew.0; over = anew.1 }

pub invariant_of-self-in-New-1 : goal.invariant_of-self-in-New-1
invariant_of-self-in-New-1 g c =
    let old = c.as_mut_slice.result.now in
    let field = c.self.inside.field in
    let over : AreOver field old = subst (AreOver field) (sym c.as_mut_slice.ensures.value) c.self.invariant.over in
    let anew = kept_anew c.self.inside field old c.change_grounds.new.levels c.as_mut_slice.ensures.value c.change_grounds.auto.levels c.change_grounds.ensures.rules
    (over_unchanged field c.in_ok-field.field old c.change_grounds.new.levels c.in_ok-answer.answer over c.in_ok-answer.ensures.answer c.in_default.not-Same
    c.in_ok-answer.ensures.state) in
    record { kinds = anew.0; over = anew.1 }

pub returns-in-Same-clause-many : goal.returns-in-Same-clause-many
returns-in-Same-clause-many g c =
    few_told c.args.window c.args.spans.now c.self.inside.field c.args.self.now c.in_ok-field.field c.changed.result (Ok c.in_ok-answer.answer)
    (subst AreKinds c.self.view_is c.self.invariant.kinds) (subst (AreOver c.self.inside.field) c.self.view_is c.self.invariant.over) c.in_ok-field.was
    (ok_not_err c.in_ok-answer.answer ChangeRefusal.TooManySpans) c.changed.ensures.many

pub returns-in_default : goal.returns-in_default
returns-in_default g c =
    let old = c.as_mut_slice.result.now in
    let new = c.change_grounds.new.levels in
    let before = c.args.self.now in
    let same : old ≡ before = c.as_mut_slice.ensures.value ∙ c.self.view_is in
    let is : (with_items c.self.inside.levels new).items ≡ new =
    with_items_is c.self.inside.levels new
    (c.change_grounds.auto.levels ∙ ap (λ (list : List BookState). length list) c.as_mut_slice.ensures.value ∙ sym c.self.inside.levels.ok.0) in
    let kinds = subst AreKinds c.self.view_is c.self.invariant.kinds in
    let over = subst (AreOver c.self.inside.field) c.self.view_is c.self.invariant.over in
    record {
      answer = subst (λ (states : List BookState). All (λ (state : BookState). c.in_ok-answer.answer ≡ publication_by (first_awaited states) state) states) same
          c.in_ok-answer.ensures.answer;
      state = record {
        old = c.self.inside.field;
        new = c.in_ok-field.field;
        over = over;
        changed = c.in_ok-field.ensures.changed;
        state = is ∙ c.in_ok-answer.ensures.state ∙ ap (after_change c.in_ok-field.field) same;
      };
      differ = subst (λ (states : List BookState). AllZip (AreSameBeyond c.args.window) states (with_items c.self.inside.levels new).items) same
          (subst (AllZip (AreSameBeyond c.args.window) old) (sym is) c.change_grounds.ensures.differ);
      many = few_told c.args.window c.args.spans.now c.self.inside.field before c.in_ok-field.field c.changed.result (Ok c.in_ok-answer.answer) kinds over
          c.in_ok-field.was (ok_not_err c.in_ok-answer.answer ChangeRefusal.TooManySpans) c.changed.ensures.many;
      refused = tt;
      rules = subst AreKinds (sym is) c.change_grounds.ensures.rules;
    }
