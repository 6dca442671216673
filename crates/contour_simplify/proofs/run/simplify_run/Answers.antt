use Rattle.std.proofs.Common.{◌≡◌, ◌∙◌, sym, ap, length, List}
use Rattle.std.specs.Prelude.{reverse}
use Rattle.std.proofs.lemmas.Result.{IfOk-weaker}
use Rattle.nav_base.specs.declared.point.Point.{Point}
use Rattle.mesh_types.specs.Simplified.{kept_walking}
use Rattle.contour_simplify.proofs.Mirrored.{mirrored, kept_forth, kept_back, straight_back}
use Rattle.contour_simplify.proofs.run.simplify_run.Goals as goal

pub returns-then-is_before-clause-value : goal.returns-then-is_before-clause-value
returns-then-is_before-clause-value c =
    IfOk-weaker c.walk.result _ _ (λ kept is. is ∙ kept_forth c.args.error c.args.first c.args.inner.now c.args.last (sym c.is_before.ensures ∙ c.if-is_before.true)) c.walk.ensures

pub returns-then-is_before-clause-mirrored : goal.returns-then-is_before-clause-mirrored
returns-then-is_before-clause-mirrored c =
    IfOk-weaker c.walk.result _ _ (λ kept is apart. mirrored c.args.error c.args.first c.args.inner.now c.args.last apart
    ∙ ap reverse (sym (is ∙ kept_forth c.args.error c.args.first c.args.inner.now c.args.last (sym c.is_before.ensures ∙ c.if-is_before.true)))) c.walk.ensures

pub returns-then-is_straight-clause-value : goal.returns-then-is_straight-clause-value
returns-then-is_straight-clause-value c =
    c.new.ensures.items ∙ straight_back c.args.error c.args.first c.args.inner.now c.args.last (sym c.is_before.ensures ∙ c.if-is_before.false)
    (c.is_straight.ensures c.if-is_straight.true)

pub returns-then-is_straight-clause-mirrored : goal.returns-then-is_straight-clause-mirrored
returns-then-is_straight-clause-mirrored c apart =
    mirrored c.args.error c.args.first c.args.inner.now c.args.last apart ∙ ap reverse (sym (returns-then-is_straight-clause-value c))

-- what is kept on the way back, turned round, is kept of the run
pub returns-clause-value : goal.returns-clause-value
returns-clause-value c =
    let backward : c.as_slice.result.now ≡ reverse c.args.inner.now =
    c.as_slice.ensures.value ∙ c.reverse.ensures.items ∙ ap reverse c.in_ok-backward.ensures.items in
    c.reverse-2.ensures.items
    ∙ ap reverse (c.in_ok-kept.ensures ∙ ap (λ (ps : List Point). kept_walking (length ps) c.args.error c.args.last ps c.args.first) backward)
    ∙ kept_back c.args.error c.args.first c.args.inner.now c.args.last (sym c.is_before.ensures ∙ c.if-is_before.false)

pub returns-clause-mirrored : goal.returns-clause-mirrored
returns-clause-mirrored c apart =
    mirrored c.args.error c.args.first c.args.inner.now c.args.last apart ∙ ap reverse (sym (returns-clause-value c))
