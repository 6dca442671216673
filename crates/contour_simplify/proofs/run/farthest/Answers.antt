use Rattle.std.proofs.Common.{ℕ, ◌+◌, ◌∙◌, ap, sym, subst, get_or}
use Rattle.std.specs.List.{IsFirstBest}
use Rattle.std.proofs.lemmas.Bool.{iff_false}
use Rattle.nav_base.specs.declared.point.Point.{Point}
use Rattle.nav_base.specs.Deviation.{deviation_of}
use Rattle.mesh_types.specs.Simplified.{origin, deviates_more}
use Rattle.contour_simplify.proofs.Deviations.{farther, no_farther}
use Rattle.contour_simplify.proofs.run.farthest.Goals as goal
use Rattle.contour_simplify.proofs.run.farthest.Goals.{then-less, else-less}

pub loop-index-preserved : goal.loop-index-preserved
loop-index-preserved c =
    let a : Point = c.args.half.first in
    let b : Point = c.args.half.last in
    let inner = c.args.half.inner.now in
    let index : ℕ = c.loop-index.index in
    let place : ℕ = c.loop-index.place in
    elim c.if-less.branch [
      | then-less w ↦ record {
        best = subst (IsFirstBest (deviates_more a b) inner (index + 1)) (sym w.place-is)
            (farther a b inner index place c.loop-index.most c.dev-deviation.result c.loop-index.invariant.best c.loop-index-test.true
            c.loop-index.invariant.most c.dev-deviation.ensures.value (c.less.ensures.0 w.if-less.true));
        most = w.most-is ∙ c.dev-deviation.ensures.value ∙ ap (λ (k : ℕ). deviation_of a b (get_or inner k origin)) (sym w.place-is);
      }
      | else-less w ↦ record {
        best = subst (IsFirstBest (deviates_more a b) inner (index + 1)) (sym w.place-is)
            (no_farther a b inner index place c.loop-index.most c.dev-deviation.result c.loop-index.invariant.best c.loop-index-test.true
            c.loop-index.invariant.most c.dev-deviation.ensures.value (iff_false c.less.ensures w.if-less.false));
        most = w.most-is ∙ c.loop-index.invariant.most ∙ ap (λ (k : ℕ). deviation_of a b (get_or inner k origin)) (sym w.place-is);
      }
    ]
