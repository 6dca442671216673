use Rattle.std.proofs.Common.{◌≡◌, ℕ, ◌+◌, List, drop, ap, subst, sym, ◌∙◌, arith}
use Rattle.std.proofs.lemmas.Bool.{both_ways}
use Rattle.std.proofs.lemmas.List.{drop_all}
use Rattle.nav_ground.specs.declared.shape.Shape.{Shape}
use Rattle.nav_ground.specs.Touching.{is_touching, touching_shapes}
use Rattle.build_queue.specs.SameShapes.{are_same}
use Rattle.build_queue.proofs.SameShapes.{test_decides}
use Rattle.build_queue.proofs.Touched.{met, stops, goes_on, passes_by, same_end}
use Rattle.build_queue.proofs.reach.is_touching_list.Goals as goal
use Rattle.build_queue.proofs.reach.is_touching_list.Goals.{then-meets+else-not-is_at, else-meets}

pub returns-then-not-is_at-clause-test : goal.returns-then-not-is_at-clause-test
returns-then-not-is_at-clause-test c =
    let stands = rw c.get.ensures at c.is_at.ensures in
    stops (is_touching c.args.setting.now c.args.tile) c.args.shapes.now c.args.list.now c.loop-shape.shape-index c.loop-shape.place c.shape-item.result _ c.loop-shape-test.true
    c.shape-item.is (met c.args.setting.now c.args.tile c.shape-item.result _ _ c.meets.ensures c.tile_reach-columns.ensures ∙ c.if-meets.true)
    (λ next. both_ways _ c.if-not-is_at.true (stands.1 next)) c.loop-shape.invariant.rest

pub loop-shape-preserved : goal.loop-shape-preserved
loop-shape-preserved c = elim c.if-meets.branch [
  | then-meets+else-not-is_at w ↦
      let stands = rw w.get.ensures at w.is_at.ensures in
      let next = stands.0 w.if-not-is_at.false in
      record {
        within = omega (arith, w.place-is, next.0);
        rest = subst (λ (n : ℕ). are_same (drop n c.args.list.now) (touching_shapes c.args.setting.now c.args.tile (drop (c.loop-shape.shape-index + 1) c.args.shapes.now)) ≡ are_same c.args.list.now (touching_shapes c.args.setting.now c.args.tile c.args.shapes.now))
            (sym w.place-is)
            (goes_on (is_touching c.args.setting.now c.args.tile) c.args.shapes.now c.args.list.now c.loop-shape.shape-index c.loop-shape.place c.shape-item.result _ c.loop-shape-test.true
            c.shape-item.is (met c.args.setting.now c.args.tile c.shape-item.result _ _ c.meets.ensures c.tile_reach-columns.ensures ∙ w.if-meets.true) next c.loop-shape.invariant.rest);
      }
  | else-meets w ↦ record {
    within = omega (arith, w.place-is, c.loop-shape.invariant.within);
    rest = subst (λ (n : ℕ). are_same (drop n c.args.list.now) (touching_shapes c.args.setting.now c.args.tile (drop (c.loop-shape.shape-index + 1) c.args.shapes.now)) ≡ are_same c.args.list.now (touching_shapes c.args.setting.now c.args.tile c.args.shapes.now))
        (sym w.place-is)
        (passes_by (is_touching c.args.setting.now c.args.tile) c.args.shapes.now c.args.list.now c.loop-shape.shape-index c.loop-shape.place c.shape-item.result _ c.loop-shape-test.true
        c.shape-item.is (met c.args.setting.now c.args.tile c.shape-item.result _ _ c.meets.ensures c.tile_reach-columns.ensures ∙ w.if-meets.false) c.loop-shape.invariant.rest);
  }
]

pub returns-then-not-is_at-clause-own : goal.returns-then-not-is_at-clause-own
returns-then-not-is_at-clause-own c = test_decides _ _ _ (returns-then-not-is_at-clause-test c)

pub returns-clause-test : goal.returns-clause-test
returns-clause-test c =
    sym (same_end c.args.list.now c.loop-shape.place c.loop-shape.invariant.within)
    ∙ ap (λ (left : List Shape). are_same (drop c.loop-shape.place c.args.list.now) (touching_shapes c.args.setting.now c.args.tile left))
    (sym (drop_all c.loop-shape.shape-index c.args.shapes.now c.loop-shape-test.false))
    ∙ c.loop-shape.invariant.rest

pub returns-clause-own : goal.returns-clause-own
returns-clause-own c = test_decides _ _ _ (returns-clause-test c)
