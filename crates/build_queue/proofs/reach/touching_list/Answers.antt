use Rattle.std.proofs.Common.{ap, ◌∙◌}
use Rattle.std.proofs.lemmas.List.{take_all}
use Rattle.nav_ground.specs.Touching.{is_touching, touching_shapes}
use Rattle.build_queue.proofs.Touched.{met, kept_more, left_more}
use Rattle.build_queue.proofs.reach.touching_list.Goals as goal
use Rattle.build_queue.proofs.reach.touching_list.Goals.{then-meets+in_ok-push, else-meets}

pub loop-shape-preserved : goal.loop-shape-preserved
loop-shape-preserved c = elim c.if-meets.branch [
  | then-meets+in_ok-push w ↦ rw (w.list-is, w.in_ok-push.ensures.items, w.get.ensures)
      (kept_more (is_touching c.args.setting.now c.args.tile) c.args.shapes.now c.loop-shape.shape-index c.shape-item.result c.loop-shape.list.items c.loop-shape-test.true
      c.shape-item.is (met c.args.setting.now c.args.tile c.shape-item.result _ _ c.meets.ensures c.tile_reach-columns.ensures ∙ w.if-meets.true) c.loop-shape.invariant)
  | else-meets w ↦ rw w.list-is
      (left_more (is_touching c.args.setting.now c.args.tile) c.args.shapes.now c.loop-shape.shape-index c.shape-item.result c.loop-shape.list.items c.loop-shape-test.true
      c.shape-item.is (met c.args.setting.now c.args.tile c.shape-item.result _ _ c.meets.ensures c.tile_reach-columns.ensures ∙ w.if-meets.false) c.loop-shape.invariant)
]

pub returns : goal.returns
returns c =
    c.from_vec.ensures ∙ c.loop-shape.invariant
    ∙ ap (touching_shapes c.args.setting.now c.args.tile) (take_all c.loop-shape.shape-index c.args.shapes.now c.loop-shape-test.false)
