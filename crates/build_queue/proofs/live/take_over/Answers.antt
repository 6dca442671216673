use Rattle.std.proofs.Common.{◌++◌, ◌∷◌, [], take, ap, sym, ◌∙◌}
use Rattle.std.proofs.lemmas.List.{map_more, take_all}
use Rattle.build_queue.specs.declared.live.Live.{Live}
use Rattle.build_queue.specs.LiveTable.{shapes_in}
use Rattle.build_queue.proofs.live.take_over.Goals as goal

pub loop-row-preserved : goal.loop-row-preserved
loop-row-preserved c = record {
  shapes = rw (c.push_reserved.ensures.items, c.loop-row.invariant.shapes)
      (ap (λ (row : Live). shapes_in (take c.loop-row.row-index c.args.live.now) ++ row.shape ∷ []) c.row-item.is
      ∙ sym (map_more (λ (row : Live). row.shape) c.args.live.now c.loop-row.row-index c.row-item.result c.loop-row-test.true));
  room = c.push_reserved.ensures.capacity ∙ c.loop-row.invariant.room;
}

pub returns-clause-shapes : goal.returns-clause-shapes
returns-clause-shapes c = c.loop-row.invariant.shapes ∙ ap shapes_in (take_all c.loop-row.row-index c.args.live.now c.loop-row-test.false)
