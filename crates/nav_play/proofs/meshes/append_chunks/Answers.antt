use Rattle.std.proofs.Common.{◌++◌, refl, ap, ◌∙◌}
use Rattle.std.specs.List.{flat_map}
use Rattle.nav_play.proofs.Writing.{all_written, chunks_written, one_written, stands_further, stands_same}
use Rattle.nav_play.proofs.meshes.append_chunks.Goals as goal

pub loop-part-init : goal.loop-part-init
loop-part-init g c = (refl, stands_same _ _ refl)

pub loop-part-preserved : goal.loop-part-preserved
loop-part-preserved g c = (
  one_written c.parts-part-items.result.now c.loop-part.part-index c.loop-part.out.items _ (flat_map g.T.SceneItem.text) _ _ _ c.loop-part.invariant.0 c.loop-part-test.true
      c.part-item.is
      (c.in_ok-append_all.ensures.ok ∙ ap (λ xs. c.loop-part.out.items ++ flat_map g.T.SceneItem.text xs) (c.as_slice.ensures ∙ c.get.ensures)),
  stands_further _ _ _ c.loop-part.invariant.1 c.in_ok-append_all.ensures.front,
)

pub returns-clause-ok : goal.returns-clause-ok
returns-clause-ok g c =
    all_written c.parts-part-items.result.now c.loop-part.part-index _ _ (flat_map g.T.SceneItem.text) c.loop-part.invariant.0 c.loop-part-test.false
    ∙ ap (λ xs. c.args.out.now.items ++ xs) (chunks_written g.T.SceneItem.text c.parts-part-items.result.now)
    ∙ ap (λ xs. c.args.out.now.items ++ flat_map g.T.SceneItem.text xs) c.parts-part-items.ensures

pub returns-in_err-append_all-clause-front : goal.returns-in_err-append_all-clause-front
returns-in_err-append_all-clause-front g c = stands_further _ _ _ c.loop-part.invariant.1 c.in_err-append_all.ensures.front

pub returns-clause-front : goal.returns-clause-front
returns-clause-front g c = c.loop-part.invariant.1
