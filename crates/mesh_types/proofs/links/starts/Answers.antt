use Rattle.std.proofs.Common.{◌++◌, ◌∷◌, [], ap, ◌∙◌}
use Rattle.mesh_types.specs.LinkIndex.{kept_start}
use Rattle.mesh_types.proofs.Starts.{one_more_start, known_before}
use Rattle.mesh_types.proofs.links.starts.Goals as goal

pub loop-polygon-preserved : goal.loop-polygon-preserved
loop-polygon-preserved c = (
  c.in_ok-push.ensures.items
      ∙ ap (λ n. c.loop-polygon.starts.items ++ n ∷ []) (c.kept_start.ensures ∙ ap kept_start c.start_from-start.ensures)
      ∙ one_more_start c.args.links.now c.loop-polygon.starts.items c.loop-polygon.polygon c.loop-polygon.invariant.0,
  rw c.start_from-start.ensures (known_before c.args.links.now c.loop-polygon.polygon),
)
