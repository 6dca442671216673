use Rattle.std.proofs.Common.{take, ◌+◌, subst, sym, arith, List}
use Rattle.mesh_types.specs.declared.reaches.StoreyReach.{StoreyReach}
use Rattle.mesh_types.specs.Reaches.{AreReaches}
use Rattle.mesh_types.proofs.ReachLaws.{reaches-more}
use Rattle.mesh_types.proofs.reaches.reaches.Goals as goal

pub loop-storey-preserved : goal.loop-storey-preserved
loop-storey-preserved c =
    subst (λ (items : List StoreyReach). AreReaches (take (c.loop-storey.storey-index + 1) c.args.list.now) items) (sym c.in_ok-push.ensures.items)
    (reaches-more c.args.list.now c.loop-storey.reaches.items c.loop-storey.storey-index c.storey-item.result c.storey_reach.result (omega arith)
    c.storey-item.is c.loop-storey.invariant c.storey_reach.ensures)
