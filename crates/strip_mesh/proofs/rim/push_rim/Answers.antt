use Rattle.mesh_types.specs.StripRim.{strip_rim_over}
use Rattle.strip_mesh.specs.Indexed.{runs_in}
use Rattle.strip_mesh.proofs.Steps.{one_more_gathered}
use Rattle.strip_mesh.proofs.rim.push_rim.Goals as goal

pub loop-edge-preserved : goal.loop-edge-preserved
loop-edge-preserved c =
    one_more_gathered (strip_rim_over c.args.of.window.now (runs_in c.args.of.strips.now) c.args.of.strip) c.loop-edge.edge c.args.rim.now.items
    c.loop-edge.rim.items c.push_rim_over.new.rim.items c.loop-edge.invariant c.in_ok-push_rim_over.ensures
