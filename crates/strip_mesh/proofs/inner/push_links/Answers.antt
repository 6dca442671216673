use Rattle.mesh_types.specs.StripLinks.{strip_links_over}
use Rattle.strip_mesh.specs.Indexed.{runs_in}
use Rattle.strip_mesh.proofs.Steps.{one_more_gathered}
use Rattle.strip_mesh.proofs.inner.push_links.Goals as goal

pub loop-edge-preserved : goal.loop-edge-preserved
loop-edge-preserved c =
    one_more_gathered (strip_links_over c.args.one.strips.now.free.tile (runs_in c.args.one.strips.now) c.args.one.strip) c.loop-edge.edge c.args.links.now.items
    c.loop-edge.links.items c.push_links_over.new.links.items c.loop-edge.invariant c.in_ok-push_links_over.ensures
