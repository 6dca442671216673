use Rattle.std.proofs.Common.{◌++◌, ◌∙◌, List, map, ap}
use Rattle.std.proofs.lemmas.List.{take_all}
use Rattle.off_links.specs.declared.off_mesh_links.OffMeshLink.{OffMeshLink}
use Rattle.off_links.specs.HopGraphs.{off_mesh_link_end}
use Rattle.off_links.proofs.hop_graph.push_off_mesh_link_ends.Goals as goal

pub returns : goal.returns
returns c =
    c.loop-off_mesh_link.invariant
    ∙ ap (λ (off_mesh_links : List OffMeshLink). c.args.ends.now.items ++ map off_mesh_link_end off_mesh_links) (take_all c.loop-off_mesh_link.off_mesh_link-index c.args.off_mesh_links.now c.loop-off_mesh_link-test.false)
