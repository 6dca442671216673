use Rattle.std.proofs.Common.{◌≡◌, ◌++◌, map, take}
use Rattle.off_links.specs.HopGraphs.{off_mesh_link_end}
use Rattle.off_links.proofs.hop_graph.push_off_mesh_link_ends.Given as goal

-- the vertices of the off-mesh links so far
abbrev pub invariant-loop-off_mesh_link : goal.invariant-loop-off_mesh_link
invariant-loop-off_mesh_link l = l.ends.items ≡ l.fn.ends.items ++ map off_mesh_link_end (take l.off_mesh_link-index l.off_mesh_links)
