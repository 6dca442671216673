use Rattle.off_links.proofs.Gathering.{AreGathered}
use Rattle.off_links.proofs.off_mesh_links.off_mesh_links.Given as goal

-- the off-mesh links of the jumps so far
abbrev pub invariant-loop-number : goal.invariant-loop-number
invariant-loop-number l = AreGathered l.mesh l.jumps l.number l.off_mesh_links.items
