use Rattle.std.proofs.Common.{◌≡◌, map, take}
use Rattle.off_links.specs.HopGraphs.{hop_step}
use Rattle.off_links.proofs.hops.steps_along.Given as goal

-- the steps taken so far
abbrev pub invariant-loop-step : goal.invariant-loop-step
invariant-loop-step l = l.taken.items ≡ map (hop_step l.graph.mesh.now l.graph.off_mesh_links.now) (take l.step-index l.steps)
