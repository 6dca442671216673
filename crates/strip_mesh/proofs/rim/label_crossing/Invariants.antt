use Rattle.std.proofs.Common.{◌≡◌, map, take}
use Rattle.mesh_types.specs.Runs.{label_if}
use Rattle.mesh_types.specs.Crossings.{is_crossing}
use Rattle.mesh_types.specs.StripLinks.{outside_of}
use Rattle.mono_regions.specs.Indices.{cell_at}
use Rattle.strip_mesh.proofs.rim.label_crossing.Given as goal

-- the labels of the cells so far
abbrev pub invariant-loop-at : goal.invariant-loop-at
invariant-loop-at l =
    l.labels.items ≡ map (λ i. label_if (is_crossing l.of.window.now (outside_of l.edge) (cell_at l.of.strips.now.free.cells i))) (take l.at-index l.run)
