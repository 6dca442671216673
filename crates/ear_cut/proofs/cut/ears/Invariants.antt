use Rattle.std.proofs.Common.{◌≡◌, ◌-◌, ◌≤◌, length}
use Rattle.mesh_types.specs.Ears.{ArePlacesOf, cut_ears, ears_of}
use Rattle.mesh_types.proofs.EarLaws.{after}
use Rattle.ear_cut.proofs.cut.ears.Given as goal

-- the triangles so far, and what the remaining places give, are what the outline gives
abbrev pub invariant-loop-rest : goal.invariant-loop-rest
invariant-loop-rest l = record {
  places : ArePlacesOf l.outline.corners l.rest.items;
  enough : 3 ≤ length l.rest.items;
  cut : ears_of l.outline.corners ≡ after l.triangles.items (cut_ears l.outline.corners (length l.rest.items - 3) l.rest.items);
}

abbrev pub decreases-loop-rest : goal.decreases-loop-rest
decreases-loop-rest l = length l.rest.items
