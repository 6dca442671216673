use Rattle.std.proofs.Common.{◌≡◌, ◌++◌, take}
use Rattle.mesh_types.specs.Doors.{facet_doors}
use Rattle.mesh_types.specs.Facets.{facets_in}
use Rattle.contour_mesh.specs.Parts.{numbered}
use Rattle.contour_mesh.proofs.doors.push_part_doors.Given as goal

-- the doors of the pieces so far
abbrev pub invariant-loop-number : goal.invariant-loop-number
invariant-loop-number l = l.doors.items ≡ l.initial.doors.items ++ numbered facet_doors l.first (take l.number (facets_in l.part l.region))
