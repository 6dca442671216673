use Rattle.std.proofs.Common.{◌≡◌, ◌++◌, map}
use Rattle.std.specs.List.{range_with_len}
use Rattle.mesh_types.specs.Doors.{door_over}
use Rattle.contour_mesh.specs.Parts.{facet_over}
use Rattle.contour_mesh.proofs.doors.push_piece_doors.Given as goal

-- the doors over the edges so far
abbrev pub invariant-loop-edge : goal.invariant-loop-edge
invariant-loop-edge l = l.doors.items ≡ l.initial.doors.items ++ map (door_over l.polygon (facet_over l.region l.outline l.places)) (range_with_len 0 l.edge)
