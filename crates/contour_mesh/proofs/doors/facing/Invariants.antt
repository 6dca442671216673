use Rattle.std.proofs.Common.{◌≡◌, drop}
use Rattle.std.specs.List.{find}
use Rattle.mesh_types.specs.Doors.{are_facing}
use Rattle.contour_mesh.proofs.doors.facing.Given as goal

-- none of the doors so far faces it
abbrev pub invariant-loop-place : goal.invariant-loop-place
invariant-loop-place l = find (are_facing l.door) (drop l.place l.by_begin) ≡ find (are_facing l.door) l.by_begin
