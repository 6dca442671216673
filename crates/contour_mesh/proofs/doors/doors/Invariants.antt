use Rattle.contour_mesh.proofs.DoorSteps.{AreDoorsOfFirst}
use Rattle.contour_mesh.proofs.doors.doors.Given as goal

-- the doors of the parts so far, and how many polygons they have
abbrev pub invariant-loop-region : goal.invariant-loop-region
invariant-loop-region l = AreDoorsOfFirst l.parts l.region l.polygon l.doors.items
