use Rattle.std.proofs.Common.{subst, arith}
use Rattle.mesh_place.specs.Floors.{IsFloorIn}
use Rattle.mesh_place.proofs.FloorPlaces.{highest_there}
use Rattle.mesh_place.proofs.heights.height_held.Goals as goal

pub returns-in-Some : goal.returns-in-Some
returns-in-Some c =
    let found = subst (IsFloorIn c.args.mesh.now c.args.at (record { p = c.args.p; y = 4294967295 })) c.in-Some.is c.floor_held.ensures in (
      found.held,
      (
        found.storey,
        found.home,
        highest_there found.storey (record { p = c.args.p; y = 4294967295 }) c.in-Some.floor found.rules (omega arith) found.toward,
      ),
    )
