use Rattle.std.proofs.Common.{◌≡◌, List, subst}
use Rattle.std.specs.Prelude.{IfOk}
use Rattle.mesh_types.specs.declared.mesh.RimEdge.{RimEdge}
use Rattle.contour_mesh.proofs.RimLaws.{rim_is}
use Rattle.contour_mesh.proofs.build.rim.Goals as goal

pub returns : goal.returns
returns c =
    let P : List RimEdge → Type 0 = λ wanted. IfOk c.door_rim.result (λ rim. rim ≡ wanted) in
    subst P (rim_is c.args.source.table.now.window c.args.source.cells.now c.args.source.regions.now c.args.doors.now c.in_ok-tables.tables c.in_ok-tables.ensures) c.door_rim.ensures
