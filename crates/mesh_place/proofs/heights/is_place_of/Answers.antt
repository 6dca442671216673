use Rattle.std.proofs.Common.{sym, subst}
use Rattle.std.proofs.lemmas.Bool.{true≢false, eq-eqb, eqb-true}
use Rattle.mesh_place.specs.Floors.{IsFloorIn}
use Rattle.mesh_place.proofs.FloorPlaces.{place_there, at_height}
use Rattle.mesh_place.proofs.heights.is_place_of.Goals as goal

pub returns-in-Some : goal.returns-in-Some
returns-in-Some c =
    let mesh = c.args.mesh.now in
    let place = c.args.place in
    let found = subst (IsFloorIn mesh place.polygon (record { p = place.point; y = place.y })) c.in-Some.is c.floor_of.ensures in (
      λ is. place_there mesh place c.in-Some.floor found (eqb-true c.in-Some.floor.y place.y is),
      λ one. eq-eqb c.in-Some.floor.y place.y (at_height mesh place c.in-Some.floor found one),
    )

pub returns-in-None : goal.returns-in-None
returns-in-None c =
    let mesh = c.args.mesh.now in
    let place = c.args.place in
    let none = subst (IsFloorIn mesh place.polygon (record { p = place.point; y = place.y })) c.in-None.is c.floor_of.ensures in
    (λ is. absurd (true≢false (sym is)), λ one. absurd (none place.y one))
