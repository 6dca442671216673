use Rattle.std.proofs.Common.{List, [], sym, subst, ap, ◌∙◌}
use Rattle.std.specs.Prelude.{All}
use Rattle.std.proofs.lemmas.List.Elements.{All-nil}
use Rattle.std.proofs.lemmas.Result.{IfOk-weaker}
use Rattle.nav_ground.specs.Limits.{IsShape}
use Rattle.mesh_types.specs.declared.mesh.Mesh.{Mesh}
use Rattle.mesh_types.specs.declared.mesh.TileMesh.{TileMesh}
use Rattle.mesh_types.specs.Standing.{CornersStand, PointsStand}
use Rattle.mesh_types.specs.StripCover.{IsOfStrips}
use Rattle.storey_laws.specs.FreeCells.{AreOverStoreys, KeepsClimb, SharesFreeCells}
use Rattle.storey_laws.specs.HeldPlaces.{CornersArePlaces, HeldPointsArePlaces}
use Rattle.storey_laws.specs.PlacesTold.{HeightsAreTold, SlidesEndAtPlaces, StripDrawsAreWhole, WaysTurnAtPlaces}
use Rattle.tests_places.proofs.storeys.lawful.Goals as goal

pub returns-clause-shared : goal.returns-clause-shared
returns-clause-shared g c =
    let P : Mesh → Type 0 = λ mesh. All SharesFreeCells mesh.tiles in
    IfOk-weaker c.level.result _ _
    (λ mesh is. subst P (sym is) (c.storeys_share_free_cells.ensures c.args.ground.now [] c.requires.ground (All-nil IsShape))) c.level.ensures.under

pub returns-clause-climb : goal.returns-clause-climb
returns-clause-climb g c =
    let P : Mesh → Type 0 = λ mesh. All (λ (tile : TileMesh). All (KeepsClimb mesh.setting.agent.climb) tile.storeys.list) mesh.tiles in
    IfOk-weaker c.level.result _ _
    (λ mesh is. subst P (sym is) (c.storeys_keep_climb.ensures c.args.ground.now [] c.requires.ground (All-nil IsShape))) c.level.ensures.under

pub returns-clause-floors : goal.returns-clause-floors
returns-clause-floors g c =
    let P : Mesh → Type 0 = λ mesh. All AreOverStoreys mesh.tiles in
    IfOk-weaker c.level.result _ _
    (λ mesh is. subst P (sym is) (c.polygons_tell_floors.ensures c.args.ground.now [] c.requires.ground (All-nil IsShape))) c.level.ensures.under

pub returns-clause-corners : goal.returns-clause-corners
returns-clause-corners g c =
    let P : Mesh → Type 0 = λ mesh. All CornersStand mesh.tiles in
    IfOk-weaker c.level.result _ _
    (λ mesh is. subst P (sym is) (c.corners_stand.ensures c.args.ground.now [] c.requires.ground (All-nil IsShape))) c.level.ensures.under

pub returns-clause-strips : goal.returns-clause-strips
returns-clause-strips g c =
    let P : Mesh → Type 0 = λ mesh. All (λ (tile : TileMesh). IsOfStrips mesh.setting tile → PointsStand tile) mesh.tiles in
    IfOk-weaker c.level.result _ _
    (λ mesh is. subst P (sym is) (c.points_of_strips_stand.ensures c.args.ground.now [] c.requires.ground (All-nil IsShape))) c.level.ensures.under

pub returns-clause-places : goal.returns-clause-places
returns-clause-places g c =
    IfOk-weaker c.level.result _ _
    (λ mesh is. subst HeldPointsArePlaces (sym is) (c.held_points_are_places.ensures c.args.ground.now [] c.requires.ground (All-nil IsShape)))
    c.level.ensures.under

pub returns-clause-heights : goal.returns-clause-heights
returns-clause-heights g c =
    IfOk-weaker c.level.result _ _
    (λ mesh is. subst HeightsAreTold (sym is) (c.heights_are_told.ensures c.args.ground.now [] c.requires.ground (All-nil IsShape)))
    c.level.ensures.under

pub returns-clause-slides : goal.returns-clause-slides
returns-clause-slides g c =
    IfOk-weaker c.level.result _ _
    (λ mesh is. subst SlidesEndAtPlaces (sym is) (c.slides_end_at_places.ensures c.args.ground.now [] c.requires.ground (All-nil IsShape)))
    c.level.ensures.under

pub returns-clause-ways : goal.returns-clause-ways
returns-clause-ways g c =
    IfOk-weaker c.level.result _ _
    (λ mesh is. subst WaysTurnAtPlaces (sym is) (c.ways_turn_at_places.ensures c.args.ground.now [] c.requires.ground (All-nil IsShape)))
    c.level.ensures.under

pub returns-clause-turns : goal.returns-clause-turns
returns-clause-turns g c =
    IfOk-weaker c.level.result _ _
    (λ mesh is. subst CornersArePlaces (sym is) (c.corners_are_places.ensures c.args.ground.now [] c.requires.ground (All-nil IsShape)))
    c.level.ensures.under

pub returns-clause-draws : goal.returns-clause-draws
returns-clause-draws g c =
    IfOk-weaker c.level.result _ _
    (λ mesh is. subst StripDrawsAreWhole (sym is) (c.draws_on_strips_are_whole.ensures c.args.ground.now [] c.requires.ground (All-nil IsShape)))
    c.level.ensures.under
