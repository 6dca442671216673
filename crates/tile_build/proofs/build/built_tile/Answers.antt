use Rattle.std.proofs.Common.{◌≡◌, ◌∙◌, ap, rules, subst, sym}
use Rattle.nav_ground.specs.declared.cell.FreeLayer.{FreeLayer}
use Rattle.nav_ground.specs.Cells.{IsInTile}
use Rattle.std.proofs.lemmas.Result.{IfOk-weaker}
use Rattle.nav_ground.specs.Touching.{touching_shapes}
use Rattle.mesh_types.specs.declared.mesh.TileMesh.{TileMesh}
use Rattle.mesh_types.specs.Builds.{tile_mesh_of}
use Rattle.mesh_types.specs.ContourMeshes.{mesh_of_free}
use Rattle.mesh_types.specs.Passages.{AreTwoWay, LinksConnected, ListsCrossings}
use Rattle.mesh_types.specs.FitTiles.{IsFit}
use Rattle.mesh_types.specs.StripCover.{CoversCells, IsOfStrips}
use Rattle.strip_mesh.proofs.StripTiles.{tile_covers, tile_linked}
use Rattle.contour_mesh.specs.Linked.{IsOfOutlines, LinksFacing}
use Rattle.contour_mesh.proofs.LinkedTiles.{outlines_linked}
use Rattle.tile_build.proofs.LocalTiles.{tile_mesh_near}
use Rattle.tile_build.proofs.FreeInTile.{free_in_tile}
use Rattle.tile_build.proofs.build.built_tile.Goals as goal

pub free_mesh-requires-clause-tile : goal.free_mesh-requires-clause-tile
free_mesh-requires-clause-tile g c =
    subst (λ (free : FreeLayer). IsInTile c.args.setting.now free.tile free.cells) (sym c.in_ok-free.ensures.free)
    (free_in_tile c.args.setting.now c.args.layer.now c.args.shapes.now c.requires.layer.inside)

pub over_layer-requires : goal.over_layer-requires
over_layer-requires g c = c.requires.layer.rules.cells.rules.order

pub returns-clause-value : goal.returns-clause-value
returns-clause-value g c =
    IfOk-weaker c.over_layer.result _ (λ tile. tile ≡ tile_mesh_of c.args.setting.now c.args.layer.now c.args.shapes.now)
    (λ tile is. is ∙ c.in_ok-tile.ensures.value ∙ ap (mesh_of_free c.args.setting.now) c.in_ok-free.ensures.free) c.over_layer.ensures

pub returns-clause-local : goal.returns-clause-local
returns-clause-local g c = λ within.
    let setting = c.args.setting.now in
    let layer = c.args.layer.now in
    let shapes = c.args.shapes.now in
    IfOk-weaker c.over_layer.result _ (λ tile. tile ≡ tile_mesh_of setting layer (touching_shapes setting layer.tile shapes))
    (λ tile is. is ∙ c.in_ok-tile.ensures.value ∙ ap (mesh_of_free setting) c.in_ok-free.ensures.free
    ∙ sym (tile_mesh_near setting layer shapes c.requires.layer.inside within))
    c.over_layer.ensures

pub returns-clause-fit : goal.returns-clause-fit
returns-clause-fit g c =
    IfOk-weaker c.over_layer.result _ (IsFit c.args.setting.now) (λ tile is. subst (IsFit c.args.setting.now) (sym is) c.in_ok-tile.ensures.fit) c.over_layer.ensures

pub returns-clause-cover : goal.returns-clause-cover
returns-clause-cover g c =
    let P : TileMesh → Type 0 = λ tile. IsOfStrips c.args.setting.now tile → CoversCells tile in
    IfOk-weaker c.over_layer.result _ P (λ tile is. subst P (sym is) (tile_covers c.args.setting.now c.in_ok-tile.tile c.in_ok-tile.ensures.fit)) c.over_layer.ensures

pub returns-clause-linked : goal.returns-clause-linked
returns-clause-linked g c =
    let P : TileMesh → Type 0 = λ tile. IsOfStrips c.args.setting.now tile → LinksConnected tile in
    IfOk-weaker c.over_layer.result _ P (λ tile is. subst P (sym is) (tile_linked c.args.setting.now c.in_ok-tile.tile c.in_ok-tile.ensures.fit)) c.over_layer.ensures

pub returns-clause-facing : goal.returns-clause-facing
returns-clause-facing g c =
    let P : TileMesh → Type 0 = λ tile. IsOfOutlines c.args.setting.now tile → LinksFacing c.args.setting.now tile in
    IfOk-weaker c.over_layer.result _ P (λ tile is. subst P (sym is) (outlines_linked c.args.setting.now c.in_ok-tile.tile c.in_ok-tile.ensures.fit)) c.over_layer.ensures

pub returns-clause-back : goal.returns-clause-back
returns-clause-back g c =
    let P : TileMesh → Type 0 = λ tile. AreTwoWay tile.links in
    IfOk-weaker c.over_layer.result _ P (λ tile is. subst P (sym is) c.in_ok-tile.ensures.back) c.over_layer.ensures

pub returns-clause-listed : goal.returns-clause-listed
returns-clause-listed g c =
    let P : TileMesh → Type 0 = ListsCrossings c.args.setting.now in
    IfOk-weaker c.over_layer.result _ P (λ tile is. subst P (sym is) c.in_ok-tile.ensures.listed) c.over_layer.ensures

pub returns-in_err-free-clause-step : goal.returns-in_err-free-clause-step
returns-in_err-free-clause-step g c = c.tick.ensures

pub returns-in_err-tile-clause-step : goal.returns-in_err-tile-clause-step
returns-in_err-tile-clause-step g c = c.tick.ensures

pub returns-clause-step : goal.returns-clause-step
returns-clause-step g c = search rules
