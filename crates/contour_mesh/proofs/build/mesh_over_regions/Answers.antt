use Rattle.std.proofs.Common.{◌∙◌, List, Option, Some, ap, refl, subst, sym}
use Rattle.std.specs.Prelude.{All, IfSome}
use Rattle.mesh_types.specs.declared.region.RegionPart.{RegionPart}
use Rattle.mesh_types.specs.declared.mesh.TileMesh.{TileMesh}
use Rattle.mesh_types.specs.Passages.{AreTwoWay, ListsCrossings}
use Rattle.mesh_types.specs.Regions.{AreRegionsOf}
use Rattle.mesh_types.specs.FitTiles.{IsFit}
use Rattle.mesh_types.proofs.ContourFit.{contour_mesh_fits}
use Rattle.contour_mesh.specs.Linked.{LinksFacing}
use Rattle.contour_mesh.specs.Outcomes.{IfMade, IsMeshOrCells}
use Rattle.contour_mesh.specs.Parts.{IsCutPart}
use Rattle.contour_mesh.proofs.LinkedTiles.{contour_linked}
use Rattle.contour_mesh.proofs.ListedCells.{contours_list}
use Rattle.contour_mesh.proofs.MeshLaws.{few_polygons, mesh_is, no_mesh, no_more_parts, window_fits}
use Rattle.contour_mesh.proofs.build.mesh_over_regions.Goals as goal

pub returns-in-None-clause-value : goal.returns-in-None-clause-value
returns-in-None-clause-value c =
    subst (IsMeshOrCells c.args.setting.now c.args.free) (sym c.not_cut.ensures) (
      no_mesh c.args.setting.now c.args.free c.requires.cells c.requires.tile c.args.regions.now c.requires.regions c.args.tables.regions.window
          c.requires.window c.as_slice-cells.result.now c.as_slice-cells.ensures c.requires.all (sym c.in-None.is ∙ c.in_ok-parts.ensures.value),
      refl,
      c.requires.strips,
    )

pub returns-in-None-clause-fit : goal.returns-in-None-clause-fit
returns-in-None-clause-fit c = subst (IfMade (IsFit c.args.setting.now)) (sym c.not_cut.ensures) tt

pub returns-in-None-clause-linked : goal.returns-in-None-clause-linked
returns-in-None-clause-linked c = subst (IfMade (LinksFacing c.args.setting.now)) (sym c.not_cut.ensures) tt

pub returns-in-None-clause-back : goal.returns-in-None-clause-back
returns-in-None-clause-back c = subst (IfMade (λ (mesh : TileMesh). AreTwoWay mesh.links)) (sym c.not_cut.ensures) tt

pub returns-in-None-clause-listed : goal.returns-in-None-clause-listed
returns-in-None-clause-listed c = subst (IfMade (ListsCrossings c.args.setting.now)) (sym c.not_cut.ensures) tt

pub mesh-requires-clause-window : goal.mesh-requires-clause-window
mesh-requires-clause-window c = window_fits c.args.setting.now c.args.free.tile c.args.tables.regions.window c.requires.setting c.requires.window

pub mesh-requires-clause-parts : goal.mesh-requires-clause-parts
mesh-requires-clause-parts c =
    let P : Option (List RegionPart) → Type 0 = λ found. IfSome found (All IsCutPart) in
    subst (All IsCutPart) (sym c.as_slice.ensures) (subst P c.in-Some.is c.in_ok-parts.ensures.each)

-- the parts as they were handed over
pub mesh-requires-clause-each : goal.mesh-requires-clause-each
mesh-requires-clause-each c =
    no_more_parts c.args.setting.now c.args.free c.requires.cells c.requires.tile c.args.regions.now c.requires.regions c.args.tables.regions.window
    c.requires.window c.as_slice-cells.result.now c.as_slice-cells.ensures c.as_slice.result.now
    (ap (λ (parts : List RegionPart). Some parts) c.as_slice.ensures ∙ sym c.in-Some.is ∙ c.in_ok-parts.ensures.value)

pub mesh-requires-clause-few : goal.mesh-requires-clause-few
mesh-requires-clause-few c =
    few_polygons c.args.setting.now c.args.free c.requires.cells c.requires.tile c.args.regions.now c.requires.regions c.args.tables.regions.window
    c.requires.window c.as_slice-cells.result.now c.as_slice-cells.ensures c.as_slice.result.now
    (ap (λ (parts : List RegionPart). Some parts) c.as_slice.ensures ∙ sym c.in-Some.is ∙ c.in_ok-parts.ensures.value)

pub returns-in_ok-mesh-in-Some-clause-value : goal.returns-in_ok-mesh-in-Some-clause-value
returns-in_ok-mesh-in-Some-clause-value c =
    mesh_is c.args.setting.now c.args.free c.requires.cells c.requires.tile c.args.regions.now c.requires.regions c.args.tables.regions.window
    c.requires.window c.as_slice-cells.result.now c.as_slice-cells.ensures c.as_slice.result.now c.in_ok-mesh-in-Some.mesh c.requires.all
    (ap (λ (parts : List RegionPart). Some parts) c.as_slice.ensures ∙ sym c.in-Some.is ∙ c.in_ok-parts.ensures.value)
    (c.in_ok-mesh-in-Some.ensures c.args.setting.now c.requires.window)

pub returns-in_ok-mesh-in-Some-clause-fit : goal.returns-in_ok-mesh-in-Some-clause-fit
returns-in_ok-mesh-in-Some-clause-fit c =
    contour_mesh_fits c.args.setting.now c.args.free c.in_ok-mesh-in-Some.mesh c.requires.cells c.requires.tile
    (subst (AreRegionsOf c.args.free.cells) c.requires.all c.requires.regions) (returns-in_ok-mesh-in-Some-clause-value c)

pub returns-in_ok-mesh-in-Some-clause-linked : goal.returns-in_ok-mesh-in-Some-clause-linked
returns-in_ok-mesh-in-Some-clause-linked c =
    (contour_linked c.args.setting.now c.args.free c.requires.cells c.requires.tile (subst (AreRegionsOf c.args.free.cells) c.requires.all c.requires.regions)
    c.in_ok-mesh-in-Some.mesh (returns-in_ok-mesh-in-Some-clause-value c)).linked

pub returns-in_ok-mesh-in-Some-clause-back : goal.returns-in_ok-mesh-in-Some-clause-back
returns-in_ok-mesh-in-Some-clause-back c =
    (contour_linked c.args.setting.now c.args.free c.requires.cells c.requires.tile (subst (AreRegionsOf c.args.free.cells) c.requires.all c.requires.regions)
    c.in_ok-mesh-in-Some.mesh (returns-in_ok-mesh-in-Some-clause-value c)).back

pub returns-in_ok-mesh-in-Some-clause-listed : goal.returns-in_ok-mesh-in-Some-clause-listed
returns-in_ok-mesh-in-Some-clause-listed c =
    contours_list c.args.setting.now c.args.free c.requires.cells c.requires.tile (subst (AreRegionsOf c.args.free.cells) c.requires.all c.requires.regions)
    c.in_ok-mesh-in-Some.mesh (returns-in_ok-mesh-in-Some-clause-value c)
