use Rattle.std.proofs.Common.{◌≡◌, ◌<◌, ◌∙◌, List, length, arith, subst, sym}
use Rattle.std.specs.Prelude.{All}
use Rattle.std.proofs.lemmas.List.Elements.{All-weaker}
use Rattle.mesh_types.specs.declared.region.RegionPart.{RegionPart}
use Rattle.mesh_types.specs.declared.region.PortalEdge.{PortalEdge}
use Rattle.mesh_types.specs.Doors.{doors_of}
use Rattle.mesh_types.specs.Facets.{facets_of}
use Rattle.contour_walk.proofs.Contoured.{few_regions}
use Rattle.contour_mesh.specs.Parts.{IsCutPart}
use Rattle.contour_mesh.specs.Orders.{JoinsCorners}
use Rattle.contour_mesh.proofs.DoorLaws.{IsDoorOf, all_meet, doors_all}
use Rattle.contour_mesh.proofs.build.part_ways.Goals as goal

-- the doors of parts that were handed over as a slice
doors_given : (parts : List RegionPart) (lent made : List PortalEdge) → All IsCutPart parts → lent ≡ made → made ≡ doors_of (facets_of parts)
    → All (IsDoorOf parts (length (facets_of parts))) lent
doors_given parts lent made each same are = subst (All (IsDoorOf parts (length (facets_of parts)))) (sym (same ∙ are)) (doors_all parts each)

pub doors-requires-clause-regions : goal.doors-requires-clause-regions
doors-requires-clause-regions c =
    omega (
      arith,
      c.requires.each,
      few_regions c.args.source.cells.now c.requires.rim.cells c.args.source.regions.now c.requires.regions,
      c.requires.rim.cells.few,
    )

pub door_links-requires-clause-meet : goal.door_links-requires-clause-meet
door_links-requires-clause-meet c =
    all_meet c.args.parts.now (length (facets_of c.args.parts.now)) c.as_slice-doors.result.now
    (doors_given c.args.parts.now c.as_slice-doors.result.now c.in_ok-doors.doors.items c.requires.parts c.as_slice-doors.ensures.value c.in_ok-doors.ensures)

pub door_links-requires-clause-corners : goal.door_links-requires-clause-corners
door_links-requires-clause-corners c =
    let P : PortalEdge → Type 0 = IsDoorOf c.args.parts.now (length (facets_of c.args.parts.now)) in
    All-weaker P JoinsCorners (λ door fit. fit.joins) c.as_slice-doors.result.now
    (doors_given c.args.parts.now c.as_slice-doors.result.now c.in_ok-doors.doors.items c.requires.parts c.as_slice-doors.ensures.value c.in_ok-doors.ensures)

pub door_links-requires-clause-polygons : goal.door_links-requires-clause-polygons
door_links-requires-clause-polygons c =
    let P : PortalEdge → Type 0 = IsDoorOf c.args.parts.now (length (facets_of c.args.parts.now)) in
    All-weaker P (λ (door : PortalEdge). door.polygon < c.args.polygons) (λ door fit. omega (arith, c.requires.polygons, fit.polygon)) c.as_slice-doors.result.now
    (doors_given c.args.parts.now c.as_slice-doors.result.now c.in_ok-doors.doors.items c.requires.parts c.as_slice-doors.ensures.value c.in_ok-doors.ensures)
