use Rattle.std.proofs.Common.{◌∙◌, length, ap, arith, refl, sym}
use Rattle.std.proofs.lemmas.List.{length-map}
use Rattle.nav_ground.specs.declared.cell.FreeLayer.{FreeLayer}
use Rattle.mesh_types.specs.Doors.{doors_of}
use Rattle.mesh_types.specs.Facets.{facet_polygon, facets_of}
use Rattle.mesh_types.specs.Regions.{regions_of}
use Rattle.contour_walk.proofs.Contoured.{few_regions}
use Rattle.contour_mesh.proofs.MeshLaws.{mesh_of_parts}
use Rattle.contour_mesh.proofs.build.mesh.Goals as goal

pub part_ways-requires-clause-polygons : goal.part_ways-requires-clause-polygons
part_ways-requires-clause-polygons c =
    c.len-count.ensures ∙ ap length c.in_ok-polys.ensures
    ∙ length-map (facets_of c.args.parts.now) (facet_polygon c.as_slice-cells.result.now c.args.regions.now)

pub part_ways-requires-clause-few : goal.part_ways-requires-clause-few
part_ways-requires-clause-few c = omega (arith, part_ways-requires-clause-polygons c, c.requires.few)

pub storeys-requires-clause-all : goal.storeys-requires-clause-all
storeys-requires-clause-all c = c.requires.all ∙ ap regions_of (sym c.as_slice-cells.ensures)

pub storeys-requires-clause-few : goal.storeys-requires-clause-few
storeys-requires-clause-few c =
    omega (
      arith,
      c.requires.each,
      few_regions c.args.free.cells c.requires.cells c.args.regions.now c.requires.regions,
      c.requires.cells.few,
    )

pub returns : goal.returns
returns c = λ setting window.
    ap (λ (free : FreeLayer). record {
      tile = c.args.free.tile;
      free = free;
      polys = c.in_ok-polys.polys;
      links = c.in_ok-links.field-0.links;
      rim = c.in_ok-links.field-0.rim;
      storeys = c.in_ok-storeys.storeys;
    })
    c.own.ensures
    ∙ mesh_of_parts setting c.args.free c.args.regions.now c.args.parts.now c.args.table.now.window c.as_slice-cells.result.now (doors_of (facets_of c.args.parts.now))
    c.in_ok-polys.polys c.in_ok-links.field-0.links c.in_ok-links.field-0.rim c.in_ok-storeys.storeys window c.as_slice-cells.ensures refl
    c.in_ok-polys.ensures c.in_ok-links.ensures.links c.in_ok-links.ensures.rim c.in_ok-storeys.ensures
