use Rattle.std.proofs.Common.{List, sym, subst}
use Rattle.std.specs.Prelude.{All}
use Rattle.mesh_types.specs.declared.region.Region.{Region}
use Rattle.contour_walk.specs.Tables.{IsFit}
use Rattle.contour_walk.proofs.Contoured.{strips_fit}
use Rattle.contour_mesh.proofs.storeys.storey_list.Goals as goal

pub region_storey-requires-clause-fit : goal.region_storey-requires-clause-fit
region_storey-requires-clause-fit c =
    let source = c.args.source in
    let P : List Region → Type 0 = All (λ (region : Region). All IsFit region.strips) in
    subst (λ (region : Region). All IsFit region.strips) (sym c.region-item.is)
    (subst P (sym c.as_slice-regions.ensures) (strips_fit source.cells.now c.requires.rim.cells source.regions.now c.requires.regions)
    c.loop-region.region-index c.region-item.result c.loop-region-test.true)
