use Rattle.std.proofs.Common.{List, length, ap, sym, subst, arith}
use Rattle.std.specs.Prelude.{All}
use Rattle.mesh_types.specs.declared.region.Region.{Region}
use Rattle.contour_walk.specs.Tables.{IsFit}
use Rattle.contour_walk.proofs.Contoured.{few_regions, strips_fit}
use Rattle.contour_walk.proofs.codes.region_table_over.Goals as goal

pub owners-requires-clause-few : goal.owners-requires-clause-few
owners-requires-clause-few c =
    omega (
      arith,
      ap length c.as_slice-3.ensures,
      few_regions c.args.free.now.cells c.requires.cells c.args.regions.now c.requires.regions,
      c.requires.cells.few,
    )

pub owners-requires-clause-fit : goal.owners-requires-clause-fit
owners-requires-clause-fit c =
    let P : List Region → Type 0 = All (λ (region : Region). All IsFit region.strips) in
    subst P (sym c.as_slice-3.ensures) (strips_fit c.args.free.now.cells c.requires.cells c.args.regions.now c.requires.regions)
