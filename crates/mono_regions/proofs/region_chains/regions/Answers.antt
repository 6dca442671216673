use Rattle.std.proofs.Common.{List, ap, ◌∙◌, sym, subst}
use Rattle.std.proofs.lemmas.Result.{IfOk-weaker}
use Rattle.nav_ground.specs.declared.cell.Cell.{Cell}
use Rattle.nav_ground.specs.Cells.{IsCut}
use Rattle.mesh_types.specs.Regions.{regions_of, AreRegionsOf}
use Rattle.mono_regions.proofs.region_chains.regions.Goals as goal

pub tabled_strips-requires : goal.tabled_strips-requires
tabled_strips-requires c = subst IsCut (sym c.as_slice-cells.ensures) c.requires

pub returns-clause-regions : goal.returns-clause-regions
returns-clause-regions c =
    IfOk-weaker c.regions_over.result _ _ (λ regions are. are ∙ ap regions_of c.as_slice-cells.ensures) c.regions_over.ensures.regions

pub returns-clause-kept : goal.returns-clause-kept
returns-clause-kept c =
    IfOk-weaker c.regions_over.result _ (AreRegionsOf c.args.free.now.cells)
    (λ regions are. subst (λ (cells : List Cell). AreRegionsOf cells regions) c.as_slice-cells.ensures are) c.regions_over.ensures.kept
