use Rattle.std.proofs.Common.{◌∙◌, ap, subst, sym}
use Rattle.std.proofs.lemmas.Result.{IfOk-weaker}
use Rattle.nav_ground.specs.Cells.{IsCut}
use Rattle.mesh_types.specs.Strips.{strips_of}
use Rattle.mono_regions.proofs.region_chains.strips.Goals as goal

pub tabled_strips-requires : goal.tabled_strips-requires
tabled_strips-requires c = subst IsCut (sym c.as_slice-cells.ensures) c.requires

pub strips_along-requires-clause-cells : goal.strips_along-requires-clause-cells
strips_along-requires-clause-cells c = subst IsCut (sym c.as_slice-cells.ensures) c.requires

pub strips_along-requires-clause-runs : goal.strips_along-requires-clause-runs
strips_along-requires-clause-runs c = c.in_ok-strips.ensures.runs

pub returns : goal.returns
returns c =
    IfOk-weaker c.strips_along.result _ _ (λ strips are. are ∙ ap strips_of c.as_slice-cells.ensures) c.strips_along.ensures
