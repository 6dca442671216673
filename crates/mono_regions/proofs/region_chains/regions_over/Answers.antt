use Rattle.std.proofs.Common.{sym, subst, ◌∙◌}
use Rattle.std.proofs.lemmas.Result.{IfOk-weaker}
use Rattle.mesh_types.specs.Regions.{AreRegionsOf}
use Rattle.mono_regions.proofs.RegionsKept.{regions_kept}
use Rattle.mono_regions.proofs.region_chains.regions_over.Goals as goal

pub joined_strips-requires-clause-below : goal.joined_strips-requires-clause-below
joined_strips-requires-clause-below c = c.as_slice.ensures.value ∙ c.in_ok-below.ensures

pub regions_joined-requires-clause-below : goal.regions_joined-requires-clause-below
regions_joined-requires-clause-below c = c.as_slice-2.ensures.value ∙ c.in_ok-below.ensures

pub regions_joined-requires-clause-joined : goal.regions_joined-requires-clause-joined
regions_joined-requires-clause-joined c = c.as_slice-3.ensures.value ∙ c.in_ok-joined.ensures

pub returns-clause-kept : goal.returns-clause-kept
returns-clause-kept c =
    IfOk-weaker c.regions_joined.result _ (AreRegionsOf c.args.cells.now)
    (λ regions are. subst (AreRegionsOf c.args.cells.now) (sym are) (regions_kept c.args.cells.now c.requires.cut)) c.regions_joined.ensures
