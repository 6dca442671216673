use Rattle.std.proofs.Common.{◌≡◌, ◌∙◌, true, sym, subst}
use Rattle.std.proofs.lemmas.Bool.{both_ways}
use Rattle.mesh_types.specs.declared.links.PolyRef.{PolyRef}
use Rattle.path_queries.specs.Filters.{AllowedTo}
use Rattle.path_queries.specs.FilteredGraphs.{leads_on}
use Rattle.path_queries.proofs.AllowedWalks.{end-on}
use Rattle.path_queries.proofs.FilteredLinks.{start-on}
use Rattle.path_queries.proofs.ReachLaws.{only-one}
use Rattle.path_queries.proofs.plans.cheapest_allowed_in.Goals as goal

pub returns-then-not-leads_on : goal.returns-then-not-leads_on
returns-then-not-leads_on c at links held allowed =
    let mesh = c.args.mesh.now in
    let areas = c.args.filter.now.areas in
    let to = subst (AllowedTo mesh areas c.args.ends.from links) (sym (only-one c.args.ends.to at held)) allowed in
    both_ways _ (sym c.leads_on.ensures ∙ c.if-not-leads_on.true)
    (end-on mesh areas c.args.ends.from c.args.ends.from links c.args.ends.to to.walks to.enters (start-on mesh areas c.args.ends.from))

pub cheapest_to-requires-clause-lead_on : goal.cheapest_to-requires-clause-lead_on
cheapest_to-requires-clause-lead_on c at held =
    subst (λ (p : PolyRef). leads_on c.args.mesh.now c.args.filter.now.areas c.args.ends.from p ≡ true) (only-one c.args.ends.to at held)
    (sym c.leads_on.ensures ∙ c.if-not-leads_on.false)
