use Rattle.std.proofs.Common.{◌≡◌, ◌∙◌, true, refl, sym, subst}
use Rattle.std.proofs.lemmas.Bool.{both_ways}
use Rattle.mesh_types.specs.declared.links.PolyRef.{PolyRef}
use Rattle.mesh_types.proofs.RightLaws.{one_located}
use Rattle.path_queries.specs.FilteredGraphs.{leads_on}
use Rattle.path_queries.proofs.partial.open_goal.Goals as goal

pub returns-in_default-clause-none : goal.returns-in_default-clause-none
returns-in_default-clause-none c at is = c.in_default.ensures.none.0 refl at is.located.holding

pub returns-else-leads_on-clause-none : goal.returns-else-leads_on-clause-none
returns-else-leads_on-clause-none c at is =
    let mesh = c.args.mesh.now in
    let q = c.args.query.now in
    let same = one_located mesh q.goal q.goal_y at c.in-Some.goal is.located c.in-Some.ensures.located in
    both_ways _ (sym c.leads_on.ensures ∙ c.if-leads_on.false)
    (subst (λ (v : PolyRef). leads_on mesh q.filter.areas c.args.first v ≡ true) same is.leads)
