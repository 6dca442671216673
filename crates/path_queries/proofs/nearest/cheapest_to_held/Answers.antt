use Rattle.std.proofs.Common.{ℕ, List, arith, sym, subst, ◌∙◌}
use Rattle.std.specs.Prelude.{All, Contains}
use Rattle.std.proofs.lemmas.Bool.{eqb-true}
use Rattle.std.proofs.lemmas.List.{nil_from_length}
use Rattle.std.proofs.lemmas.Result.{IfOk-weaker}
use Rattle.mesh_types.specs.declared.links.PolyRef.{PolyRef}
use Rattle.graph_search.specs.declared.exploring.Limits.{Limits}
use Rattle.corridor_search.specs.MeshGraphs.{IsThere}
use Rattle.path_queries.specs.Reaches.{IsReach}
use Rattle.path_queries.proofs.HeldLaws.{none-open, open-on, open-there, reach-held}
use Rattle.path_queries.proofs.nearest.cheapest_to_held.Goals as goal

-- the limits of a question for ways that cost so much at most
abbrev limits-of : ℕ → Limits
limits-of most = record { key = most; count = 18446744073709551615 }

pub returns-then-is_empty : goal.returns-then-is_empty
returns-then-is_empty c =
    let none = nil_from_length c.in_ok-ends.ends.items (omega (arith, eqb-true _ _ (sym c.if-is_empty.ensures), c.in_ok-ends.ends.ok.0)) in
    none-open c.args.mesh.now c.args.query.now.filter c.args.first c.args.held.now (limits-of c.args.query.now.most_cost) (sym c.in_ok-ends.ensures ∙ none)

pub cheapest_to-requires-clause-goals : goal.cheapest_to-requires-clause-goals
cheapest_to-requires-clause-goals c =
    subst (All (IsThere c.args.mesh.now)) (sym (c.as_slice.ensures.value ∙ c.in_ok-ends.ensures))
    (open-there c.args.mesh.now c.args.query.now.filter c.args.first c.args.held.now c.requires.held)

pub cheapest_to-requires-clause-lead_on : goal.cheapest_to-requires-clause-lead_on
cheapest_to-requires-clause-lead_on c at held =
    open-on c.args.mesh.now c.args.query.now.filter c.args.first c.args.held.now at
    (subst (λ (ends : List PolyRef). Contains ends at) (c.as_slice.ensures.value ∙ c.in_ok-ends.ensures) held)

pub returns : goal.returns
returns c =
    let mesh = c.args.mesh.now in
    IfOk-weaker c.cheapest_to.result _ _
    (λ reach is.
    reach-held mesh c.args.query.now.filter c.args.first c.args.held.now (limits-of c.args.query.now.most_cost) reach
    (subst (λ (ends : List PolyRef). IsReach mesh c.args.query.now.filter c.args.first ends (limits-of c.args.query.now.most_cost) reach) (c.as_slice.ensures.value ∙ c.in_ok-ends.ensures) is))
    c.cheapest_to.ensures
