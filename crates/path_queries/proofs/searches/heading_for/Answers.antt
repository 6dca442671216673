use Rattle.std.proofs.Common.{◌∙◌, List, ap, refl, sym, subst, arith}
use Rattle.std.specs.Prelude.{Contains}
use Rattle.mesh_types.specs.declared.links.PolyRef.{PolyRef}
use Rattle.corridor_search.specs.Estimates.{extent_at, middle_of}
use Rattle.corridor_search.specs.MeshGraphs.{IsThere}
use Rattle.corridor_search.proofs.Extents.{extent-rules}
use Rattle.path_queries.proofs.Headings.{one-goal, rest-none}
use Rattle.path_queries.proofs.searches.heading_for.Goals as goal

pub middle-aim-requires : goal.middle-aim-requires
middle-aim-requires c =
    (extent-rules c.args.mesh.now _ c.extent_at.result c.requires.sound (c.requires.goals 0 _ (omega (arith, c.if-goals-ne1.false))) c.extent_at.ensures).box

pub returns-clause-no_rest : goal.returns-clause-no_rest
returns-clause-no_rest c goal held =
    rest-none c.args.mesh.now c.middle-aim.result c.least_cost-least.result goal c.extent_at.result
    (subst (IsThere c.args.mesh.now) (one-goal c.args.goals.now goal (omega (arith, c.if-goals-ne1.false)) held goal)
    (c.requires.goals 0 goal (omega (arith, c.if-goals-ne1.false)))) (one-goal c.args.goals.now goal (omega (arith, c.if-goals-ne1.false)) held _)
    c.extent_at.ensures c.middle-aim.ensures.value

pub returns-clause-one_goal : goal.returns-clause-one_goal
returns-clause-one_goal c goal is = record {
  middle = c.middle-aim.ensures.value ∙ ap middle_of (c.extent_at.ensures
      ∙ ap (extent_at c.args.mesh.now) (one-goal c.args.goals.now goal (omega (arith, c.if-goals-ne1.false)) (subst (λ (gs : List PolyRef). Contains gs goal) (sym is) (0, omega arith, refl)) _));
  least_cost = c.least_cost-least.ensures;
}
