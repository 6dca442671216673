use Rattle.std.proofs.Common.{ap, sym, ◌∙◌, Vec, Global}
use Rattle.mesh_types.specs.declared.links.PolyRef.{PolyRef}
use Rattle.path_queries.proofs.HeldLaws.{goal-there, taken-closed, taken-open}
use Rattle.path_queries.proofs.nearest.open_polygons.Goals as goal
use Rattle.path_queries.proofs.nearest.open_polygons.Goals.{then-leads_on+in_ok-push, else-leads_on}

pub leads_on-requires-clause-there : goal.leads_on-requires-clause-there
leads_on-requires-clause-there c =
    goal-there c.args.mesh.now c.args.areas c.args.first c.args.held.now c.loop-goal.goal-index c.loop-goal-test.true c.requires.held

pub loop-goal-preserved : goal.loop-goal-preserved
loop-goal-preserved c =
    let mesh = c.args.mesh.now in
    let i = c.loop-goal.goal-index in
    elim c.if-leads_on.branch [
      | then-leads_on+in_ok-push w ↦
          taken-open mesh c.args.areas c.args.first c.args.held.now i c.loop-goal-test.true c.loop-goal.ends.items _ c.loop-goal.invariant
          (sym c.leads_on.ensures ∙ w.if-leads_on.true) (ap (λ (v : Vec PolyRef Global). v.items) w.ends-is ∙ w.in_ok-push.ensures.items)
      | else-leads_on w ↦
          ap (λ (v : Vec PolyRef Global). v.items) w.ends-is
          ∙ taken-closed mesh c.args.areas c.args.first c.args.held.now i c.loop-goal-test.true c.loop-goal.ends.items c.loop-goal.invariant
          (sym c.leads_on.ensures ∙ w.if-leads_on.false)
    ]
