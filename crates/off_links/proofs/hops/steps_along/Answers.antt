use Rattle.std.proofs.Common.{◌∙◌, ap, map, sym}
use Rattle.std.proofs.lemmas.List.{map_more, take_all}
use Rattle.graph_search.specs.declared.graph.Step.{Step}
use Rattle.off_links.specs.HopGraphs.{hop_step}
use Rattle.off_links.proofs.hops.steps_along.Goals as goal

-- what a step is where there is none
no_one : Step
no_one = record { from = record { block = 0; place = 0 }; place = 0 }

pub step_at-requires-clause-there : goal.step_at-requires-clause-there
unfolding no_one
step_at-requires-clause-there c = (c.requires.there c.loop-step.step-index no_one c.loop-step-test.true).there

pub loop-step-preserved : goal.loop-step-preserved
unfolding no_one
loop-step-preserved c =
    rw (c.in_ok-push.ensures.items, c.loop-step.invariant, c.step_at.ensures)
    (sym (map_more (hop_step c.args.graph.mesh.now c.args.graph.off_mesh_links.now) c.args.steps.now c.loop-step.step-index no_one c.loop-step-test.true))

pub returns : goal.returns
returns c =
    c.from_vec.ensures ∙ c.loop-step.invariant
    ∙ ap (map (hop_step c.args.graph.mesh.now c.args.graph.off_mesh_links.now)) (take_all c.loop-step.step-index c.args.steps.now c.loop-step-test.false)
