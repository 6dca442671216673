use Rattle.std.proofs.Common.{◌∙◌, ap, map, sym}
use Rattle.std.proofs.lemmas.List.{map_more, take_all}
use Rattle.graph_search.specs.declared.graph.Step.{Step}
use Rattle.corridor_search.specs.MeshGraphs.{link_of}
use Rattle.path_queries.proofs.reach.links_along.Goals as goal

-- what a step is where there is none
no_step : Step
no_step = record { from = record { block = 0; place = 0 }; place = 0 }

pub link_at-requires : goal.link_at-requires
unfolding no_step
link_at-requires c = (c.requires c.loop-step.step-index no_step c.loop-step-test.true).there

pub loop-step-preserved : goal.loop-step-preserved
unfolding no_step
loop-step-preserved c =
    rw (c.in_ok-push.ensures.items, c.loop-step.invariant, c.link_at.ensures)
    (sym (map_more (link_of c.args.mesh.now) c.args.steps.now c.loop-step.step-index no_step c.loop-step-test.true))

pub returns : goal.returns
returns c =
    c.from_vec.ensures ∙ c.loop-step.invariant
    ∙ ap (map (link_of c.args.mesh.now)) (take_all c.loop-step.step-index c.args.steps.now c.loop-step-test.false)
