use Rattle.std.proofs.Common.{◌∙◌, [], append-nil, sym, subst, arith}
use Rattle.path_queries.specs.Batches.{LeadToFirst}
use Rattle.path_queries.proofs.LinksBetween.{some-there}
use Rattle.path_queries.proofs.batch.links_from.Goals as goal

pub unwrap-requires : goal.unwrap-requires
unwrap-requires c =
    let next = c.requires.linked c.loop-at.at (omega (arith, c.loop-at-test.true)) (omega (arith, c.loop-at.invariant.few, c.requires.there)) in
    some-there _ c.link_between.result c.link_between.ensures.none next.1.0 next.1.1

pub returns-clause-lead : goal.returns-clause-lead
returns-clause-lead c =
    subst (LeadToFirst c.args.mesh.now c.args.list.now c.args.place) (append-nil c.loop-at.links.items ∙ sym c.from_vec.ensures)
    (c.loop-at.invariant.lead [] (omega (arith, c.loop-at-test.false)))
