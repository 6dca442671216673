use Rattle.path_queries.proofs.LinksBetween.{found-nowhere, found-outside, inside-between}
use Rattle.path_queries.proofs.batch.link_between.Goals as goal

pub returns-in-Some-clause-some : goal.returns-in-Some-clause-some
returns-in-Some-clause-some c =
    inside-between c.args.mesh.now c.args.from c.args.to c.requires.sound c.inner.result.now c.in-Some.link c.inner.ensures
    c.in-Some.ensures.some.0 c.in-Some.ensures.some.1

pub returns-in-None-clause-some : goal.returns-in-None-clause-some
returns-in-None-clause-some c =
    found-outside c.args.mesh.now c.args.from c.args.to c.requires.sound c.outer.result.now c.first_into-in-None.result c.outer.ensures
    c.first_into-in-None.ensures.some

pub returns-in-None-clause-none : goal.returns-in-None-clause-none
returns-in-None-clause-none c =
    found-nowhere c.args.mesh.now c.args.from c.args.to c.requires.sound c.inner.result.now c.outer.result.now c.first_into-in-None.result
    c.inner.ensures c.outer.ensures c.in-None.ensures.none c.first_into-in-None.ensures.none
