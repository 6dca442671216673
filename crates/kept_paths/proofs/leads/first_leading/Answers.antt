use Rattle.kept_paths.proofs.LeadLaws.{found-nowhere, found-outside, inside-on}
use Rattle.kept_paths.proofs.leads.first_leading.Goals as goal

pub returns-in-Some-clause-some : goal.returns-in-Some-clause-some
returns-in-Some-clause-some c =
    inside-on c.args.mesh.now c.args.at c.requires.sound c.args.areas c.inner.result.now c.args.kept.now c.in-Some.link c.inner.ensures
    c.in-Some.ensures.some.0 c.in-Some.ensures.some.1 c.in-Some.ensures.some.2

pub returns-in-None-clause-some : goal.returns-in-None-clause-some
returns-in-None-clause-some c =
    found-outside c.args.mesh.now c.args.at c.requires.sound c.args.areas c.args.kept.now c.outer.result.now c.first_on-in-None.result c.outer.ensures
    c.first_on-in-None.ensures.some

pub returns-in-None-clause-none : goal.returns-in-None-clause-none
returns-in-None-clause-none c =
    found-nowhere c.args.mesh.now c.args.at c.requires.sound c.args.areas c.args.kept.now c.inner.result.now c.outer.result.now c.first_on-in-None.result
    c.inner.ensures c.outer.ensures c.in-None.ensures.none c.first_on-in-None.ensures.none
