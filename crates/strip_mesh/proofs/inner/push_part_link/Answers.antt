use Rattle.std.proofs.Common.{arith}
use Rattle.strip_mesh.proofs.Parts.{own_few}
use Rattle.strip_mesh.proofs.inner.push_part_link.Goals as goal

pub overflow_cast-run : goal.overflow_cast-run
overflow_cast-run c = omega (arith, c.requires.order, c.requires.inside, own_few c.args.one.strips.now c.requires.rules c.args.one.strip c.requires.there)

pub overflow_cast-run-in-Some : goal.overflow_cast-run-in-Some
overflow_cast-run-in-Some c = omega (arith, c.requires.order, c.requires.inside, own_few c.args.one.strips.now c.requires.rules c.args.one.strip c.requires.there)

pub link-requires-clause-first : goal.link-requires-clause-first
link-requires-clause-first c = omega (arith, c.requires.order, c.requires.inside, own_few c.args.one.strips.now c.requires.rules c.args.one.strip c.requires.there)

pub link-requires-clause-last : goal.link-requires-clause-last
link-requires-clause-last c = omega (arith, c.requires.order, c.requires.inside, own_few c.args.one.strips.now c.requires.rules c.args.one.strip c.requires.there)
