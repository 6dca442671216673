use Rattle.std.proofs.Common.{arith}
use Rattle.strip_mesh.proofs.Parts.{own_few}
use Rattle.strip_mesh.proofs.inner.end_of.Goals as goal

pub overflow_add-place : goal.overflow_add-place
overflow_add-place c = omega (arith, c.requires.place, own_few c.args.one.strips.now c.requires.rules c.args.one.strip c.requires.there)

pub overflow_add-result : goal.overflow_add-result
overflow_add-result c = omega (arith, c.requires.place, own_few c.args.one.strips.now c.requires.rules c.args.one.strip c.requires.there)
