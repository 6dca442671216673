use Rattle.std.proofs.lemmas.Bool.{iff_false}
use Rattle.kept_paths.proofs.NearestLaws.{first-found, passed-over}
use Rattle.kept_paths.proofs.beginnings.nearer.Goals as goal

pub returns-then-not-begins : goal.returns-then-not-begins
returns-then-not-begins c =
    passed-over c.args.mesh.now c.args.path.now c.args.at c.args.best (iff_false c.begins.ensures c.if-not-begins.true) c.requires.best

pub returns-in_default : goal.returns-in_default
returns-in_default c =
    first-found c.args.mesh.now c.args.path.now c.args.at (c.begins.ensures.0 c.if-not-begins.false)
    (rw c.in_default.is at c.requires.best)
