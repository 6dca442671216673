use Rattle.std.proofs.lemmas.Bool.{iff_false}
use Rattle.kept_paths.proofs.NearestLaws.{none-nowhere, some-beginning}
use Rattle.kept_paths.proofs.beginnings.beginning.Goals as goal

pub returns-clause-some : goal.returns-clause-some
returns-clause-some c =
    some-beginning c.args.mesh.now c.args.path.now c.nearest.result (iff_false c.begins.ensures c.if-begins.false) c.nearest.ensures

pub returns-clause-none : goal.returns-clause-none
returns-clause-none c = none-nowhere c.args.mesh.now c.args.path.now c.nearest.result c.nearest.ensures
