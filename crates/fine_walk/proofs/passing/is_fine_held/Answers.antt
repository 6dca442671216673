use Rattle.std.proofs.Common.{sym, ◌∙◌}
use Rattle.fine_walk.proofs.LeavingLinks.{its_corners}
use Rattle.fine_walk.proofs.passing.is_fine_held.Goals as goal

pub fine_holds-requires-clause-corners : goal.fine_holds-requires-clause-corners
fine_holds-requires-clause-corners c = its_corners c.args.mesh.now c.args.at c.in-Some.polygon c.requires.sound (sym c.poly.ensures ∙ c.in-Some.is)
