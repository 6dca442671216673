use Rattle.std.proofs.Common.{refl}
use Rattle.corridor_search.proofs.KeptLandmarks.{gentle-around}
use Rattle.corridor_search.proofs.changed.is_gentle_around.Goals as goal

pub returns : goal.returns
returns c beside =
    gentle-around c.args.mesh.now c.args.marks.now c.args.tile c.requires.sound c.requires.setting (c.if-not-are_inner_gentle_in.ensures refl)
    (c.if-not-are_outer_gentle_from.ensures refl) (c.are_gentle_beside.ensures beside)
