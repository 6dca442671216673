use Rattle.std.proofs.Common.{refl}
use Rattle.corridor_search.specs.Landmarks.{IsGentle}
use Rattle.corridor_search.proofs.EachLink.{each-link}
use Rattle.corridor_search.proofs.landmarks.are_gentle.Goals as goal

pub returns-then-are_inner_gentle : goal.returns-then-are_inner_gentle
returns-then-are_inner_gentle c outer =
    record { each = each-link c.args.mesh.now (IsGentle c.args.mesh.now c.args.marks.now) (c.if-are_inner_gentle.ensures refl) (c.are_outer_gentle.ensures outer) }
