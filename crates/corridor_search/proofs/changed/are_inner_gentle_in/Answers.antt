use Rattle.std.proofs.Common.{sym, subst, All}
use Rattle.mesh_types.specs.Corridors.{IsLinkOf}
use Rattle.corridor_search.specs.Landmarks.{IsGentle}
use Rattle.corridor_search.proofs.Gaps.{inner-listed}
use Rattle.corridor_search.proofs.changed.are_inner_gentle_in.Goals as goal

pub are_gentle_along-requires-clause-links : goal.are_gentle_along-requires-clause-links
are_gentle_along-requires-clause-links c =
    subst (All (IsLinkOf c.args.mesh.now)) (sym c.inner_of.ensures) (inner-listed c.args.mesh.now c.args.tile c.requires.sound)

pub returns : goal.returns
returns c gentle = subst (All (IsGentle c.args.mesh.now c.args.marks.now)) c.inner_of.ensures (c.are_gentle_along.ensures gentle)
