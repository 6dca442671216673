use Rattle.std.proofs.Common.{sym, subst, refl, arith, All}
use Rattle.mesh_types.specs.Corridors.{IsLinkOf}
use Rattle.corridor_search.specs.Landmarks.{IsGentle}
use Rattle.corridor_search.proofs.EachLink.{one-inner-more, all-inner}
use Rattle.corridor_search.proofs.Gaps.{inner-listed}
use Rattle.corridor_search.proofs.landmarks.are_inner_gentle.Goals as goal

pub are_gentle_along-requires-clause-links : goal.are_gentle_along-requires-clause-links
are_gentle_along-requires-clause-links c =
    subst (All (IsLinkOf c.args.mesh.now)) (sym c.inner_of.ensures) (inner-listed c.args.mesh.now c.loop-tile.tile c.requires.sound)

pub loop-tile-preserved : goal.loop-tile-preserved
loop-tile-preserved c =
    one-inner-more c.args.mesh.now (IsGentle c.args.mesh.now c.args.marks.now) c.loop-tile.tile c.loop-tile.invariant
    (subst (All (IsGentle c.args.mesh.now c.args.marks.now)) c.inner_of.ensures (c.if-not-are_gentle_along.ensures refl))

pub returns : goal.returns
returns c _ =
    all-inner c.args.mesh.now (IsGentle c.args.mesh.now c.args.marks.now) c.loop-tile.tile
    (omega (arith, c.loop-tile-test.false, c.len-tile-end.ensures)) c.loop-tile.invariant
