use Rattle.std.proofs.Common.{sym, subst, refl, arith, All}
use Rattle.mesh_types.specs.Corridors.{IsLinkOf}
use Rattle.corridor_search.specs.Landmarks.{IsGentle}
use Rattle.corridor_search.proofs.EachLink.{one-outer-more, all-outer}
use Rattle.corridor_search.proofs.Gaps.{outer-listed}
use Rattle.corridor_search.proofs.landmarks.are_outer_gentle.Goals as goal

pub are_gentle_along-requires-clause-links : goal.are_gentle_along-requires-clause-links
are_gentle_along-requires-clause-links c =
    subst (All (IsLinkOf c.args.mesh.now)) (sym c.outer_of.ensures) (outer-listed c.args.mesh.now c.loop-tile.tile c.requires.sound)

pub loop-tile-preserved : goal.loop-tile-preserved
loop-tile-preserved c =
    one-outer-more c.args.mesh.now (IsGentle c.args.mesh.now c.args.marks.now) c.loop-tile.tile c.loop-tile.invariant
    (subst (All (IsGentle c.args.mesh.now c.args.marks.now)) c.outer_of.ensures (c.if-not-are_gentle_along.ensures refl))

pub returns : goal.returns
returns c _ =
    all-outer c.args.mesh.now (IsGentle c.args.mesh.now c.args.marks.now) c.loop-tile.tile
    (omega (arith, c.loop-tile-test.false, c.len-tile-end.ensures)) c.loop-tile.invariant
