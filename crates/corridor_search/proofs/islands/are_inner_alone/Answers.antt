use Rattle.std.proofs.Common.{subst, refl, arith, All}
use Rattle.corridor_search.specs.Islands.{IsFromInside}
use Rattle.corridor_search.proofs.EachLink.{one-inner-more, all-inner}
use Rattle.corridor_search.proofs.LeftAlone.{inner-unreached}
use Rattle.corridor_search.proofs.islands.are_inner_alone.Goals.{else-has_tile-via-then-has_tile+else-not-are_alone, else-has_tile-via-else-has_tile}
use Rattle.corridor_search.proofs.islands.are_inner_alone.Goals as goal

pub loop-tile-preserved : goal.loop-tile-preserved
loop-tile-preserved c =
    one-inner-more c.args.mesh.now (IsFromInside c.args.island.now) c.loop-tile.tile c.loop-tile.invariant
    (elim c.else-has_tile.branch [
      | else-has_tile-via-then-has_tile+else-not-are_alone w ↦
          subst (All (IsFromInside c.args.island.now)) w.inner_of.ensures (w.if-not-are_alone.ensures refl)
      | else-has_tile-via-else-has_tile w ↦
          inner-unreached c.args.mesh.now c.args.island.now c.args.tiles.now c.loop-tile.tile c.requires.sound c.requires.reach (w.if-has_tile.ensures.not refl)
    ])

pub returns : goal.returns
returns c _ =
    all-inner c.args.mesh.now (IsFromInside c.args.island.now) c.loop-tile.tile
    (omega (arith, c.loop-tile-test.false, c.len-tile-end.ensures)) c.loop-tile.invariant
