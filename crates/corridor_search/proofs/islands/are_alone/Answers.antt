use Rattle.std.proofs.Common.{refl}
use Rattle.corridor_search.specs.Islands.{IsFromInside}
use Rattle.corridor_search.proofs.EachLink.{one-more}
use Rattle.corridor_search.proofs.LeftAlone.{unreached}
use Rattle.corridor_search.proofs.islands.are_alone.Goals.{else-has_tile-via-then-has_tile+then-has+else-not-has, else-has_tile-via-then-has_tile+else-has, else-has_tile-via-else-has_tile}
use Rattle.corridor_search.proofs.islands.are_alone.Goals as goal

pub loop-link-preserved : goal.loop-link-preserved
loop-link-preserved c =
    elim c.else-has_tile.branch [
      | else-has_tile-via-then-has_tile+then-has+else-not-has w ↦
          one-more (IsFromInside c.args.island.now) c.args.links.now c.loop-link.link-index _ c.loop-link-test.true c.loop-link.invariant
          (record { inside = λ _. w.if-not-has.ensures.there refl })
      | else-has_tile-via-then-has_tile+else-has w ↦
          one-more (IsFromInside c.args.island.now) c.args.links.now c.loop-link.link-index _ c.loop-link-test.true c.loop-link.invariant
          (record { inside = λ held. absurd (w.if-has.ensures.not refl held) })
      | else-has_tile-via-else-has_tile w ↦
          one-more (IsFromInside c.args.island.now) c.args.links.now c.loop-link.link-index _ c.loop-link-test.true c.loop-link.invariant
          (record { inside = λ held. absurd (unreached c.args.island.now c.args.tiles.now _ c.requires (w.if-has_tile.ensures.not refl) held) })
    ]
