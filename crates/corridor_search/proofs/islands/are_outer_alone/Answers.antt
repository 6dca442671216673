use Rattle.std.proofs.Common.{ℕ, subst, refl, arith, All}
use Rattle.corridor_search.specs.Islands.{IsFromInside, AreFar}
use Rattle.corridor_search.proofs.EachLink.{one-outer-more, all-outer}
use Rattle.corridor_search.proofs.Beside.{outer-far}
use Rattle.corridor_search.proofs.islands.are_outer_alone.Goals.{else-is_beside-via-then-is_beside+else-not-are_alone, else-is_beside-via-else-is_beside}
use Rattle.corridor_search.proofs.islands.are_outer_alone.Goals as goal

pub loop-tile-preserved : goal.loop-tile-preserved
loop-tile-preserved c =
    one-outer-more c.args.mesh.now (IsFromInside c.args.island.now) c.loop-tile.tile c.loop-tile.invariant
    (elim c.else-is_beside.branch [
      | else-is_beside-via-then-is_beside+else-not-are_alone w ↦
          subst (All (IsFromInside c.args.island.now)) w.outer_of.ensures (w.if-not-are_alone.ensures refl)
      | else-is_beside-via-else-is_beside w ↦
          outer-far c.args.mesh.now c.args.island.now c.args.tiles.now c.loop-tile.tile c.requires.sound c.requires.setting c.requires.reach
          (subst (λ (n : ℕ). All (AreFar n c.loop-tile.tile) c.args.tiles.now) c.div_ceil-row.ensures (w.if-is_beside.ensures refl))
    ])

pub returns : goal.returns
returns c _ =
    all-outer c.args.mesh.now (IsFromInside c.args.island.now) c.loop-tile.tile
    (omega (arith, c.loop-tile-test.false, c.len-tile-end.ensures)) c.loop-tile.invariant
