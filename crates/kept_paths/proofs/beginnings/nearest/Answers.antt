use Rattle.std.proofs.Common.{◌≡◌, ℕ, ◌+◌, length, sym, subst, arith}
use Rattle.std.proofs.lemmas.Bool.{iff_false}
use Rattle.kept_paths.specs.Beginnings.{IsNearestBefore, IsReached}
use Rattle.kept_paths.proofs.NearestLaws.{tile-passed}
use Rattle.kept_paths.proofs.TileReach.{held-reached}
use Rattle.kept_paths.proofs.beginnings.nearest.Goals as goal
use Rattle.kept_paths.proofs.beginnings.nearest.Goals.{then-reaches, else-reaches}

pub loop-tile-preserved : goal.loop-tile-preserved
loop-tile-preserved c =
    let mesh = c.args.mesh.now in
    let path = c.args.path.now in
    elim c.if-reaches.branch [
      | then-reaches w ↦ subst (IsNearestBefore mesh path (c.loop-tile.tile + 1) 0) (sym w.best-is) w.nearest_in_tile-best.ensures
      | else-reaches w ↦
          subst (IsNearestBefore mesh path (c.loop-tile.tile + 1) 0) (sym w.best-is)
          (tile-passed mesh path c.loop-tile.tile c.loop-tile.best
          (λ other at begins.
          iff_false c.reaches.ensures w.if-reaches.false
          (subst (IsReached mesh.setting path.from) at (held-reached mesh path.from path.from_y other c.requires.sound c.requires.setting begins.holding)))
          c.loop-tile.invariant)
    ]

pub returns : goal.returns
returns c =
    let mesh = c.args.mesh.now in
    let last : c.loop-tile.tile ≡ length mesh.tiles = omega (arith, c.loop-tile-test.false, c.loop-tile.auto.tile-end, c.len-tile-end.ensures) in
    subst (λ (n : ℕ). IsNearestBefore mesh c.args.path.now n 0 c.loop-tile.best) last c.loop-tile.invariant
