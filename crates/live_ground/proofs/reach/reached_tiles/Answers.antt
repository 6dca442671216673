use Rattle.std.proofs.Common.{ℕ, ◌≡◌, ◌∙◌, ap, sym, arith}
use Rattle.std.specs.Global.{Vec}
use Rattle.std.specs.Prelude.{filter}
use Rattle.std.specs.List.{range_with_len}
use Rattle.nav_ground.specs.Tiling.{tile_count}
use Rattle.live_ground.specs.Changes.{is_in_reach}
use Rattle.live_ground.proofs.Reached.{tile_more, tile_less}
use Rattle.live_ground.proofs.reach.reached_tiles.Goals as goal
use Rattle.live_ground.proofs.reach.reached_tiles.Goals.{then-is_in_reach+in_ok-push, else-is_in_reach}

pub loop-tile-preserved : goal.loop-tile-preserved
loop-tile-preserved c =
    let test = is_in_reach c.args.setting.now c.args.window in
    elim c.if-is_in_reach.branch [
      | then-is_in_reach+in_ok-push w ↦
          ap (λ (v : Vec ℕ). v.items) w.reached-is ∙ w.in_ok-push.ensures.items
          ∙ tile_more test c.loop-tile.tile c.loop-tile.reached.items c.loop-tile.invariant (sym c.is_in_reach.ensures ∙ w.if-is_in_reach.true)
      | else-is_in_reach w ↦
          ap (λ (v : Vec ℕ). v.items) w.reached-is
          ∙ tile_less test c.loop-tile.tile c.loop-tile.reached.items c.loop-tile.invariant (sym c.is_in_reach.ensures ∙ w.if-is_in_reach.false)
    ]

pub returns : goal.returns
returns c =
    let all : c.loop-tile.tile ≡ tile_count c.args.setting.now = omega (arith, c.tiles-tile-end.ensures, c.loop-tile-test.false, c.loop-tile.auto.tile-end) in
    c.from_vec.ensures ∙ c.loop-tile.invariant ∙ ap (λ n. filter (is_in_reach c.args.setting.now c.args.window) (range_with_len 0 n)) all
