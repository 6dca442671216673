use Rattle.std.proofs.Common.{◌≡◌, ◌∙◌, ℕ, ◌+◌, ◌-◌, ◌/◌, ◌%◌, ◌<◌, ◌≤◌, ◌+ℤ◌, ◌-ℤ◌, pos, to_z, of_z, w32, arith}
use Rattle.std.specs.Prelude.{min}
use Rattle.std.proofs.Math.Nat.{mod-lt}
use Rattle.std.proofs.lemmas.Int.{ints}
use Rattle.nav_ground.specs.declared.cell.Window.{Window}
use Rattle.nav_ground.specs.declared.setting.Setting.{Setting}
use Rattle.nav_ground.specs.Limits.{IsSetting}
use Rattle.nav_ground.specs.Tiling.{tiles_in_row, tile_rows, tile_count, corner_x, corner_z, tile_window, widened}
use Rattle.nav_ground.proofs.Places.{begins_inside, some_columns, row_is}
use Rattle.build_queue.proofs.reach.tile_reach.Goals as goal

-- a column of the largest field, and so many columns, as they are in 32 bits
fewer : (x margin : ℕ) → x ≤ 1023 → margin ≤ 15 → to_z w32 (of_z w32 (to_z w32 (of_z w32 (pos x)) -ℤ to_z w32 margin)) ≡ pos x -ℤ pos margin
fewer x margin inside small = omega (arith, ints)

more : (x margin : ℕ) → x ≤ 1023 → margin ≤ 15 → to_z w32 (of_z w32 (to_z w32 (of_z w32 (pos x)) +ℤ to_z w32 margin)) ≡ pos x +ℤ pos margin
more x margin inside small = omega (arith, ints)

-- a tile ends before the field's edge does
last : (edge corner : ℕ) → edge ≤ 1024 → min edge corner - 1 ≤ 1023
last edge corner most = omega (arith, most)

in_words : Window → ℕ → Window
in_words window margin = record {
  x0 = to_z w32 (of_z w32 (to_z w32 (of_z w32 window.x0) -ℤ to_z w32 margin));
  x1 = to_z w32 (of_z w32 (to_z w32 (of_z w32 window.x1) +ℤ to_z w32 margin));
  z0 = to_z w32 (of_z w32 (to_z w32 (of_z w32 window.z0) -ℤ to_z w32 margin));
  z1 = to_z w32 (of_z w32 (to_z w32 (of_z w32 window.z1) +ℤ to_z w32 margin));
}

reached : (setting : Setting) (tile margin : ℕ) → IsSetting setting → tile < tile_count setting → margin ≤ 15
    → in_words (tile_window setting tile) margin ≡ widened (tile_window setting tile) margin
unfolding in_words
reached setting tile margin limits there small =
    let some = some_columns (tiles_in_row setting) (tile_rows setting) tile there in
    let row : tile / tiles_in_row setting < tile_rows setting = row_is tile (tiles_in_row setting) (tile_rows setting) some there in
    let x : corner_x setting tile < setting.width = begins_inside (tile % tiles_in_row setting) setting.tile setting.width (omega (arith, limits.tile_least)) (mod-lt tile some) in
    let z : corner_z setting tile < setting.depth = begins_inside (tile / tiles_in_row setting) setting.tile setting.depth (omega (arith, limits.tile_least)) row in
    λ i. record {
      x0 = fewer (corner_x setting tile) margin (omega (arith, x, limits.width)) small i;
      x1 = more (min setting.width (corner_x setting tile + setting.tile) - 1) margin (last setting.width (corner_x setting tile + setting.tile) limits.width) small i;
      z0 = fewer (corner_z setting tile) margin (omega (arith, z, limits.depth)) small i;
      z1 = more (min setting.depth (corner_z setting tile + setting.tile) - 1) margin (last setting.depth (corner_z setting tile + setting.tile) limits.depth) small i;
    }

pub returns : goal.returns
unfolding in_words
returns c =
    (λ i. in_words (c.tile_bounds-columns.ensures i) c.margin_of-margin.result)
    ∙ reached c.args.setting.now c.args.tile c.margin_of-margin.result c.requires.setting c.requires.there c.margin_of-margin.ensures.most
    ∙ (λ i. widened (tile_window c.args.setting.now c.args.tile) (c.margin_of-margin.ensures.value i))
