use Rattle.std.proofs.Common.{◌≡◌, ◌/◌, ◌%◌, ◌<◌, ap, sym, subst, ◌∙◌, arith}
use Rattle.std.proofs.Math.Nat.{mod-lt, mul-le-mul_right}
use Rattle.std.proofs.lemmas.Int.{to_z-of_z}
use Rattle.nav_ground.specs.declared.cell.Window.{Window}
use Rattle.nav_ground.specs.declared.setting.Setting.{Setting}
use Rattle.nav_ground.specs.Tiling.{tiles_in_row, tile_rows}
use Rattle.nav_ground.specs.Touching.{touch_window}
use Rattle.nav_ground.proofs.Places.{some_columns, row_is}
use Rattle.build_queue.proofs.Meetings.{IsMet, met_across, met_along}
use Rattle.build_queue.proofs.waiting.mark.Goals as goal

pub mark_rows-requires-clause-there : goal.mark_rows-requires-clause-there
mark_rows-requires-clause-there c =
    let most = mul-le-mul_right c.tiles_along-columns.result c.places-along.ensures.few in
    rw (c.requires.tiles, ← c.tiles_along-columns.ensures.value, ← c.tiles_along-rows.ensures.value) (omega (arith, most))

pub returns-clause-marked : goal.returns-clause-marked
returns-clause-marked c = λ tile there is.
    let setting : Setting = c.args.setting.now in
    let some = some_columns (tiles_in_row setting) (tile_rows setting) tile there in
    let window : c.touch_window-window.result ≡ touch_window setting c.args.shape.now = c.touch_window-window.ensures ∙ ap (touch_window setting) c.get.ensures in
    let x = subst (λ (w : Window). IsMet w.x0 w.x1 (tile % tiles_in_row setting) setting.tile) (sym window) (met_across setting tile c.args.shape.now c.requires.setting is) in
    let z = subst (λ (w : Window). IsMet w.z0 w.z1 (tile / tiles_in_row setting) setting.tile) (sym window) (met_along setting tile c.args.shape.now c.requires.setting is) in
    let x_begins = x.begins in
    let x_ends = x.ends in
    let z_begins = z.begins in
    let z_ends = z.ends in
    let column : tile % tiles_in_row setting < tiles_in_row setting = mod-lt tile some in
    let row : tile / tiles_in_row setting < tile_rows setting = row_is tile (tiles_in_row setting) (tile_rows setting) some there in
    let across = c.places-across.ensures.met (tile % tiles_in_row setting) x.last (omega (arith, column, c.tiles_along-columns.ensures.value)) (grind (arith, to_z-of_z, x_begins)) (grind (arith, to_z-of_z, x_ends)) x.within in
    let along = c.places-along.ensures.met (tile / tiles_in_row setting) z.last (omega (arith, row, c.tiles_along-rows.ensures.value)) (grind (arith, to_z-of_z, z_begins)) (grind (arith, to_z-of_z, z_ends)) z.within in
    let marked = rw c.tiles_along-columns.ensures.value at (c.mark_rows.ensures.marked tile) in
    marked along.0 along.1 across.0 across.1
