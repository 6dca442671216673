use Rattle.std.proofs.Common.{ℕ, ◌<◌, ◌*◌, sym, subst}
use Rattle.nav_ground.specs.Tiling.{tiles_in_row}
use Rattle.mesh_locate.specs.Places.{Reaches}
use Rattle.crowd_filter.proofs.PlacingLaws.{best_told, in_reached, none_told, reads_fine}
use Rattle.crowd_filter.proofs.tiles.best_in_tiles.Goals as goal

pub returns-clause-some : goal.returns-clause-some
returns-clause-some c =
    let mesh = c.args.mesh.now in
    let agent = c.args.agent.now in
    let rows = c.tiles_along-rows.result in
    let columns = c.tiles_along-columns.result in
    best_told mesh agent (tiles_in_row mesh.setting) rows.first rows.end columns.first columns.end c.best_in_rows.result c.best_in_rows.ensures
    (in_reached mesh agent c.requires.sound rows columns
    (λ place there reach. c.tiles_along-columns.ensures.all place (subst (λ (n : ℕ). place < n) (sym c.div_ceil.ensures) there)
    (subst (Reaches (256 * mesh.setting.tile) place) (sym (reads_fine agent.at.x c.requires.sizes.at.across)) reach))
    (λ place there reach. c.tiles_along-rows.ensures.all place (subst (λ (n : ℕ). place < n) (sym c.div_ceil-2.ensures) there)
    (subst (Reaches (256 * mesh.setting.tile) place) (sym (reads_fine agent.at.z c.requires.sizes.at.along)) reach)))

pub returns-clause-none : goal.returns-clause-none
returns-clause-none c =
    let mesh = c.args.mesh.now in
    let agent = c.args.agent.now in
    let rows = c.tiles_along-rows.result in
    let columns = c.tiles_along-columns.result in
    none_told mesh agent (tiles_in_row mesh.setting) rows.first rows.end columns.first columns.end c.best_in_rows.result c.best_in_rows.ensures
    (in_reached mesh agent c.requires.sound rows columns
    (λ place there reach. c.tiles_along-columns.ensures.all place (subst (λ (n : ℕ). place < n) (sym c.div_ceil.ensures) there)
    (subst (Reaches (256 * mesh.setting.tile) place) (sym (reads_fine agent.at.x c.requires.sizes.at.across)) reach))
    (λ place there reach. c.tiles_along-rows.ensures.all place (subst (λ (n : ℕ). place < n) (sym c.div_ceil-2.ensures) there)
    (subst (Reaches (256 * mesh.setting.tile) place) (sym (reads_fine agent.at.z c.requires.sizes.at.along)) reach)))
