use Rattle.std.proofs.Common.{ℕ, ◌*◌, ◌≤◌, ◌<◌, subst}
use Rattle.mesh_place.specs.declared.columns.ReachEnds.{ReachEnds}
use Rattle.mesh_place.specs.Tiles.{AreWithin}
use Rattle.mesh_place.proofs.TileRows.{are_around}
use Rattle.mesh_place.proofs.tiles.tiles_around.Goals as goal

pub returns-clause-around : goal.returns-clause-around
returns-clause-around c =
    let mesh = c.args.mesh.now in
    let rows = c.tiles_within.result in
    let columns = c.tiles_within-2.result in
    let along : ℕ = c.div_ceil-along.result in
    let across : ℕ = c.div_ceil-across.result in
    let side : ℕ = 16 * mesh.setting.tile in
    are_around mesh c.args.asked.now (record { reach = c.args.reach; rows = rows; columns = columns }) along across c.requires.sound c.requires.setting
    c.div_ceil-along.ensures c.div_ceil-across.ensures c.tiles_within.ensures.order c.tiles_within.ensures.inside c.tiles_within-2.ensures.order
    c.tiles_within-2.ensures.inside
    (subst (λ (r : ReachEnds). (place m : ℕ) → place < along → AreWithin r side place m → rows.first ≤ place) c.ends_along.ensures.value c.tiles_within.ensures.all)
    (subst (λ (r : ReachEnds). (place m : ℕ) → place < along → AreWithin r side place m → place < rows.end) c.ends_along.ensures.value c.tiles_within.ensures.before)
    (subst (λ (r : ReachEnds). (place m : ℕ) → place < across → AreWithin r side place m → columns.first ≤ place) c.ends_across.ensures.value
    c.tiles_within-2.ensures.all)
    (subst (λ (r : ReachEnds). (place m : ℕ) → place < across → AreWithin r side place m → place < columns.end) c.ends_across.ensures.value
    c.tiles_within-2.ensures.before)
