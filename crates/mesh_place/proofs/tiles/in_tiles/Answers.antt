use Rattle.std.proofs.Common.{◌*◌, ◌≤◌, ℕ, subst, arith}
use Rattle.nav_base.specs.Deviation.{square_of}
use Rattle.nav_base.specs.Point.{from_to}
use Rattle.nav_ground.specs.Tiling.{tile_rows}
use Rattle.mesh_types.specs.declared.storeys.MeshPlace.{MeshPlace}
use Rattle.mesh_place.specs.Searches.{IsFoundAmong, IsOf}
use Rattle.mesh_place.specs.Tiles.{IsInTileRows}
use Rattle.mesh_place.proofs.SearchLaws.{found_measurable, no_less, after_more}
use Rattle.mesh_place.proofs.tiles.in_tiles.Goals as goal

pub reach_left-reach-requires-clause-best : goal.reach_left-reach-requires-clause-best
reach_left-reach-requires-clause-best c =
    found_measurable c.args.mesh.now c.args.asked.now c.likely_place-likely.result.best c.requires.sound c.likely_place-likely.ensures.found

pub in_tile_rows-requires-clause-best : goal.in_tile_rows-requires-clause-best
in_tile_rows-requires-clause-best c = c.likely_place-likely.ensures.found

pub in_tile_rows-requires-clause-done : goal.in_tile_rows-requires-clause-done
in_tile_rows-requires-clause-done c = c.likely_place-likely.ensures.all

pub returns : goal.returns
returns c =
    let mesh = c.args.mesh.now in
    let asked = c.args.asked.now in
    let likely = c.likely_place-likely.result.best in
    let rows = subst (λ (n : ℕ). IsFoundAmong mesh asked likely c.in_tile_rows.result
    (λ (place : MeshPlace). IsInTileRows mesh (tile_rows mesh.setting) place × (square_of (from_to asked.point place.point) ≤ n * n)))
    c.tiles_around-around.ensures.reach c.in_tile_rows.ensures in
    after_more mesh asked c.args.best likely c.in_tile_rows.result (IsOf c.likely_place-likely.result.done) (IsInTileRows mesh (tile_rows mesh.setting)) c.likely_place-likely.ensures
    (no_less mesh asked likely c.in_tile_rows.result 0 c.reach_left-reach.result (IsInTileRows mesh (tile_rows mesh.setting)) (λ other stands near one. omega arith)
    c.reach_left-reach.ensures.enough rows)
