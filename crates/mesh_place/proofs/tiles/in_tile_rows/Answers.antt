use Rattle.std.proofs.Common.{◌≡◌, ℕ, ◌+◌, ◌/◌, arith}
use Rattle.nav_ground.specs.Tiling.{tiles_in_row, tile_rows}
use Rattle.mesh_types.specs.declared.storeys.MeshPlace.{MeshPlace}
use Rattle.mesh_place.specs.Tiles.{IsInTileRows, IsNearBy}
use Rattle.mesh_place.proofs.SearchLaws.{passed, more, fewer, either_within}
use Rattle.mesh_place.proofs.TileRows.{next_tile_row}
use Rattle.mesh_place.proofs.tiles.in_tile_rows.Goals as goal

pub loop-row-init : goal.loop-row-init
loop-row-init c =
    let mesh = c.args.mesh.now in
    let asked = c.args.asked.now in
    let around = c.args.around.now in
    passed mesh asked c.args.best (λ (other : MeshPlace). IsInTileRows mesh around.rows.first other × IsNearBy asked around other) c.requires.best
    (λ other stands near one.
    let first = (c.requires.around.rows other stands one.1).first in
    omega (arith, first, one.0))

pub in_tile_row-nearest-requires-clause-best : goal.in_tile_row-nearest-requires-clause-best
in_tile_row-nearest-requires-clause-best c = c.loop-row.invariant.found

pub in_tile_row-nearest-requires-clause-done : goal.in_tile_row-nearest-requires-clause-done
in_tile_row-nearest-requires-clause-done c = λ other stands near one. c.loop-row.invariant.kept other (c.requires.done other stands near one)

pub loop-row-preserved : goal.loop-row-preserved
loop-row-preserved c =
    let mesh = c.args.mesh.now in
    let asked = c.args.asked.now in
    let around = c.args.around.now in
    let n : ℕ = tiles_in_row mesh.setting in
    let row = c.loop-row.row in
    more mesh asked c.args.best c.loop-row.nearest c.in_tile_row-nearest.result
    (λ (other : MeshPlace). IsInTileRows mesh row other × IsNearBy asked around other)
    (λ (other : MeshPlace). (other.polygon.tile / n ≡ row) × IsNearBy asked around other)
    (λ (other : MeshPlace). IsInTileRows mesh (row + 1) other × IsNearBy asked around other)
    c.loop-row.invariant c.in_tile_row-nearest.ensures (λ other stands near one. either_within (next_tile_row n row other.polygon.tile one.0) one.1)

pub returns : goal.returns
returns c =
    let mesh = c.args.mesh.now in
    let asked = c.args.asked.now in
    let around = c.args.around.now in
    fewer mesh asked c.args.best c.loop-row.nearest (λ (other : MeshPlace). IsInTileRows mesh c.loop-row.row other × IsNearBy asked around other)
    (λ (other : MeshPlace). IsInTileRows mesh (tile_rows mesh.setting) other × IsNearBy asked around other) c.loop-row.invariant
    (λ other stands near one.
    let end = (c.requires.around.rows other stands one.1).end in
    (omega (arith, end, c.loop-row-test.false), one.1))
