use Rattle.std.proofs.Common.{◌≡◌, ℕ, ◌+◌, ◌*◌, ◌/◌, ◌⊎◌, inl, inr, ap, arith}
use Rattle.std.proofs.lemmas.Nat.{mul-add-lt}
use Rattle.nav_ground.specs.Tiling.{tiles_in_row, tile_rows}
use Rattle.mesh_types.specs.declared.storeys.MeshPlace.{MeshPlace}
use Rattle.mesh_place.specs.Tiles.{IsInTileRow, IsNearBy}
use Rattle.mesh_place.proofs.SearchLaws.{passed, more, fewer}
use Rattle.mesh_place.proofs.TileRows.{next_column_of}
use Rattle.mesh_place.proofs.tiles.in_tile_row.Goals as goal

pub loop-column-init : goal.loop-column-init
loop-column-init c =
    let mesh = c.args.mesh.now in
    let asked = c.args.asked.now in
    let around = c.args.around.now in
    passed mesh asked c.args.best (λ (other : MeshPlace). IsInTileRow mesh c.args.row around.columns.first other × IsNearBy asked around other) c.requires.best
    (λ other stands near one.
    let first = (c.requires.around.columns other stands one.1).first in
    let before = one.0.before in
    omega (arith, first, before))

pub in_tile-nearest-requires-clause-there : goal.in_tile-nearest-requires-clause-there
in_tile-nearest-requires-clause-there c =
    let mesh = c.args.mesh.now in
    let width : ℕ = tiles_in_row mesh.setting in
    let row = ap (λ (n : ℕ). c.args.row * n) c.div_ceil.ensures in
    omega (
      arith,
      mul-add-lt c.args.row width c.loop-column.column (tile_rows mesh.setting) c.requires.there
          (omega (arith, c.loop-column-test.true, c.requires.around.columns_inside)),
      row,
      c.requires.sound.tiles.each,
    )

pub in_tile-nearest-requires-clause-best : goal.in_tile-nearest-requires-clause-best
in_tile-nearest-requires-clause-best c = c.loop-column.invariant.found

pub in_tile-nearest-requires-clause-done : goal.in_tile-nearest-requires-clause-done
in_tile-nearest-requires-clause-done c = λ other stands near one. c.loop-column.invariant.kept other (c.requires.done other stands near one)

either : {A B W : Type 0} → A ⊎ B → W → (A × W) ⊎ B
either (inl one) within = inl (one, within)
either (inr one) within = inr one

pub loop-column-preserved : goal.loop-column-preserved
loop-column-preserved c =
    let mesh = c.args.mesh.now in
    let asked = c.args.asked.now in
    let around = c.args.around.now in
    let column = c.loop-column.column in
    let row = ap (λ (n : ℕ). c.args.row * n) c.div_ceil.ensures in
    let tile : ℕ = c.args.row * c.div_ceil.result + column in
    let is : tile ≡ c.args.row * tiles_in_row mesh.setting + column = omega (arith, row) in
    more mesh asked c.args.best c.loop-column.nearest c.in_tile-nearest.result
    (λ (other : MeshPlace). IsInTileRow mesh c.args.row column other × IsNearBy asked around other)
    (λ (other : MeshPlace). other.polygon.tile ≡ tile)
    (λ (other : MeshPlace). IsInTileRow mesh c.args.row (column + 1) other × IsNearBy asked around other)
    c.loop-column.invariant c.in_tile-nearest.ensures
    (λ other stands near one. either (next_column_of mesh c.args.row column tile other is one.0) one.1)

pub returns : goal.returns
returns c =
    let mesh = c.args.mesh.now in
    let asked = c.args.asked.now in
    let around = c.args.around.now in
    fewer mesh asked c.args.best c.loop-column.nearest
    (λ (other : MeshPlace). IsInTileRow mesh c.args.row c.loop-column.column other × IsNearBy asked around other)
    (λ (other : MeshPlace). (other.polygon.tile / tiles_in_row mesh.setting ≡ c.args.row) × IsNearBy asked around other) c.loop-column.invariant
    (λ other stands near one.
    let end = (c.requires.around.columns other stands one.1).end in
    (record { row_is = one.0; before = omega (arith, end, c.loop-column-test.false) }, one.1))
