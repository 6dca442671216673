use Rattle.std.proofs.Common.{◌≡◌, ℕ, ◌+◌, ◌*◌, ap, subst, arith}
use Rattle.std.proofs.lemmas.Nat.{mul-add-lt}
use Rattle.nav_ground.specs.Tiling.{tiles_in_row, tile_rows}
use Rattle.mesh_locate.specs.Nearest.{IsNearestBefore}
use Rattle.mesh_locate.proofs.Scans.{row_begins, row_ends}
use Rattle.mesh_locate.proofs.nearest.nearest_in_row.Goals as goal

pub loop-column-init : goal.loop-column-init
loop-column-init c = row_begins c.args.mesh.now c.args.sought.p c.args.sought.y c.args.row c.args.columns c.args.best c.requires.columns c.requires.best

pub nearest_in_tile-nearest-requires-clause-there : goal.nearest_in_tile-nearest-requires-clause-there
nearest_in_tile-nearest-requires-clause-there c =
    let mesh = c.args.mesh.now in
    let width : ℕ = tiles_in_row mesh.setting in
    let row = ap (λ (n : ℕ). c.args.row * n) c.div_ceil.ensures in
    omega (
      arith,
      mul-add-lt c.args.row width c.loop-column.column (tile_rows mesh.setting) c.requires.there
          (omega (arith, c.loop-column-test.true, c.requires.columns.inside)),
      row,
      c.requires.sound.tiles.each,
    )

pub loop-column-preserved : goal.loop-column-preserved
loop-column-preserved c =
    let mesh = c.args.mesh.now in
    let row = ap (λ (n : ℕ). c.args.row * n) c.div_ceil.ensures in
    let next : c.args.row * c.div_ceil.result + c.loop-column.column + 1 ≡ c.args.row * tiles_in_row mesh.setting + (c.loop-column.column + 1) = omega (arith, row) in
    subst (λ (n : ℕ). IsNearestBefore mesh c.args.sought.p c.args.sought.y n 0 c.nearest_in_tile-nearest.result) next c.nearest_in_tile-nearest.ensures

pub returns : goal.returns
returns c =
    let mesh = c.args.mesh.now in
    let last : c.loop-column.column ≡ c.args.columns.end = omega (arith, c.loop-column-test.false, c.loop-column.auto.column-end c.requires.columns.order) in
    row_ends mesh c.args.sought.p c.args.sought.y c.args.row c.args.columns c.loop-column.nearest c.requires.columns
    (subst (λ (n : ℕ). IsNearestBefore mesh c.args.sought.p c.args.sought.y (c.args.row * tiles_in_row mesh.setting + n) 0 c.loop-column.nearest) last c.loop-column.invariant)
