use Rattle.std.proofs.Common.{sym, ap, ◌∙◌, arith}
use Rattle.std.proofs.lemmas.List.{take_all}
use Rattle.mesh_types.specs.declared.mesh.TileMesh.{TileMesh}
use Rattle.random_place.specs.Spots.{open_cells_in, spot_count}
use Rattle.random_place.proofs.CountLaws.{counts_next, few_tiles, length-spots_of}
use Rattle.random_place.proofs.counts.count_spots.Goals as goal

pub overflow_add-count : goal.overflow_add-count
overflow_add-count c =
    let few = few_tiles c.args.mesh.now.setting c.requires.setting in
    let each = c.requires.sound.tiles.each in
    omega (arith, few, each, c.loop-tile.invariant.1, c.count_in_tile-count.ensures.bound, c.len-tile-end.ensures, c.loop-tile-test.true)

pub loop-tile-preserved : goal.loop-tile-preserved
loop-tile-preserved c = (
  counts_next (λ (tile : TileMesh). open_cells_in c.args.areas tile.storeys.list) c.args.mesh.now.tiles c.loop-tile.tile c.at.result.now c.loop-tile.count
      c.count_in_tile-count.result (omega (arith, c.len-tile-end.ensures, c.loop-tile-test.true)) c.at.ensures c.loop-tile.invariant.0
      (c.count_in_tile-count.ensures.value ∙ ap (λ (tile : TileMesh). open_cells_in c.args.areas tile.storeys.list) c.get.ensures),
  omega (arith, c.loop-tile.invariant.1, c.count_in_tile-count.ensures.bound),
)

pub returns-clause-value : goal.returns-clause-value
returns-clause-value c =
    c.loop-tile.invariant.0
    ∙ ap (spot_count c.args.areas) (take_all c.loop-tile.tile c.args.mesh.now.tiles (omega (arith, c.len-tile-end.ensures, c.loop-tile-test.false)))
    ∙ sym (length-spots_of c.args.mesh.now c.args.areas)

pub returns-clause-bound : goal.returns-clause-bound
returns-clause-bound c =
    let few = few_tiles c.args.mesh.now.setting c.requires.setting in
    let each = c.requires.sound.tiles.each in
    omega (arith, few, each, c.loop-tile.invariant.1, c.len-tile-end.ensures, c.loop-tile.auto.tile-end)
