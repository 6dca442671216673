use Rattle.std.proofs.Common.{◌≡◌, ℕ, sym, ap, ◌∙◌, arith}
use Rattle.std.specs.Prelude.{slice_get}
use Rattle.mesh_types.specs.declared.mesh.TileMesh.{TileMesh}
use Rattle.random_place.specs.Spots.{open_cells_in, tile_spots}
use Rattle.random_place.proofs.CountLaws.{length-tile_spots}
use Rattle.random_place.proofs.Numbered.{in_this, past_this}
use Rattle.random_place.proofs.SpotLaws.{all_tiles}
use Rattle.random_place.proofs.spots.spot_at.Goals as goal

pub loop-tile-init : goal.loop-tile-init
loop-tile-init c = ap (λ all. slice_get all c.args.number) (all_tiles c.args.mesh.now c.args.areas)

pub returns-then-left-count-clause-value : goal.returns-then-left-count-clause-value
returns-then-left-count-clause-value c =
    let areas = c.args.areas in
    let i = c.loop-tile.tile in
    let left = c.loop-tile.left in
    let here = c.at.result.now in
    let counted : c.count_in_tile-count.result ≡ open_cells_in areas here.storeys.list =
    c.count_in_tile-count.ensures.value ∙ ap (λ (tile : TileMesh). open_cells_in areas tile.storeys.list) c.get.ensures in
    c.spot_in_tile.ensures.value
    ∙ ap (λ (tile : TileMesh). slice_get (tile_spots areas i tile.storeys.list) left) c.get.ensures
    ∙ sym (in_this (λ (tile : ℕ × TileMesh). tile_spots areas tile.0 tile.1.storeys.list) i i c.args.mesh.now.tiles here left c.count_in_tile-count.result
    (omega (arith, c.len-tile-end.ensures, c.loop-tile-test.true)) c.at.ensures (length-tile_spots areas i here.storeys.list ∙ sym counted) c.if-left-count.true)
    ∙ c.loop-tile.invariant

pub loop-tile-preserved : goal.loop-tile-preserved
loop-tile-preserved c =
    let areas = c.args.areas in
    let i = c.loop-tile.tile in
    let here = c.at.result.now in
    let counted : c.count_in_tile-count.result ≡ open_cells_in areas here.storeys.list =
    c.count_in_tile-count.ensures.value ∙ ap (λ (tile : TileMesh). open_cells_in areas tile.storeys.list) c.get.ensures in
    sym (past_this (λ (tile : ℕ × TileMesh). tile_spots areas tile.0 tile.1.storeys.list) i i c.args.mesh.now.tiles here c.loop-tile.left
    c.count_in_tile-count.result (omega (arith, c.len-tile-end.ensures, c.loop-tile-test.true)) c.at.ensures
    (length-tile_spots areas i here.storeys.list ∙ sym counted) c.if-left-count.false)
    ∙ c.loop-tile.invariant
