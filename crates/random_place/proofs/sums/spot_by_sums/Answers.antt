use Rattle.std.proofs.Common.{◌≡◌, ℕ, ◌-◌, ◌<◌, suc, List, length, sym, ap, subst, ◌∙◌, arith}
use Rattle.std.specs.Prelude.{slice_get}
use Rattle.std.proofs.lemmas.Bool.{leb-false}
use Rattle.mesh_types.specs.declared.mesh.TileMesh.{TileMesh}
use Rattle.random_place.specs.Spots.{tile_spots}
use Rattle.random_place.specs.Sums.{IsRising, sum_of_first}
use Rattle.random_place.proofs.SumLaws.{first_up_to, none_past, rise, spot_in}
use Rattle.random_place.proofs.sums.spot_by_sums.Goals as goal

pub tiles_up_to-tile-requires : goal.tiles_up_to-tile-requires
tiles_up_to-tile-requires c = subst IsRising (sym c.as_slice-ends.ensures) (rise c.args.mesh.now c.args.sums.now c.requires.sums)

pub returns-then-tile-ends-clause-value : goal.returns-then-tile-ends-clause-value
returns-then-tile-ends-clause-value c =
    let ends = c.as_slice-ends.result.now in
    let up_to = first_up_to ends c.args.number c.tiles_up_to-tile.result c.tiles_up_to-tile.ensures.point.0 in
    let all = ap (λ (xs : List ℕ). sum_of_first xs (length xs)) c.as_slice-ends.ensures in
    sym
    (none_past c.args.mesh.now c.args.sums.now c.requires.sums c.args.number (omega (arith, up_to (length ends) c.if-tile-ends.true, all)))

pub returns-clause-value : goal.returns-clause-value
returns-clause-value c =
    let sums = c.args.sums.now in
    let tile = c.tiles_up_to-tile.result in
    let here = c.at.result.now in
    let point = c.tiles_up_to-tile.ensures.point in
    let first : c.sum_of_first.result ≡ sum_of_first sums.ends tile = c.sum_of_first.ensures ∙ ap (λ (ends : List ℕ). sum_of_first ends tile) c.as_slice-ends.ensures in
    let there : tile < length c.as_slice-ends.result.now = omega (arith, c.if-tile-ends.false) in
    let most = leb-false _ _ (point.1 tile 0 (omega arith) there) in
    let least = first_up_to c.as_slice-ends.result.now c.args.number tile point.0 tile (omega arith) in
    c.spot_in_tile.ensures.value
    ∙ ap (λ (one : TileMesh). slice_get (tile_spots sums.areas tile one.storeys.list) (c.args.number - c.sum_of_first.result)) c.get.ensures
    ∙ ap (λ n. slice_get (tile_spots sums.areas tile here.storeys.list) (c.args.number - n)) first
    ∙ spot_in c.args.mesh.now sums c.requires.sums tile here c.args.number
    (omega (arith, there, ap (λ (ends : List ℕ). length ends) c.as_slice-ends.ensures, c.requires.sums.each)) c.at.ensures
    (omega (arith, least, c.sum_of_first.ensures, first)) (omega (arith, most, ap (λ (ends : List ℕ). sum_of_first ends (suc tile)) c.as_slice-ends.ensures))
