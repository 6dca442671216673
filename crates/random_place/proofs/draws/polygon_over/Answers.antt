use Rattle.std.proofs.Common.{◌≡◌, below_more, sym, ap, ◌∙◌, arith}
use Rattle.std.specs.Prelude.{Some, slice_get}
use Rattle.std.specs.Option.{option_copied}
use Rattle.std.proofs.lemmas.Bool.{true≢false}
use Rattle.random_place.proofs.DrawLaws.{few_polygons, first_over, none_over}
use Rattle.random_place.proofs.draws.polygon_over.Goals as goal

pub overflow_cast-result : goal.overflow_cast-result
overflow_cast-result c =
    let mesh = c.args.mesh.now in
    let tile = c.get-tile.result.now in
    let there : slice_get mesh.tiles c.args.spot.now.tile ≡ Some tile = sym c.get.ensures ∙ ap option_copied c.in_ok-get.was ∙ ap Some (sym c.get-tile.ensures) in
    omega (arith, few_polygons mesh c.args.spot.now.tile tile c.requires.sound there, c.loop-index-test.true, c.len-index-end.ensures)

pub returns-then-is_over : goal.returns-then-is_over
returns-then-is_over c =
    let mesh = c.args.mesh.now in
    let tile = c.get-tile.result.now in
    let there : slice_get mesh.tiles c.args.spot.now.tile ≡ Some tile = sym c.get.ensures ∙ ap option_copied c.in_ok-get.was ∙ ap Some (sym c.get-tile.ensures) in
    first_over mesh c.args.spot.now tile there c.loop-index.index c.loop-index.invariant (c.is_over.ensures.0 c.if-is_over.true)

pub loop-index-preserved : goal.loop-index-preserved
loop-index-preserved c =
    below_more _ _ c.loop-index.invariant (λ over. let yes = c.is_over.ensures.1 over in true≢false (sym yes ∙ c.if-is_over.false))

pub returns : goal.returns
returns c =
    let mesh = c.args.mesh.now in
    let tile = c.get-tile.result.now in
    let there : slice_get mesh.tiles c.args.spot.now.tile ≡ Some tile = sym c.get.ensures ∙ ap option_copied c.in_ok-get.was ∙ ap Some (sym c.get-tile.ensures) in
    none_over mesh c.args.spot.now tile there c.loop-index.index (omega (arith, c.len-index-end.ensures, c.loop-index-test.false)) c.loop-index.invariant
