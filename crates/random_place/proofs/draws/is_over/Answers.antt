use Rattle.std.proofs.Common.{refl, sym, ◌∙◌, length}
use Rattle.std.proofs.lemmas.Bool.{true≢false}
use Rattle.std.proofs.lemmas.Option.{slice_get_read}
use Rattle.random_place.proofs.DrawLaws.{not_over, other_box, over_where}
use Rattle.random_place.proofs.draws.is_over.Goals as goal

pub returns-then-not-is_in_box : goal.returns-then-not-is_in_box
returns-then-not-is_in_box c =
    not_over _ refl
    (other_box c.args.tile.now c.args.index c.args.spot.now c.extent.result c.requires.polygons c.extent.ensures
    (λ inside. true≢false (sym (c.is_in_box.ensures inside) ∙ c.if-not-is_in_box.true)))

pub returns : goal.returns
returns c =
    let polygons = c.args.tile.now.polys in
    over_where c.args.tile.now c.args.index c.args.spot.now c.at.result c.middle.result c.holds.result (c.is_home.ensures.0 c.if-not-is_home.false)
    (slice_get_read polygons (length polygons) c.args.index c.at.result refl c.requires.there (c.at.ensures c.at.result)) c.middle.ensures.value c.holds.ensures
