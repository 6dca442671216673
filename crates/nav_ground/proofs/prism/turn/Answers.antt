-- The two products are what they say, and their bounds leave room.
use Rattle.std.proofs.Common.{◌-ℤ◌, ◌*ℤ◌, ◌∙◌, ap₂, w64}
use Rattle.std.proofs.lemmas.Int.{to_z-of_z}
use Rattle.nav_base.specs.Point.{cross_of, orient_of}
use Rattle.nav_base.proofs.Readings.{difference_fits, product_reads}
use Rattle.nav_ground.proofs.BoxLaws.{near_read}
use Rattle.nav_ground.proofs.prism.turn.Goals as goal

pub overflow_sub-result : goal.overflow_sub-result
overflow_sub-result c = difference_fits c.product.result c.product-2.result c.product.ensures.small c.product-2.ensures.small

pub returns : goal.returns
unfolding cross_of orient_of
returns c =
    let a = c.requires.first in
    let b = c.requires.second in
    let third = c.requires.third in
    let ax = near_read c.args.a.x a.left a.right in
    let az = near_read c.args.a.z a.bottom a.top in
    let bx = near_read c.args.b.x b.left b.right in
    let bz = near_read c.args.b.z b.bottom b.top in
    let cx = near_read c.args.c.x third.left third.right in
    let cz = near_read c.args.c.z third.bottom third.top in
    to_z-of_z w64 _ (overflow_sub-result c)
    ∙ ap₂ ◌-ℤ◌
    (product_reads c.product.result c.difference.result c.difference-2.result c.difference.ensures.reach c.difference-2.ensures.reach c.product.ensures.value
    ∙ ap₂ ◌*ℤ◌ (c.difference.ensures.value ∙ ap₂ ◌-ℤ◌ bx ax) (c.difference-2.ensures.value ∙ ap₂ ◌-ℤ◌ cz az))
    (product_reads c.product-2.result c.difference-3.result c.difference-4.result c.difference-3.ensures.reach c.difference-4.ensures.reach c.product-2.ensures.value
    ∙ ap₂ ◌*ℤ◌ (c.difference-3.ensures.value ∙ ap₂ ◌-ℤ◌ bz az) (c.difference-4.ensures.value ∙ ap₂ ◌-ℤ◌ cx ax))
