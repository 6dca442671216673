-- The two products are what they say, and their bounds leave room.
use Rattle.std.proofs.Common.{◌-ℤ◌, ◌∙◌, ap₂, w64}
use Rattle.std.proofs.lemmas.Int.{to_z-of_z}
use Rattle.nav_base.specs.Point.{cross_of}
use Rattle.nav_base.proofs.Readings.{difference_fits, product_reads}
use Rattle.nav_base.proofs.orientation.Vector.cross.Goals as goal

pub overflow_sub-result : goal.overflow_sub-result
overflow_sub-result c = difference_fits c.product.result c.product-2.result c.product.ensures.small c.product-2.ensures.small

pub returns : goal.returns
unfolding cross_of
returns c =
    to_z-of_z w64 _ (overflow_sub-result c)
    ∙ ap₂ ◌-ℤ◌
    (product_reads c.product.result c.args.self.x c.args.other.z c.requires.first.across c.requires.second.along c.product.ensures.value)
    (product_reads c.product-2.result c.args.self.z c.args.other.x c.requires.first.along c.requires.second.across c.product-2.ensures.value)
