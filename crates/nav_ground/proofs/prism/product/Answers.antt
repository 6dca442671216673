-- The absolute value of a product is the product of the absolute values.
use Rattle.std.proofs.Common.{◌^◌}
use Rattle.std.specs.Int.RustNames.{unsigned_abs}
use Rattle.std.proofs.lemmas.Int.{unsigned_abs-mul}
use Rattle.std.proofs.lemmas.Nat.{mul-le}
use Rattle.nav_base.proofs.Readings.{product_fits, product_is_read}
use Rattle.nav_ground.proofs.prism.product.Goals as goal

pub overflow_mul-result : goal.overflow_mul-result
overflow_mul-result c = product_fits c.args.m c.args.n c.requires.first c.requires.second

pub returns-clause-value : goal.returns-clause-value
returns-clause-value c = product_is_read c.args.m c.args.n c.requires.first c.requires.second

pub returns-clause-small : goal.returns-clause-small
returns-clause-small c =
    rw (returns-clause-value c) (rw (unsigned_abs-mul c.args.m c.args.n) (mul-le (unsigned_abs c.args.m) (unsigned_abs c.args.n) (2 ^ 17) (2 ^ 17) c.requires.first.near c.requires.second.near))
