use Rattle.crowd_moves.proofs.Readings.{product_fits, product_is_read}
use Rattle.crowd_moves.proofs.beyond.product.Goals as goal

pub overflow_mul-result : goal.overflow_mul-result
overflow_mul-result c = product_fits c.args.m c.args.n c.requires.first c.requires.second

pub returns : goal.returns
returns c = product_is_read c.args.m c.args.n c.requires.first c.requires.second
