use Rattle.fine_walk.proofs.Readings.{product_fits, product_is_read, product_bound}
use Rattle.fine_walk.proofs.fine_points.product.Goals as goal

pub overflow_mul-result : goal.overflow_mul-result
overflow_mul-result c = product_fits c.args.m c.args.n c.requires.first c.requires.second

pub returns-clause-value : goal.returns-clause-value
returns-clause-value c = product_is_read c.args.m c.args.n c.requires.first c.requires.second

pub returns-clause-small : goal.returns-clause-small
returns-clause-small c = rw (returns-clause-value c) (product_bound c.args.m c.args.n c.requires.first c.requires.second)
