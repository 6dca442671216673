use Rattle.std.proofs.Common.{sym, subst}
use Rattle.std.specs.Prelude.{Contains}
use Rattle.tests_base.specs.Rows.{ten_vertices}
use Rattle.tests_base.proofs.RowGraphs.{small-searchable, ten-contains}
use Rattle.tests_base.proofs.walks.cheapest.Goals as goal

pub cheapest_walk-requires-clause-searchable : goal.cheapest_walk-requires-clause-searchable
cheapest_walk-requires-clause-searchable c = small-searchable

pub cheapest_walk-requires-clause-there : goal.cheapest_walk-requires-clause-there
cheapest_walk-requires-clause-there c = subst (Contains ten_vertices) (sym c.at.ensures) (ten-contains c.args.from c.requires)
