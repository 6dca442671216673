use Rattle.std.proofs.Common.{sym, subst}
use Rattle.std.specs.Prelude.{Contains}
use Rattle.tests_base.specs.Rows.{ten_vertices}
use Rattle.tests_base.proofs.RowGraphs.{small-searchable, ten-contains}
use Rattle.tests_base.proofs.walks.within.Goals as goal

pub explore-requires-clause-searchable : goal.explore-requires-clause-searchable
explore-requires-clause-searchable c = small-searchable

pub explore-requires-clause-there : goal.explore-requires-clause-there
explore-requires-clause-there c = subst (Contains ten_vertices) (sym c.at-3.ensures) (ten-contains c.args.from c.requires)
