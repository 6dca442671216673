use Rattle.path_queries.proofs.SearchCosts.{AreSearchBefore}
use Rattle.path_queries.proofs.filters.search_costs.Given as goal

-- the costs of the areas so far are those of a search
abbrev pub invariant-loop-area : goal.invariant-loop-area
invariant-loop-area l = AreSearchBefore l.areas l.costs l.area l.search
