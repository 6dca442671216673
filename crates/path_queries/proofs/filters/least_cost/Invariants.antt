use Rattle.path_queries.proofs.SearchCosts.{IsLeastBefore}
use Rattle.path_queries.proofs.filters.least_cost.Given as goal

-- the least cost of the open areas so far
abbrev pub invariant-loop-area : goal.invariant-loop-area
invariant-loop-area l = IsLeastBefore l.areas l.costs l.area l.least
