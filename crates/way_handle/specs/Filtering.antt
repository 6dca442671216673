-- Filters over the border.
use Rattle.std.specs.Prelude.{ℕ, List, [], ◌∷◌, Option, Some, None}
use Rattle.path_queries.specs.declared.filters.Filter.{Filter}

-- the costs of a filter's own: those that the host hands over, and none where it hands over an empty array
abbrev pub own_costs : List ℕ → Option (List ℕ)
own_costs [] = None
own_costs (cost ∷ more) = Some (cost ∷ more)

abbrev pub filter_asked : ℕ → List ℕ → Filter
filter_asked areas costs = record { areas = areas; costs = own_costs costs }
