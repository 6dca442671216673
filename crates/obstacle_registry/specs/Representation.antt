-- What the fields of a registry keep at every moment.
use Rattle.obstacle_registry.specs.declared.registry.Registry.TheInside.{Inside}
use Rattle.obstacle_registry.specs.Registry.{RegistryState, IsRegistry}

-- what a registry is seen as
abbrev pub state_of : Inside → RegistryState
state_of inside = record { book = inside.level; rows = inside.rows.items; last = inside.last; version = inside.version }

abbrev pub IsKept : Inside → Type 0
IsKept inside = IsRegistry (state_of inside)
