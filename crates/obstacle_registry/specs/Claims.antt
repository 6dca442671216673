-- What a call of a registry's level makes of the registry.
use Rattle.build_queue.specs.BookState.{BookState}
use Rattle.obstacle_registry.specs.Registry.{RegistryState}

-- a registry whose level has taken a step: the obstacles, their ids and the version are as they were
abbrev pub with_level : RegistryState → BookState → RegistryState
with_level state book' = record state { book = book' }
