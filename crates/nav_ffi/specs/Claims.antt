-- Jobs of a registry over the border: what is claimed of its level, handed in and put back is told as that of a level is (Jobs), and its obstacles stay.
use Rattle.std.specs.Prelude.{◌≡◌, Option, Some, None, IfSome, option_map}
use Rattle.build_queue.specs.BookState.{BookState}
use Rattle.obstacle_registry.specs.Claims.{with_level}
use Rattle.obstacle_registry.specs.Registry.{RegistryState}

-- the level of the registry that a handle holds
abbrev pub level_in : Option RegistryState → Option BookState
level_in = option_map (λ (state : RegistryState). state.book)

-- a handle holds what it held, but for the level: the obstacles, their ids and the version are the same
abbrev pub KeepsObstacles : Option RegistryState → Option RegistryState → Type 0
KeepsObstacles None after = after ≡ None
KeepsObstacles (Some before) after = IfSome after (λ (state : RegistryState). state ≡ with_level before state.book)
