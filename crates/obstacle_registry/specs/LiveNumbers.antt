-- What the fields of a level with its alive obstacles at hand keep at every moment.
use Rattle.std.specs.Prelude.{◌≡◌, ◌≤◌, length, vec_capacity}
use Rattle.build_queue.specs.BookState.{BookState, IsBook}
use Rattle.obstacle_registry.specs.declared.live.LiveLevel.TheInside.{Inside}
use Rattle.obstacle_registry.specs.Registry.{alive_now}

-- it is seen as the level
abbrev pub level_of : Inside → BookState
level_of inside = inside.level.value

-- the numbers are those of the obstacles that are alive, of which there are no more than may be, and there is room for as many
pub record AreAtHand (inside : Inside) : Type 0 where
  pub rules : IsBook inside.level.value
  pub numbers : inside.numbers.items ≡ alive_now inside.level.value
  pub few : length inside.numbers.items ≤ inside.level.value.ground.setting.limit
  pub room : inside.level.value.ground.setting.limit ≤ vec_capacity inside.numbers
