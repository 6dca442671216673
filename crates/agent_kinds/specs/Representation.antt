-- What the fields of kinds keep at every moment.
use Rattle.std.specs.Prelude.{List}
use Rattle.build_queue.specs.BookState.{BookState}
use Rattle.agent_kinds.specs.declared.kinds.Kinds.TheInside.{Inside}
use Rattle.agent_kinds.specs.KindGrounds.{AreOver}
use Rattle.agent_kinds.specs.Kinds.{AreKinds}

-- what kinds are seen as: the states of their levels
abbrev pub states_of : Inside → List BookState
states_of inside = inside.levels.items

-- they are kinds over the field that is kept
pub record IsKept (inside : Inside) : Type 0 where
  pub kinds : AreKinds (states_of inside)
  pub over : AreOver inside.field (states_of inside)
