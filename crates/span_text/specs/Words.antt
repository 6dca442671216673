-- Words: short names for parts of definitions, for contracts inside and for proofs. Each is the same as the text that the definitions say in full.
use Rattle.std.specs.Prelude.{ℕ, List}
use Rattle.nav_ground.specs.declared.setting.Agent.{Agent}
use Rattle.nav_ground.specs.declared.setting.Setting.{Setting}
use Rattle.nav_ground.specs.declared.field.Span.{Span}
use Rattle.nav_ground.specs.declared.field.Field.{Field}

-- an agent of these numbers
abbrev pub agent_with : ℕ → ℕ → ℕ → Agent
agent_with height climb radius = record { height = height; climb = climb; radius = radius }

-- a field with the columns of a setting
abbrev pub field_with : Setting → List Span → Field
field_with setting spans = record { width = setting.width; depth = setting.depth; spans = spans }
