-- Rows over the border: what is told of the obstacles of a registry.
use Rattle.std.specs.Prelude.{ℕ, ◌==◌, if◌then◌else◌, List, map, Option, Some, None}
use Rattle.nav_handle.specs.Answers.{EndsSo}
use Rattle.nav_handle.specs.Looking.{IsListed}
use Rattle.nav_handle.specs.Statuses as status
use Rattle.obstacle_registry.specs.Registry.{RegistryState}
use Rattle.obstacle_registry.specs.declared.row.Registered.{Registered}
use Rattle.registry_handle.specs.Solids.{solid_told}
use Rattle.registry_handle.specs.declared.rows.NavdRow.{NavdRow}

-- an obstacle is on where it has the number of an entry
abbrev pub row_told : Registered → NavdRow
row_told row = record { id = row.id; user = row.user; enabled = if row.number == 0 then 0 else 1; solid = solid_told row.shape }

-- rows were asked for: they are told as far as there is room, with how many there are; where there is no registry, nothing is told
abbrev pub AreRows : Option RegistryState → ℕ × List NavdRow → ℕ × List NavdRow → ℕ → Type 0
AreRows None before after ended = EndsSo status.empty before after ended
AreRows (Some state) before after ended = IsListed (Some (map row_told state.rows)) before after ended
