-- What reading an input gives.
use Rattle.std.specs.Prelude.{◌≡◌, Result, Ok, Err, ⊤}
use Rattle.nav_ground.specs.declared.setting.Setting.{Setting}
use Rattle.nav_ground.specs.declared.field.Field.{Field}
use Rattle.nav_script.specs.declared.script.Script.{Script}
use Rattle.top_call.specs.declared.answer.Input.{Input}
use Rattle.top_call.specs.declared.answer.InputRefusal.{InputRefusal}
use Rattle.top_call.specs.declared.answer.InputRefusal.TheVariants as refusals

-- it was read as this setting, field and script, unless memory ran out
abbrev pub IsReadAs : Setting → Field → Script → Result Input InputRefusal → Type 0
IsReadAs setting field script (Ok input) = (input.setting ≡ setting) × (input.field ≡ field) × (input.script ≡ script)
IsReadAs setting field script (Err (refusals.Fault fault)) = ⊥
IsReadAs setting field script (Err refusals.OutOfMemory) = ⊤
