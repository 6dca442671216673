-- What a handle holds once a level was opened in it.
use Rattle.std.specs.Prelude.{◌≡◌, ℕ, ◌++◌, List, Option, Some}
use Rattle.nav_ground.specs.declared.field.Field.{Field}
use Rattle.nav_ground.specs.declared.setting.Setting.{Setting}
use Rattle.nav_ground.specs.Fields.{IsField}
use Rattle.nav_ground.specs.Limits.{IsSetting}
use Rattle.nav_text.specs.declared.fault.TextFault.{TextFault}
use Rattle.span_text.specs.FieldText.{IsFieldText}
use Rattle.build_queue.specs.BookState.{BookState, first_state}
use Rattle.nav_book.specs.Openings.{ground_of}
use Rattle.nav_handle.specs.declared.wire.NavdFault.{NavdFault}

-- bytes begin with the field text of a setting and a field
pub record BeginsWith (bytes : List ℕ) (setting : Setting) (field : Field) : Type 0 where
  pub text : List ℕ
  pub rest : List ℕ
  pub parts : bytes ≡ text ++ rest
  pub spelled : IsFieldText text setting field
  pub setting_rules : IsSetting setting
  pub field_rules : IsField field

-- a handle holds the first state of a level whose field text stands at the front of the bytes
pub record HoldsOpened (bytes : List ℕ) (held : Option BookState) : Type 0 where
  pub setting : Setting
  pub field : Field
  pub begins : BeginsWith bytes setting field
  pub is : held ≡ Some (first_state (ground_of setting field))

-- the fault that was told
abbrev pub fault_of : NavdFault → TextFault
fault_of fault = record { line = fault.line; kind = fault.kind }
