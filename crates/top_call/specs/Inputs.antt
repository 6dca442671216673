-- Inputs: a field text and a script text behind it, what their run may write, and what is wrong with a text that is no input.
use Rattle.std.specs.Prelude.{◌≡◌, ℕ, ◌+◌, ◌++◌, ◌⊎◌, List, length}
use Rattle.nav_ground.specs.declared.setting.Setting.{Setting}
use Rattle.nav_ground.specs.declared.field.Field.{Field}
use Rattle.nav_ground.specs.Limits.{IsSetting}
use Rattle.nav_ground.specs.Fields.{IsField}
use Rattle.nav_ground.specs.Grounds.{IsSized}
use Rattle.nav_book.specs.Openings.{ground_of}
use Rattle.nav_live.specs.LiveRecord.{LiveRecord}
use Rattle.nav_play.specs.PlayRecord.{IsPlayText}
use Rattle.nav_script.specs.declared.script.Script.{Script}
use Rattle.nav_script.specs.declared.script.Way.{Way}
use Rattle.nav_script.specs.declared.script.Way.TheVariants.{Play, Live}
use Rattle.nav_script.specs.Limits.{IsScript, IsScriptText}
use Rattle.nav_script.specs.Reading.{IsFirstFaultFrom}
use Rattle.nav_text.specs.declared.fault.TextFault.{TextFault}
use Rattle.nav_text.specs.Lines.{lines}
use Rattle.nav_text.specs.Reading.{IsFirstFault}
use Rattle.span_text.specs.FieldText.{IsFieldText}
use Rattle.span_text.specs.FieldFormat.{AtNav, field_format}

-- how many bytes an input may have
abbrev pub input_limit : ℕ
input_limit = 67108864

-- a field text stands at the front: that of a setting and a field within their limits
pub record BeginsWithField (input head tail : List ℕ) (setting : Setting) (field : Field) : Type 0 where
  pub parts : input ≡ head ++ tail
  pub spelled : IsFieldText head setting field
  pub setting_rules : IsSetting setting
  pub field_rules : IsField field

-- the input is in the grammar for a way to run it: a field text, and behind it the text of a script for this way
pub record IsInput (way : Way) (input : List ℕ) (setting : Setting) (field : Field) (script : Script) : Type 0 where
  pub head : List ℕ
  pub tail : List ℕ
  pub front : BeginsWithField input head tail setting field
  pub script_text : IsScriptText way tail script

-- the input is in the grammar for a way to run it, with some setting, field and script
pub record IsInputFor (way : Way) (input : List ℕ) : Type 0 where
  pub setting : Setting
  pub field : Field
  pub script : Script
  pub there : IsInput way input setting field script

-- a script can be run this way over a field of a setting: all three are within their limits, and the field has the size that the setting says
pub record IsRunnable (way : Way) (setting : Setting) (field : Field) (script : Script) : Type 0 where
  pub setting_rules : IsSetting setting
  pub field_rules : IsField field
  pub sized : IsSized setting field
  pub script_rules : IsScript way script

-- what a run of a script over a field may write: a play text where its lines are played, a live text where its lanes run
abbrev pub IsTextOf : Way → Setting → Field → Script → List ℕ → Type 0
IsTextOf Play setting field script text = IsPlayText setting field script text
IsTextOf Live setting field script text = LiveRecord (ground_of setting field) script text

-- a text of the input for a way to run it: one that its run may write
pub record IsRunText (way : Way) (input text : List ℕ) : Type 0 where
  pub fits : IsInputFor way input
  pub written : IsTextOf way fits.setting fits.field fits.script text

-- the input begins with a field text, and what is behind it is no script for this way: the fault is that of the first line there that fails
pub record IsScriptFault (way : Way) (input : List ℕ) (fault : TextFault) : Type 0 where
  pub head : List ℕ
  pub tail : List ℕ
  pub setting : Setting
  pub field : Field
  pub front : BeginsWithField input head tail setting field
  pub fails : IsFirstFaultFrom way (length (lines head) + 1) tail fault

-- what is wrong with an input that is to be run this way
abbrev pub IsFault : Way → List ℕ → TextFault → Type 0
IsFault way input fault = IsFirstFault field_format AtNav 0 (lines input) fault ⊎ IsScriptFault way input fault
