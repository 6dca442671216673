-- The made input: the spelling of the made level and, behind it, that of the made script.
use Rattle.std.specs.Prelude.{ℕ, List, [], ◌++◌}
use Rattle.nav_ground.specs.Limits.{IsSetting}
use Rattle.nav_ground.specs.Fields.{IsField}
use Rattle.nav_text.specs.Lines.{text_of}
use Rattle.span_text.specs.declared.front.TextForm.TheVariants.{First}
use Rattle.span_text.specs.FieldText.{field_lines, IsFieldText}
use Rattle.nav_script.specs.declared.script.Way.TheVariants.{Play}
use Rattle.nav_script.specs.Spelling.{script_text}
use Rattle.nav_script.specs.Limits.{IsScriptText}
use Rattle.nav_gen.specs.MadeField.{made_setting, made_spans, made_field}
use Rattle.nav_gen.specs.MadeScript.{made_script}

-- the field text, of the first form: the setting's lines, no costs, and a line for each span
unfoldable pub made_field_text : (number size : ℕ) → List ℕ
made_field_text number size = text_of (field_lines First (made_setting size) [] (made_spans number size))

-- the script text
unfoldable pub made_script_text : (number size : ℕ) → List ℕ
made_script_text number size = script_text (made_script number size)

-- the whole text
abbrev pub made_text : (number size : ℕ) → List ℕ
made_text number size = made_field_text number size ++ made_script_text number size

-- the made input is in the grammar: the text of a setting and a field within their limits, and behind it the text of a script to be played
pub record IsMadeInput (number size : ℕ) : Type 0 where
  pub setting : IsSetting (made_setting size)
  pub field : IsField (made_field number size)
  pub field_text : IsFieldText (made_field_text number size) (made_setting size) (made_field number size)
  pub script_text : IsScriptText Play (made_script_text number size) (made_script number size)
