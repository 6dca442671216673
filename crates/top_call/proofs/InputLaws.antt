-- A whole input from the contracts of the two readers.
use Rattle.std.proofs.Common.{◌≡◌, ℕ, ◌+◌, ◌≤◌, Bool, true, false, cond, ◌==◌, List, [], ◌∷◌, ◌++◌, length, take, drop, ap, ◌∙◌, sym, subst, refl, arith}
use Rattle.std.specs.Prelude.{Result, Ok, Err}
use Rattle.std.proofs.lemmas.List.{take-append-drop, drop_at}
use Rattle.nav_ground.specs.declared.setting.Setting.{Setting}
use Rattle.nav_ground.specs.declared.field.Field.{Field}
use Rattle.nav_ground.specs.Limits.{IsSetting}
use Rattle.nav_ground.specs.Fields.{IsField}
use Rattle.nav_script.specs.declared.script.Script.{Script}
use Rattle.nav_script.specs.declared.script.ScriptRefusal.{ScriptRefusal}
use Rattle.nav_script.specs.declared.script.ScriptRefusal.TheVariants as script_refusals
use Rattle.nav_script.specs.declared.script.Way.{Way}
use Rattle.nav_script.specs.Limits.{IsScriptText}
use Rattle.nav_script.specs.Reading.{IsFirstFaultFrom}
use Rattle.nav_script.specs.Reading as script_reading
use Rattle.nav_text.specs.declared.fault.TextFault.{TextFault}
use Rattle.nav_text.specs.Lines.{lines, onto_line}
use Rattle.span_text.specs.declared.field.FieldText.{FieldText}
use Rattle.span_text.specs.declared.field.FieldRefusal.{FieldRefusal}
use Rattle.span_text.specs.declared.field.FieldRefusal.TheVariants as field_refusals
use Rattle.span_text.specs.FieldText.{IsFieldText}
use Rattle.span_text.specs.Outcome as field_reading
use Rattle.top_call.specs.declared.answer.Input.{Input}
use Rattle.top_call.specs.declared.answer.InputRefusal.{InputRefusal}
use Rattle.top_call.specs.declared.answer.InputRefusal.TheVariants as input_refusals
use Rattle.top_call.specs.Inputs.{BeginsWithField, IsInput, IsRunnable, IsScriptFault}

-- the field reader reads the text of a setting and a field as these; the script reader the text of a script as that
abbrev pub ReadsField : List ℕ → Result FieldText FieldRefusal → Type 0
ReadsField bytes result = (setting : Setting) (field : Field) (text rest : List ℕ)
    → IsSetting setting → IsField field → IsFieldText text setting field
    → bytes ≡ text ++ rest → field_reading.Gives setting field (length text) result

abbrev pub ReadsScript : Way → List ℕ → Result Script ScriptRefusal → Type 0
ReadsScript way bytes result = (script : Script) → IsScriptText way bytes script → script_reading.Gives script result

-- two faults of inputs that are the same refusal are the same
pub same_fault : (x y : TextFault)
    → ◌≡◌ {A = Result Input InputRefusal} (Err (input_refusals.Fault x)) (Err (input_refusals.Fault y)) → x ≡ y
same_fault x y e = cc

-- what the field reader gives of an input
given : (way : Way) (bytes : List ℕ) (result : Result FieldText FieldRefusal) → ReadsField bytes result
    → (setting : Setting) (field : Field) (script : Script) (there : IsInput way bytes setting field script)
    → field_reading.Gives setting field (length there.head) result
given way bytes result reads setting field script there =
    reads setting field there.head there.tail there.front.setting_rules there.front.field_rules there.front.spelled there.front.parts

-- an input has no fault in its field text
pub no_field_fault : (way : Way) (bytes : List ℕ) (result : Result FieldText FieldRefusal) (fault : TextFault) → ReadsField bytes result
    → result ≡ Err (field_refusals.Fault fault)
    → (setting : Setting) (field : Field) (script : Script) → IsInput way bytes setting field script → ⊥
no_field_fault way bytes result fault reads is setting field script there =
    let P : Result FieldText FieldRefusal → Type 0 = λ r. field_reading.Gives setting field (length there.head) r in
    subst P is (given way bytes result reads setting field script there)

-- the setting and the field of an input are those that were read, and the script text is what is behind the bytes used
pub read_parts : (way : Way) (bytes : List ℕ) (result : Result FieldText FieldRefusal) (text : FieldText) → ReadsField bytes result
    → result ≡ Ok text
    → (setting : Setting) (field : Field) (script : Script) → IsInput way bytes setting field script
    → (text.setting ≡ setting) × (text.field ≡ field) × IsScriptText way (drop text.used bytes) script
read_parts way bytes result text reads is setting field script there =
    let P : Result FieldText FieldRefusal → Type 0 = λ r. field_reading.Gives setting field (length there.head) r in
    let parts = subst P is (given way bytes result reads setting field script there) in
    let behind : drop text.used bytes ≡ there.tail =
    ap (λ n. drop n bytes) parts.2 ∙ ap (λ xs. drop (length there.head) xs) there.front.parts ∙ drop_at there.head there.tail _ refl in
    let S : List ℕ → Type 0 = λ xs. IsScriptText way xs script in
    (parts.0, parts.1, subst S (sym behind) there.script_text)

-- an input has no fault in its script text
pub no_script_fault : (way : Way) (bytes behind : List ℕ) (result : Result FieldText FieldRefusal) (text : FieldText)
    (read : Result Script ScriptRefusal) (fault : TextFault)
    → ReadsField bytes result → result ≡ Ok text → behind ≡ drop text.used bytes
    → ReadsScript way behind read → read ≡ Err (script_refusals.Fault fault)
    → (setting : Setting) (field : Field) (script : Script) → IsInput way bytes setting field script → ⊥
no_script_fault way bytes behind result text read fault reads is rest scripts faulty setting field script there =
    let parts = read_parts way bytes result text reads is setting field script there in
    let S : List ℕ → Type 0 = λ xs. IsScriptText way xs script in
    let P : Result Script ScriptRefusal → Type 0 = λ r. script_reading.Gives script r in
    subst P faulty (scripts script (subst S (sym rest) parts.2))

-- what was read is what the input says
pub same_parts : (way : Way) (bytes behind : List ℕ) (result : Result FieldText FieldRefusal) (text : FieldText)
    (read : Result Script ScriptRefusal) (found : Script)
    → ReadsField bytes result → result ≡ Ok text → behind ≡ drop text.used bytes
    → ReadsScript way behind read → read ≡ Ok found
    → (setting : Setting) (field : Field) (script : Script) → IsInput way bytes setting field script
    → (text.setting ≡ setting) × (text.field ≡ field) × (found ≡ script)
same_parts way bytes behind result text read found reads is rest scripts good setting field script there =
    let parts = read_parts way bytes result text reads is setting field script there in
    let S : List ℕ → Type 0 = λ xs. IsScriptText way xs script in
    let P : Result Script ScriptRefusal → Type 0 = λ r. script_reading.Gives script r in
    (parts.0, parts.1, subst P good (scripts script (subst S (sym rest) parts.2)))

-- the field text that was read stands at the front
pub front_of : (bytes behind : List ℕ) (text : FieldText) → IsSetting text.setting → IsField text.field
    → IsFieldText (take text.used bytes) text.setting text.field → behind ≡ drop text.used bytes
    → BeginsWithField bytes (take text.used bytes) behind text.setting text.field
front_of bytes behind text setting field spelled rest = record {
  parts = sym (take-append-drop text.used bytes) ∙ ap (λ xs. take text.used bytes ++ xs) (sym rest);
  spelled = spelled;
  setting_rules = setting;
  field_rules = field;
}

-- what was read is an input
pub input_of : (way : Way) (bytes behind : List ℕ) (text : FieldText) (script : Script) → IsSetting text.setting → IsField text.field
    → IsFieldText (take text.used bytes) text.setting text.field → behind ≡ drop text.used bytes
    → IsScriptText way behind script
    → IsInput way bytes text.setting text.field script
input_of way bytes behind text script setting field spelled rest scripted = record {
  head = take text.used bytes;
  tail = behind;
  front = front_of bytes behind text setting field spelled rest;
  script_text = scripted;
}

-- what an input says can be run
pub runnable_of : (way : Way) (bytes : List ℕ) (setting : Setting) (field : Field) (script : Script) → IsInput way bytes setting field script
    → IsRunnable way setting field script
runnable_of way bytes setting field script there = record {
  setting_rules = there.front.setting_rules;
  field_rules = there.front.field_rules;
  sized = record { width = there.front.spelled.width; depth = there.front.spelled.depth };
  script_rules = there.script_text.1;
}

-- a fault of the script text is one of the input
pub script_fault_of : (way : Way) (bytes behind : List ℕ) (text : FieldText) (first : ℕ) (fault : TextFault) → IsSetting text.setting → IsField text.field
    → IsFieldText (take text.used bytes) text.setting text.field → behind ≡ drop text.used bytes
    → first ≡ length (lines (take text.used bytes)) + 1
    → IsFirstFaultFrom way first behind fault
    → IsScriptFault way bytes fault
script_fault_of way bytes behind text first fault setting field spelled rest counted fails =
    let P : ℕ → Type 0 = λ n. IsFirstFaultFrom way n behind fault in
    record {
      head = take text.used bytes;
      tail = behind;
      setting = text.setting;
      field = text.field;
      front = front_of bytes behind text setting field spelled rest;
      fails = subst P counted fails;
    }

-- a text has no more lines than bytes
onto_line_few : (c n : ℕ) (those : List (List ℕ)) → length those ≤ n → length (onto_line c those) ≤ n + 1
onto_line_few c n [] few = omega arith
onto_line_few c n (line ∷ more) few = omega (arith, few)

pub lines_few : (bytes : List ℕ) → length (lines bytes) ≤ length bytes
lines_few [] = omega arith
lines_few (c ∷ bytes) = let few = lines_step c bytes (c == 10) (lines_few bytes) in omega (arith, few)
  where
    lines_step : (c : ℕ) (bytes : List ℕ) (b : Bool) → length (lines bytes) ≤ length bytes
        → length (cond b ([] ∷ lines bytes) (onto_line c (lines bytes))) ≤ length bytes + 1
    lines_step c bytes true few = omega (arith, few)
    lines_step c bytes false few = onto_line_few c (length bytes) (lines bytes) few
