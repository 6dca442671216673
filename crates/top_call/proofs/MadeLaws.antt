-- Made inputs are played as inputs that were read.
use Rattle.std.proofs.Common.{◌≡◌, ℕ, ◌≤◌, List, length, subst, sym, refl}
use Rattle.nav_gen.specs.MadeField.{made_setting, made_field}
use Rattle.nav_gen.specs.MadeScript.{made_script}
use Rattle.nav_gen.specs.MadeText.{IsMadeInput, made_text, made_field_text, made_script_text}
use Rattle.nav_gen.specs.Summary.{summary_text}
use Rattle.nav_ground.specs.declared.field.Field.{Field}
use Rattle.nav_ground.specs.declared.setting.Setting.{Setting}
use Rattle.nav_play.specs.PlayTotals.{AreTotals}
use Rattle.nav_play.specs.Work.{builds_of}
use Rattle.nav_record.specs.declared.step.Totals.{Totals}
use Rattle.nav_script.specs.declared.script.Script.{Script}
use Rattle.nav_script.specs.declared.script.Way.TheVariants.{Play}
use Rattle.nav_base.specs.Counts.{HasRisenAtMost}
use Rattle.nav_text.specs.Lines.{lines}
use Rattle.top_call.specs.Inputs.{IsInput, IsInputFor, input_limit}
use Rattle.top_call.specs.Made.{IsMadeSummary, made_builds}

-- a made input is an input
pub made_is_input : (number size : ℕ) → IsMadeInput number size
    → IsInput Play (made_text number size) (made_setting size) (made_field number size) (made_script number size)
made_is_input number size made = record {
  head = made_field_text number size;
  tail = made_script_text number size;
  front = record { parts = refl; spelled = made.field_text; setting_rules = made.setting; field_rules = made.field };
  script_text = made.script_text;
}

-- bytes that are a made input can be played, and are short enough
pub made_play : (number size : ℕ) (bytes : List ℕ) → IsMadeInput number size → bytes ≡ made_text number size → IsInputFor Play bytes
made_play number size bytes made is = subst (λ xs. IsInputFor Play xs) (sym is) (record {
  setting = made_setting size;
  field = made_field number size;
  script = made_script number size;
  there = made_is_input number size made;
})

pub made_short : (number size : ℕ) (bytes : List ℕ) → length (made_text number size) ≤ 67108864 → bytes ≡ made_text number size
    → length bytes ≤ input_limit
made_short number size bytes short is = let P : List ℕ → Type 0 = λ xs. length xs ≤ input_limit in subst P (sym is) short

-- whatever these bytes are an input of is this setting, field and script
abbrev pub AreReadAs : List ℕ → Setting → Field → Script → Type 0
AreReadAs bytes setting field script = (set : Setting) (level : Field) (lines : Script) → IsInput Play bytes set level lines
    → (setting ≡ set) × (field ≡ level) × (script ≡ lines)

-- a made input that was read is the setting, the field and the script that it was made of
made_parts : (number size : ℕ) (bytes : List ℕ) (setting : Setting) (field : Field) (script : Script) → IsMadeInput number size
    → bytes ≡ made_text number size → AreReadAs bytes setting field script
    → (setting ≡ made_setting size) × (field ≡ made_field number size) × (script ≡ made_script number size)
made_parts number size bytes setting field script made is reads =
    let P : List ℕ → Type 0 = λ xs. IsInput Play xs (made_setting size) (made_field number size) (made_script number size) in
    reads (made_setting size) (made_field number size) (made_script number size) (subst P (sym is) (made_is_input number size made))

-- totals of a play, which has no others
abbrev pub AreAllTotals : Setting → Field → Script → Totals → Type 0
AreAllTotals setting field script totals =
    AreTotals setting field script totals × ((other : Totals) → AreTotals setting field script other → other ≡ totals)

-- the totals of the play of what was read, in a summary with its lengths, make the summary of the made input
pub summary_of : (number size : ℕ) (bytes : List ℕ) (setting : Setting) (field : Field) (script : Script) (totals : Totals)
    (count line_count : ℕ) (text : List ℕ) → IsMadeInput number size
    → bytes ≡ made_text number size → AreReadAs bytes setting field script → AreAllTotals setting field script totals
    → count ≡ length (made_text number size) → line_count ≡ length (lines (made_text number size)) → text ≡ summary_text number size count line_count totals
    → IsMadeSummary number size text
summary_of number size bytes setting field script totals count line_count text made is reads come counted lined spelled =
    let parts = made_parts number size bytes setting field script made is reads in
    let S : Setting → Type 0 = λ x. AreAllTotals x field script totals in
    let F : Field → Type 0 = λ x. AreAllTotals (made_setting size) x script totals in
    let L : Script → Type 0 = λ x. AreAllTotals (made_setting size) (made_field number size) x totals in
    let B : ℕ → ℕ → Type 0 = λ n m. text ≡ summary_text number size n m totals in
    let all = subst L parts.2 (subst F parts.1 (subst S parts.0 come)) in
    record {
      totals = totals;
      come = all.0;
      only = all.1;
      spelled = subst (λ m. B (length (made_text number size)) m) lined (subst (λ n. B n line_count) counted spelled);
    }

-- the steps of the play of what was read are those of the made input's play
pub steps_of : (number size : ℕ) (bytes : List ℕ) (setting : Setting) (field : Field) (script : Script) (before after : ℕ)
    → IsMadeInput number size → bytes ≡ made_text number size → AreReadAs bytes setting field script
    → HasRisenAtMost (builds_of setting field script) before after → HasRisenAtMost (made_builds number size) before after
steps_of number size bytes setting field script before after made is reads risen =
    let parts = made_parts number size bytes setting field script made is reads in
    let S : Setting → Type 0 = λ x. HasRisenAtMost (builds_of x field script) before after in
    let F : Field → Type 0 = λ x. HasRisenAtMost (builds_of (made_setting size) x script) before after in
    let L : Script → Type 0 = λ x. HasRisenAtMost (builds_of (made_setting size) (made_field number size) x) before after in
    subst L parts.2 (subst F parts.1 (subst S parts.0 risen))
