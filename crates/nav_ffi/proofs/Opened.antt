-- What a handle holds once a field text was read and its level put in.
use Rattle.std.proofs.Common.{◌≡◌, ◌∙◌, sym, ap, subst, ℕ, List, Option, Some, Err, take, drop}
use Rattle.std.proofs.lemmas.List.{take-append-drop}
use Rattle.nav_ground.specs.declared.field.Field.{Field}
use Rattle.nav_ground.specs.declared.setting.Setting.{Setting}
use Rattle.nav_ground.specs.Fields.{IsField}
use Rattle.nav_ground.specs.Limits.{IsSetting}
use Rattle.nav_text.specs.declared.fault.TextFault.{TextFault}
use Rattle.span_text.specs.declared.field.FieldRefusal.{FieldRefusal}
use Rattle.span_text.specs.declared.field.FieldRefusal.TheVariants.{Fault}
use Rattle.span_text.specs.FieldText.{IsFieldText}
use Rattle.span_text.specs.Outcome.{Gives}
use Rattle.build_queue.specs.BookState.{BookState, first_state}
use Rattle.nav_book.specs.Openings.{ground_of}
use Rattle.nav_ffi.specs.Opening.{HoldsOpened}

pub opened : (bytes : List ℕ) (used : ℕ) (setting : Setting) (field : Field) (held : Option BookState) (state : BookState)
    → IsFieldText (take used bytes) setting field → IsSetting setting → IsField field
    → held ≡ Some state → state ≡ first_state (ground_of setting field) → HoldsOpened bytes held
opened bytes used setting field held state spelled setting_rules field_rules holds is = record {
  setting = setting;
  field = field;
  begins = record {
    text = take used bytes;
    rest = drop used bytes;
    parts = sym (take-append-drop used bytes);
    spelled = spelled;
    setting_rules = setting_rules;
    field_rules = field_rules;
  };
  is = holds ∙ ap Some is;
}

-- it is that of the setting and field that the bytes begin with
pub opened_only : (setting setting' : Setting) (field field' : Field) (held : Option BookState) (state : BookState)
    → setting ≡ setting' → field ≡ field' → held ≡ Some state → state ≡ first_state (ground_of setting field)
    → held ≡ Some (first_state (ground_of setting' field'))
opened_only setting setting' field field' held state same_setting same_field holds is =
    holds ∙ ap Some (is ∙ ap (λ s. first_state (ground_of s field)) same_setting ∙ ap (λ f. first_state (ground_of setting' f)) same_field)

pub no_fault : (setting : Setting) (field : Field) (used : ℕ) (refusal : FieldRefusal) (fault : TextFault)
    → refusal ≡ Fault fault → Gives setting field used (Err refusal) → ⊥
no_fault setting field used refusal fault is gives = subst (λ r. Gives setting field used (Err r)) is gives
