-- What a call of `read_field` promises, from what was read of the lines.
use Rattle.std.proofs.Common.{◌≡◌, ℕ, ◌≤◌, List, ◌++◌, length, take, Result, Ok, Err, IfOk, sym, refl, ap, ap₂, ◌∙◌, subst, arith}
use Rattle.std.proofs.lemmas.List.{length-take-le, take_at}
use Rattle.nav_ground.specs.declared.setting.Setting.{Setting}
use Rattle.nav_ground.specs.declared.field.Field.{Field}
use Rattle.nav_ground.specs.Limits.{IsSetting}
use Rattle.nav_ground.specs.Fields.{IsField}
use Rattle.nav_text.specs.declared.fault.TextFault.{TextFault}
use Rattle.nav_text.specs.Lines.{lines, text_of}
use Rattle.nav_text.specs.Reading.{IsFirstFault}
use Rattle.nav_text.proofs.LineLaws.{lines_of_first}
use Rattle.nav_text.proofs.ReadingLaws.{first_fault, read_count}
use Rattle.nav_text.proofs.Inversions.{ok_is}
use Rattle.span_text.specs.declared.field.FieldText.{FieldText}
use Rattle.span_text.specs.declared.field.FieldRefusal.{FieldRefusal}
use Rattle.span_text.specs.declared.field.FieldRefusal.TheVariants as refusals
use Rattle.span_text.specs.FieldText.{IsFieldText, field_lines}
use Rattle.span_text.specs.FieldFormat.{Value, AtNav, field_format}
use Rattle.span_text.specs.Outcome.{IsRead, Gives}
use Rattle.span_text.proofs.FoundLaws.{field_takes}
use Rattle.span_text.proofs.OnlyLaws.{field_again, lines_begin}

pub read_setting : (bytes : List ℕ) (result : Result FieldText FieldRefusal) → IsRead bytes result → IfOk result (λ text. IsSetting text.setting)
read_setting bytes (Ok text) told = (field_takes bytes (text.setting, text.field) text.lines told.0).0
read_setting bytes (Err refusal) told = tt

pub read_spans : (bytes : List ℕ) (result : Result FieldText FieldRefusal) → IsRead bytes result → IfOk result (λ text. IsField text.field)
read_spans bytes (Ok text) told = (field_takes bytes (text.setting, text.field) text.lines told.0).1
read_spans bytes (Err refusal) told = tt

pub read_found : (bytes : List ℕ) (result : Result FieldText FieldRefusal) → IsRead bytes result → IfOk result (λ text. IsFieldText (take text.used bytes) text.setting text.field)
read_found bytes (Ok text) told =
    subst (λ b. IsFieldText b text.setting text.field) (sym told.1) (field_takes bytes (text.setting, text.field) text.lines told.0).2
read_found bytes (Err refusal) told = tt

pub read_used : (bytes : List ℕ) (result : Result FieldText FieldRefusal) → IsRead bytes result → IfOk result (λ text. text.used ≤ length bytes)
read_used bytes (Ok text) told = told.2
read_used bytes (Err refusal) told = tt

pub read_lines : (bytes : List ℕ) (result : Result FieldText FieldRefusal) → IsRead bytes result → IfOk result (λ text. text.lines ≡ length (lines (take text.used bytes)))
read_lines bytes (Ok text) told =
    let few = read_count field_format AtNav 0 (lines bytes) (text.setting, text.field) text.lines told.0 in
    sym (ap length (ap lines told.1 ∙ lines_of_first bytes text.lines) ∙ length-take-le text.lines (lines bytes) (omega arith))
read_lines bytes (Err refusal) told = tt

pub read_only : (bytes : List ℕ) (result : Result FieldText FieldRefusal) → IsRead bytes result → (setting : Setting) (field : Field) (text rest : List ℕ)
    → IsSetting setting → IsField field → IsFieldText text setting field → bytes ≡ text ++ rest → Gives setting field (length text) result
read_only bytes (Ok read) told setting field text rest limits fits spelling parts =
    let all = field_lines spelling.form setting spelling.costs field.spans in
    let same = ok_is (sym told.0 ∙ field_again bytes text rest setting field limits fits spelling parts) in
    let first : take read.lines (lines bytes) ≡ all =
    ap₂ (λ n ls. take n ls) (ap (λ p. p.1) same) (lines_begin bytes text rest setting field limits fits spelling parts) ∙ take_at all (lines rest) (length all) refl in
    let spelled : take read.used bytes ≡ text = told.1 ∙ (ap text_of first ∙ sym spelling.spelled) in (
      ap (λ p. p.0.0) same,
      ap (λ p. p.0.1) same,
      sym (length-take-le read.used bytes told.2) ∙ ap length spelled,
    )
read_only bytes (Err (refusals.Fault fault)) told setting field text rest limits fits spelling parts =
    let again = field_again bytes text rest setting field limits fits spelling parts in
    let both : ◌≡◌ {A = Result (Value × ℕ) TextFault} (Err fault) (Ok ((setting, field), length (field_lines spelling.form setting spelling.costs field.spans))) = sym told ∙ again in
    cc
read_only bytes (Err refusals.OutOfMemory) told setting field text rest limits fits spelling parts = tt

pub read_first : (bytes : List ℕ) (result : Result FieldText FieldRefusal) → IsRead bytes result → (fault : TextFault) → result ≡ Err (refusals.Fault fault)
    → IsFirstFault field_format AtNav 0 (lines bytes) fault
read_first bytes result told fault is =
    let P : Result FieldText FieldRefusal → Type 0 = λ r. IsRead bytes r in first_fault field_format AtNav 0 (lines bytes) fault (subst P is told)
