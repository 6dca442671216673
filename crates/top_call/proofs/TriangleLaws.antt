-- The answer to a triangle text, and that the text of its field is a field text.
use Rattle.std.proofs.Common.{◌≡◌, ℕ, ◌+◌, ◌<◌, ◌≤◌, List, get_or, [], ◌∷◌, ◌++◌, length, map, take, ap, subst, sym, ◌∙◌, refl, arith}
use Rattle.std.specs.Prelude.{codes, Result, Ok, Err}
use Rattle.std.proofs.lemmas.List.{take_at, append_assoc, length-append, flat_map_more}
use Rattle.nav_ground.specs.declared.setting.Setting.{Setting}
use Rattle.nav_ground.specs.declared.field.Span.{Span}
use Rattle.nav_ground.specs.declared.field.Field.{Field}
use Rattle.nav_text.specs.declared.fault.TextFault.{TextFault}
use Rattle.nav_text.specs.Lines.{text_of, ended}
use Rattle.span_text.specs.FieldText.{IsHeaderText, IsFieldText, field_lines, all_header_lines, span_text}
use Rattle.span_text.specs.declared.field.FieldRefusal.{FieldRefusal}
use Rattle.span_text.specs.declared.field.FieldRefusal.TheVariants as refusals
use Rattle.tri_raster.specs.declared.triangle.Tri.{Tri}
use Rattle.tri_raster.specs.Rasters.{IsRaster}
use Rattle.tri_raster.specs.declared.text.TriText.{TriText}
use Rattle.tri_raster.specs.TriText.{IsTriText}
use Rattle.tri_raster.specs.TriFormat.{Gives, IsTextFault}
use Rattle.top_call.specs.declared.answer.InputAnswer.{InputAnswer}
use Rattle.top_call.specs.declared.answer.InputAnswer.TheVariants.{Text, Fault, TooManySpans, OutOfMemory}
use Rattle.top_call.specs.Answers.{IsLineOf}
use Rattle.top_call.specs.Triangles.{IsLevel, IsRastered, field_text}

-- what is read is read one way only
pub read_alone : (bytes : List ℕ) (result : Result TriText FieldRefusal) (text : TriText)
    → ((other : Setting) (count : ℕ) (others : List Tri) → IsTriText bytes other count others → Gives other count others result)
    → result ≡ Ok text → (other : IsLevel bytes) → (other.setting ≡ text.setting) × (other.header ≡ text.header) × (other.tris ≡ text.tris)
read_alone bytes result text only is other =
    let G : Result TriText FieldRefusal → Type 0 = λ r. Gives other.setting other.header other.tris r in
    let given : Gives other.setting other.header other.tris (Ok text) = subst G is (only other.setting other.header other.tris other.there) in
    (sym given.0, sym given.1, sym given.2)

-- the header is the front of the text
pub header_within : (bytes : List ℕ) (setting : Setting) (header : ℕ) (tris : List Tri) → IsTriText bytes setting header tris → header ≤ length bytes
header_within bytes setting header tris there =
    omega (arith, there.used, ap (λ (xs : List ℕ). length xs) there.begins.parts, length-append there.front there.back)

-- a header, the lines of spans and `end` are the text of a field
pub spans_all : (header : List ℕ) (spans : List Span) (text new : List ℕ) → text ≡ header ++ text_of (map span_text spans) → new ≡ text ++ ended (codes "end") → new ≡ field_text header spans
spans_all header spans text new so_far is = is ∙ ap (λ (xs : List ℕ). xs ++ ended (codes "end")) so_far ∙ flat_map_more ended header (map span_text spans) (codes "end")

-- the text of the field of triangles is a field text of their setting and that field

pub text_of_two : (xs ys : List (List ℕ)) → text_of (xs ++ ys) ≡ text_of xs ++ text_of ys
text_of_two [] ys = refl
text_of_two (x ∷ xs) ys = ap (λ (t : List ℕ). ended x ++ t) (text_of_two xs ys) ∙ sym (append_assoc (ended x) (text_of xs) (text_of ys))

pub raster_text_reads : (bytes text : List ℕ) (setting : Setting) (header : ℕ) (tris : List Tri) (field : Field) → IsTriText bytes setting header tris
    → IsRaster setting tris field → text ≡ field_text (take header bytes) field.spans → IsFieldText text setting field
raster_text_reads bytes text setting header tris field there raster spelled =
    record {
      form = lines.form;
      costs = lines.costs;
      rise = lines.rise;
      table = lines.table;
      clear = lines.clear;
      width = raster.width;
      depth = raster.depth;
      spelled = spelled ∙ ap (λ (xs : List ℕ). field_text xs spans) front ∙ whole;
    }
  where
    spans : List Span
    spans = field.spans

    lines : IsHeaderText there.front setting
    lines = there.begins.spelled

    those : List (List ℕ)
    those = all_header_lines lines.form setting lines.costs

    behind : List (List ℕ)
    behind = map span_text spans ++ codes "end" ∷ []

    front : take header bytes ≡ text_of those
    front = ap (λ (xs : List ℕ). take header xs) there.begins.parts ∙ take_at there.front there.back header (sym there.used) ∙ lines.spelled

    whole : text_of those ++ text_of behind ≡ text_of (field_lines lines.form setting lines.costs spans)
    whole =
        sym (text_of_two those behind)
        ∙ ap (λ (all : List (List ℕ)). text_of all) (sym (append_assoc those (map span_text spans) (codes "end" ∷ [])))

-- a line that tells a fault of bytes that are no triangle text is a right answer
pub tri_line_right : (bytes : List ℕ) (fault : TextFault) (answer : InputAnswer) → IsTextFault bytes fault → (IsLevel bytes → ⊥) → IsLineOf fault answer
    → IsRastered bytes answer
tri_line_right bytes fault (Text text) wrong none told = absurd told
tri_line_right bytes fault (Fault text) wrong none told = record { fault = fault; wrong = wrong; told = told; no_level = none }
tri_line_right bytes fault TooManySpans wrong none told = absurd told
tri_line_right bytes fault OutOfMemory wrong none told = tt

-- a triangle text gives no fault
pub no_tri_fault : (bytes : List ℕ) (result : Result TriText FieldRefusal) (fault : TextFault)
    → ((other : Setting) (count : ℕ) (others : List Tri) → IsTriText bytes other count others → Gives other count others result)
    → result ≡ Err (refusals.Fault fault) → IsLevel bytes → ⊥
no_tri_fault bytes result fault only is level =
    let G : Result TriText FieldRefusal → Type 0 = λ r. Gives level.setting level.header level.tris r in
    subst G is (only level.setting level.header level.tris level.there)
