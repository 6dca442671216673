-- The laws of the next line behind the header.
use Rattle.std.proofs.Common.{◌≡◌, ℕ, true, cond, ◌==◌, ◌&&◌, List, [], ◌∷◌, ◌++◌, length, codes, decimal, Some, refl, sym, ap, ◌∙◌, append_assoc}
use Rattle.std.proofs.Math.Bool.{and-true}
use Rattle.nav_ground.specs.declared.field.Span.{Span}
use Rattle.nav_text.specs.declared.fault.FaultKind.TheVariants.{TooMany}
use Rattle.nav_text.specs.Forms.{numbers_of}
use Rattle.nav_text.specs.Lines.{lines}
use Rattle.nav_text.proofs.FormLaws.{has_word-numbers, is_line-line_text, numbers_again}
use Rattle.nav_text.proofs.LineLaws.{lines_append}
use Rattle.span_text.specs.declared.body.BodyLine.TheVariants.{Fails}
use Rattle.span_text.specs.FieldText.{span_text}
use Rattle.span_text.specs.Body.{body_line, span_or_other}
use Rattle.span_text.specs.NextLine.{IsHeld, SaysFirst, span_or_many}

-- the line of a span
many_or_span : (width depth before : ℕ) (spans : List Span) (span : Span) → IsHeld span
    → body_line width depth before spans (span_text span) ≡ span_or_many width depth spans span
unfolding body_line
many_or_span width depth before spans span held =
    let numbers : List ℕ = span.x ∷ span.z ∷ span.bottom ∷ span.top ∷ span.area ∷ [] in
    let again : numbers_of (codes "span") 5 (span_text span) ≡ Some numbers = numbers_again (codes "span") numbers held in
    ap (λ b. cond (length spans == 2000000 && b) (Fails TooMany) (span_or_other width depth before spans (span_text span) (numbers_of (codes "span") 5 (span_text span))))
    (has_word-numbers (codes "span") 4 (span_text span) numbers again)
    ∙ ap (λ o. cond (length spans == 2000000 && true) (Fails TooMany) (span_or_other width depth before spans (span_text span) o)) again
    ∙ ap (λ b. cond b (Fails TooMany) (span_or_other width depth before spans (span_text span) (Some numbers))) (and-true (length spans == 2000000))

-- A text that begins with the line of a span has this first line.
pub span_first : (width depth before : ℕ) (spans : List Span) (text rest : List ℕ) (span : Span) → IsHeld span → text ≡ span_text span ++ 10 ∷ rest
    → SaysFirst width depth before spans text (span_or_many width depth spans span) rest
span_first width depth before spans text rest span held spelled = record {
  line = span_text span;
  first = ap lines spelled
      ∙ lines_append (span_text span) rest (is_line-line_text (codes "span") (span.x ∷ span.z ∷ span.bottom ∷ span.top ∷ span.area ∷ []) refl held);
  spelled = spelled;
  says = many_or_span width depth before spans span held;
}

-- one number more before others
before_more : (n : ℕ) (more rest text : List ℕ) → text ≡ more ++ rest → 32 ∷ (decimal n ++ text) ≡ (32 ∷ (decimal n ++ more)) ++ rest
before_more n more rest text is = ap (λ t. 32 ∷ (decimal n ++ t)) is ∙ ap (λ t. 32 ∷ t) (sym (append_assoc (decimal n) more rest))

-- the word and five numbers one after the other, and a line feed
pub five_spelled : (text rest w a b c d e : List ℕ) (span : Span) → text ≡ codes "span" ++ w → w ≡ 32 ∷ (decimal span.x ++ a)
    → a ≡ 32 ∷ (decimal span.z ++ b) → b ≡ 32 ∷ (decimal span.bottom ++ c) → c ≡ 32 ∷ (decimal span.top ++ d) → d ≡ 32 ∷ (decimal span.area ++ e)
    → e ≡ 10 ∷ rest → text ≡ span_text span ++ 10 ∷ rest
five_spelled text rest w a b c d e span word at_x at_z at_bottom at_top at_area end =
    let with_area = at_area ∙ before_more span.area [] (10 ∷ rest) e end in
    let with_top = at_top ∙ before_more span.top _ (10 ∷ rest) d with_area in
    let with_bottom = at_bottom ∙ before_more span.bottom _ (10 ∷ rest) c with_top in
    let with_z = at_z ∙ before_more span.z _ (10 ∷ rest) b with_bottom in
    let with_x = at_x ∙ before_more span.x _ (10 ∷ rest) a with_z in
    word ∙ ap (λ t. codes "span" ++ t) with_x
