-- The laws of the made text.
use Rattle.std.proofs.Common.{◌≡◌, ℕ, ◌+◌, ◌*◌, ◌≤◌, false, [], ◌∷◌, ◌++◌, length, map, codes, refl, sym, ap, ◌∙◌, arith, append-nil, length-append}
use Rattle.std.proofs.lemmas.List.{length-map}
use Rattle.std.proofs.lemmas.List.FromFn.{length-map-range_with_len}
use Rattle.std.proofs.lemmas.Nat.{mul-le}
use Rattle.nav_text.specs.Lines.{lines, text_of}
use Rattle.nav_text.proofs.LineLaws.{lines_again}
use Rattle.span_text.specs.declared.front.TextForm.TheVariants.{First}
use Rattle.span_text.specs.FieldText.{header_lines, span_text, field_lines}
use Rattle.span_text.proofs.OnlyLaws.{lines_begin}
use Rattle.nav_script.specs.declared.script.Way.TheVariants.{Play}
use Rattle.nav_script.specs.Spelling.{line_of, script_lines, script_text}
use Rattle.nav_script.proofs.ScriptLaws.{script_lines_again}
use Rattle.nav_gen.specs.Draws.{state_after, draw}
use Rattle.nav_gen.specs.MadeField.{IsMadeSize, made_setting, made_span, made_spans, made_field}
use Rattle.nav_gen.specs.MadeScript.{made_rounds, made_script}
use Rattle.nav_gen.specs.MadeText.{made_field_text, made_script_text, made_text, IsMadeInput}
use Rattle.nav_gen.proofs.Short.{AreShort, short-append, text_short, line_short, spans_short}
use Rattle.nav_gen.proofs.FieldLaws.{setting_rules, field_rules, field_text}
use Rattle.nav_gen.proofs.ScriptLaws.{made_next, next_short, length-made_rounds, script_rules}

script_text_is : (number size : ℕ) → made_script_text number size ≡ script_text (made_script number size)
unfolding made_script_text
script_text_is number size = refl

-- The made text is in the grammar.
pub made_input : (number size : ℕ) → IsMadeSize size → IsMadeInput number size
made_input number size fits = record {
  setting = setting_rules size fits;
  field = field_rules number size fits;
  field_text = field_text number size;
  script_text = (script_text_is number size, script_rules number size fits);
}

count_spans : (number size : ℕ) → length (map span_text (made_spans number size)) ≡ size * size
count_spans number size =
    length-map (made_spans number size) span_text ∙ length-map-range_with_len (λ column. made_span size column (draw number column)) 0 (size * size)

count_field : (number size : ℕ) → length (field_lines First (made_setting size) [] (made_spans number size)) ≡ size * size + 8
count_field number size =
    omega (
      arith,
      count_spans number size,
      length-append (header_lines First (made_setting size) ++ [] ++ map span_text (made_spans number size)) (codes "end" ∷ []),
      length-append (header_lines First (made_setting size) ++ []) (map span_text (made_spans number size)),
      length-append (header_lines First (made_setting size)) [],
    )

count_script : (number size : ℕ) → length (script_lines (made_script number size)) ≡ 1337
count_script number size =
    let state = state_after number (size * size) in
    omega (arith, length-map (made_rounds state size) line_of, length-made_rounds state size)

script_again : (number size : ℕ) → IsMadeSize size → lines (made_script_text number size) ≡ script_lines (made_script number size)
script_again number size fits =
    let those = script_lines (made_script number size) in
    ap lines (script_text_is number size ∙ sym (append-nil (text_of those)))
    ∙ lines_again those [] (script_lines_again Play false (made_script number size) (script_rules number size fits)).1
    ∙ append-nil those

-- The made text has this many lines.
pub count_lines : (number size : ℕ) → IsMadeSize size → size * size + 1345 ≡ length (lines (made_text number size))
unfolding field_text
count_lines number size fits =
    let field = field_lines First (made_setting size) [] (made_spans number size) in
    let all : lines (made_text number size) ≡ field ++ script_lines (made_script number size) =
    lines_begin (made_text number size) (made_field_text number size) (made_script_text number size) (made_setting size) (made_field number size)
    (setting_rules size fits) (field_rules number size fits) (field_text number size) refl
    ∙ ap (λ those. field ++ those) (script_again number size fits) in
    omega (arith, ap length all, length-append field (script_lines (made_script number size)), count_field number size, count_script number size)

header_short : (size : ℕ) → IsMadeSize size → AreShort (header_lines First (made_setting size))
header_short size fits =
    let most : size ≤ 512 = fits.1 in (
      (let e : 5 ≤ 99 = omega arith in e),
      (
        line_short (codes "size") (size ∷ size ∷ []) (omega arith) (omega arith) (omega arith, (omega arith, tt)),
        (
          line_short (codes "tile") (32 ∷ []) (omega arith) (omega arith) (omega arith, tt),
          (
            line_short (codes "agent") (10 ∷ 4 ∷ 2 ∷ []) (omega arith) (omega arith) (omega arith, (omega arith, (omega arith, tt))),
            (
              line_short (codes "error") (169 ∷ []) (omega arith) (omega arith) (omega arith, tt),
              ((let e : 13 ≤ 99 = omega arith in e), (line_short (codes "limit") (64 ∷ []) (omega arith) (omega arith) (omega arith, tt), tt)),
            ),
          ),
        ),
      ),
    )

field_short : (number size : ℕ) → IsMadeSize size → AreShort (field_lines First (made_setting size) [] (made_spans number size))
field_short number size fits =
    let header = header_lines First (made_setting size) in
    let spans = map span_text (made_spans number size) in
    let most : size ≤ 512 = fits.1 in
    let rules = field_rules number size fits in
    let end : AreShort (codes "end" ∷ []) = ((let e : 3 ≤ 99 = omega arith in e), tt) in
    short-append (header ++ [] ++ spans) (codes "end" ∷ [])
    (short-append (header ++ []) spans (short-append header [] (header_short size fits) tt)
    (spans_short size size (made_spans number size) (omega arith) (omega arith) rules.spans))
    end

script_short : (number size : ℕ) → IsMadeSize size → AreShort (script_lines (made_script number size))
script_short number size fits = (
  line_short (codes "script") (1 ∷ 1 ∷ []) (omega arith) (omega arith) (omega arith, (omega arith, tt)),
  next_short 0 (made_rounds (state_after number (size * size)) size) (made_next (state_after number (size * size)) size fits),
)

-- The made text is no longer than an input may be.
pub made_short : (number size : ℕ) → IsMadeSize size → length (made_text number size) ≤ 67108864
unfolding made_field_text made_script_text
made_short number size fits =
    let most : size ≤ 512 = fits.1 in
    let columns : size * size ≤ 512 * 512 = mul-le size size 512 512 most most in
    omega (
      arith,
      columns,
      length-append (made_field_text number size) (made_script_text number size),
      text_short (field_lines First (made_setting size) [] (made_spans number size)) (field_short number size fits),
      count_field number size,
      text_short (script_lines (made_script number size)) (script_short number size fits),
      count_script number size,
    )
