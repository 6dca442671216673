-- What the parts of a level and the whole input write.
use Rattle.std.proofs.Common.{◌≡◌, ℕ, ◌+◌, ◌*◌, ◌≤◌, List, [], ◌∷◌, ◌++◌, map, cond, codes, Ok, Err, refl, sym, ap, ◌∙◌, arith, append_assoc, append-nil}
use Rattle.std.specs.Prelude.{Result, OnOk, is_ok}
use Rattle.std.specs.List.{range_with_len, flat_map}
use Rattle.std.specs.Fmt.{digits}
use Rattle.nav_ground.specs.declared.field.Span.{Span}
use Rattle.nav_text.specs.Lines.{ended, text_of}
use Rattle.nav_text.specs.Forms.{line_text}
use Rattle.span_text.specs.declared.front.TextForm.TheVariants.{First}
use Rattle.span_text.specs.FieldText.{header_lines, span_text}
use Rattle.nav_script.specs.Spelling.{line_of}
use Rattle.nav_gen.specs.Draws.{next_state, state_after, draw}
use Rattle.nav_gen.specs.MadeField.{made_setting, made_span, made_spans}
use Rattle.nav_gen.specs.MadeScript.{made_rounds}
use Rattle.nav_gen.specs.MadeText.{made_field_text, made_script_text, made_text}
use Rattle.nav_gen.proofs.DrawLaws.{state_after-next, draw_behind}
use Rattle.nav_gen.proofs.Gathered.{piece_more, text_of-made, text_of-append}

-- the lines of the setting behind its size
setting_text : text_of (line_text (codes "tile") (32 ∷ []) ∷ line_text (codes "agent") (10 ∷ 4 ∷ 2 ∷ []) ∷ line_text (codes "error") (169 ∷ [])
    ∷ codes "mesh contours" ∷ line_text (codes "limit") (64 ∷ []) ∷ []) ≡ codes "tile 32\nagent 10 4 2\nerror 169\nmesh contours\nlimit 64\n"
unfolding digits
setting_text = refl

pub header_written : {E : Type 0} (r : Result (Unit {0}) E) (old one two new : List ℕ) (size : ℕ) → one ≡ old ++ codes "nav 1\n"
    → two ≡ one ++ ended (line_text (codes "size") (size ∷ size ∷ []))
    → new ≡ cond (is_ok r) (two ++ codes "tile 32\nagent 10 4 2\nerror 169\nmesh contours\nlimit 64\n") two
    → OnOk r (new ≡ old ++ text_of (header_lines First (made_setting size)))
header_written (Err error) old one two new size first second third = tt
header_written (Ok done) old one two new size first second third =
    let sized = ended (line_text (codes "size") (size ∷ size ∷ [])) in
    let rest = codes "tile 32\nagent 10 4 2\nerror 169\nmesh contours\nlimit 64\n" in
    third
    ∙ ap (λ t. t ++ rest) (second ∙ ap (λ t. t ++ sized) first)
    ∙ regroup old (codes "nav 1\n") sized rest
    ∙ ap (λ t. old ++ (codes "nav 1\n" ++ (sized ++ t))) (sym setting_text)
  where
    regroup : (old a b c : List ℕ) → old ++ a ++ b ++ c ≡ old ++ (a ++ (b ++ c))
    regroup old a b c = simp append_assoc

-- the line of a column
abbrev pub column_line : (state size column : ℕ) → List ℕ
column_line state size column = ended (span_text (made_span size column (draw state column)))

-- one column more
pub spans_more : (start made new : List ℕ) (state size column draws drawn after : ℕ) (span : Span)
    → made ≡ start ++ flat_map (column_line state size) (range_with_len 0 column) → draws ≡ state_after state column → drawn ≡ draw draws 0
    → after ≡ next_state draws → span ≡ made_span size column drawn → new ≡ made ++ ended (span_text span)
    → (new ≡ start ++ flat_map (column_line state size) (range_with_len 0 (column + 1))) × (after ≡ state_after state (column + 1))
spans_more start made new state size column draws drawn after span so_far at is moved made_is pushed =
    let drawn_is : drawn ≡ draw state column = is ∙ ap (λ s. draw s 0) at ∙ draw_behind state column in (
      piece_more (column_line state size) column start made new so_far
          (pushed ∙ ap (λ s. made ++ ended (span_text s)) (made_is ∙ ap (made_span size column) drawn_is)),
      moved ∙ ap next_state at ∙ sym (state_after-next state column),
    )

-- all columns
pub spans_written : (start made : List ℕ) (state size column : ℕ) → made ≡ start ++ flat_map (column_line state size) (range_with_len 0 column)
    → column ≤ size * size → size * size ≤ column → made ≡ start ++ text_of (map span_text (made_spans state size))
spans_written start made state size column so_far most least =
    so_far
    ∙ ap (λ k. start ++ flat_map (column_line state size) (range_with_len 0 k)) {x = column} {y = size * size} (omega arith)
    ∙ ap (λ t. start ++ t) (text_of-made span_text (λ k. made_span size k (draw state k)) (range_with_len 0 (size * size)))

-- the header, the spans and the end
pub field_written : {E : Type 0} (r : Result (Unit {0}) E) (old one two new : List ℕ) (state size : ℕ) → one ≡ old ++ text_of (header_lines First (made_setting size))
    → two ≡ one ++ text_of (map span_text (made_spans state size)) → new ≡ cond (is_ok r) (two ++ codes "end\n") two
    → OnOk r (new ≡ old ++ made_field_text state size)
unfolding made_field_text
field_written (Err error) old one two new state size first second third = tt
field_written (Ok done) old one two new state size first second third =
    let header = header_lines First (made_setting size) in
    let those = map span_text (made_spans state size) in
    third
    ∙ ap (λ t. t ++ codes "end\n") (second ∙ ap (λ t. t ++ text_of those) first)
    ∙ regroup old (text_of header) (text_of those) (codes "end\n")
    ∙ ap (λ t. old ++ t)
    (ap (λ t. t ++ codes "end\n") (ap (λ ls. text_of ls ++ text_of those) (sym (append-nil header)) ∙ sym (text_of-append (header ++ []) those))
    ∙ sym (text_of-append (header ++ [] ++ those) (codes "end" ∷ [])))
  where
    regroup : (old a b c : List ℕ) → old ++ a ++ b ++ c ≡ old ++ ((a ++ b) ++ c)
    regroup old a b c = simp append_assoc

-- the whole text
pub text_written : (one two three four : List ℕ) (start from number size : ℕ) → one ≡ [] → start ≡ number → two ≡ one ++ made_field_text start size
    → from ≡ state_after start (size * size) → three ≡ two ++ ended (line_text (codes "script") (1 ∷ 1 ∷ []))
    → four ≡ three ++ text_of (map line_of (made_rounds from size)) → four ≡ made_text number size
unfolding made_script_text
text_written one two three four start from number size empty begun first at second third =
    let script = ended (line_text (codes "script") (1 ∷ 1 ∷ [])) in
    let rounds = text_of (map line_of (made_rounds (state_after number (size * size)) size)) in
    third
    ∙ ap (λ s. three ++ text_of (map line_of (made_rounds s size))) (at ∙ ap (λ s. state_after s (size * size)) begun)
    ∙ ap (λ t. t ++ rounds) (second ∙ ap (λ t. t ++ script) (first ∙ ap (λ t. t ++ made_field_text start size) empty ∙ ap (λ s. made_field_text s size) begun))
    ∙ append_assoc (made_field_text number size) script rounds
