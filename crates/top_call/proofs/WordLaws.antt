-- What three words ask for.
use Rattle.std.proofs.Common.{◌≡◌, ◌<◌, ◌≤◌, List, [], ◌∷◌, length, map, get_or, ap, sym, ◌∙◌, arith, inl, inr}
use Rattle.std.specs.Prelude.{Option, Some, None, String, string_bytes, codes, decimal}
use Rattle.std.specs.declared.alloc.Global.{Global}
use Rattle.top_call.specs.declared.words.Command.{Command}
use Rattle.top_call.specs.declared.words.Command.TheVariants.{Read, Gen}
use Rattle.top_call.specs.Words.{AskBehindGen, AskFor}

-- three words, by their places
pub three_words : (words : List (String Global)) (word first second : String Global) → 3 ≤ length words → length words < 4
    → word ≡ get_or words 0 word → first ≡ get_or words 1 first → second ≡ get_or words 2 second → words ≡ word ∷ first ∷ second ∷ []
three_words [] word first second least below is_word is_first is_second = absurd (omega (arith, least))
three_words (a ∷ []) word first second least below is_word is_first is_second = absurd (omega (arith, least))
three_words (a ∷ b ∷ []) word first second least below is_word is_first is_second = absurd (omega (arith, least))
three_words (a ∷ b ∷ c ∷ d ∷ more) word first second least below is_word is_first is_second = absurd (omega (arith, below))
three_words (a ∷ b ∷ c ∷ []) word first second least below is_word is_first is_second =
    ap (λ w. w ∷ b ∷ c ∷ []) (sym is_word) ∙ ap (λ w. word ∷ w ∷ c ∷ []) (sym is_first) ∙ ap (λ w. word ∷ first ∷ w ∷ []) (sym is_second)

-- the word `gen` and two texts behind it ask for what these texts ask for
pub asked_behind : (words : List (String Global)) (word first second : String Global) (form : Option Command) → words ≡ word ∷ first ∷ second ∷ []
    → string_bytes word ≡ codes "gen" → AskBehindGen (string_bytes first) (string_bytes second) form → AskFor words form
asked_behind words word first second (Some (Read kind)) are is behind = absurd behind
asked_behind words word first second (Some (Gen number size)) are is behind = record {
  spelled =
      ap (λ ws. map string_bytes ws) are
      ∙ ap (λ w. w ∷ string_bytes first ∷ string_bytes second ∷ []) is
      ∙ ap (λ w. codes "gen" ∷ w ∷ string_bytes second ∷ []) behind.first_spelled
      ∙ ap (λ w. codes "gen" ∷ decimal number ∷ w ∷ []) behind.second_spelled;
  number_rules = behind.number_rules;
  size_rules = behind.size_rules;
}
asked_behind words word first second None are is behind = λ form. elim form [
  | inl (inl runs) ↦ let one : 3 ≡ 1 = ap (λ ws. length ws) (bytes ∙ runs.form) in omega (arith, one)
  | inl (inr raster) ↦ let one : 3 ≡ 1 = ap (λ ws. length ws) (bytes ∙ raster) in omega (arith, one)
  | inr gen ↦ behind gen.number gen.size (record {
    first_spelled = ap (λ ws. get_or ws 1 []) (bytes ∙ gen.form.spelled);
    number_rules = gen.form.number_rules;
    second_spelled = ap (λ ws. get_or ws 2 []) (bytes ∙ gen.form.spelled);
    size_rules = gen.form.size_rules;
  })
]
  where
    bytes : string_bytes word ∷ string_bytes first ∷ string_bytes second ∷ [] ≡ map string_bytes words
    bytes = sym (ap (λ ws. map string_bytes ws) are)
