-- The laws of texts that are made of lines.
use Rattle.std.proofs.Common.{◌≡◌, ℕ, ◌<◌, Bool, true, false, cond, eqb, List, [], ◌∷◌, ◌++◌, length, sym, refl, ap, ◌∙◌, arith}
use Rattle.std.proofs.lemmas.Bool.{eqb-true}
use Rattle.nav_text.specs.Lines.{lines, onto_line, text_of, is_ended}

feed_ended : (line rest : List ℕ) → is_ended rest ≡ true → is_ended ((line ++ 10 ∷ []) ++ rest) ≡ true
feed_ended [] [] all = refl
feed_ended [] (c ∷ rest) all = all
feed_ended (c ∷ []) rest all = feed_ended [] rest all
feed_ended (c ∷ d ∷ line) rest all = feed_ended (d ∷ line) rest all

-- a text of lines is ended
pub text_ended : (those : List (List ℕ)) → is_ended (text_of those) ≡ true
text_ended [] = refl
text_ended (line ∷ more) = feed_ended line (text_of more) (text_ended more)

onto_text : (c : ℕ) (those : List (List ℕ)) → 0 < length those → text_of (onto_line c those) ≡ c ∷ text_of those
onto_text c [] some = absurd (omega arith)
onto_text c (line ∷ more) some = refl

some_line : (d : ℕ) (text : List ℕ) (those : List (List ℕ)) → text_of those ≡ d ∷ text → 0 < length those
some_line d text [] e = absurd cc
some_line d text (line ∷ more) e = omega arith

one_byte : (c : ℕ) → eqb c 10 ≡ true → text_of (lines (c ∷ [])) ≡ c ∷ []
one_byte c feed = rw feed (ap (λ n. n ∷ []) (sym (eqb-true c 10 feed)))

more_bytes : (c d : ℕ) (text : List ℕ) → text_of (lines (d ∷ text)) ≡ d ∷ text → text_of (lines (c ∷ d ∷ text)) ≡ c ∷ d ∷ text
more_bytes c d text rest = split (eqb c 10) refl
  where
    split : (b : Bool) → eqb c 10 ≡ b → text_of (cond b ([] ∷ lines (d ∷ text)) (onto_line c (lines (d ∷ text)))) ≡ c ∷ d ∷ text
    split true feed = ap (λ t. 10 ∷ t) rest ∙ ap (λ n. n ∷ d ∷ text) (sym (eqb-true c 10 feed))
    split false other = onto_text c (lines (d ∷ text)) (some_line d text (lines (d ∷ text)) rest) ∙ ap (λ t. c ∷ t) rest

-- An ended text is the text of its lines.
pub whole_text : (text : List ℕ) → is_ended text ≡ true → text_of (lines text) ≡ text
whole_text [] all = refl
whole_text (c ∷ []) all = one_byte c all
whole_text (c ∷ d ∷ text) all = more_bytes c d text (whole_text (d ∷ text) all)
