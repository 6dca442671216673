-- Words as bytes, and bytes as words.
use Rattle.std.proofs.Common.{◌≡◌, inl, inr, ℕ, zero, suc, ◌+◌, ◌*◌, ◌^◌, ◌<◌, ◌≤◌, List, [], ◌∷◌, ◌++◌, length, get_or, take, drop, w32, refl, ap, ◌∙◌, arith, length-take, length-drop, take-append-drop}
use Rattle.std.specs.Prelude.{All}
use Rattle.std.specs.Int.{from_le_bytes, to_le_bytes}
use Rattle.std.proofs.lemmas.List.{get_or-drop, get_or-take, get_or_past}
use Rattle.std.proofs.lemmas.Bool.{cases_lt}
use Rattle.std.proofs.lemmas.Nat.{from_le_bytes-to_le_bytes_4, le_bytes_4}
use Rattle.registry_format.specs.Reading.{words_in}
use Rattle.registry_format.specs.Spelling.{word_bytes}

abbrev pub AreBytes : List ℕ → Type 0
AreBytes bytes = (i : ℕ) → get_or bytes i 0 < 256

pub bytes_long : (words : List ℕ) → length (word_bytes words) ≡ 4 * length words
bytes_long [] = refl
bytes_long (word ∷ words) = let rest = bytes_long words in omega (arith, rest)

-- words that are written as bytes are read again
pub words_again : (words : List ℕ) → All (λ word. word < 2 ^ 32) words → words_in (length words) (word_bytes words) ≡ words
unfolding words_in
words_again [] fits = refl
words_again (word ∷ words) fits =
    let later = words_again words (λ k d within. fits (suc k) d (omega (arith, within))) in
    let first = from_le_bytes-to_le_bytes_4 word (fits 0 word (omega arith)) in
    λ i. first i ∷ later i

four_taken : (bytes : List ℕ) → AreBytes bytes → 4 ≤ length bytes → to_le_bytes w32 (from_le_bytes w32 (take 4 bytes)) ≡ take 4 bytes
four_taken bytes are long =
    le_bytes_4 (take 4 bytes) (from_le_bytes w32 (take 4 bytes)) (omega (arith, long, length-take 4 bytes))
    (λ i. elim (cases_lt i 4) [
      | inl lt ↦ rw (get_or-take 4 bytes i 0 lt) (are i)
      | inr le ↦ rw (get_or_past (take 4 bytes) i 0 (omega (arith, le, length-take 4 bytes))) (omega arith)
    ])
    refl

-- and bytes that are read as words are written again
pub bytes_again : (n : ℕ) (bytes : List ℕ) → AreBytes bytes → length bytes ≡ 4 * n → word_bytes (words_in n bytes) ≡ bytes
unfolding words_in
bytes_again zero [] are long = refl
bytes_again zero (byte ∷ bytes) are long = absurd (omega (arith, long))
bytes_again (suc n) bytes are long =
    let later = bytes_again n (drop 4 bytes) (λ i. rw get_or-drop (are (4 + i))) (omega (arith, long, length-drop 4 bytes)) in
    let first = four_taken bytes are (omega (arith, long)) in
    ap (λ (bs : List ℕ). bs ++ word_bytes (words_in n (drop 4 bytes))) first
    ∙ ap (λ (bs : List ℕ). take 4 bytes ++ bs) later
    ∙ take-append-drop 4 bytes
