-- A saved registry that is written as words is read again.
use Rattle.std.proofs.Common.{◌≡◌, ℕ, zero, suc, ◌+◌, ◌*◌, ◌/◌, ◌%◌, List, ◌++◌, length, drop, flat_map, Result, Ok, Err, refl, sym, ap, ◌∙◌, arith, length-append, length-drop}
use Rattle.std.specs.Prelude.{IfOk}
use Rattle.std.proofs.lemmas.List.{drop_at, drop-drop}
use Rattle.registry_format.specs.Reading.{HasLength, rows_of, saved_of, word_at, words_in}
use Rattle.registry_format.specs.Saved.{IsSaved}
use Rattle.registry_format.specs.Spelling.{head_words, row_words, saved_bytes, saved_words, word_bytes}
use Rattle.registry_format.specs.declared.reading.SavedFault.{SavedFault}
use Rattle.registry_format.specs.declared.saved.SavedRegistry.{SavedRegistry}
use Rattle.registry_format.proofs.Bytes.{AreBytes, bytes_again, bytes_long, words_again}
use Rattle.registry_format.proofs.Numbers.{wide_again}
use Rattle.registry_format.proofs.ShapeLaws.{rows_again, rows_long}

pub words_long : (saved : SavedRegistry) → IsSaved saved → HasLength (saved_words saved)
unfolding saved_words
words_long saved is =
    let long = rows_long saved.rows is.fits.parts in
    let both = length-append (flat_map row_words saved.rows) saved.on in
    record { head = omega arith; all = omega (arith, long, both) }

pub saved_again : (saved : SavedRegistry) → IsSaved saved → saved_of (saved_words saved) ≡ saved
unfolding saved_words saved_of
saved_again saved is =
    let rows' = rows_again saved.rows saved.on (λ k d within. (is.rules.each k d within).limits) is.fits.parts in
    let body : List ℕ = flat_map row_words saved.rows ++ saved.on in
    let on' : drop (12 + 21 * length saved.rows) (head_words saved ++ body) ≡ saved.on =
    sym (drop-drop (21 * length saved.rows) 12 (head_words saved ++ body))
    ∙ drop_at (flat_map row_words saved.rows) saved.on (21 * length saved.rows) (rows_long saved.rows is.fits.parts) in
    λ i. record {
      field = saved.field;
      last = wide_again saved.last i;
      version = wide_again saved.version i;
      rows = rows' i;
      on = on' i;
    }

-- what was read is the saved registry whose words they are
pub found_is : (words : List ℕ) (saved found : SavedRegistry) → IsSaved saved → words ≡ saved_words saved → found ≡ saved_of words → found ≡ saved
found_is words saved found is same read = read ∙ ap saved_of same ∙ saved_again saved is

rows_count : (n : ℕ) (words : List ℕ) → length (rows_of n words) ≡ n
unfolding rows_of
rows_count zero words = refl
rows_count (suc n) words = let rest = rows_count n (drop 21 words) in omega (arith, rest)

pub rows_few : (words : List ℕ) → length (saved_of words).rows ≡ word_at words 10
unfolding saved_of
rows_few words = rows_count (word_at words 10) (drop 12 words)

pub on_few : (words : List ℕ) → HasLength words → length (saved_of words).on ≡ word_at words 11
unfolding saved_of
on_few words long = let left = length-drop (12 + 21 * word_at words 10) words in omega (arith, left, long.all)

-- words that are read from bytes
pub found_bytes : (result : Result SavedRegistry SavedFault) (bytes words : List ℕ) → AreBytes bytes → length bytes % 4 ≡ 0
    → words ≡ words_in (length bytes / 4) bytes → IfOk result (λ saved. IsSaved saved × (words ≡ saved_words saved))
    → IfOk result (λ saved. IsSaved saved × (bytes ≡ saved_bytes saved))
found_bytes (Ok saved) bytes words are whole read found = (
  found.0,
  sym (bytes_again (length bytes / 4) bytes are (omega (arith, whole))) ∙ ap word_bytes (sym read ∙ found.1),
)
found_bytes (Err why) bytes words are whole read found = tt

pub words_of_bytes : (bytes words : List ℕ) (saved : SavedRegistry) → IsSaved saved → bytes ≡ saved_bytes saved → words ≡ words_in (length bytes / 4) bytes
    → words ≡ saved_words saved
words_of_bytes bytes words saved is same read =
    let long : length bytes ≡ 4 * length (saved_words saved) = ap (λ (bs : List ℕ). length bs) same ∙ bytes_long (saved_words saved) in
    let count : length bytes / 4 ≡ length (saved_words saved) = omega (arith, long) in
    read ∙ (λ i. words_in (count i) (same i)) ∙ words_again (saved_words saved) is.fits.words

pub whole_bytes : (bytes : List ℕ) (saved : SavedRegistry) → bytes ≡ saved_bytes saved → length bytes % 4 ≡ 0
whole_bytes bytes saved same =
    let long : length bytes ≡ 4 * length (saved_words saved) = ap (λ (bs : List ℕ). length bs) same ∙ bytes_long (saved_words saved) in
    omega (arith, long)
