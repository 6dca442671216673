-- The laws of numbers of a few digits, read digit by digit.
use Rattle.std.proofs.Common.{◌≡◌, ℕ, ◌+◌, ◌-◌, ◌*◌, ◌/◌, ◌%◌, ◌<◌, ◌≤◌, List, [], ◌∷◌, ◌++◌, length, take, drop, get_or, true, decimal, bytes_eq, sym, ap, ap₂, ◌∙◌, arith, append_assoc, take-append-drop}
use Rattle.std.proofs.lemmas.Fmt.{decimal_digit, decimal_step}
use Rattle.std.proofs.lemmas.List.{take_rest}
use Rattle.std.proofs.lemmas.Slice.Eq.{bytes_eq-Decides}

-- one more digit, behind a number that is not 0
digit_behind : (number next : ℕ) (bytes rest : List ℕ) → 0 < number → number < 1000 → 10 * number ≤ next → next < 10 * number + 10
    → bytes ≡ (48 + (next - 10 * number)) ∷ rest → decimal number ++ bytes ≡ decimal next ++ rest
digit_behind number next bytes rest some small least most is =
    let whole : next / 10 ≡ number = omega arith in
    let last : next % 10 ≡ next - 10 * number = omega arith in
    let spelled : decimal next ≡ decimal number ++ (48 + (next - 10 * number)) ∷ [] =
    decimal_step next (omega arith) (omega arith) ∙ ap₂ (λ n d. decimal n ++ (48 + d) ∷ []) whole last in
    ap (λ xs. decimal number ++ xs) is ∙ sym (append_assoc (decimal number) ((48 + (next - 10 * number)) ∷ []) rest) ∙ ap (λ xs. xs ++ rest) (sym spelled)

-- the byte at the front, which is not 0, and what is behind it
pub head_is : (bytes : List ℕ) (first : ℕ) → 0 < first → get_or bytes 0 0 ≡ first → bytes ≡ first ∷ take (length bytes - 1) (drop 1 bytes)
head_is [] first some is = absurd (omega arith)
head_is (c ∷ bytes) first some is = ap (λ n. n ∷ bytes) is ∙ ap (λ xs. first ∷ xs) (sym (take_rest (c ∷ bytes) 1))

-- the word at the front, and what is behind it
pub word_is : (word text rest : List ℕ) → bytes_eq (take (length word) text) word ≡ true → rest ≡ drop (length word) text → text ≡ word ++ rest
word_is word text rest same behind =
    sym (take-append-drop (length word) text) ∙ ap₂ (λ a b. a ++ b) ((bytes_eq-Decides (take (length word) text) word).0 same) (sym behind)

-- a space and one digit
pub behind_space : (bytes rest : List ℕ) (first : ℕ) → get_or bytes 0 0 ≡ 32 → first < 10
    → take (length bytes - 1) (drop 1 bytes) ≡ (48 + (first - 0)) ∷ rest → bytes ≡ 32 ∷ (decimal first ++ rest)
behind_space bytes rest first space small is =
    let digit : 48 + (first - 0) ≡ 48 + first = omega arith in
    head_is bytes 32 (omega arith) space
    ∙ ap (λ xs. 32 ∷ xs) (is ∙ ap (λ n. n ∷ rest) digit ∙ ap (λ xs. xs ++ rest) (sym (decimal_digit first small)))

-- a space and a number, with one more digit
pub longer_by : (bytes tail rest : List ℕ) (number next : ℕ) → bytes ≡ 32 ∷ (decimal number ++ tail) → 0 < number → number < 1000
    → 10 * number ≤ next → next < 10 * number + 10 → tail ≡ (48 + (next - 10 * number)) ∷ rest → bytes ≡ 32 ∷ (decimal next ++ rest)
longer_by bytes tail rest number next so_far some small least most is =
    so_far ∙ ap (λ xs. 32 ∷ xs) (digit_behind number next tail rest some small least most is)
