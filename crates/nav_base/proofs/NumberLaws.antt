-- The laws of numbers in texts.
use Rattle.std.proofs.Common.{All, ◌≡◌, ℕ, ◌+◌, ◌-◌, ◌*◌, ◌^◌, ◌<◌, ◌≤◌, Bool, true, false, cond, nat_lt, List, [], ◌∷◌, ◌++◌, length, take, drop, get_or, pos, Some, None, decimal, sym, refl, ap, ◌∙◌, subst, inl, inr, arith, take-append-drop, le_refl, length-append}
use Rattle.std.specs.Prelude.{⊤, take_while}
use Rattle.std.specs.Char.{is_ascii_digit, digit_value}
use Rattle.std.specs.Fmt.{signed_decimal}
use Rattle.std.specs.Int.{IsInRange}
use Rattle.std.specs.List.{prefix_len}
use Rattle.std.specs.Str.Parse.{digits_value}
use Rattle.std.proofs.lemmas.Bool.{ltb-true, cases_lt, cond-false, and_parts, and_left}
use Rattle.std.proofs.lemmas.Bool.Decides.{nat_tests}
use Rattle.std.proofs.lemmas.Fmt.{digits_decimal, digits_value-decimal, decimal-digits_value, decimal_nonempty, first_decimal, decimal_digit}
use Rattle.std.proofs.lemmas.Int.Digits.{digits_value_more}
use Rattle.std.proofs.lemmas.List.{get_or_default, nil_from_length, drop_more, drop_all, append-nil, take_at, drop_at, take-take, get_or_append_left, get_or-append_right, get_or-take, length-take-le}
use Rattle.std.proofs.lemmas.List.Folds.{length-prefix_len}
use Rattle.std.proofs.lemmas.List.Sums.{prefix_len_is, prefix_len_passes, prefix_len_stops}
use Rattle.std.proofs.lemmas.Str.Parse.{IsNumeralModel, numerals_by_value, tells_by_index, digits_value-take-le}
use Rattle.nav_base.specs.Number.{is_canonical, number_at}

-- the digits at the front
abbrev leading_digits : List ℕ → List ℕ
leading_digits bytes = take_while is_ascii_digit bytes

-- every byte is a digit
abbrev pub AreDigits : List ℕ → Type 0
AreDigits digits = (i : ℕ) → i < length digits → IsInRange 48 57 (get_or digits i 0)

own : IsNumeralModel AreDigits (digits_value 10)
own = numerals_by_value AreDigits tells_by_index

digit_true : (c : ℕ) → IsInRange 48 57 c → is_ascii_digit c ≡ true
digit_true c h = grind (arith, nat_tests)

true_digit : (c : ℕ) → is_ascii_digit c ≡ true → IsInRange 48 57 c
true_digit c h = grind (arith, nat_tests)

digit_value_is : (c : ℕ) → IsInRange 48 57 c → digit_value c ≡ c - 48
digit_value_is c h = grind (arith, nat_tests)

-- the first `len` bytes are digits that spell `number`
pub record HasRead (bytes : List ℕ) (len number : ℕ) : Type 0 where
  pub fits : len ≤ length bytes
  pub digits : (i : ℕ) → i < len → IsInRange 48 57 (get_or bytes i 0)
  pub value : number ≡ digits_value 10 (take len bytes)
  pub small : number < 2 ^ 32

value_more : (bytes : List ℕ) (len number : ℕ) → HasRead bytes len number → len < length bytes → IsInRange 48 57 (get_or bytes len 0)
    → number * 10 + (get_or bytes len 0 - 48) ≡ digits_value 10 (take (len + 1) bytes)
value_more bytes len number h lt digit =
    rw (digits_value_more 10 bytes len lt, ← h.value, digit_value_is (get_or bytes len 0) digit) refl

digits_more : (bytes : List ℕ) (len number : ℕ) → HasRead bytes len number → IsInRange 48 57 (get_or bytes len 0)
    → (i : ℕ) → i < len + 1 → IsInRange 48 57 (get_or bytes i 0)
digits_more bytes len number h digit i lt =
    elim (cases_lt i len) [
      | inl below ↦ h.digits i below
      | inr at ↦ let same : len ≡ i = omega arith in let P : ℕ → Type 0 = λ k. IsInRange 48 57 (get_or bytes k 0) in subst P same digit
    ]

pub HasRead_more : (bytes : List ℕ) (len number : ℕ) → HasRead bytes len number → len < length bytes → IsInRange 48 57 (get_or bytes len 0)
    → number * 10 + (get_or bytes len 0 - 48) < 2 ^ 32 → HasRead bytes (len + 1) (number * 10 + (get_or bytes len 0 - 48))
HasRead_more bytes len number h lt digit small = record {
  fits = omega arith;
  digits = digits_more bytes len number h digit;
  value = value_more bytes len number h lt digit;
  small = small;
}

-- a run of digits is part of the leading digits
leading_at_least : (bytes : List ℕ) (len : ℕ) → len ≤ length bytes → ((i : ℕ) → i < len → IsInRange 48 57 (get_or bytes i 0))
    → len ≤ prefix_len is_ascii_digit bytes
leading_at_least bytes len fits digits =
    elim (cases_lt (prefix_len is_ascii_digit bytes) len) [
      | inl below ↦
          let no : is_ascii_digit (get_or bytes (prefix_len is_ascii_digit bytes) 0) ≡ false = prefix_len_stops is_ascii_digit bytes 0 (omega arith) in
          let yes : is_ascii_digit (get_or bytes (prefix_len is_ascii_digit bytes) 0) ≡ true = digit_true _ (digits _ below) in
          absurd cc
      | inr at ↦ at
    ]

large_leading : (bytes : List ℕ) (len : ℕ) → len ≤ prefix_len is_ascii_digit bytes → digits_value 10 (take len bytes) ≤ digits_value 10 (leading_digits bytes)
large_leading bytes len h =
    let le : digits_value 10 (take len (leading_digits bytes)) ≤ digits_value 10 (leading_digits bytes) = digits_value-take-le 10 (leading_digits bytes) len (omega arith) in
    rw (← (take-take len (prefix_len is_ascii_digit bytes) bytes h)) le

-- a number of 2 ^ 32 and more is none
pub number_at_large : (bytes : List ℕ) (len number : ℕ) → HasRead bytes len number → len < length bytes → IsInRange 48 57 (get_or bytes len 0)
    → 2 ^ 32 ≤ number * 10 + (get_or bytes len 0 - 48) → number_at bytes ≡ None
unfolding number_at
number_at_large bytes len number h lt digit large =
    let more = leading_at_least bytes (len + 1) (omega arith) (digits_more bytes len number h digit) in
    let le = large_leading bytes (len + 1) more in
    let value = value_more bytes len number h lt digit in
    let past : nat_lt (digits_value 10 (leading_digits bytes)) (2 ^ 32) ≡ false = grind (arith, nat_tests) in
    cond-false _ _ _ (and_left _ _ past)

-- where the run of digits ends, the number is told by these digits
pub number_at_end : (bytes : List ℕ) (len number : ℕ) → HasRead bytes len number → (len < length bytes → is_ascii_digit (get_or bytes len 0) ≡ false)
    → number_at bytes ≡ cond (is_canonical (take len bytes)) (Some (number, drop len bytes)) None
unfolding number_at
number_at_end bytes len number h stops =
    let n : prefix_len is_ascii_digit bytes ≡ len = prefix_len_is is_ascii_digit bytes len 0 h.fits (λ k lt. digit_true _ (h.digits k lt)) stops in
    let small : nat_lt number (2 ^ 32) ≡ true = let s = h.small in grind (arith, nat_tests) in
    rw (n, length-take-le len bytes h.fits, ← h.value, small) refl

leading_are_digits : (bytes : List ℕ) → AreDigits (leading_digits bytes)
leading_are_digits bytes i lt =
    let i_lt : i < prefix_len is_ascii_digit bytes = omega (arith, length-prefix_len is_ascii_digit bytes) in
    rw (get_or-take (prefix_len is_ascii_digit bytes) bytes i 0 i_lt) (true_digit _ (prefix_len_passes is_ascii_digit bytes i 0 i_lt))

some_is : {A : Type 0} {x y : A} → Some x ≡ Some y → x ≡ y
some_is e = cc

-- a choice of `Some` or nothing that is `Some`
when : {A : Type 0} (b : Bool) (x y : A) → cond b (Some x) None ≡ Some y → (b ≡ true) × (x ≡ y)
when true x y e = (refl, cc)
when false x y e = absurd cc

-- no digit stands at the front, so that a number before these bytes ends there
abbrev pub EndsNumber : List ℕ → Type 0
EndsNumber [] = ⊤
EndsNumber (c ∷ cs) = is_ascii_digit c ≡ false

ends_after : (bytes : List ℕ) (k : ℕ) → (k < length bytes → is_ascii_digit (get_or bytes k 0) ≡ false) → EndsNumber (drop k bytes)
ends_after bytes k stops =
    elim (cases_lt k (length bytes)) [
      | inl within ↦ rw (drop_more bytes k 0 within) (stops within)
      | inr past ↦ rw (drop_all k bytes past) tt
    ]

canonical_first : (digits : List ℕ) → is_canonical digits ≡ true → (0 < length digits) × (get_or digits 0 0 ≡ 48 → length digits ≡ 1)
canonical_first digits h = grind (arith, nat_tests)

-- The number at the front is spelled so, and what follows it begins with no digit.
pub number_takes : (bytes : List ℕ) (n : ℕ) (rest : List ℕ) → number_at bytes ≡ Some (n, rest) → (bytes ≡ decimal n ++ rest) × (n < 2 ^ 32) × EndsNumber rest
unfolding number_at
number_takes bytes n rest e =
    let digits = leading_digits bytes in
    let told = when _ _ _ e in
    let parts = and_parts (nat_lt (digits_value 10 digits) (2 ^ 32)) (is_canonical digits) told.0 in
    let first : (0 < length digits) × (get_or digits 0 0 ≡ 48 → length digits ≡ 1) = canonical_first digits parts.1 in
    let small : digits_value 10 digits < 2 ^ 32 = ltb-true (digits_value 10 digits) (2 ^ 32) parts.0 in
    let spelled : decimal (digits_value 10 digits) ≡ digits = decimal-digits_value own digits (leading_are_digits bytes) first.0 first.1 (omega arith) in
    let value : digits_value 10 digits ≡ n = ap (λ p. p.0) told.1 in
    let after : drop (length digits) bytes ≡ rest = ap (λ p. p.1) told.1 in
    let len : length digits ≡ prefix_len is_ascii_digit bytes = length-prefix_len is_ascii_digit bytes in (
      rw (← value, spelled, ← after, len, take-append-drop) refl,
      subst (λ k. k < 2 ^ 32) value small,
      rw (← after, len) (ends_after bytes (prefix_len is_ascii_digit bytes) (prefix_len_stops is_ascii_digit bytes 0)),
    )

-- a spelling is `0`, or its first digit is not `0`
decimal_is_canonical : (n : ℕ) → n < 2 ^ 32 → is_canonical (decimal n) ≡ true
decimal_is_canonical n small =
    elim (cases_lt n 1) [
      | inl zero ↦ let e : decimal n ≡ 48 ∷ [] = decimal_digit n (omega arith) ∙ ap (λ k. (48 + k) ∷ []) (let z : n ≡ 0 = omega arith in z) in rw e refl
      | inr more ↦
          let first = first_decimal n more (omega arith) in
          let some = decimal_nonempty n (omega arith) in
          grind (arith, nat_tests)
    ]

end_at : (rest : List ℕ) → EndsNumber rest → 0 < length rest → is_ascii_digit (get_or rest 0 0) ≡ false
end_at [] ends some = absurd (omega arith)
end_at (c ∷ cs) ends some = ends

get_or_past_front : (front back : List ℕ) → get_or (front ++ back) (length front) 0 ≡ get_or back 0 0
get_or_past_front front back =
    let none : length front - length front ≡ 0 = omega arith in
    get_or-append_right front back (length front) (length front) 0 refl (le_refl _) ∙ ap (λ k. get_or back k 0) none

-- A number's spelling is read as that number, where no digit follows it.
pub number_again : (n : ℕ) (rest : List ℕ) → n < 2 ^ 32 → EndsNumber rest → number_at (decimal n ++ rest) ≡ Some (n, rest)
unfolding number_at
number_again n rest small ends =
    let text = decimal n in
    let digits : AreDigits text = digits_decimal own n (omega arith) in
    let value : digits_value 10 text ≡ n = digits_value-decimal own n (omega arith) in
    let len : prefix_len is_ascii_digit (text ++ rest) ≡ length text =
    prefix_len_is is_ascii_digit (text ++ rest) (length text) 0 (omega (arith, length-append text rest))
    (λ k lt. rw (get_or_append_left text rest 0 k lt) (digit_true _ (digits k lt)))
    (λ lt. rw (get_or_past_front text rest) (end_at rest ends (omega (arith, length-append text rest)))) in
    let taken : leading_digits (text ++ rest) ≡ text = rw len (take_at text rest (length text) refl) in
    let below : nat_lt n (2 ^ 32) ≡ true = grind (arith, nat_tests) in
    rw (taken, value, below, decimal_is_canonical n small, drop_at text rest (length text) refl) refl

-- Every byte of a spelling is a digit.
pub digits_of_decimal : (n : ℕ) → n < 2 ^ 32 → All (IsInRange 48 57) (decimal n)
digits_of_decimal n small k d lt = rw (get_or_default (decimal n) k d 0 lt) (digits_decimal own n (omega arith) k lt)

-- What `push_number` writes of a number from 0 on is read back by `read_number`: it is that number's spelling.
pub pushed_is_spelling : (n : ℕ) → signed_decimal (pos n) ≡ decimal n
pushed_is_spelling n = refl

-- the spelling of a number, alone, is read as that number with nothing after it
pub number_alone : (bytes : List ℕ) (n : ℕ) → n < 2 ^ 32 → bytes ≡ decimal n → number_at bytes ≡ Some (n, [])
number_alone bytes n small e = rw (e, ← (append-nil (decimal n))) (number_again n [] small tt)

-- a number that is read of bytes with nothing left is spelled by them all, and what is spelled by them all is read
pub read_alone : (bytes : List ℕ) (n : ℕ) (rest : List ℕ) → Some (n, rest) ≡ number_at bytes → length rest ≡ 0 → bytes ≡ decimal n
read_alone bytes n rest e none =
    let nil : rest ≡ [] = nil_from_length rest none in
    (number_takes bytes n rest (sym e)).0 ∙ (ap (λ r. decimal n ++ r) nil ∙ append-nil (decimal n))

pub read_same : (bytes : List ℕ) (n m : ℕ) (rest : List ℕ) → Some (m, rest) ≡ number_at bytes → n < 2 ^ 32 → bytes ≡ decimal n → (m ≡ n) × (rest ≡ [])
read_same bytes n m rest e small spelled =
    let p = some_is (e ∙ number_alone bytes n small spelled) in (ap (λ p. p.0) p, ap (λ p. p.1) p)
