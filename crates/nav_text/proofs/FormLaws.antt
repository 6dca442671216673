-- The laws of lines that are a word and numbers.
use Rattle.std.proofs.Common.{IfSome, set, length-set, ◌≡◌, ℕ, zero, suc, ◌+◌, ◌-◌, ◌^◌, ◌<◌, ◌≤◌, Bool, true, false, not, cond, eqb, List, [], ◌∷◌, ◌++◌, length, take, drop, flat_map, Option, Some, None, decimal, sym, subst, ap₂, nat_eq, bytes_eq, take-append-drop, refl, ap, ◌∙◌, arith, append_assoc, append-nil, option_and_then}
use Rattle.std.specs.Option.{option_map}
use Rattle.std.specs.List.{starts_with}
use Rattle.std.specs.Int.{IsInRange}
use Rattle.std.proofs.lemmas.Bool.Decides.{nat_tests}
use Rattle.std.proofs.lemmas.Bool.{and_from, false_from_ne_true, cond-false, cond-true, eqb-true}
use Rattle.std.proofs.lemmas.List.{nil_from_length, take_at, drop_at, take_all, take_more_set}
use Rattle.std.proofs.lemmas.List.Folds.{list_all-append}
use Rattle.std.proofs.lemmas.List.Sums.{list_all-from_AllPass}
use Rattle.std.proofs.lemmas.Slice.Eq.{bytes_eq-Decides}
use Rattle.nav_base.specs.Number.{number_at}
use Rattle.nav_base.proofs.NumberLaws.{EndsNumber, number_takes, number_again, digits_of_decimal}
use Rattle.nav_text.specs.Lines.{is_line}
use Rattle.nav_text.specs.Forms.{field_at, fields_of, numbers_of, number_after, line_text, ends_word, has_word, AreNumbers}
use Rattle.nav_text.proofs.Inversions.{some_is, when, bind_some, map_some}

-- the numbers of a line, each behind a space
abbrev pub spaced : List ℕ → List ℕ
spaced numbers = flat_map (λ n. 32 ∷ decimal n) numbers

field_takes : (bytes : List ℕ) (n : ℕ) (rest : List ℕ) → field_at bytes ≡ Some (n, rest) → (bytes ≡ 32 ∷ (decimal n ++ rest)) × (n < 2 ^ 32)
unfolding field_at
field_takes [] n rest e = absurd cc
field_takes (c ∷ bytes) n rest e =
    let told = when (eqb c 32) (number_at bytes) (n, rest) e in
    let number = number_takes bytes n rest told.1 in (ap₂ (λ d ds. d ∷ ds) (eqb-true c 32 told.0) number.0, number.1)

field_again : (n : ℕ) (rest : List ℕ) → n < 2 ^ 32 → EndsNumber rest → field_at (32 ∷ (decimal n ++ rest)) ≡ Some (n, rest)
unfolding field_at
field_again n rest small ends = number_again n rest small ends

ends-spaced : (numbers : List ℕ) → EndsNumber (spaced numbers)
ends-spaced [] = tt
ends-spaced (n ∷ numbers) = refl

-- Numbers that each stand behind a space are read.
pub fields_of_again : (numbers : List ℕ) → AreNumbers numbers → fields_of (length numbers) (spaced numbers) ≡ Some numbers
unfolding fields_of
fields_of_again [] fit = refl
fields_of_again (n ∷ numbers) fit =
    ap (option_and_then (λ x. option_map (λ more. x.0 ∷ more) (fields_of (length numbers) x.1))) (field_again n (spaced numbers) fit.0 (ends-spaced numbers))
    ∙ ap (option_map (λ more. n ∷ more)) (fields_of_again numbers fit.1)

none_left : (bytes numbers : List ℕ) → cond (eqb (length bytes) 0) (Some []) None ≡ Some numbers → (bytes ≡ spaced numbers) × (length numbers ≡ 0) × AreNumbers numbers
none_left bytes numbers e =
    let told = when (eqb (length bytes) 0) (Some []) numbers e in
    let P : List ℕ → Type 0 = λ ns. (bytes ≡ spaced ns) × (length ns ≡ 0) × AreNumbers ns in
    subst P (some_is told.1) (nil_from_length bytes (eqb-true _ _ told.0), refl, tt)

one_more : (bytes numbers : List ℕ) (n : ℕ) (rest more : List ℕ) (count : ℕ) → n ∷ more ≡ numbers → bytes ≡ 32 ∷ (decimal n ++ rest) → n < 2 ^ 32
    → (rest ≡ spaced more) × (length more ≡ count) × AreNumbers more → (bytes ≡ spaced numbers) × (length numbers ≡ suc count) × AreNumbers numbers
one_more bytes numbers n rest more count all spelled small told =
    let P : List ℕ → Type 0 = λ ns. (bytes ≡ spaced ns) × (length ns ≡ suc count) × AreNumbers ns in
    subst P all (spelled ∙ ap (λ r. 32 ∷ (decimal n ++ r)) told.0, ap suc told.1, (small, told.2))

pub fields_of_take : (count : ℕ) (bytes numbers : List ℕ) → fields_of count bytes ≡ Some numbers → (bytes ≡ spaced numbers) × (length numbers ≡ count) × AreNumbers numbers
unfolding fields_of
fields_of_take zero bytes numbers e = none_left bytes numbers e
fields_of_take (suc count) bytes numbers e =
    let first = bind_some (λ x. option_map (λ more. x.0 ∷ more) (fields_of count x.1)) (field_at bytes) numbers e in
    let rest = map_some (λ more. first.0.0 ∷ more) (fields_of count first.0.1) numbers first.2 in
    let spelled = field_takes bytes first.0.0 first.0.1 first.1 in
    one_more bytes numbers first.0.0 first.0.1 rest.0 count rest.2 spelled.0 spelled.1 (fields_of_take count first.0.1 rest.0 rest.1)

-- A word and numbers are read as these numbers.
pub numbers_again : (word numbers : List ℕ) → AreNumbers numbers → numbers_of word (length numbers) (line_text word numbers) ≡ Some numbers
unfolding numbers_of
numbers_again word numbers fit =
    let begins : starts_with nat_eq (line_text word numbers) word ≡ true =
    ap (bytes_eq word) (take_at word (spaced numbers) (length word) refl) ∙ (bytes_eq-Decides word word).1 refl in
    cond-true _ _ _ begins ∙ (ap (fields_of (length numbers)) (drop_at word (spaced numbers) (length word) refl) ∙ fields_of_again numbers fit)

-- A line of which numbers are read is the word and these numbers.
pub numbers_take : (word : List ℕ) (count : ℕ) (line numbers : List ℕ) → numbers_of word count line ≡ Some numbers
    → (line ≡ line_text word numbers) × (length numbers ≡ count) × AreNumbers numbers
unfolding numbers_of
numbers_take word count line numbers e =
    let told = when (starts_with nat_eq line word) (fields_of count (drop (length word) line)) numbers e in
    let fields = fields_of_take count (drop (length word) line) numbers told.1 in
    let begins : word ≡ take (length word) line = (bytes_eq-Decides word (take (length word) line)).0 told.0 in (
      sym (take-append-drop (length word) line) ∙ ap₂ (λ a b. a ++ b) (sym begins) fields.0,
      fields.1,
      fields.2,
    )

-- a word, a number and what is behind it
after_is : (first rest : List ℕ) (number : ℕ) → line_text first (number ∷ []) ++ rest ≡ first ++ 32 ∷ (decimal number ++ rest)
after_is first rest number =
    append_assoc first (32 ∷ (decimal number ++ [])) rest ∙ ap (λ text. first ++ 32 ∷ (text ++ rest)) (append-nil (decimal number))

-- A word and a number are read as that number, where what follows ends it.
pub number_after_at : (word : List ℕ) (number : ℕ) (rest : List ℕ) → number < 2 ^ 32 → EndsNumber rest
    → number_after word (line_text word (number ∷ []) ++ rest) ≡ Some (number, rest)
unfolding number_after
number_after_at word number rest small ends =
    let behind : List ℕ = 32 ∷ (decimal number ++ rest) in
    let begins : starts_with nat_eq (word ++ behind) word ≡ true =
    ap (bytes_eq word) (take_at word behind (length word) refl) ∙ (bytes_eq-Decides word word).1 refl in
    ap (number_after word) (after_is word rest number)
    ∙ cond-true _ _ _ begins
    ∙ ap field_at (drop_at word behind (length word) refl)
    ∙ field_again number rest small ends

-- A line of which a number behind a word is read is the word, that number and the rest.
pub number_after_take : (word line : List ℕ) (x : ℕ × List ℕ) → number_after word line ≡ Some x → line ≡ line_text word (x.0 ∷ []) ++ x.1
unfolding number_after
number_after_take word line x e =
    let told = when (starts_with nat_eq line word) (field_at (drop (length word) line)) x e in
    let field = field_takes (drop (length word) line) x.0 x.1 told.1 in
    let begins : word ≡ take (length word) line = (bytes_eq-Decides word (take (length word) line)).0 told.0 in
    sym (take-append-drop (length word) line) ∙ ap₂ (λ a b. a ++ b) (sym begins) field.0 ∙ sym (after_is word x.1 x.0)

-- a line of a word and numbers has that first word
pub has_word-numbers : (word : List ℕ) (count : ℕ) (line numbers : List ℕ) → numbers_of word (suc count) line ≡ Some numbers → has_word word line ≡ true
unfolding numbers_of
has_word-numbers word count line numbers e =
    let told = when (starts_with nat_eq line word) (fields_of (suc count) (drop (length word) line)) numbers e in
    let fields = fields_of_take (suc count) (drop (length word) line) numbers told.1 in
    and_from _ _ told.0 (ap ends_word fields.0 ∙ ends_spaced numbers fields.1)
  where
    ends_spaced : (numbers : List ℕ) → length numbers ≡ suc count → ends_word (spaced numbers) ≡ true
    ends_spaced [] long = refl
    ends_spaced (n ∷ numbers) long = refl

-- what a line is where the word is taken off it, and where it does not begin with the word
pub numbers_behind : (word : List ℕ) (count : ℕ) (line rest : List ℕ) → bytes_eq (take (length word) line) word ≡ true → rest ≡ drop (length word) line
    → fields_of count rest ≡ numbers_of word count line
unfolding numbers_of
numbers_behind word count line rest begins after =
    let same : take (length word) line ≡ word = (bytes_eq-Decides (take (length word) line) word).0 begins in
    sym (cond-true _ _ _ ((bytes_eq-Decides word (take (length word) line)).1 (sym same)) ∙ ap (fields_of count) (sym after))

pub numbers_without : (word : List ℕ) (count : ℕ) (line : List ℕ) → bytes_eq (take (length word) line) word ≡ false → None ≡ numbers_of word count line
unfolding numbers_of
numbers_without word count line other =
    sym (cond-false _ _ _ (false_from_ne_true _ (λ begins.
    let yes = (bytes_eq-Decides (take (length word) line) word).1 (sym ((bytes_eq-Decides word (take (length word) line)).0 begins)) in absurd cc)))

pub numbers_found : (word : List ℕ) (count : ℕ) (line : List ℕ) (result : Option (List ℕ)) → result ≡ numbers_of word count line
    → IfSome result (λ numbers. line ≡ line_text word numbers)
numbers_found word count line (Some numbers) e = (numbers_take word count line numbers (sym e)).0
numbers_found word count line None e = tt

pub numbers_only : (word : List ℕ) (count : ℕ) (line : List ℕ) (result : Option (List ℕ)) → result ≡ numbers_of word count line
    → (numbers : List ℕ) → length numbers ≡ count → AreNumbers numbers → line ≡ line_text word numbers → result ≡ Some numbers
numbers_only word count line result e numbers long fit spelled =
    e ∙ (ap₂ (λ k l. numbers_of word k l) (sym long) spelled ∙ numbers_again word numbers fit)

other_than_feed : (c : ℕ) → IsInRange 48 57 c → not (eqb c 10) ≡ true
other_than_feed c digit = grind (arith, nat_tests)

plain_digits : (n : ℕ) → n < 2 ^ 32 → is_line (decimal n) ≡ true
plain_digits n small = list_all-from_AllPass (λ c. not (eqb c 10)) (decimal n) (λ k d lt. other_than_feed _ (digits_of_decimal n small k d lt))

plain_spaced : (numbers : List ℕ) → AreNumbers numbers → is_line (spaced numbers) ≡ true
plain_spaced [] fit = refl
plain_spaced (n ∷ numbers) fit =
    list_all-append (λ c. not (eqb c 10)) (32 ∷ decimal n) (spaced numbers) ∙ and_from _ _ (plain_digits n fit.0) (plain_spaced numbers fit.1)

-- a word and numbers have no line feed in them
pub is_line-line_text : (word numbers : List ℕ) → is_line word ≡ true → AreNumbers numbers → is_line (line_text word numbers) ≡ true
is_line-line_text word numbers plain fit =
    list_all-append (λ c. not (eqb c 10)) word (spaced numbers) ∙ and_from _ _ plain (plain_spaced numbers fit)

field_misses : (bytes : List ℕ) (count : ℕ) → None ≡ field_at bytes → None ≡ fields_of (suc count) bytes
unfolding fields_of
field_misses bytes count e = ap (option_and_then (λ x. option_map (λ more. x.0 ∷ more) (fields_of count x.1))) e

field_reads : (bytes : List ℕ) (count n : ℕ) (after : List ℕ) → Some (n, after) ≡ field_at bytes → option_map (λ more. n ∷ more) (fields_of count after) ≡ fields_of (suc count) bytes
unfolding fields_of
field_reads bytes count n after e = ap (option_and_then (λ x. option_map (λ more. x.0 ∷ more) (fields_of count x.1))) e

-- of the numbers of these bytes the first `i` are read, and the rest follows
pub record HasFields (count : ℕ) (bytes numbers rest : List ℕ) (i : ℕ) : Type 0 where
  pub places : length numbers ≡ count
  pub reads : fields_of count bytes ≡ option_map (λ more. take i numbers ++ more) (fields_of (count - i) rest)

same_map : {A : Type 0} (o : Option A) → o ≡ option_map (λ x. x) o
same_map (Some x) = refl
same_map None = refl

pub HasFields_start : (count : ℕ) (bytes numbers : List ℕ) → length numbers ≡ count → HasFields count bytes numbers bytes 0
HasFields_start count bytes numbers places =
    let all : count ≡ count - 0 = omega arith in record {
      places = places;
      reads = same_map (fields_of count bytes) ∙ ap (λ k. option_map (λ more. more) (fields_of k bytes)) all;
    }

map_step : (front longer : List ℕ) (n : ℕ) → longer ≡ front ++ n ∷ [] → (o : Option (List ℕ))
    → option_map (λ more. front ++ more) (option_map (λ more. n ∷ more) o) ≡ option_map (λ more. longer ++ more) o
map_step front longer n e (Some more) = ap Some (sym (ap (λ l. l ++ more) e ∙ append_assoc front (n ∷ []) more))
map_step front longer n e None = refl

pub HasFields_more : (count : ℕ) (bytes numbers rest : List ℕ) (i n : ℕ) (after : List ℕ) → HasFields count bytes numbers rest i → i < count
    → Some (n, after) ≡ field_at rest → HasFields count bytes (set numbers i n) after (i + 1)
HasFields_more count bytes numbers rest i n after has lt e =
    let places : length numbers ≡ count = has.places in
    let one : count - i ≡ suc (count - (i + 1)) = omega arith in record {
      places = length-set numbers i n ∙ places;
      reads = has.reads
          ∙ (ap (option_map (λ more. take i numbers ++ more)) (ap (λ k. fields_of k rest) one ∙ sym (field_reads rest (count - (i + 1)) n after e))
          ∙ map_step (take i numbers) (take (i + 1) (set numbers i n)) n (take_more_set numbers i n (omega arith)) (fields_of (count - (i + 1)) after));
    }

pub HasFields_none : (count : ℕ) (bytes numbers rest : List ℕ) (i : ℕ) → HasFields count bytes numbers rest i → i < count → None ≡ field_at rest → None ≡ fields_of count bytes
HasFields_none count bytes numbers rest i has lt e =
    let one : count - i ≡ suc (count - (i + 1)) = omega arith in
    sym (has.reads ∙ ap (option_map (λ more. take i numbers ++ more)) (ap (λ k. fields_of k rest) one ∙ sym (field_misses rest (count - (i + 1)) e)))

fields_of_end : (rest : List ℕ) → fields_of 0 rest ≡ cond (eqb (length rest) 0) (Some []) None
unfolding fields_of
fields_of_end rest = refl

end_map : (numbers : List ℕ) (b : Bool) → option_map (λ more. numbers ++ more) (cond b (Some []) None) ≡ cond b (Some numbers) None
end_map numbers true = ap Some (append-nil numbers)
end_map numbers false = refl

pub HasFields_end : (count : ℕ) (bytes numbers rest : List ℕ) (i : ℕ) → HasFields count bytes numbers rest i → count ≤ i
    → fields_of count bytes ≡ cond (eqb (length rest) 0) (Some numbers) None
HasFields_end count bytes numbers rest i has past =
    let places : length numbers ≡ count = has.places in
    let none : count - i ≡ 0 = omega arith in
    has.reads ∙ (ap₂ (λ front k. option_map (λ more. front ++ more) (fields_of k rest)) (take_all i numbers (omega arith)) none
    ∙ (ap (option_map (λ more. numbers ++ more)) (fields_of_end rest) ∙ end_map numbers (eqb (length rest) 0)))
