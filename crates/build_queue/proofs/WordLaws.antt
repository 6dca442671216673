-- Sets of numbers as words of bits: what a bit that was put changes, and which number is the least.
use Rattle.std.proofs.Common.{◌≡◌, ◌≢◌, ℕ, ◌+◌, ◌*◌, ◌/◌, ◌%◌, ◌^◌, ◌<◌, ◌≤◌, Bool, true, false, not, List, length, set, get_or, replicate, Some, None, ap, sym, subst, ◌∙◌, ⊎_elim, arith}
use Rattle.std.specs.Prelude.{◌==◌, min, if◌then◌else◌}
use Rattle.std.specs.Int.{bit_at, div_ceil}
use Rattle.std.proofs.lemmas.Bool.{cases_eq, cases_lt, eq-eqb, ne_eqb}
use Rattle.std.proofs.lemmas.List.{ext_get_or, get_or-replicate, get_or-set_other, get_or-set_same, get_or_past, length-replicate, length-set}
use Rattle.std.proofs.lemmas.List.FromFn.{get_or-map-range_with_len, length-map-range_with_len}
use Rattle.std.proofs.lemmas.Nat.Bits.{bit_at-zero}
use Rattle.build_queue.specs.Flags.{flag_of, least_below}
use Rattle.build_queue.specs.Words.{bit_of, flags_of, IsLeastOf, IsLeastSet, IsPut}
use Rattle.build_queue.proofs.Leasts.{least_below-none, least_below-some}

-- the flag of a number is its bit
pub flag_is : (count : ℕ) (words : List ℕ) (number : ℕ) → number < count → flag_of (flags_of count words) number ≡ (bit_of words number == 1)
flag_is count words number there = get_or-map-range_with_len (λ (n : ℕ). bit_of words n == 1) 0 count number number false there (omega arith)

pub flags_count : (count : ℕ) (words : List ℕ) → length (flags_of count words) ≡ count
flags_count count words = length-map-range_with_len (λ (n : ℕ). bit_of words n == 1) 0 count

-- a tile of the flags has a bit
pub tile_there : (count : ℕ) (words : List ℕ) (flags : List Bool) (tile : ℕ) → flags_of count words ≡ flags → tile < length flags → tile < count
tile_there count words flags tile is there = let each = flags_count count words in omega (arith, there, each, ap length is)

-- a word that is written puts the bit of one number
pub put_word : (old new : List ℕ) (number word : ℕ) (member : Bool) → number < 64 * length old → new ≡ set old (number / 64) word
    → bit_at word (number % 64) ≡ (if member then 1 else 0)
    → ((other : ℕ) → other < 64 → other ≢ number % 64 → bit_at word other ≡ bit_at (get_or old (number / 64) 0) other) → IsPut old number member new
put_word old new number word member there is here others =
    let within : number / 64 < length old = omega (arith, there) in
    let written : get_or new (number / 64) 0 ≡ word = ap (λ (ws : List ℕ). get_or ws (number / 64) 0) is ∙ get_or-set_same old (number / 64) word 0 within in
    let left : (k : ℕ) → k ≢ number / 64 → get_or new k 0 ≡ get_or old k 0 =
    λ k apart. ap (λ (ws : List ℕ). get_or ws k 0) is ∙ get_or-set_other old (number / 64) k word 0 apart in
    record {
      each = ap length is ∙ length-set old (number / 64) word;
      here = ap (λ (w : ℕ). bit_at w (number % 64)) written ∙ here;
      others = λ other apart. ⊎_elim
          (λ same.
          ap (λ (k : ℕ). bit_at (get_or new k 0) (other % 64)) same ∙ ap (λ (w : ℕ). bit_at w (other % 64)) written
          ∙ others (other % 64) (omega arith) (λ (e : other % 64 ≡ number % 64). apart (omega (arith, e, same)))
          ∙ ap (λ (k : ℕ). bit_at (get_or old k 0) (other % 64)) (sym same))
          (λ different. ap (λ (w : ℕ). bit_at w (other % 64)) (left (other / 64) different))
          (cases_eq (other / 64) (number / 64));
      words = left;
    }

-- the flags after a number was put
pub flags_put : (count : ℕ) (old new : List ℕ) (number : ℕ) (member : Bool) → number < count → IsPut old number member new
    → flags_of count new ≡ set (flags_of count old) number member
flags_put count old new number member there put =
    let old_count = flags_count count old in
    let new_count = flags_count count new in
    ext_get_or false (flags_of count new) (set (flags_of count old) number member) (new_count ∙ sym (length-set (flags_of count old) number member ∙ old_count))
    (λ k within.
    let inside : k < count = omega (arith, within, new_count) in
    flag_is count new k inside
    ∙ ⊎_elim
    (λ same. ap (λ (n : ℕ). bit_of new n == 1) same ∙ by_member member put.here
    ∙ sym (get_or-set_same (flags_of count old) number member false (omega (arith, there, old_count)))
    ∙ ap (λ (n : ℕ). get_or (set (flags_of count old) number member) n false) (sym same))
    (λ apart. ap (λ (b : ℕ). b == 1) (put.others k apart) ∙ sym (flag_is count old k inside)
    ∙ sym (get_or-set_other (flags_of count old) number k member false apart))
    (cases_eq k number))
  where
    by_member : (b : Bool) → bit_of new number ≡ (if b then 1 else 0) → (bit_of new number == 1) ≡ b
    by_member true is = eq-eqb (bit_of new number) 1 is
    by_member false is = ne_eqb (bit_of new number) 1 (λ one. omega (arith, is, one))

-- a number that was put in the words, and the word with members in the words over them
pub kept_put : (count : ℕ) (words filled words' filled' : List ℕ) (number : ℕ) (member some : Bool) → number < count → IsLeastSet count words filled
    → IsPut words number member words' → some ≡ not (get_or words' (number / 64) 0 == 0) → IsPut filled (number / 64) some filled'
    → IsLeastSet count words' filled'
kept_put count words filled words' filled' number member some there kept put test over = record {
  few = kept.few;
  each = put.each ∙ kept.each;
  over = over.each ∙ kept.over ∙ ap (λ (n : ℕ). div_ceil n 64) (sym put.each);
  within = λ other out. put.others other (λ same. omega (arith, out, same, there)) ∙ kept.within other out;
  filled_are = λ word. ⊎_elim
      (λ same.
      subst (λ (k : ℕ). bit_of filled' k ≡ min 1 (get_or words' k 0)) (sym same) (over.here ∙ by_word (get_or words' (number / 64) 0) some test))
      (λ apart. over.others word apart ∙ kept.filled_are word ∙ ap (λ (w : ℕ). min 1 w) (sym (put.words word apart)))
      (cases_eq word (number / 64));
}
  where
    by_word : (w : ℕ) (b : Bool) → b ≡ not (w == 0) → (if b then 1 else 0) ≡ min 1 w
    by_word w b is = ⊎_elim
        (λ zero. let none : b ≡ false = is ∙ ap not (eq-eqb w 0 zero) in ap (λ (t : Bool). if t then 1 else 0) none ∙ omega (arith, zero))
        (λ more. let some : b ≡ true = is ∙ ap not (ne_eqb w 0 more) in ap (λ (t : Bool). if t then 1 else 0) some ∙ omega (arith, more))
        (cases_eq w 0)

-- a word with members
pub word_there : (count : ℕ) (words filled : List ℕ) (word : ℕ) → IsLeastSet count words filled → bit_of filled word ≡ 1
    → (word < length words) × (0 < get_or words word 0)
word_there count words filled word kept is =
    let some : 0 < get_or words word 0 = omega (arith, kept.filled_are word, is) in (
      ⊎_elim (λ there. there) (λ past. absurd (omega (arith, some, get_or_past words word 0 past))) (cases_lt word (length words)),
      some,
    )

-- the least bit of the first word that is not 0 is that of the least member
pub least_here : (words : List ℕ) (word low : ℕ) → ((other : ℕ) → other < word → get_or words other 0 ≡ 0) → low < 64
    → bit_at (get_or words word 0) low ≡ 1 → ((other : ℕ) → other < low → bit_at (get_or words word 0) other ≡ 0) → IsLeastOf words (64 * word + low)
least_here words word low none small is before =
    let quotient : (64 * word + low) / 64 ≡ word = omega (arith, small) in
    let rest : (64 * word + low) % 64 ≡ low = omega (arith, small) in
    record {
      member = (λ i. bit_at (get_or words (quotient i) 0) (rest i)) ∙ is;
      before = λ other less. ⊎_elim
          (λ earlier. ap (λ (w : ℕ). bit_at w (other % 64)) (none (other / 64) earlier) ∙ bit_at-zero (other % 64))
          (λ later.
          let same : other / 64 ≡ word = omega (arith, later, less, small) in
          ap (λ (k : ℕ). bit_at (get_or words k 0) (other % 64)) same ∙ before (other % 64) (omega (arith, same, less)))
          (cases_lt (other / 64) word);
    }

-- the same with the words over them
pub least_found : (count : ℕ) (words filled : List ℕ) (word low : ℕ) → IsLeastSet count words filled → IsLeastOf filled word → low < 64
    → bit_at (get_or words word 0) low ≡ 1 → ((other : ℕ) → other < low → bit_at (get_or words word 0) other ≡ 0) → IsLeastOf words (64 * word + low)
least_found count words filled word low kept first =
    least_here words word low (λ other earlier. omega (arith, kept.filled_are other, first.before other earlier))

-- words that are all 0 have no members
pub all_zero : (words : List ℕ) (end : ℕ) → length words ≤ end → ((word : ℕ) → word < end → get_or words word 0 ≡ 0) → (number : ℕ) → bit_of words number ≡ 0
all_zero words end all none number =
    ap (λ (w : ℕ). bit_at w (number % 64))
    (⊎_elim (λ there. none (number / 64) there) (λ past. get_or_past words (number / 64) 0 (omega (arith, past, all))) (cases_lt (number / 64) end))
    ∙ bit_at-zero (number % 64)

-- a member is a tile
pub least_within : (count : ℕ) (words filled : List ℕ) (number : ℕ) → IsLeastSet count words filled → bit_of words number ≡ 1 → number < count
least_within count words filled number kept is =
    ⊎_elim (λ there. there) (λ past. absurd (omega (arith, kept.within number past, is))) (cases_lt number count)

pub least_is : (count : ℕ) (words filled : List ℕ) (number : ℕ) → IsLeastSet count words filled → IsLeastOf words number
    → Some number ≡ least_below (length (flags_of count words)) (flag_of (flags_of count words))
least_is count words filled number kept least =
    let there : number < count = least_within count words filled number kept least.member in
    let each = flags_count count words in
    sym (least_below-some (length (flags_of count words)) number (flag_of (flags_of count words)) (omega (arith, there, each))
    (flag_is count words number there ∙ eq-eqb (bit_of words number) 1 least.member)
    (λ other before.
    flag_is count words other (omega (arith, before, there))
    ∙ ne_eqb (bit_of words other) 1 (λ one. omega (arith, one, least.before other before))))

-- no word with members, no members
pub none_is : (count : ℕ) (words filled : List ℕ) → IsLeastSet count words filled → ((word : ℕ) → bit_of filled word ≡ 0)
    → None ≡ least_below (length (flags_of count words)) (flag_of (flags_of count words))
none_is count words filled kept none =
    let each = flags_count count words in
    sym (least_below-none (length (flags_of count words)) (flag_of (flags_of count words))
    (λ number there.
    let empty : get_or words (number / 64) 0 ≡ 0 = omega (arith, kept.filled_are (number / 64), none (number / 64)) in
    flag_is count words number (omega (arith, there, each))
    ∙ ne_eqb (bit_of words number) 1
    (λ one. omega (arith, one, ap (λ (w : ℕ). bit_at w (number % 64)) empty, bit_at-zero (number % 64)))))

-- no members at first
zero_words : (n word : ℕ) → get_or (replicate {A = ℕ} n 0) word 0 ≡ 0
zero_words n word =
    let none : List ℕ = replicate n 0 in
    ⊎_elim (λ there. get_or-replicate n word 0 0 there) (λ past. get_or_past none word 0 (omega (arith, past, length-replicate {A = ℕ} n 0))) (cases_lt word n)

zeros : (n number : ℕ) → bit_of (replicate n 0) number ≡ 0
zeros n number = ap (λ (w : ℕ). bit_at w (number % 64)) (zero_words n (number / 64)) ∙ bit_at-zero (number % 64)

pub kept_first : (count : ℕ) (words filled : List ℕ) → count < 2 ^ 32 → words ≡ replicate (div_ceil count 64) 0
    → filled ≡ replicate (div_ceil (div_ceil count 64) 64) 0 → IsLeastSet count words filled
kept_first count words filled few none empty = rw (none, empty) (record {
  few = few;
  each = length-replicate (div_ceil count 64) 0;
  over = length-replicate (div_ceil (div_ceil count 64) 64) 0 ∙ ap (λ (n : ℕ). div_ceil n 64) (sym (length-replicate (div_ceil count 64) 0));
  within = λ number _. zeros (div_ceil count 64) number;
  filled_are = λ word. zeros (div_ceil (div_ceil count 64) 64) word ∙ ap (λ (w : ℕ). min 1 w) (sym (zero_words (div_ceil count 64) word));
})

pub none_at_first : (count : ℕ) (words : List ℕ) (n : ℕ) → words ≡ replicate n 0 → flags_of count words ≡ replicate count false
none_at_first count words n none =
    let each = flags_count count words in
    ext_get_or false (flags_of count words) (replicate count false) (each ∙ sym (length-replicate count false))
    (λ k within.
    flag_is count words k (omega (arith, within, each))
    ∙ ne_eqb (bit_of words k) 1 (λ one. omega (arith, one, ap (λ (ws : List ℕ). bit_of ws k) none, zeros n k))
    ∙ sym (get_or-replicate count k false false (omega (arith, within, each))))
