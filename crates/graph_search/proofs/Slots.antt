-- The slots of keys are in the order of the keys, and stay where they are when a lesser key is taken.
use Rattle.std.proofs.Common.{◌≡◌, ◌≢◌, ℕ, zero, suc, ◌+◌, ◌-◌, ◌*◌, ◌^◌, ◌<◌, ◌≤◌, ◌⊎◌, refl, sym, ap, ◌∙◌, inl, inr, arith}
use Rattle.std.specs.Prelude.{◌/◌, ◌%◌, ◌==◌}
use Rattle.std.proofs.lemmas.Bool.{cases_eq, cond-true, cond-false, eq-eqb, ne_eqb}
use Rattle.std.proofs.lemmas.Nat.{pow-add}
use Rattle.std.proofs.Math.Nat.{div-one, div-div-eq-div-mul}
use Rattle.graph_search.specs.Entries.{slot_of}

-- where only the lowest digit differs, or another does, and where there are no digits
slot-none : (last key : ℕ) → slot_of zero last key ≡ 0
unfolding slot_of
slot-none last key = refl

slot-low : (digits last key : ℕ) → last / 64 ≡ key / 64 → slot_of (suc digits) last key ≡ key % 64
unfolding slot_of
slot-low digits last key same = cond-true (last / 64 == key / 64) (key % 64) (64 + slot_of digits (last / 64) (key / 64)) (eq-eqb (last / 64) (key / 64) same)

slot-high : (digits last key : ℕ) → last / 64 ≢ key / 64 → slot_of (suc digits) last key ≡ 64 + slot_of digits (last / 64) (key / 64)
unfolding slot_of
slot-high digits last key differ =
    cond-false (last / 64 == key / 64) (key % 64) (64 + slot_of digits (last / 64) (key / 64)) (ne_eqb (last / 64) (key / 64) differ)

-- the quotients of numbers are in the order of the numbers
quotients : (a b : ℕ) → a ≤ b → a / 64 ≤ b / 64
quotients a b less = omega arith

-- a key in a lower slot is less
pub slots-order : (digits last a b : ℕ) → last ≤ a → last ≤ b → slot_of digits last a < slot_of digits last b → a < b
slots-order zero last a b no_less_a no_less_b below = absurd (omega (arith, below, slot-none last a, slot-none last b))
slots-order (suc digits) last a b no_less_a no_less_b below =
    elim (cases_eq (last / 64) (a / 64)) [
      | inl low_a ↦
          elim (cases_eq (last / 64) (b / 64)) [
            | inl low_b ↦ omega (arith, slot-low digits last a low_a, slot-low digits last b low_b, below, low_a, low_b)
            | inr high_b ↦ omega (arith, quotients last b no_less_b, high_b, low_a)
          ]
      | inr high_a ↦
          elim (cases_eq (last / 64) (b / 64)) [
            | inl low_b ↦ absurd (omega (arith, slot-high digits last a high_a, slot-low digits last b low_b, below))
            | inr high_b ↦
                let less = slots-order digits (last / 64) (a / 64) (b / 64) (quotients last a no_less_a) (quotients last b no_less_b)
                (omega (arith, slot-high digits last a high_a, slot-high digits last b high_b, below)) in
                omega (arith, less)
          ]
    ]

-- once a key was taken, the keys in higher slots have the slots that they had
pub slots-kept : (digits last taken key : ℕ) → last ≤ taken → last ≤ key → slot_of digits last taken < slot_of digits last key
    → slot_of digits taken key ≡ slot_of digits last key
slots-kept zero last taken key no_less_taken no_less below = absurd (omega (arith, below, slot-none last taken, slot-none last key))
slots-kept (suc digits) last taken key no_less_taken no_less below =
    elim (cases_eq (last / 64) (taken / 64)) [
      | inl low ↦
          elim (cases_eq (last / 64) (key / 64)) [
            | inl low_key ↦ slot-low digits taken key (sym low ∙ low_key) ∙ sym (slot-low digits last key low_key)
            | inr high_key ↦
                slot-high digits taken key (λ same. high_key (low ∙ same))
                ∙ ap (λ (n : ℕ). 64 + slot_of digits n (key / 64)) (sym low)
                ∙ sym (slot-high digits last key high_key)
          ]
      | inr high ↦
          elim (cases_eq (last / 64) (key / 64)) [
            | inl low_key ↦ absurd (omega (arith, slot-high digits last taken high, slot-low digits last key low_key, below))
            | inr high_key ↦
                let below' : slot_of digits (last / 64) (taken / 64) < slot_of digits (last / 64) (key / 64) =
                omega (arith, slot-high digits last taken high, slot-high digits last key high_key, below) in
                let less = slots-order digits (last / 64) (taken / 64) (key / 64) (quotients last taken no_less_taken) (quotients last key no_less) below' in
                slot-high digits taken key (λ same. omega (arith, less, same))
                ∙ ap (λ (n : ℕ). 64 + n) (slots-kept digits (last / 64) (taken / 64) (key / 64) (quotients last taken no_less_taken) (quotients last key no_less) below')
                ∙ sym (slot-high digits last key high_key)
          ]
    ]

-- a slot of the lowest digit has one key, which has that slot once it was taken
low_digit : (digits last key : ℕ) → slot_of (suc digits) last key < 64 → last / 64 ≡ key / 64
low_digit digits last key below =
    elim (cases_eq (last / 64) (key / 64)) [ inl low ↦ low | inr high ↦ absurd (omega (arith, slot-high digits last key high, below)) ]

pub slot-one_key : (digits last a b : ℕ) → slot_of (suc digits) last a < 64 → slot_of (suc digits) last a ≡ slot_of (suc digits) last b → a ≡ b
slot-one_key digits last a b below same =
    let low_a = low_digit digits last a below in
    let low_b = low_digit digits last b (omega (arith, below, same)) in
    omega (arith, slot-low digits last a low_a, slot-low digits last b low_b, same, low_a, low_b)

pub slot-itself : (digits last key : ℕ) → slot_of (suc digits) last key < 64 → slot_of (suc digits) key key ≡ slot_of (suc digits) last key
slot-itself digits last key below = slot-low digits key key (λ _. key / 64) ∙ sym (slot-low digits last key (low_digit digits last key below))

-- one digit of a slot more is known, or all
steps : (digit : ℕ) → digit < 11 → 11 - digit ≡ suc (11 - (digit + 1))
steps digit below = omega (arith, below)

pub slot-next : (slot digit before after : ℕ) → digit < 11 → before / 64 ≢ after / 64 → slot ≡ 64 * digit + slot_of (11 - digit) before after
    → slot ≡ 64 * (digit + 1) + slot_of (11 - (digit + 1)) (before / 64) (after / 64)
slot-next slot digit before after below differ is =
    let left : slot_of (11 - digit) before after ≡ slot_of (suc (11 - (digit + 1))) before after = ap (λ (n : ℕ). slot_of n before after) (steps digit below) in
    omega (arith, is, left, slot-high (11 - (digit + 1)) before after differ)

pub slot-here : (slot digit before after : ℕ) → digit < 11 → before / 64 ≡ after / 64 → slot ≡ 64 * digit + slot_of (11 - digit) before after
    → 64 * digit + after % 64 ≡ slot
slot-here slot digit before after below same is =
    let left : slot_of (11 - digit) before after ≡ slot_of (suc (11 - (digit + 1))) before after = ap (λ (n : ℕ). slot_of n before after) (steps digit below) in
    omega (arith, is, left, slot-low (11 - (digit + 1)) before after same)

pub slot-end : (slot digit before after : ℕ) → 11 ≤ digit → digit ≤ 11 → slot ≡ 64 * digit + slot_of (11 - digit) before after → 704 ≡ slot
slot-end slot digit before after least most is =
    let end : 11 - digit ≡ 0 = omega (arith, least) in
    let none : slot_of (11 - digit) before after ≡ 0 = ap (λ (n : ℕ). slot_of n before after) end ∙ slot-none before after in
    omega (arith, is, none, least, most)

-- a number without its lowest digits: one digit more is taken first
less_one : (n digit : ℕ) → n / 2 ^ (6 * suc digit) ≡ n / 64 / 2 ^ (6 * digit)
less_one n digit =
    ap (λ (k : ℕ). n / 2 ^ k) six ∙ ap (λ (k : ℕ). n / k) (pow-add 2 6 (6 * digit)) ∙ sym (div-div-eq-div-mul n 64 (2 ^ (6 * digit)))
  where
    six : 6 * suc digit ≡ 6 + 6 * digit
    six = omega arith

-- the slot by the highest digit that differs, or by the lowest
pub slot-at : (digits digit last key : ℕ) → digit < digits → last / 2 ^ (6 * digit) / 64 ≡ key / 2 ^ (6 * digit) / 64
    → ((last / 2 ^ (6 * digit) ≢ key / 2 ^ (6 * digit)) ⊎ (digit ≡ 0)) → 64 * digit + key / 2 ^ (6 * digit) % 64 ≡ slot_of digits last key
slot-at zero digit last key below same differ = absurd (omega (arith, below))
slot-at (suc digits) zero last key below same differ =
    let low = slot-low digits last key (sym (ap (λ (n : ℕ). n / 64) (div-one last)) ∙ same ∙ ap (λ (n : ℕ). n / 64) (div-one key)) in
    omega (arith, low, div-one key)
slot-at (suc digits) (suc digit) last key below same (inr none) = absurd (omega (arith, none))
slot-at (suc digits) (suc digit) last key below same (inl differ) =
    let before = less_one last digit in
    let after = less_one key digit in
    let rest =
    slot-at digits digit (last / 64) (key / 64) (omega (arith, below)) (sym (ap (λ (n : ℕ). n / 64) before) ∙ same ∙ ap (λ (n : ℕ). n / 64) after)
    (inl (λ is. differ (before ∙ is ∙ sym after))) in
    let high = slot-high digits last key (λ is. differ (before ∙ ap (λ (n : ℕ). n / 2 ^ (6 * digit)) is ∙ sym after)) in
    omega (arith, rest, high, after)
