-- The value of a finite float: there is one, and it is that of its bits' parts.
use Rattle.std.proofs.Common.{◌≡◌, ℕ, suc, ◌+◌, ◌-◌, ◌*◌, ◌/◌, ◌%◌, ◌^◌, ◌<◌, ◌≤◌, Bool, true, false, cond, eqb, leb, refl, sym, ap, ◌∙◌, subst, inl, inr, arith, bit_and, nat_eq, le-leb, eq-eqb, ne_eqb, true≢false}
use Rattle.std.proofs.lemmas.Bool.{cases_lt, lt-leb}
use Rattle.std.proofs.lemmas.Nat.{and_mask}
use Rattle.std.specs.Float.{Float, nan, inf, fin, float_is_finite}
use native.Mathlib.Nat.{add_comm, eq_of_mul-eq-mul_right}
use lib.Ieee.{binary32, odd, of_bits, of_fields, down}
use lib.Ieee.Fits.{down_pos}
use lib.Ieee.Exact.{HasValue, odd_sign}

pub one_value : (x : Float) (s t : Bool) (a b c : ℕ) → HasValue x s a c → HasValue x t b c → (s ≡ t) × (a ≡ b)
one_value nan s t a b c p q = absurd p
one_value (inf u) s t a b c p q = absurd p
one_value (fin u m e) s t a b c p q = (sym p.0 ∙ q.0, eq_of_mul-eq-mul_right (down e) (down_pos e) a b (sym p.1 ∙ q.1))

pub finite_value : (x : Float) (s : Bool) (a c : ℕ) → HasValue x s a c → float_is_finite x ≡ true
unfolding float_is_finite
finite_value nan s a c h = absurd h
finite_value (inf t) s a c h = absurd h
finite_value (fin t m e) s a c h = refl

-- the exponent's field is not full in a finite float
full_field : (s b : Bool) → float_is_finite (cond b (inf s) nan) ≡ false
unfolding float_is_finite
full_field s true = refl
full_field s false = refl

read : (b : ℕ) → of_bits binary32 b ≡ of_fields binary32 (leb 2147483648 b) (b % 2147483648 / 8388608) (b % 8388608)
unfolding of_bits
read b = refl

read_full : (s : Bool) (t : ℕ) → of_fields binary32 s 255 t ≡ cond (eqb t 0) (inf s) nan
unfolding of_fields
read_full s t = refl

read_low : (s : Bool) (t : ℕ) → HasValue (of_fields binary32 s 0 t) s (t * 2 ^ 0) (2 ^ 149)
unfolding of_fields
read_low s t = odd_sign 24 s t 0 149

read_high : (s : Bool) (t k : ℕ) → eqb (suc k) 255 ≡ false → HasValue (of_fields binary32 s (suc k) t) s ((8388608 + t) * 2 ^ k) (2 ^ 149)
unfolding of_fields
read_high s t k e =
    subst (λ (b : Bool). HasValue (cond b (cond (eqb t 0) (inf s) nan) (odd 24 s (8388608 + t) k 149)) s ((8388608 + t) * 2 ^ k) (2 ^ 149)) (sym e)
    (odd_sign 24 s (8388608 + t) k 149)

-- the fields of a pattern
sign_of : (b : ℕ) → b < 2 ^ 32 → nat_eq (b / 2147483648) 1 ≡ leb 2147483648 b
sign_of b h =
    elim (cases_lt b 2147483648) [
      | inl low ↦ rw (lt-leb 2147483648 b low) (ne_eqb (b / 2147483648) 1 (omega arith))
      | inr high ↦ rw (le-leb 2147483648 b high) (eq-eqb (b / 2147483648) 1 (omega arith))
    ]

digits_of : (b : ℕ) → bit_and b 8388607 ≡ b % 8388608
digits_of b = and_mask b 23

field_of : (b : ℕ) → bit_and (b / 8388608) 255 ≡ b % 2147483648 / 8388608
field_of b = and_mask (b / 8388608) 8 ∙ same
  where
    same : b / 8388608 % 256 ≡ b % 2147483648 / 8388608
    same = omega arith

at_fields : (b x : ℕ) → b % 2147483648 / 8388608 ≡ x → of_bits binary32 b ≡ of_fields binary32 (leb 2147483648 b) x (b % 8388608)
at_fields b x e = read b ∙ ap (λ (z : ℕ). of_fields binary32 (leb 2147483648 b) z (b % 8388608)) e

module _ (x : Float) (b : ℕ) (same : of_bits binary32 b ≡ x) (fits : b < 2 ^ 32) where
  pub low_value : bit_and (b / 8388608) 255 ≡ 0 → HasValue x (nat_eq (b / 2147483648) 1) (bit_and b 8388607 * 2 ^ 0) (2 ^ 149)
  low_value e =
      rw (sign_of b fits, digits_of b)
      (subst (λ (y : Float). HasValue y (leb 2147483648 b) (b % 8388608 * 2 ^ 0) (2 ^ 149)) (sym (at_fields b 0 (sym (field_of b) ∙ e)) ∙ same) (read_low (leb 2147483648 b) (b % 8388608)))

  pub not_full : float_is_finite x ≡ true → ¬ (bit_and (b / 8388608) 255 ≡ 255)
  not_full finite e =
      true≢false (sym finite ∙ ap float_is_finite (sym same ∙ at_fields b 255 (sym (field_of b) ∙ e) ∙ read_full (leb 2147483648 b) (b % 8388608)) ∙ full_field (leb 2147483648 b) (eqb (b % 8388608) 0))

  pub field_in : float_is_finite x ≡ true → bit_and (b / 8388608) 255 ≤ 254
  field_in finite =
      let full = not_full finite in
      let masked = and_mask (b / 8388608) 8 in
      omega arith

  pub high_value : float_is_finite x ≡ true → ¬ (bit_and (b / 8388608) 255 ≡ 0) → HasValue x (nat_eq (b / 2147483648) 1) ((bit_and b 8388607 + 8388608) * 2 ^ (bit_and (b / 8388608) 255 - 1)) (2 ^ 149)
  high_value finite some =
      let k = bit_and (b / 8388608) 255 - 1 in
      let above : bit_and (b / 8388608) 255 ≡ suc k = omega arith in
      let full = not_full finite in
      let value = read_high (leb 2147483648 b) (b % 8388608) k (ne_eqb (suc k) 255 (omega arith)) in
      subst (λ (s : Bool). HasValue x s ((bit_and b 8388607 + 8388608) * 2 ^ k) (2 ^ 149)) (sym (sign_of b fits))
      (subst (λ (t : ℕ). HasValue x (leb 2147483648 b) (t * 2 ^ k) (2 ^ 149)) (add_comm 8388608 (b % 8388608) ∙ ap (λ (t : ℕ). t + 8388608) (sym (digits_of b)))
      (subst (λ (y : Float). HasValue y (leb 2147483648 b) ((8388608 + b % 8388608) * 2 ^ k) (2 ^ 149)) (sym (at_fields b (suc k) (sym (field_of b) ∙ above)) ∙ same) value))
