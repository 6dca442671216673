-- The float nearest to a number of steps: how the code gets it, and that it is as many steps.
use Rattle.std.proofs.Common.{◌≡◌, ℕ, zero, suc, ◌+◌, ◌-◌, ◌*◌, ◌/◌, ◌%◌, ◌^◌, ◌<◌, ◌≤◌, Bool, true, false, cond, eqb, T, ℤ, pos, negsuc, ◌*ℤ◌, refl, sym, ap, ◌∙◌, subst, inl, inr, arith, le_trans, le_of_eq, lt_of_lt_of_le, lt_of_le_of_lt, mul_assoc, pow_pos, pow_mono, pow-add, lit<, lit≤, not, mod-lt, shl_lt, le-ltb, le_of_lt, zero-le, eq-zero-or-pos, zero-lt-suc, lt_trans, w32, w64, to_z, of_z}
use mir.Val.{SFits}
use Rattle.std.specs.Prelude.{neg_ℤ}
use Rattle.std.specs.Float.{Float, nan, inf, fin, NotNan, round_to_format}
use Rattle.std.proofs.lemmas.Int.{unsigned_abs-mul, to_z-of_z}
use Rattle.std.specs.Int.{is_negative}
use Rattle.std.specs.Int.RustNames.{unsigned_abs}
use native.Mathlib.Nat.{mul_comm, mul_left_comm, mul-pos, mul-le-mul, mul-lt-mul_of_pos_right, lt_of_mul-lt-mul_right, div-add-mod', mul-one, zero-mul, lt_irrefl, suc-mul, mul-div_cancel}
use Prim.Native.Nat.{compare, Ordering}
use lib.Ieee.{binary32, binary64, up, down, size, nearest, units, round, div, of_int, unlike, is_nan, in_float}
use lib.Dec.{eqb-suc-zero, is_le, compare_is_eq, leb→le, nleb→lt, eqb→eq, le→leb, lt→ltb}
use lib.Ieee.Digits.{size_reaches}
use lib.Ieee.Fits.{core, round_is, down_pos}
use lib.Ieee.Back.{round_whole}
use lib.Ieee.Exact.{HasValue, round_exact, units_val}
use lib.Ieee.Nearest.{closest, closest_same}
use lib.Ieee.Scale.{round_same}
use Rattle.world_grid.specs.Grid.{IsNearest, IsSteps, length_of, signed, told_of}
use Rattle.world_grid.specs.declared.grid_step.GridStep.{GridStep}
use Rattle.world_grid.proofs.NearestLaws.{is_nearest}
use Rattle.world_grid.proofs.Readings.{product_reads, power_reads}

-- ---- one rounding

not_below : (n : ℕ) → is_negative (pos n) ≡ false
not_below n = le-ltb n 0 zero-le

-- a whole number in 64 bits
int_value : (z : ℤ) → unsigned_abs z ≤ 2 ^ 53 → HasValue (of_int binary64 z) (is_negative z) (unsigned_abs z) 1
unfolding of_int
int_value (pos n) h = subst (λ (s : Bool). HasValue (round binary64 false n 1) s n 1) (sym (not_below n)) (round_whole binary64 false n h)
int_value (negsuc n) h = round_whole binary64 true (suc n) h

-- a quotient by a power of two is exact
some_digit : (n : ℕ) (d : ℤ) (k : ℕ) → 0 < k → n * up d * 1 ≡ k * down d → eqb n 0 ≡ false
some_digit zero d k some e = absurd (lt_irrefl 0 (subst (λ (z : ℕ). 0 < z) (sym e ∙ ap (λ (z : ℕ). z * 1) (zero-mul (up d)) ∙ zero-mul 1) (mul-pos some (down_pos d))))
some_digit (suc n) d k some e = eqb-suc-zero n

exact : (s : Bool) (a j : ℕ) → a < 2 ^ 53 → j ≤ 49 → HasValue (round binary64 s a (2 ^ j)) s a (2 ^ j)
exact s a j small h =
    round_exact binary64 s a (2 ^ j) a (1074 - j) (pow_pos j) small (lt_of_lt_of_le (shl_lt 53 (1074 - j) small) (pow_mono (spare j)))
    (ap (λ (z : ℕ). a * z) (ap (λ (z : ℕ). 2 ^ z) (split j h) ∙ pow-add 2 (1074 - j) j) ∙ sym (mul_assoc a (2 ^ (1074 - j)) (2 ^ j)))
  where
    spare : (j : ℕ) → 53 + (1074 - j) ≤ 2098
    spare j = omega arith

    split : (j : ℕ) → j ≤ 49 → 1074 ≡ 1074 - j + j
    split j h = omega arith

like_first : (t u s : Bool) → t ≡ s → u ≡ false → unlike t u ≡ s
like_first t u s p q = ap (unlike t) q ∙ same t ∙ p
  where
    same : (t : Bool) → unlike t false ≡ t
    same true = refl
    same false = refl

cross : (x y d e a c : ℕ) → x ≡ a * e → y ≡ c * d → x * d * c ≡ a * (y * e)
cross x y d e a c p q =
    let regrouped : a * e * d * c ≡ a * (c * d * e) = simp (mul_assoc, mul_comm, mul_left_comm) in
    ap (λ (z : ℕ). z * d * c) p ∙ regrouped ∙ ap (λ (z : ℕ). a * (z * e)) (sym q)

quotient_value : (x y : Float) (s : Bool) (a j : ℕ) → HasValue x s a 1 → HasValue y false (2 ^ j) 1 → a < 2 ^ 53 → j ≤ 49 → HasValue (div binary64 x y) s a (2 ^ j)
unfolding div
quotient_value nan y s a j p q small h = absurd p
quotient_value (inf t) y s a j p q small h = absurd p
quotient_value (fin t m e) nan s a j p q small h = absurd q
quotient_value (fin t m e) (inf u) s a j p q small h = absurd q
quotient_value (fin t m e) (fin u n d) s a j p q small h =
    let num : m * up e ≡ a * down e = sym (mul-one (m * up e)) ∙ p.1 in
    let den : n * up d ≡ 2 ^ j * down d = sym (mul-one (n * up d)) ∙ q.1 in
    let some : 0 < n * up d * down e = mul-pos (subst (λ (z : ℕ). 0 < z) (sym den) (mul-pos (pow_pos j) (down_pos d))) (down_pos e) in
    subst (λ (b : Bool). HasValue (cond b (cond (eqb m 0) nan (inf (unlike t u))) (round binary64 (unlike t u) (m * up e * down d) (n * up d * down e))) s a (2 ^ j)) (sym (some_digit n d (2 ^ j) (pow_pos j) q.1))
    (subst (λ (b : Bool). HasValue (round binary64 b (m * up e * down d) (n * up d * down e)) s a (2 ^ j)) (sym (like_first t u s p.0 q.0))
    (subst (λ (x : Float). HasValue x s a (2 ^ j)) (sym (round_same binary64 s (m * up e * down d) (n * up d * down e) a (2 ^ j) some (pow_pos j) (cross (m * up e) (n * up d) (down d) (down e) a (2 ^ j) num den)))
    (exact s a j small h)))

-- and one rounding to 32 bits is left
rounded : (x : Float) (s : Bool) (a c : ℕ) → 0 < c → HasValue x s a c → round_to_format binary32 x ≡ round binary32 s a c
unfolding round_to_format
rounded nan s a c some h = absurd h
rounded (inf t) s a c some h = absurd h
rounded (fin t m e) s a c some h = ap (λ (b : Bool). round binary32 b (m * up e) (down e)) h.0 ∙ round_same binary32 s (m * up e) (down e) a c (down_pos e) some h.1

pub number : (x : Float) (s : Bool) (a c : ℕ) → HasValue x s a c → NotNan x
unfolding is_nan
number nan s a c h = absurd h
number (inf t) s a c h = absurd h
number (fin t m e) s a c h = tt

told_is : (n : ℤ) (step : GridStep) → round binary32 (is_negative n) (unsigned_abs n * step.digits) (2 ^ (149 - step.power)) ≡ told_of n step
told_is n step =
    let d = step.digits in
    let p = step.power in
    let j = 149 - p in
    let whole : p + j ≡ 149 = omega (arith, step.coarse) in
    let powers : 2 ^ 149 ≡ 2 ^ p * 2 ^ j = ap (λ (z : ℕ). 2 ^ z) (sym whole) ∙ pow-add 2 p j in
    round_same binary32 (is_negative n) (unsigned_abs n * d) (2 ^ j) (unsigned_abs n * (d * 2 ^ p)) (2 ^ 149) (pow_pos j) (pow_pos 149) (along (unsigned_abs n) d (2 ^ p) (2 ^ j) (2 ^ 149) powers)
  where
    along : (a d x y z : ℕ) → z ≡ x * y → a * d * z ≡ a * (d * x) * y
    along a d x y z e = ap (λ (w : ℕ). a * d * w) e ∙ simp (mul_assoc, mul_comm, mul_left_comm)

-- the product that the code rounds
product_abs : (n : ℤ) (d : ℕ) → unsigned_abs (n *ℤ pos d) ≡ unsigned_abs n * d
product_abs n d = unsigned_abs-mul n (pos d)

product_sign : (n : ℤ) (d : ℕ) → 0 < d → is_negative (n *ℤ pos d) ≡ is_negative n
product_sign (pos n) d some = not_below (n * d) ∙ sym (not_below n)
product_sign (negsuc n) d some = negated (suc n * d) (mul-pos (zero-lt-suc n) some)
  where
    negated : (m : ℕ) → 0 < m → is_negative (neg_ℤ (pos m)) ≡ true
    negated zero h = absurd (lt_irrefl 0 h)
    negated (suc m) h = refl

-- the code's two numbers, and their quotient
pub in_range : (z : ℤ) → unsigned_abs z ≤ 2 ^ 53 → T (in_float binary64 z)
unfolding in_float
in_range (pos n) h = le→leb n (2 ^ 53) h
in_range (negsuc n) h = lt→ltb n (2 ^ 53) h

module _ (n : ℤ) (step : GridStep) (few : unsigned_abs n < 2 ^ 23) where
  counted_less : unsigned_abs n * step.digits < 2 ^ 53
  counted_less =
      lt_of_le_of_lt (mul-le-mul (le_of_lt few) (le_of_lt step.most)) (lit< tt)

  pub counted_small : unsigned_abs (n *ℤ pos step.digits) ≤ 2 ^ 53
  counted_small = subst (λ (a : ℕ). a ≤ 2 ^ 53) (sym (product_abs n step.digits)) (le_of_lt counted_less)

  counted_value : HasValue (of_int binary64 (n *ℤ pos step.digits)) (is_negative n) (unsigned_abs n * step.digits) 1
  counted_value =
      subst (λ (s : Bool). HasValue (of_int binary64 (n *ℤ pos step.digits)) s (unsigned_abs n * step.digits) 1) (product_sign n step.digits (lt_of_lt_of_le (lit< tt) step.least))
      (subst (λ (a : ℕ). HasValue (of_int binary64 (n *ℤ pos step.digits)) (is_negative (n *ℤ pos step.digits)) a 1) (product_abs n step.digits) (int_value (n *ℤ pos step.digits) counted_small))

  few_places : 149 - step.power ≤ 49
  few_places = omega (arith, step.fine)

  pub least_small : 2 ^ (149 - step.power) ≤ 2 ^ 53
  least_small = pow_mono {j = 53} (le_trans few_places (lit≤ tt))

  pub told_quotient : HasValue (div binary64 (of_int binary64 (n *ℤ pos step.digits)) (of_int binary64 (pos (2 ^ (149 - step.power))))) (is_negative n) (unsigned_abs n * step.digits) (2 ^ (149 - step.power))
  told_quotient =
      quotient_value _ _ (is_negative n) (unsigned_abs n * step.digits) (149 - step.power) counted_value
      (subst (λ (s : Bool). HasValue (of_int binary64 (pos (2 ^ (149 - step.power)))) s (2 ^ (149 - step.power)) 1) (not_below (2 ^ (149 - step.power))) (int_value (pos (2 ^ (149 - step.power))) least_small))
      counted_less few_places

  pub told_rounded : round_to_format binary32 (div binary64 (of_int binary64 (n *ℤ pos step.digits)) (of_int binary64 (pos (2 ^ (149 - step.power))))) ≡ told_of n step
  told_rounded = rounded _ (is_negative n) (unsigned_abs n * step.digits) (2 ^ (149 - step.power)) (pow_pos (149 - step.power)) told_quotient ∙ told_is n step

  -- as the code reads them
  pub counted_reads : (m d : ℤ) → m ≡ to_z w32 (of_z w32 n) → SFits w32 n → d ≡ pos step.digits → to_z w64 (of_z w64 (to_z w64 (of_z w64 m) *ℤ to_z w64 (of_z w64 d))) ≡ n *ℤ pos step.digits
  counted_reads m d e fits e' = product_reads m d n (pos step.digits) (e ∙ to_z-of_z w32 n fits) e' (lt_trans few (lit< tt)) (lt_trans step.most (lit< tt))

  pub least_reads : 1 * 2 ^ (149 - step.power) % 18446744073709551616 ≡ 2 ^ (149 - step.power)
  least_reads = power_reads (149 - step.power) few_places

-- ---- read again

-- what IEEE 754 rounds to is half a unit away at most
abbrev IsHalfAway : ℕ → ℕ → ℕ → Type 0
IsHalfAway a b x = (2 * x ≤ 2 * a + b) × (2 * a ≤ 2 * x + b)

stays : (a b q r : ℕ) → q * b + r ≡ a → r * 2 ≤ b → IsHalfAway a b (q * b)
stays a b q r e h = (omega arith, omega arith)

rises : (a b q r : ℕ) → q * b + r ≡ a → r < b → b ≤ r * 2 → IsHalfAway a b (suc q * b)
rises a b q r e less h = subst (IsHalfAway a b) (sym (suc-mul q b)) (omega arith, omega arith)

at_tie : (a b q r : ℕ) → q * b + r ≡ a → r < b → r * 2 ≡ b → IsHalfAway a b ((q + q % 2) * b)
at_tie a b q r e less h =
    elim (eq-zero-or-pos (q % 2)) [
      | inl even ↦ subst (λ (m : ℕ). IsHalfAway a b (m * b)) (kept q even) (stays a b q r e (le_of_eq h))
      | inr odd ↦ subst (λ (m : ℕ). IsHalfAway a b (m * b)) (next q odd) (rises a b q r e less (le_of_eq (sym h)))
    ]
  where
    kept : (q : ℕ) → q % 2 ≡ 0 → q ≡ q + q % 2
    kept q even = omega arith

    next : (q : ℕ) → 0 < q % 2 → suc q ≡ q + q % 2
    next q odd = omega arith

near_unit : (a b : ℕ) → 0 < b → IsHalfAway a b (closest a b * b)
near_unit a b some =
    let q = a / b in
    let r = a % b in
    go q r (div-add-mod' a b) (mod-lt a some) (compare (r * 2) b) (leb→le (r * 2) b) (nleb→lt (r * 2) b) (eqb→eq (r * 2) b)
  where
    go : (q r : ℕ) → q * b + r ≡ a → r < b → (o : Ordering) → (T (is_le o) → r * 2 ≤ b) → (T (not (is_le o)) → b < r * 2) → (T (compare_is_eq o) → r * 2 ≡ b) → IsHalfAway a b (nearest q o * b)
    go q r e less Ordering.lt le lt eq = stays a b q r e (le tt)
    go q r e less Ordering.eq le lt eq = at_tie a b q r e less (eq tt)
    go q r e less Ordering.gt le lt eq = rises a b q r e less (le_of_lt (lt tt))

-- the unit is less than the step
unit_less : (a l : ℕ) → a < 8388608 * l → 1 < l → 2 ^ (size a - 24) < l
unit_less a l h more =
    elim (eq-zero-or-pos (size a - 24)) [
      | inl none ↦ subst (λ (k : ℕ). 2 ^ k < l) (sym none) more
      | inr some ↦
          let k = size a - 24 in
          let reached : 2 ^ k * 8388608 ≤ a = subst (λ (z : ℕ). z ≤ a) (pow-add 2 k 23) (size_reaches a (k + 23) (digits (size a) some)) in
          lt_of_mul-lt-mul_right 8388608 (lt_of_le_of_lt reached (subst (λ (z : ℕ). a < z) (mul_comm 8388608 l) h))
    ]
  where
    digits : (z : ℕ) → 0 < z - 24 → z - 24 + 23 < z
    digits z some = omega arith

-- the units that a fraction over 2^149 is rounded to
rounded_value : (s : Bool) (a : ℕ) → closest a (2 ^ (size a - 24)) * 2 ^ (size a - 24) < 2 ^ 277 → HasValue (round binary32 s a (2 ^ 149)) s (closest a (2 ^ (size a - 24)) * 2 ^ (size a - 24)) (2 ^ 149)
rounded_value s a within =
    let c = 2 ^ 149 in
    let k = size a - 24 in
    let same_unit : size (a * c / c) - 24 ≡ k = ap (λ (z : ℕ). size z - 24) (mul-div_cancel a (pow_pos 149)) in
    let same_number : closest (a * c) (c * 2 ^ k) ≡ closest a (2 ^ k) = closest_same (a * c) (c * 2 ^ k) a (2 ^ k) (mul-pos (pow_pos 149) (pow_pos k)) (pow_pos k) (mul_assoc a c (2 ^ k)) in
    subst (λ (x : Float). HasValue x s (closest a (2 ^ k) * 2 ^ k) c)
    (sym (round_is binary32 s a c ∙ ap (core binary32 s (a * c) c) same_unit ∙ ap (λ (q : ℕ). units binary32 s q k) same_number))
    (units_val binary32 s (closest a (2 ^ k)) k within)

step_bounds : (step : GridStep) → (1 < length_of step) × (length_of step ≤ 2 ^ 160)
step_bounds step =
    let some = pow_pos step.power in
    let least : 8388608 * 1 ≤ length_of step = mul-le-mul step.least some in
    let most : length_of step ≤ 16777216 * 2 ^ 136 = mul-le-mul (le_of_lt step.most) (pow_mono step.coarse) in
    (lt_of_lt_of_le (lit< tt) least, most)

back_near : (n l u x : ℕ) → u < l → IsHalfAway (n * l) u x → IsNearest x l n
back_near n l u x less h =
    let under = h.0 in
    let over = h.1 in
    is_nearest x l n (record { below = omega arith; above = omega arith; even = λ tie. absurd (elim tie [ inl e ↦ omega arith | inr e ↦ omega arith ]) })

back_within : (a l u x : ℕ) → a < 8388608 * l → l ≤ 2 ^ 160 → u < l → IsHalfAway a u x → x < 2 ^ 277
back_within a l u x h most less half =
    let under = half.0 in
    omega arith

pub told_back : (n : ℤ) (step : GridStep) → unsigned_abs n < 2 ^ 23 → IsSteps (told_of n step) step n
told_back n step few =
    let l = length_of step in
    let a = unsigned_abs n * l in
    let u = 2 ^ (size a - 24) in
    let bounds = step_bounds step in
    let under : a < 8388608 * l = mul-lt-mul_of_pos_right few (lt_of_le_of_lt zero-le bounds.0) in
    let less = unit_less a l under bounds.0 in
    let half = near_unit a u (pow_pos (size a - 24)) in
    record {
      negative = is_negative n;
      size = closest a u * u;
      value = rounded_value (is_negative n) a (back_within a l u (closest a u * u) under bounds.1 less half);
      nearest = back_near (unsigned_abs n) l u (closest a u * u) less half;
      sign = own_sign n;
    }
  where
    own_sign : (n : ℤ) → n ≡ signed (is_negative n) (unsigned_abs n)
    own_sign (pos n) = sym (ap (λ (s : Bool). signed s n) (not_below n))
    own_sign (negsuc n) = refl
