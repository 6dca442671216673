-- One step toward a square root: a number that is within one of the root of the leading part of n gives one that is within one of the root of n.
-- With v half of the leading part's unit, y = v * near and n = 4 * y * q + r, the step gives y + q, the mean of 2 * y and n / (2 * y).
use Rattle.std.proofs.Common.{◌≡◌, ℕ, zero, suc, ◌+◌, ◌-◌, ◌*◌, ◌/◌, ◌%◌, ◌^◌, ◌≤◌, ◌<◌, sym, ap, subst, ◌∙◌, arith, inl, inr, lit<}
use Rattle.std.proofs.lemmas.Nat.{mul-le, pow-add, pow_pos, leading_top, shl_whole}
use Rattle.std.proofs.Math.Nat.{le_refl, le_trans, mul_comm, pow-le-pow_right, mod-lt, div-add-mod, div-div-eq-div-mul}
use Rattle.std.proofs.lemmas.Bool.{cases_lt}
use Rattle.std.specs.Int.Count.{count_leading_zeros}
use Rattle.nav_base.specs.Root.{IsNearRoot, IsLeastRoot}
use Rattle.nav_base.proofs.RootLaws.{IsLeastRoot-above}

-- four times a product is at most the square of the sum
four_products : (a b : ℕ) → 4 * (a * b) ≤ (a + b) * (a + b)
four_products a b = elim (cases_lt a b) [ inl below ↦ rising a (b - a) b (omega arith) | inr above ↦ falling (a - b) b a (omega arith) ]
  where
    rising : (a d b : ℕ) → b ≡ a + d → 4 * (a * b) ≤ (a + b) * (a + b)
    rising a d b e = rw e (omega arith)

    falling : (d b a : ℕ) → a ≡ b + d → 4 * (a * b) ≤ (a + b) * (a + b)
    falling d b a e = rw e (omega arith)

-- the step is not too small
over : (y q r : ℕ) → r < 4 * y → 4 * (y * q) + r < (y + q + 1) * (y + q + 1)
over y q r small = omega (arith, four_products y (q + 1))

-- the step is not too large where the quotient is at least y
under_beyond : (p v t r s : ℕ) → 1 ≤ v → v * v ≤ p + v → 4 * ((p + v) * (p + v + t)) + r < 4 * ((p + 2 * v) * (p + 2 * v)) → s + 1 ≡ (p + v) + (p + v + t)
    → s * s < 4 * ((p + v) * (p + v + t)) + r
under_beyond p v t r s some flat reached e =
    let near : t ≤ 2 * v = elim (cases_lt (2 * v) t) [ inl far ↦ absurd (omega (arith, mul-le (p + v) (2 * v + 1) (p + v) t (omega arith) (omega arith))) | inr near ↦ near ] in
    let squared = mul-le t t (2 * v) (2 * v) near near in
    let whole = ap (λ (n : ℕ). n * n) e in
    elim (cases_lt 0 t) [ inl more ↦ omega arith | inr none ↦ omega (arith, mul-le t t 0 0 none none) ]

-- and where it is below y
under_before : (p v q t r s : ℕ) → 1 ≤ v → p + v ≡ q + t → v * v ≤ q + t → r < 4 * (q + t) → 4 * (p * p) + 4 * (v * v) ≤ 4 * ((q + t) * q) + r → s + 1 ≡ (q + t) + q
    → s * s < 4 * ((q + t) * q) + r
under_before p v q t r s some split flat small reached e =
    let whole = ap (λ (n : ℕ). n * n) e in
    let squared = ap (λ (n : ℕ). n * n) split in
    let crossed = ap (λ (n : ℕ). n * v) split in
    elim (cases_lt (2 * v) t) [
      | inl far ↦ absurd (omega (arith, mul-le (q + t) (2 * v + 1) (q + t) t (omega arith) (omega arith)))
      | inr near ↦ elim (cases_lt (t + 1) (2 * v)) [
        | inl nearer ↦ omega (arith, mul-le (t + 2) (t + 2) (2 * v) (2 * v) (omega arith) (omega arith))
        | inr far ↦ elim (cases_lt t (2 * v)) [
          | inl below ↦ let one_less : t + 1 ≡ 2 * v = omega arith in at_most whole squared crossed (ap (λ (n : ℕ). n * n) one_less) (ap (λ (n : ℕ). q * n) one_less) (ap (λ (n : ℕ). n * v) one_less)
          | inr above ↦ let twice : t ≡ 2 * v = omega arith in at_last whole squared crossed (ap (λ (n : ℕ). n * n) twice) (ap (λ (n : ℕ). q * n) twice) (ap (λ (n : ℕ). n * v) twice)
        ]
      ]
    ]
  where
    at_most : (s + 1) * (s + 1) ≡ ((q + t) + q) * ((q + t) + q) → (p + v) * (p + v) ≡ (q + t) * (q + t) → (p + v) * v ≡ (q + t) * v
        → (t + 1) * (t + 1) ≡ (2 * v) * (2 * v) → q * (t + 1) ≡ q * (2 * v) → (t + 1) * v ≡ (2 * v) * v → s * s < 4 * ((q + t) * q) + r
    at_most whole squared crossed tt qt tv = let positive = mul-le 1 1 v v some some in omega arith

    at_last : (s + 1) * (s + 1) ≡ ((q + t) + q) * ((q + t) + q) → (p + v) * (p + v) ≡ (q + t) * (q + t) → (p + v) * v ≡ (q + t) * v
        → t * t ≡ (2 * v) * (2 * v) → q * t ≡ q * (2 * v) → t * v ≡ (2 * v) * v → s * s < 4 * ((q + t) * q) + r
    at_last whole squared crossed tt qt tv = let positive = mul-le 1 1 v v some some in omega arith

-- The step is not too large. The leading part's root lies between m and m + 2.
step_before : (v m n q r t s : ℕ) → 1 ≤ v → v * v ≤ v * m + v → 4 * (v * v) * (m * m + 1) ≤ n → n ≡ 4 * ((v * m + v) * q) + r → r < 4 * (v * m + v) → v * m + v ≡ q + t → s + 1 ≡ (q + t) + q
    → s * s < n
step_before v m n q r t s some flat from split small parts e =
    let whole = split ∙ ap (λ (y : ℕ). 4 * (y * q) + r) parts in
    omega (arith, under_before (v * m) v q t r s some parts (omega arith) (omega arith) (omega arith) e)

step_beyond : (v m n q r t s : ℕ) → 1 ≤ v → v * v ≤ v * m + v → n < 4 * (v * v) * ((m + 2) * (m + 2)) → n ≡ 4 * ((v * m + v) * q) + r → q ≡ v * m + v + t → s + 1 ≡ (v * m + v) + (v * m + v + t)
    → s * s < n
step_beyond v m n q r t s some flat to split parts e =
    let whole = split ∙ ap (λ (k : ℕ). 4 * ((v * m + v) * k) + r) parts in
    omega (arith, under_beyond (v * m) v t r s some flat (omega arith) e)

-- the step is within one of the root: h is the leading part of n, near is within one of its root, and n = 4 * (v * near) * q + r
near_step : (v near h n q r : ℕ) → 1 ≤ v → v * v ≤ h → IsNearRoot h near → 4 * (v * v) * h ≤ n → n < 4 * (v * v) * (h + 1) → n ≡ 4 * (v * near * q) + r → r < 4 * (v * near)
    → IsNearRoot n (v * near + q)
near_step v zero h n q r some enough is low high split small = absurd (omega (arith, is.under, is.over))
near_step v (suc m) h n q r some enough is low high split small =
    let wide : v ≤ suc m = elim (cases_lt (suc m) v) [ inl far ↦ absurd (omega (arith, is.over, mul-le (suc m + 1) (suc m + 1) v v (omega arith) (omega arith))) | inr near ↦ near ] in
    let flat : v * v ≤ v * m + v = omega (arith, mul-le v v v (suc m) (le_refl v) wide) in
    let from : 4 * (v * v) * (m * m + 1) ≤ n = omega (arith, mul-le (4 * (v * v)) (m * m + 1) (4 * (v * v)) h (le_refl (4 * (v * v))) (leading m h is.under)) in
    let to : n < 4 * (v * v) * ((m + 2) * (m + 2)) = omega (arith, mul-le (4 * (v * v)) (h + 1) (4 * (v * v)) ((m + 2) * (m + 2)) (le_refl (4 * (v * v))) (omega (arith, is.over))) in
    let whole : n ≡ 4 * ((v * m + v) * q) + r = omega arith in
    record {
      under = elim (cases_lt q (v * m + v)) [
        | inl before ↦ step_before v m n q r (v * m + v - q) (v * suc m + q - 1) some flat from whole (omega arith) (omega arith) (omega arith)
        | inr beyond ↦ step_beyond v m n q r (q - (v * m + v)) (v * suc m + q - 1) some flat to whole (omega arith) (omega arith)
      ];
      over = omega (arith, over (v * suc m) q r small);
    }
  where
    leading : (m h : ℕ) → (suc m - 1) * (suc m - 1) < h → m * m + 1 ≤ h
    leading m h below = let one_less : suc m - 1 ≡ m = omega arith in let squared = ap (λ (k : ℕ). k * k) one_less in omega arith

-- it is not 0
near-positive : (n root : ℕ) → IsNearRoot n root → 1 ≤ root
near-positive n zero is = absurd (omega (arith, is.under, is.over))
near-positive n (suc k) is = omega arith

-- a number that is within one of the root of what lies below the square of m is at most m
pub near-bound : (n root m : ℕ) → IsNearRoot n root → n ≤ m * m → root ≤ m
near-bound n root m is small = elim (cases_lt m root) [ inl above ↦ absurd (omega (arith, is.under, mul-le m m (root - 1) (root - 1) (omega arith) (omega arith))) | inr below ↦ below ]

-- The step by division: from the part of n above 4 * (v * v).
near_step_div : (v n near : ℕ) → 1 ≤ v → v * v ≤ n / (4 * (v * v)) → IsNearRoot (n / (4 * (v * v))) near → IsNearRoot n (near * v + n / (4 * v) / near)
near_step_div v n near some enough is =
    let unit : 0 < 4 * (v * v) = omega (arith, mul-le 1 1 v v some some) in
    let positive : 1 ≤ near = omega (arith, near-positive (n / (4 * (v * v))) near is) in
    let divisor : 0 < 4 * v * near = omega (arith, mul-le 1 1 v near some positive) in
    let below = mod-lt n unit in
    let parts = div-add-mod n (4 * (v * v)) in
    let stepped = near_step v near (n / (4 * (v * v))) n (n / (4 * v * near)) (n % (4 * v * near)) some enough is (omega arith) (omega arith) (omega (arith, div-add-mod n (4 * v * near))) (omega (arith, mod-lt n divisor)) in
    subst (IsNearRoot n) (λ i. mul_comm v near i + sym (div-div-eq-div-mul n (4 * v) near) i) stepped

-- The step on numbers in binary: from the leading part, without its last 2 * digits + 2 digits.
pub near_step_digits : (digits n near : ℕ) → 2 ^ (2 * digits) ≤ n / 2 ^ (2 * digits + 2) → IsNearRoot (n / 2 ^ (2 * digits + 2)) near → IsNearRoot n (near * 2 ^ digits + n / 2 ^ (digits + 2) / near)
near_step_digits digits n near enough is =
    let doubled : 2 ^ (2 * digits) ≡ 2 ^ digits * 2 ^ digits = ap (λ k. 2 ^ k) (twice digits) ∙ pow-add 2 digits digits in
    let unit : 2 ^ (2 * digits + 2) ≡ 4 * (2 ^ digits * 2 ^ digits) = pow-add 2 (2 * digits) 2 ∙ mul_comm (2 ^ (2 * digits)) 4 ∙ ap (λ k. 4 * k) doubled in
    let step : 2 ^ (digits + 2) ≡ 4 * 2 ^ digits = pow-add 2 digits 2 ∙ mul_comm (2 ^ digits) 4 in
    let leading = ap (λ k. n / k) unit in
    let enough' : 2 ^ digits * 2 ^ digits ≤ n / (4 * (2 ^ digits * 2 ^ digits)) = subst (λ (k : ℕ). k ≤ n / (4 * (2 ^ digits * 2 ^ digits))) doubled (subst (λ (k : ℕ). 2 ^ (2 * digits) ≤ k) leading enough) in
    let stepped = near_step_div (2 ^ digits) n near (pow_pos digits) enough' (subst (λ (k : ℕ). IsNearRoot k near) leading is) in
    subst (λ (k : ℕ). IsNearRoot n (near * 2 ^ digits + n / k / near)) (sym step) stepped
  where
    twice : (k : ℕ) → 2 * k ≡ k + k
    twice k = omega arith

-- the first digit of the root
pub near-first : (h : ℕ) → 4 ≤ h → h < 16 → IsNearRoot h (1 + h / 4)
near-first h low high = first (h / 4) (omega arith) (omega arith) (omega arith) (omega arith)
  where
    first : (q : ℕ) → 1 ≤ q → q ≤ 3 → 4 * q ≤ h → h < 4 * q + 4 → IsNearRoot h (1 + q)
    first zero some few from to = absurd (omega arith)
    first (suc zero) some few from to = record { under = omega arith; over = omega arith }
    first (suc (suc zero)) some few from to = record { under = omega arith; over = omega arith }
    first (suc (suc (suc zero))) some few from to = record { under = omega arith; over = omega arith }
    first (suc (suc (suc (suc q)))) some few from to = absurd (omega arith)

-- a number that is within one of the root gives the root rounded up
pub IsLeastRoot-near_below : (n root : ℕ) → IsNearRoot n root → root * root < n → IsLeastRoot n (root + 1)
IsLeastRoot-near_below n root is below = IsLeastRoot-above n root below (omega (arith, is.over))

pub IsLeastRoot-near_enough : (n root : ℕ) → IsNearRoot n root → n ≤ root * root → IsLeastRoot n root
IsLeastRoot-near_enough n root is reached = record { reaches = reached; least = λ r h. elim (cases_lt r root) [ inl below ↦ absurd (omega (arith, is.under, mul-le r r (root - 1) (root - 1) (omega arith) (omega arith))) | inr above ↦ above ] }

-- near the root of n, without its last digits near the root of n without twice as many
shifted : (n p near u e : ℕ) → 0 < n → 1 ≤ p → near ≡ p * u + e → e < p → IsNearRoot (n * (p * p)) near → IsNearRoot n u
shifted n p near u e some unit parts rest is = record { under = not_large u parts; over = not_small }
  where
    not_small : n < (u + 1) * (u + 1)
    not_small = elim (cases_lt n ((u + 1) * (u + 1))) [
      | inl below ↦ below
      | inr above ↦ let reach : near + 1 ≤ p * (u + 1) = omega arith in
          absurd (omega (arith, is.over, mul-le ((u + 1) * (u + 1)) (p * p) n (p * p) above (le_refl (p * p)), mul-le (near + 1) (near + 1) (p * (u + 1)) (p * (u + 1)) reach reach))
    ]

    not_large : (u : ℕ) → near ≡ p * u + e → (u - 1) * (u - 1) < n
    not_large zero parts = omega arith
    not_large (suc k) parts =
        let one_less : suc k - 1 ≡ k = omega arith in
        let squared = ap (λ (m : ℕ). m * m) one_less in
        let reach : p * k ≤ near - 1 = omega arith in
        elim (cases_lt (k * k) n) [
          | inl below ↦ omega arith
          | inr above ↦ absurd (omega (arith, is.under, mul-le n (p * p) (k * k) (p * p) above (le_refl (p * p)), mul-le (p * k) (p * k) (near - 1) (near - 1) reach reach))
        ]

pub IsNearRoot-shifted : (n pairs near : ℕ) → 0 < n → IsNearRoot (n * 2 ^ (2 * pairs)) near → IsNearRoot n (near / 2 ^ pairs)
IsNearRoot-shifted n pairs near some is =
    let doubled : 2 ^ (2 * pairs) ≡ 2 ^ pairs * 2 ^ pairs = ap (λ k. 2 ^ k) (twice pairs) ∙ pow-add 2 pairs pairs in
    shifted n (2 ^ pairs) near (near / 2 ^ pairs) (near % 2 ^ pairs) some (pow_pos pairs) (sym (div-add-mod near (2 ^ pairs))) (mod-lt near (pow_pos pairs)) (subst (λ (k : ℕ). IsNearRoot (n * k) near) doubled is)
  where
    twice : (k : ℕ) → 2 * k ≡ k + k
    twice k = omega arith

-- a number of 64 binary digits, moved up by an even number of digits until one of its two highest is there
pub moved_up : (n : ℕ) → 0 < n → n < 2 ^ 64 → let pairs = count_leading_zeros 64 n / 2 in (n * 2 ^ (2 * pairs) % 2 ^ 64 ≡ n * 2 ^ (2 * pairs)) × (2 ^ 62 ≤ n * 2 ^ (2 * pairs))
moved_up n some fits =
    let top = leading_top 64 n some fits in
    let pairs = count_leading_zeros 64 n / 2 in
    let room : suc top.0 + 2 * pairs ≤ 64 = omega (arith, top.1) in
    let high : 62 ≤ top.0 + 2 * pairs = omega (arith, top.1) in
    let raised : 2 ^ 62 ≤ 2 ^ top.0 * 2 ^ (2 * pairs) = subst (λ (k : ℕ). 2 ^ 62 ≤ k) (pow-add 2 top.0 (2 * pairs)) (pow-le-pow_right (lit< tt) high) in
    (shl_whole n (suc top.0) (2 * pairs) 64 top.3 room, le_trans raised (mul-le (2 ^ top.0) (2 ^ (2 * pairs)) n (2 ^ (2 * pairs)) top.2 (le_refl (2 ^ (2 * pairs)))))
