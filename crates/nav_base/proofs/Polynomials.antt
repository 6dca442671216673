-- Equations between polynomials in whole numbers are found by computing: both sides are written as terms, and their difference is brought into a
-- normal form, in which each coefficient must be 0. To prove an equation, write its two sides as terms over a list of numbers and cite `equal`.
use Rattle.std.proofs.Common.{◌≡◌, ℤ, pos, negsuc, ◌+ℤ◌, ◌-ℤ◌, ◌*ℤ◌, ℕ, zero, suc, List, [], ◌∷◌, Bool, true, false, IsTrue, refl, ap, sym, ◌∙◌, arith}
use Rattle.std.specs.Prelude.{◌&&◌}
use Rattle.std.proofs.lemmas.Int.{ints}
use Rattle.std.proofs.lemmas.Bool.{and_parts, false≢true}
use lib.IntN.{neg_ℤ, +ℤ_assoc, *ℤ_comm, *ℤ-zero}
use borrow.Author.Differences.{same_in, same_out, sum_is_lem}
use Rattle.nav_base.proofs.Integers.{*ℤ-+ℤ_left, *ℤ-+ℤ_right, *ℤ_assoc}

-- a term: the number at a place of the list, a number itself, its opposite, a sum, a difference or a product
pub data Term : Type 0 where
  at : ℕ → Term
  number : ℤ → Term
  opposite : Term → Term
  sum : Term → Term → Term
  difference : Term → Term → Term
  product : Term → Term → Term

abbrev pub head : List ℤ → ℤ
head [] = pos 0
head (x ∷ xs) = x

abbrev pub tail : List ℤ → List ℤ
tail [] = []
tail (x ∷ xs) = xs

abbrev pub number_at : List ℤ → ℕ → ℤ
number_at xs zero = head xs
number_at xs (suc k) = number_at (tail xs) k

-- what a term comes to
abbrev pub value : List ℤ → Term → ℤ
value xs (at k) = number_at xs k
value xs (number n) = n
value xs (opposite t) = neg_ℤ (value xs t)
value xs (sum s t) = value xs s +ℤ value xs t
value xs (difference s t) = value xs s -ℤ value xs t
value xs (product s t) = value xs s *ℤ value xs t

-- a normal form: a number, or a form without the first variable plus the first variable times a form
pub data Form : Type 0 where
  constant : ℤ → Form
  step : Form → Form → Form

-- what a normal form comes to
abbrev pub form_value : List ℤ → Form → ℤ
form_value xs (constant n) = n
form_value xs (step p q) = form_value (tail xs) p +ℤ head xs *ℤ form_value xs q

-- a step, left out where it is a number alone
abbrev pub shortened : Form → Form → Form
shortened (constant n) (constant (pos zero)) = constant n
shortened p q = step p q

abbrev pub variable : ℕ → Form
variable zero = step (constant (pos 0)) (constant (pos 1))
variable (suc k) = step (variable k) (constant (pos 0))

abbrev pub plus_number : ℤ → Form → Form
plus_number n (constant m) = constant (n +ℤ m)
plus_number n (step p q) = step (plus_number n p) q

abbrev pub plus : Form → Form → Form
plus (constant n) q = plus_number n q
plus (step p p') (constant n) = step (plus p (constant n)) p'
plus (step p p') (step q q') = shortened (plus p q) (plus p' q')

abbrev pub times_number : ℤ → Form → Form
times_number n (constant m) = constant (n *ℤ m)
times_number n (step p q) = step (times_number n p) (times_number n q)

-- a function of forms without the first variable, taken at each part of a form
abbrev pub lifted : (Form → Form) → Form → Form
lifted f (constant n) = shortened (f (constant n)) (constant (pos 0))
lifted f (step p q) = step (f p) (lifted f q)

abbrev pub times : Form → Form → Form
times (constant n) q = times_number n q
times (step p p') q = plus (lifted (times p) q) (step (constant (pos 0)) (times p' q))

abbrev pub form_of : Term → Form
form_of (at k) = variable k
form_of (number n) = constant n
form_of (opposite t) = times_number (negsuc 0) (form_of t)
form_of (sum s t) = plus (form_of s) (form_of t)
form_of (difference s t) = plus (form_of s) (times_number (negsuc 0) (form_of t))
form_of (product s t) = times (form_of s) (form_of t)

abbrev pub is_nothing : Form → Bool
is_nothing (constant (pos zero)) = true
is_nothing (constant (pos (suc n))) = false
is_nothing (constant (negsuc n)) = false
is_nothing (step p q) = is_nothing p && is_nothing q

-- the terms are equal wherever they are taken
abbrev pub IsSame : Term → Term → Type 0
IsSame s t = IsTrue (is_nothing (form_of (difference s t)))

-- ---- a normal form comes to what its term comes to

-- a step's parts, each a sum
step_sum : (h a a' b b' c c' : ℤ) → c ≡ a +ℤ b → c' ≡ a' +ℤ b' → c +ℤ h *ℤ c' ≡ (a +ℤ h *ℤ a') +ℤ (b +ℤ h *ℤ b')
step_sum h a a' b b' c c' e e' =
    let scaled = ap (λ (n : ℤ). h *ℤ n) e' ∙ *ℤ-+ℤ_right h a' b' in
    omega (arith, same_in, same_out, sum_is_lem)

-- a step's parts, each a multiple
step_multiple : (h m a a' c c' : ℤ) → c ≡ m *ℤ a → c' ≡ m *ℤ a' → c +ℤ h *ℤ c' ≡ m *ℤ (a +ℤ h *ℤ a')
step_multiple h m a a' c c' e e' =
    let turned = sym (*ℤ_assoc h m a') ∙ ap (λ (n : ℤ). n *ℤ a') (*ℤ_comm h m) ∙ *ℤ_assoc m h a' in
    let scaled = ap (λ (n : ℤ). h *ℤ n) e' ∙ turned in
    let spread = *ℤ-+ℤ_right m a (h *ℤ a') in
    omega (arith, same_in, same_out, sum_is_lem)

-- a product with a step
step_product : (h a a' b c c' : ℤ) → c ≡ a *ℤ b → c' ≡ a' *ℤ b → c +ℤ (pos 0 +ℤ h *ℤ c') ≡ (a +ℤ h *ℤ a') *ℤ b
step_product h a a' b c c' e e' =
    let scaled = ap (λ (n : ℤ). h *ℤ n) e' ∙ sym (*ℤ_assoc h a' b) in
    let spread = *ℤ-+ℤ_left a (h *ℤ a') b in
    omega (arith, same_in, same_out, sum_is_lem)

plus_nothing : (h n : ℤ) → n +ℤ h *ℤ pos 0 ≡ n
plus_nothing h n = let none = *ℤ-zero h in omega (arith, same_in, same_out, sum_is_lem)

form_value-shortened : (xs : List ℤ) (p q : Form) → form_value xs (shortened p q) ≡ form_value (tail xs) p +ℤ head xs *ℤ form_value xs q
form_value-shortened xs (constant n) (constant (pos zero)) = sym (plus_nothing (head xs) n)
form_value-shortened xs (constant n) (constant (pos (suc m))) = refl
form_value-shortened xs (constant n) (constant (negsuc m)) = refl
form_value-shortened xs (constant n) (step q q') = refl
form_value-shortened xs (step p p') q = refl

form_value-variable : (xs : List ℤ) (k : ℕ) → form_value xs (variable k) ≡ number_at xs k
form_value-variable xs zero = once (head xs)
  where
    once : (n : ℤ) → pos 0 +ℤ n *ℤ pos 1 ≡ n
    once n = omega (arith, ints)
form_value-variable xs (suc k) = plus_nothing (head xs) (form_value (tail xs) (variable k)) ∙ form_value-variable (tail xs) k

form_value-plus_number : (xs : List ℤ) (n : ℤ) (p : Form) → form_value xs (plus_number n p) ≡ n +ℤ form_value xs p
form_value-plus_number xs n (constant m) = refl
form_value-plus_number xs n (step p q) = ap (λ (m : ℤ). m +ℤ head xs *ℤ form_value xs q) (form_value-plus_number (tail xs) n p) ∙ +ℤ_assoc n (form_value (tail xs) p) (head xs *ℤ form_value xs q)

form_value-plus : (xs : List ℤ) (p q : Form) → form_value xs (plus p q) ≡ form_value xs p +ℤ form_value xs q
form_value-plus xs (constant n) q = form_value-plus_number xs n q
form_value-plus xs (step p p') (constant n) =
    ap (λ (m : ℤ). m +ℤ head xs *ℤ form_value xs p') (form_value-plus (tail xs) p (constant n)) ∙ moved (form_value (tail xs) p) n (head xs *ℤ form_value xs p')
  where
    moved : (a b c : ℤ) → (a +ℤ b) +ℤ c ≡ (a +ℤ c) +ℤ b
    moved a b c = omega (arith, same_in, sum_is_lem)
form_value-plus xs (step p p') (step q q') =
    form_value-shortened xs (plus p q) (plus p' q')
    ∙ step_sum (head xs) (form_value (tail xs) p) (form_value xs p') (form_value (tail xs) q) (form_value xs q') (form_value (tail xs) (plus p q)) (form_value xs (plus p' q')) (form_value-plus (tail xs) p q) (form_value-plus xs p' q')

form_value-times_number : (xs : List ℤ) (n : ℤ) (p : Form) → form_value xs (times_number n p) ≡ n *ℤ form_value xs p
form_value-times_number xs n (constant m) = refl
form_value-times_number xs n (step p q) =
    step_multiple (head xs) n (form_value (tail xs) p) (form_value xs q) (form_value (tail xs) (times_number n p)) (form_value xs (times_number n q)) (form_value-times_number (tail xs) n p) (form_value-times_number xs n q)

form_value-lifted : (xs : List ℤ) (f : Form → Form) (n : ℤ) → ((q : Form) → form_value (tail xs) (f q) ≡ n *ℤ form_value (tail xs) q) → (q : Form) → form_value xs (lifted f q) ≡ n *ℤ form_value xs q
form_value-lifted xs f n is (constant m) =
    form_value-shortened xs (f (constant m)) (constant (pos 0)) ∙ plus_nothing (head xs) (form_value (tail xs) (f (constant m))) ∙ is (constant m)
form_value-lifted xs f n is (step p q) =
    step_multiple (head xs) n (form_value (tail xs) p) (form_value xs q) (form_value (tail xs) (f p)) (form_value xs (lifted f q)) (is p) (form_value-lifted xs f n is q)

form_value-times : (xs : List ℤ) (p q : Form) → form_value xs (times p q) ≡ form_value xs p *ℤ form_value xs q
form_value-times xs (constant n) q = form_value-times_number xs n q
form_value-times xs (step p p') q =
    form_value-plus xs (lifted (times p) q) (step (constant (pos 0)) (times p' q))
    ∙ step_product (head xs) (form_value (tail xs) p) (form_value xs p') (form_value xs q) (form_value xs (lifted (times p) q)) (form_value xs (times p' q)) (form_value-lifted xs (times p) (form_value (tail xs) p) (form_value-times (tail xs) p) q) (form_value-times xs p' q)

form_value-form_of : (xs : List ℤ) (t : Term) → form_value xs (form_of t) ≡ value xs t
form_value-form_of xs (at k) = form_value-variable xs k
form_value-form_of xs (number n) = refl
form_value-form_of xs (opposite t) = form_value-times_number xs (negsuc 0) (form_of t) ∙ turned (form_value xs (form_of t)) (value xs t) (form_value-form_of xs t)
  where
    turned : (a b : ℤ) → a ≡ b → negsuc 0 *ℤ a ≡ neg_ℤ b
    turned a b e = omega (arith, ints)
form_value-form_of xs (sum s t) = form_value-plus xs (form_of s) (form_of t) ∙ both (form_value xs (form_of s)) (value xs s) (form_value xs (form_of t)) (value xs t) (form_value-form_of xs s) (form_value-form_of xs t)
  where
    both : (a a' b b' : ℤ) → a ≡ a' → b ≡ b' → a +ℤ b ≡ a' +ℤ b'
    both a a' b b' e e' = cc
form_value-form_of xs (difference s t) =
    form_value-plus xs (form_of s) (times_number (negsuc 0) (form_of t))
    ∙ less (form_value xs (form_of s)) (value xs s) (form_value xs (times_number (negsuc 0) (form_of t))) (form_value xs (form_of t)) (value xs t) (form_value-form_of xs s) (form_value-times_number xs (negsuc 0) (form_of t)) (form_value-form_of xs t)
  where
    less : (a a' c b b' : ℤ) → a ≡ a' → c ≡ negsuc 0 *ℤ b → b ≡ b' → a +ℤ c ≡ a' -ℤ b'
    less a a' c b b' e times e' = omega (arith, ints)
form_value-form_of xs (product s t) = form_value-times xs (form_of s) (form_of t) ∙ both (form_value xs (form_of s)) (value xs s) (form_value xs (form_of t)) (value xs t) (form_value-form_of xs s) (form_value-form_of xs t)
  where
    both : (a a' b b' : ℤ) → a ≡ a' → b ≡ b' → a *ℤ b ≡ a' *ℤ b'
    both a a' b b' e e' = cc

form_value-nothing : (xs : List ℤ) (p : Form) → IsTrue (is_nothing p) → form_value xs p ≡ pos 0
form_value-nothing xs (constant (pos zero)) h = refl
form_value-nothing xs (constant (pos (suc n))) h = absurd (false≢true h)
form_value-nothing xs (constant (negsuc n)) h = absurd (false≢true h)
form_value-nothing xs (step p q) h =
    let parts = and_parts (is_nothing p) (is_nothing q) h in
    none (head xs) (form_value (tail xs) p) (form_value xs q) (form_value-nothing (tail xs) p parts.0) (form_value-nothing xs q parts.1)
  where
    none : (h a b : ℤ) → a ≡ pos 0 → b ≡ pos 0 → a +ℤ h *ℤ b ≡ pos 0
    none h a b e e' = ap (λ (n : ℤ). a +ℤ h *ℤ n) e' ∙ plus_nothing h a ∙ e

-- Two terms whose difference has the normal form of nothing are equal at every list of numbers.
pub equal : (xs : List ℤ) (s t : Term) → IsSame s t → value xs s ≡ value xs t
equal xs s t same = level (value xs s) (value xs t) (sym (form_value-form_of xs (difference s t)) ∙ form_value-nothing xs (form_of (difference s t)) same)
  where
    level : (a b : ℤ) → a -ℤ b ≡ pos 0 → a ≡ b
    level a b e = omega (arith, ints)
