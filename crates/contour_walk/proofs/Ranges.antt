-- Sums over ranges of columns.
use Rattle.std.proofs.Common.{◌≡◌, ℕ, ◌+◌, ◌-◌, ◌<◌, ◌≤◌, Bool, true, false, cond, List, ap, ◌∙◌, refl, arith, zero, suc}
use Rattle.std.specs.Prelude.{nat_le, ◌&&◌, map, reverse, ◌==◌}
use Rattle.std.specs.List.{range_with_len, sum_by}
use Rattle.std.proofs.lemmas.Bool.{cond-true, cond-false, eq-eqb, ne_eqb}
use Rattle.std.proofs.lemmas.Bool.Decides.{nat_tests}
use Rattle.std.proofs.lemmas.List.Sums.{sum_by-cons}
use Rattle.std.proofs.lemmas.List.Sorted.{IsPermutation-reverse, sum_by-IsPermutation}
use Rattle.mesh_types.proofs.Totals.{sum_by-range_same, sum_by-zero, sum_by-map}

-- the sum over so many numbers from one on
abbrev pub over : (ℕ → ℕ) → ℕ → ℕ → ℕ
over f first count = sum_by f (range_with_len first count)

pub over_more : (f : ℕ → ℕ) (first count : ℕ) → over f first (suc count) ≡ f first + over f (first + 1) count
over_more f first count = sum_by-cons f first (range_with_len (first + 1) count)

-- a range in two parts
pub over_parts : (f : ℕ → ℕ) (first m n : ℕ) → over f first (m + n) ≡ over f first m + over f (first + m) n
over_parts f first zero n =
    let a : over f first (zero + n) ≡ over f first n = ap (over f first) {x = zero + n} {y = n} (omega arith) in
    let b : over f (first + zero) n ≡ over f first n = ap (λ k. over f k n) {x = first + zero} {y = first} (omega arith) in
    omega (arith, a, b)
over_parts f first (suc m) n =
    let a : over f first (suc m + n) ≡ over f first (suc (m + n)) = ap (over f first) {x = suc m + n} {y = suc (m + n)} (omega arith) in
    let b : over f (first + 1 + m) n ≡ over f (first + suc m) n = ap (λ k. over f k n) {x = first + 1 + m} {y = first + suc m} (omega arith) in
    omega (arith, a, b, over_more f first (m + n), over_more f first m, over_parts f (first + 1) m n)

pub over_count : (f : ℕ → ℕ) (first m n : ℕ) → m ≡ n → over f first m ≡ over f first n
over_count f first m n same = ap (over f first) same

pub over_same : (f g : ℕ → ℕ) (first count : ℕ) → ((k : ℕ) → first ≤ k → k < first + count → f k ≡ g k) → over f first count ≡ over g first count
over_same f g first count same = sum_by-range_same f g first count same

pub over_none : (f : ℕ → ℕ) (first count : ℕ) → ((k : ℕ) → first ≤ k → k < first + count → f k ≡ 0) → over f first count ≡ 0
over_none f first count none = over_same f (λ k. 0) first count none ∙ sum_by-zero (range_with_len first count)

-- a number lies between two
abbrev pub is_within : ℕ → ℕ → ℕ → Bool
is_within first last x = nat_le first x && nat_le x last

pub within_yes : (first last x : ℕ) → first ≤ x → x ≤ last → is_within first last x ≡ true
within_yes first last x least most = grind (arith, nat_tests)

pub within_below : (first last x : ℕ) → x < first → is_within first last x ≡ false
within_below first last x less = grind (arith, nat_tests)

pub within_above : (first last x : ℕ) → last < x → is_within first last x ≡ false
within_above first last x more = grind (arith, nat_tests)

pub within_is : (first last x : ℕ) → is_within first last x ≡ true → (first ≤ x) × (x ≤ last)
within_is first last x is = (grind (arith, nat_tests), grind (arith, nat_tests))

-- of the columns of a range, those outside another that overlaps it stand before it or after it
pub over_outside : (f : ℕ → ℕ) (l h l' h' : ℕ) → l ≤ h → l' ≤ h' → l ≤ h' → l' ≤ h
    → over (λ x. cond (is_within l' h' x) 0 (f x)) l (h + 1 - l) ≡ over f l (l' - l) + over f (h' + 1) (h + 1 - (h' + 1))
over_outside f l h l' h' ordered ordered' left right =
    let g : ℕ → ℕ = λ x. cond (is_within l' h' x) 0 (f x) in
    let a : ℕ = l' - l in
    let c : ℕ = h + 1 - (h' + 1) in
    let b : ℕ = h + 1 - l - a - c in
    let whole : over g l (h + 1 - l) ≡ over g l (a + (b + c)) = over_count g l (h + 1 - l) (a + (b + c)) (omega (arith, ordered, ordered', left, right)) in
    let first : over g l a ≡ over f l a =
    over_same g f l a (λ k least below. cond-false (is_within l' h' k) 0 (f k) (within_below l' h' k (omega (arith, least, below)))) in
    let middle : over g (l + a) b ≡ 0 =
    over_none g (l + a) b (λ k least below. cond-true (is_within l' h' k) 0 (f k)
    (within_yes l' h' k (omega (arith, least)) (omega (arith, below, ordered, ordered', left, right)))) in
    let rest : over g (l + a + b) c ≡ over f (l + a + b) c =
    over_same g f (l + a + b) c (λ k least below. cond-false (is_within l' h' k) 0 (f k)
    (within_above l' h' k (omega (arith, least, below, ordered, ordered', left, right)))) in
    let last : over f (l + a + b) c ≡ over f (h' + 1) c = moved (l + a + b) (h' + 1) c (λ some. omega (arith, some, ordered, ordered', left, right)) in
    omega (arith, whole, first, middle, rest, last, over_parts g l a (b + c), over_parts g (l + a) b c)
  where
    moved : (m n c : ℕ) → (0 < c → m ≡ n) → over f m c ≡ over f n c
    moved m n zero same = refl
    moved m n (suc c) same = ap (λ k. over f k (suc c)) (same (omega arith))

-- nothing but the first or the last of a range
pub over_first : (f : ℕ → ℕ) (l h : ℕ) → l ≤ h → over (λ x. cond (x == l) (f x) 0) l (h + 1 - l) ≡ f l
over_first f l h ordered =
    let g : ℕ → ℕ = λ x. cond (x == l) (f x) 0 in
    let whole : over g l (h + 1 - l) ≡ over g l (suc (h - l)) = over_count g l (h + 1 - l) (suc (h - l)) (omega (arith, ordered)) in
    let here : g l ≡ f l = cond-true (l == l) (f l) 0 (eq-eqb l l refl) in
    let rest : over g (l + 1) (h - l) ≡ 0 = over_none g (l + 1) (h - l) (λ k least below. cond-false (k == l) (f k) 0 (ne_eqb k l (λ e. omega (arith, e, least)))) in
    omega (arith, whole, here, rest, over_more g l (h - l))

pub over_last : (f : ℕ → ℕ) (l h : ℕ) → l ≤ h → over (λ x. cond (x == h) (f x) 0) l (h + 1 - l) ≡ f h
over_last f l h ordered =
    let g : ℕ → ℕ = λ x. cond (x == h) (f x) 0 in
    let whole : over g l (h + 1 - l) ≡ over g l ((h - l) + 1) = over_count g l (h + 1 - l) ((h - l) + 1) (omega (arith, ordered)) in
    let here : g (l + (h - l)) ≡ f h = ap g {x = l + (h - l)} {y = h} (omega (arith, ordered)) ∙ cond-true (h == h) (f h) 0 (eq-eqb h h refl) in
    let before : over g l (h - l) ≡ 0 = over_none g l (h - l) (λ k least below. cond-false (k == h) (f k) 0 (ne_eqb k h (λ e. omega (arith, e, below)))) in
    let one : over g (l + (h - l)) 1 ≡ g (l + (h - l)) + 0 = over_more g (l + (h - l)) 0 in
    omega (arith, whole, here, before, one, over_parts g l (h - l) 1)

-- a sum over what stands for a range, in either direction
pub sum_by-reverse : {X : Type 0} (g : X → ℕ) (xs : List X) → sum_by g (reverse xs) ≡ sum_by g xs
sum_by-reverse g xs = sum_by-IsPermutation g xs (reverse xs) (IsPermutation-reverse xs)

pub sum_right : {X : Type 0} (g : X → ℕ) (edge : ℕ → X) (first count : ℕ) → sum_by g (map edge (range_with_len first count)) ≡ over (λ x. g (edge x)) first count
sum_right g edge first count = sum_by-map g edge (range_with_len first count)

pub sum_left : {X : Type 0} (g : X → ℕ) (edge : ℕ → X) (first count : ℕ)
    → sum_by g (map edge (reverse (range_with_len first count))) ≡ over (λ x. g (edge x)) first count
sum_left g edge first count = sum_by-map g edge (reverse (range_with_len first count)) ∙ sum_by-reverse (λ x. g (edge x)) (range_with_len first count)
