-- How often numbers stand in lists that change.
use Rattle.std.proofs.Common.{◌≡◌, ℕ, zero, suc, ◌+◌, ◌≤◌, ◌<◌, Bool, true, false, not, cond, ◌||◌, List, [], ◌∷◌, ◌++◌, length, filter, get_or, set, refl, sym, ap, ◌∙◌, subst, arith, ⊎_elim}
use Rattle.std.specs.Prelude.{◌==◌, AllPairs, All}
use Rattle.std.specs.List.{count_by, list_any, remove}
use Rattle.std.proofs.lemmas.Bool.{both_ways, cases_Bool, cases_eq, eq-eqb, ne_eqb}
use Rattle.std.proofs.lemmas.List.Sums.{sum_by-cons, sum_by-set, sum_by-append, length-filter, count_by-le-length}

-- the weight of an element
abbrev pub one_if : Bool → ℕ
one_if b = cond b 1 0

pub count_cons : {A : Type 0} (p : A → Bool) (x : A) (xs : List A) → count_by p (x ∷ xs) ≡ one_if (p x) + count_by p xs
count_cons {A = A} p x xs = sum_by-cons (λ (y : A). one_if (p y)) x xs

pub count_yes : {A : Type 0} (p : A → Bool) (x : A) (xs : List A) → p x ≡ true → count_by p (x ∷ xs) ≡ 1 + count_by p xs
count_yes p x xs passes = count_cons p x xs ∙ ap (λ b. one_if b + count_by p xs) passes

pub count_no : {A : Type 0} (p : A → Bool) (x : A) (xs : List A) → p x ≡ false → count_by p (x ∷ xs) ≡ count_by p xs
count_no p x xs fails = count_cons p x xs ∙ ap (λ b. one_if b + count_by p xs) fails ∙ omega arith

pub count_push : {A : Type 0} (p : A → Bool) (xs : List A) (x : A) → count_by p (xs ++ x ∷ []) ≡ count_by p xs + one_if (p x)
count_push {A = A} p xs x =
    let both = sum_by-append (λ (y : A). one_if (p y)) xs (x ∷ []) in
    let last = count_cons p x [] in
    both ∙ ap (λ n. count_by p xs + n) (last ∙ omega arith)

pub count_set : {A : Type 0} (p : A → Bool) (xs : List A) (i : ℕ) (y d : A) → i < length xs
    → count_by p (set xs i y) + one_if (p (get_or xs i d)) ≡ count_by p xs + one_if (p y)
count_set {A = A} p xs i y d there = sum_by-set (λ (x : A). one_if (p x)) xs i y d there

pub count_remove : {A : Type 0} (p : A → Bool) (xs : List A) (i : ℕ) (d : A) → i < length xs
    → count_by p (remove xs i) + one_if (p (get_or xs i d)) ≡ count_by p xs
count_remove p [] i d there = absurd (omega (arith, there))
count_remove p (x ∷ xs) zero d there = let first = count_cons p x xs in omega (arith, first)
count_remove p (x ∷ xs) (suc i) d there =
    let rest = count_remove p xs i d (omega (arith, there)) in
    let first = count_cons p x xs in
    let less = count_cons p x (remove xs i) in
    omega (arith, rest, first, less)

-- a list without a number has the others as often as before
pub count_without : (xs : List ℕ) (number other : ℕ) → (other ≡ number → ⊥)
    → count_by (λ n. n == other) (filter (λ n. not (n == number)) xs) ≡ count_by (λ n. n == other) xs
count_without [] number other apart = refl
count_without (x ∷ xs) number other apart =
    let rest = count_without xs number other apart in
    ⊎_elim
    (λ same.
    ap (λ b. count_by (λ n. n == other) (cond (not b) (x ∷ filter (λ n. not (n == number)) xs) (filter (λ n. not (n == number)) xs))) (eq-eqb x number same)
    ∙ rest ∙ sym (count_no (λ n. n == other) x xs (ne_eqb x other (λ its. apart (sym its ∙ same)))))
    (λ differs.
    ap (λ b. count_by (λ n. n == other) (cond (not b) (x ∷ filter (λ n. not (n == number)) xs) (filter (λ n. not (n == number)) xs))) (ne_eqb x number differs)
    ∙ count_cons (λ n. n == other) x (filter (λ n. not (n == number)) xs) ∙ ap (λ n. one_if (x == other) + n) rest ∙ sym (count_cons (λ n. n == other) x xs))
    (cases_eq x number)

-- and that number nowhere
pub count_left_out : (xs : List ℕ) (number : ℕ) → count_by (λ n. n == number) (filter (λ n. not (n == number)) xs) ≡ 0
count_left_out [] number = refl
count_left_out (x ∷ xs) number =
    let rest = count_left_out xs number in
    ⊎_elim
    (λ same.
    ap (λ b. count_by (λ n. n == number) (cond (not b) (x ∷ filter (λ n. not (n == number)) xs) (filter (λ n. not (n == number)) xs))) (eq-eqb x number same)
    ∙ rest)
    (λ differs.
    ap (λ b. count_by (λ n. n == number) (cond (not b) (x ∷ filter (λ n. not (n == number)) xs) (filter (λ n. not (n == number)) xs))) (ne_eqb x number differs)
    ∙ count_no (λ n. n == number) x (filter (λ n. not (n == number)) xs) (ne_eqb x number differs) ∙ rest)
    (cases_eq x number)

-- a number stands at most once in a list that rises
pub none_above : (x : ℕ) (xs : List ℕ) → All (λ n. x < n) xs → count_by (λ n. n == x) xs ≡ 0
none_above x [] above = refl
none_above x (y ∷ xs) above =
    let first : x < y = above 0 y (omega arith) in
    let rest = none_above x xs (λ k d within. above (suc k) d (omega (arith, within))) in
    count_no (λ n. n == x) y xs (ne_eqb y x (λ same. omega (arith, same, first))) ∙ rest

pub once_at_most : (xs : List ℕ) (x : ℕ) → AllPairs (λ a b. a < b) xs → count_by (λ n. n == x) xs ≤ 1
once_at_most [] x rising = omega arith
once_at_most (y ∷ xs) x rising =
    let later = once_at_most xs x (λ i j d before within. rising (suc i) (suc j) d (omega (arith, before)) (omega (arith, within))) in
    ⊎_elim
    (λ same.
    let above : All (λ n. y < n) xs = λ k d within. rising 0 (suc k) d (omega arith) (omega (arith, within)) in
    let none = subst (λ n. count_by (λ m. m == n) xs ≡ 0) same (none_above y xs above) in
    let here = count_yes (λ n. n == x) y xs (eq-eqb y x same) in
    omega (arith, none, here))
    (λ apart.
    let here = count_no (λ n. n == x) y xs (ne_eqb y x apart) in
    omega (arith, later, here))
    (cases_eq y x)

-- what is counted is there
pub counted_there : {A : Type 0} (p : A → Bool) (xs : List A) → 1 ≤ count_by p xs → list_any p xs ≡ true
counted_there p [] some = absurd (omega (arith, some))
counted_there {A = A} p (x ∷ xs) some =
    let later : 1 ≤ count_by p xs → list_any p xs ≡ true = counted_there p xs in
    ⊎_elim
    (λ passes. ap (λ b. b || list_any p xs) passes)
    (λ fails.
    let less = count_no p x xs fails in
    ap (λ b. b || list_any p xs) fails ∙ later (omega (arith, less, some)))
    (cases_Bool (p x))

-- and what is there is counted
pub there_counted : {A : Type 0} (p : A → Bool) (xs : List A) (i : ℕ) (d : A) → i < length xs → p (get_or xs i d) ≡ true → 1 ≤ count_by p xs
there_counted p [] i d there passes = absurd (omega (arith, there))
there_counted p (x ∷ xs) zero d there passes = let here = count_yes p x xs passes in omega (arith, here)
there_counted p (x ∷ xs) (suc i) d there passes =
    let rest = there_counted p xs i d (omega (arith, there)) passes in
    let all = count_cons p x xs in
    omega (arith, rest, all)

-- fewer are left without one that is there
pub fewer_left : (xs : List ℕ) (number : ℕ) → list_any (λ n. n == number) xs ≡ true → length (filter (λ n. not (n == number)) xs) < length xs
fewer_left [] number there = absurd (both_ways false refl there)
fewer_left (x ∷ xs) number there =
    let later : list_any (λ n. n == number) xs ≡ true → length (filter (λ n. not (n == number)) xs) < length xs = fewer_left xs number in
    ⊎_elim
    (λ same.
    let gone : filter (λ n. not (n == number)) (x ∷ xs) ≡ filter (λ n. not (n == number)) xs =
    ap (λ b. cond (not b) (x ∷ filter (λ n. not (n == number)) xs) (filter (λ n. not (n == number)) xs)) (eq-eqb x number same) in
    let long : length (filter (λ n. not (n == number)) xs) ≡ count_by (λ n. not (n == number)) xs = length-filter (λ n. not (n == number)) xs in
    let least = count_by-le-length (λ n. not (n == number)) xs in
    omega (arith, ap (λ (ns : List ℕ). length ns) gone, long, least))
    (λ differs.
    let kept : filter (λ n. not (n == number)) (x ∷ xs) ≡ x ∷ filter (λ n. not (n == number)) xs =
    ap (λ b. cond (not b) (x ∷ filter (λ n. not (n == number)) xs) (filter (λ n. not (n == number)) xs)) (ne_eqb x number differs) in
    let rest = later (sym (ap (λ b. b || list_any (λ n. n == number) xs) (ne_eqb x number differs)) ∙ there) in
    omega (arith, ap (λ (ns : List ℕ). length ns) kept, rest))
    (cases_eq x number)
