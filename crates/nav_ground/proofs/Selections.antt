-- Elements by their places, and what a test or a look-up selects from a list.
use Rattle.std.proofs.Common.{◌≡◌, ℕ, zero, suc, ◌+◌, ◌<◌, ◌≤◌, Bool, true, false, cond, ◌&&◌, ◌||◌, List, [], ◌∷◌, ◌++◌, length, take, map, filter, get_or, Option, Some, refl, sym, ap, ◌∙◌, arith}
use Rattle.std.specs.List.{slice_get, range_with_len, list_any, filter_map, All, Contains}
use Rattle.std.proofs.lemmas.List.{map-id}
use Rattle.std.proofs.lemmas.List.FromFn.{map-range_with_len_more, length-range_with_len, get_or-range_with_len}
use Rattle.std.proofs.lemmas.List.Elements.{All-head, All-tail}
use Rattle.std.proofs.lemmas.List.Folds.{list_any_at, Any-from_list_any}

-- an element below the place where a list is cut
pub slice_get-take : {A : Type 0} (n : ℕ) (xs : List A) (i : ℕ) → i < n → slice_get (take n xs) i ≡ slice_get xs i
slice_get-take zero xs i below = absurd (omega (arith, below))
slice_get-take (suc n) [] i below = refl
slice_get-take (suc n) (x ∷ xs) zero below = refl
slice_get-take (suc n) (x ∷ xs) (suc i) below = slice_get-take n xs i (omega (arith, below))

-- an element of the first of two lists
pub slice_get-append : {A : Type 0} (xs ys : List A) (i : ℕ) → i < length xs → slice_get (xs ++ ys) i ≡ slice_get xs i
slice_get-append [] ys i below = absurd (omega (arith, below))
slice_get-append (x ∷ xs) ys zero below = refl
slice_get-append (x ∷ xs) ys (suc i) below = slice_get-append xs ys i (omega (arith, below))

-- the element after a list
pub slice_get-push : {A : Type 0} (xs : List A) (x : A) → slice_get (xs ++ x ∷ []) (length xs) ≡ Some x
slice_get-push [] x = refl
slice_get-push (y ∷ xs) x = slice_get-push xs x

-- an element that passes a test, and a test that an element passes
pub found : {A : Type 0} (p : A → Bool) (xs : List A) → list_any p xs ≡ true → (x : A) × Contains xs x × (p x ≡ true)
found p xs h = let any = Any-from_list_any p xs h in (any.1, (any.0, any.2, any.3), any.4)

pub any_of : {A : Type 0} (p : A → Bool) (xs : List A) (x : A) → Contains xs x → p x ≡ true → list_any p xs ≡ true
any_of p xs x has passes = list_any_at p xs has.0 x has.1 (ap p has.2 ∙ passes)

-- a test over what another kept
pub list_any-filter : {A : Type 0} (p q : A → Bool) (xs : List A) → list_any q (filter p xs) ≡ list_any (λ x. p x && q x) xs
list_any-filter p q [] = refl
list_any-filter p q (x ∷ xs) =
    let rest = list_any-filter p q xs in
    elim (p x) as (λ b. list_any q (cond b (x ∷ filter p xs) (filter p xs)) ≡ ((b && q x) || list_any (λ y. p y && q y) xs))
    [ true ↦ ap (λ b. q x || b) rest | false ↦ rest ]

-- a number of a range that passes a test, and back
pub found_below : (p : ℕ → Bool) (n : ℕ) → list_any p (range_with_len 0 n) ≡ true → (k : ℕ) × (k < n) × (p k ≡ true)
found_below p n h =
    let hit = found p (range_with_len 0 n) h in
    let here : hit.1.0 < n = omega (arith, hit.1.1, length-range_with_len 0 n) in
    let is = get_or-range_with_len 0 n hit.1.0 hit.0 here in
    (hit.0, omega (arith, here, is, hit.1.2), hit.2)

pub any_below : (p : ℕ → Bool) (n k : ℕ) → k < n → p k ≡ true → list_any p (range_with_len 0 n) ≡ true
any_below p n k small passes =
    let is : get_or (range_with_len 0 n) k 0 ≡ k = omega (arith, get_or-range_with_len 0 n k 0 small) in
    list_any_at p (range_with_len 0 n) k 0 (omega (arith, small, length-range_with_len 0 n)) (ap p is ∙ passes)

-- two tests that agree on a range keep the same numbers of it
pub filter-range_same : (p q : ℕ → Bool) (first count : ℕ) → ((n : ℕ) → first ≤ n → n < first + count → p n ≡ q n)
    → filter p (range_with_len first count) ≡ filter q (range_with_len first count)
filter-range_same p q first zero same = refl
filter-range_same p q first (suc count) same =
    let here = same first (omega arith) (omega arith) in
    let rest = filter-range_same p q (first + 1) count (λ n low high. same n (omega (arith, low)) (omega (arith, high))) in
    cc

-- two look-ups that agree on a range give the same of the numbers that a test keeps
pub filter_map-range_same : {A : Type 0} (f g : ℕ → Option A) (p : ℕ → Bool) (first count : ℕ)
    → ((n : ℕ) → first ≤ n → n < first + count → f n ≡ g n)
    → filter_map f (filter p (range_with_len first count)) ≡ filter_map g (filter p (range_with_len first count))
filter_map-range_same f g p first zero same = refl
filter_map-range_same f g p first (suc count) same =
    let here = same first (omega arith) (omega arith) in
    let rest = filter_map-range_same f g p (first + 1) count (λ n low high. same n (omega (arith, low)) (omega (arith, high))) in
    elim (p first) as (λ b. filter_map f (cond b (first ∷ filter p (range_with_len (first + 1) count)) (filter p (range_with_len (first + 1) count)))
    ≡ filter_map g (cond b (first ∷ filter p (range_with_len (first + 1) count)) (filter p (range_with_len (first + 1) count)))) [ true ↦ cc | false ↦ rest ]

-- a range with one number more
pub range-push : (first count : ℕ) → range_with_len first (count + 1) ≡ range_with_len first count ++ (first + count) ∷ []
range-push first count =
    sym (map-id (range_with_len first (count + 1))) ∙ map-range_with_len_more (λ n. n) first count (first + count) refl
    ∙ ap (λ ns. ns ++ (first + count) ∷ []) (map-id (range_with_len first count))

-- what one test keeps of what another kept
pub filter-filter : {A : Type 0} (p q : A → Bool) (xs : List A) → filter p (filter q xs) ≡ filter (λ x. q x && p x) xs
filter-filter p q [] = refl
filter-filter p q (x ∷ xs) =
    let rest = filter-filter p q xs in
    elim (q x) as (λ b. filter p (cond b (x ∷ filter q xs) (filter q xs)) ≡ cond (b && p x) (x ∷ filter (λ y. q y && p y) xs) (filter (λ y. q y && p y) xs))
    [ true ↦ ap (λ ys. cond (p x) (x ∷ ys) ys) rest | false ↦ rest ]

-- two tests that agree at the elements of a list keep the same of them
pub filter_same : {A : Type 0} (p q : A → Bool) (xs : List A) → All (λ x. p x ≡ q x) xs → filter p xs ≡ filter q xs
filter_same p q [] same = refl
filter_same p q (x ∷ xs) same =
    let here = All-head (λ y. p y ≡ q y) x xs same in
    let rest = filter_same p q xs (All-tail (λ y. p y ≡ q y) x xs same) in
    ap (λ b. cond b (x ∷ filter p xs) (filter p xs)) here ∙ ap (λ ys. cond (q x) (x ∷ ys) ys) rest

-- a test that every element passes keeps all, one that none passes keeps none
pub filter_all : {A : Type 0} (p : A → Bool) (xs : List A) → All (λ x. p x ≡ true) xs → filter p xs ≡ xs
filter_all p [] each = refl
filter_all p (x ∷ xs) each =
    let here = All-head (λ y. p y ≡ true) x xs each in
    let rest = filter_all p xs (All-tail (λ y. p y ≡ true) x xs each) in
    cc

pub filter_none : {A : Type 0} (p : A → Bool) (xs : List A) → All (λ x. p x ≡ false) xs → filter p xs ≡ []
filter_none p [] each = refl
filter_none p (x ∷ xs) each =
    let here = All-head (λ y. p y ≡ false) x xs each in
    let rest = filter_none p xs (All-tail (λ y. p y ≡ false) x xs each) in
    cc

-- a test of what a function makes of the elements
pub filter-map : {A B : Type 0} (p : B → Bool) (f : A → B) (xs : List A) → filter p (map f xs) ≡ map f (filter (λ x. p (f x)) xs)
filter-map p f [] = refl
filter-map p f (x ∷ xs) =
    let rest = filter-map p f xs in
    elim (p (f x)) as (λ b. cond b (f x ∷ filter p (map f xs)) (filter p (map f xs)) ≡ map f (cond b (x ∷ filter (λ y. p (f y)) xs) (filter (λ y. p (f y)) xs)))
    [ true ↦ ap (λ ys. f x ∷ ys) rest | false ↦ rest ]

pub list_any-map : {A B : Type 0} (p : B → Bool) (f : A → B) (xs : List A) → list_any p (map f xs) ≡ list_any (λ x. p (f x)) xs
list_any-map p f [] = refl
list_any-map p f (x ∷ xs) = ap (λ b. p (f x) || b) (list_any-map p f xs)
