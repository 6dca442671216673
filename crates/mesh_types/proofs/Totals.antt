-- Sums and counts over lists, by elements and by places.
use Rattle.std.proofs.Common.{◌≡◌, ℕ, zero, suc, ◌+◌, ◌<◌, ◌≤◌, Bool, true, false, cond, List, [], ◌∷◌, map, filter, length, get_or, ap, ◌∙◌, sym, refl, arith, ◌*◌}
use Rattle.std.specs.Prelude.{All, AllPairs, Any, Option, Some, None, ◌==◌, ◌&&◌}
use Rattle.std.specs.List.{sum_by, count_by, range_with_len, flat_map, filter_map, cons_option}
use Rattle.std.proofs.Math.Nat.{mul-add}
use Rattle.std.proofs.lemmas.Bool.{false_from_ne_true, and_from, eq-eqb, eqb-true}
use Rattle.std.proofs.lemmas.List.Elements.{All-head, All-tail}
use Rattle.std.proofs.lemmas.List.FromFn.{fill_by_all, get_or-range_with_len, length-range_with_len}
use Rattle.std.proofs.lemmas.List.Sums.{sum_by-cons, sum_by-append, get_or-le-sum_by}
use Rattle.mesh_types.proofs.Keyed.{count_yes, count_no}

-- a sum over what is made of elements
pub sum_by-map : {X Y : Type 0} (g : Y → ℕ) (f : X → Y) (xs : List X) → sum_by g (map f xs) ≡ sum_by (λ x. g (f x)) xs
sum_by-map g f [] = refl
sum_by-map g f (x ∷ xs) =
    sum_by-cons g (f x) (map f xs) ∙ ap (λ n. g (f x) + n) (sum_by-map g f xs) ∙ sym (sum_by-cons (λ y. g (f y)) x xs)

-- a sum over all that elements give
pub sum_by-flat_map : {X Y : Type 0} (g : Y → ℕ) (f : X → List Y) (xs : List X) → sum_by g (flat_map f xs) ≡ sum_by (λ x. sum_by g (f x)) xs
sum_by-flat_map g f [] = refl
sum_by-flat_map g f (x ∷ xs) =
    sum_by-append g (f x) (flat_map f xs)
    ∙ ap (λ n. sum_by g (f x) + n) (sum_by-flat_map g f xs)
    ∙ sym (sum_by-cons (λ y. sum_by g (f y)) x xs)

-- a sum over the elements that pass
pub sum_by-filter : {X : Type 0} (g : X → ℕ) (p : X → Bool) (xs : List X) → sum_by g (filter p xs) ≡ sum_by (λ x. cond (p x) (g x) 0) xs
sum_by-filter g p [] = refl
sum_by-filter g p (x ∷ xs) = by_case (p x) (sum_by-filter g p xs) ∙ sym (sum_by-cons (λ y. cond (p y) (g y) 0) x xs)
  where
    by_case : (b : Bool) → sum_by g (filter p xs) ≡ sum_by (λ y. cond (p y) (g y) 0) xs
        → sum_by g (cond b (x ∷ filter p xs) (filter p xs)) ≡ cond b (g x) 0 + sum_by (λ y. cond (p y) (g y) 0) xs
    by_case true rest = sum_by-cons g x (filter p xs) ∙ ap (λ n. g x + n) rest
    by_case false rest = omega (arith, rest)

-- how many elements there are is a sum of ones
pub sum_by-one : {X : Type 0} (xs : List X) → sum_by (λ x. 1) xs ≡ length xs
sum_by-one [] = refl
sum_by-one (x ∷ xs) = omega (arith, sum_by-cons (λ y. 1) x xs, sum_by-one xs)

pub sum_by-zero : {X : Type 0} (xs : List X) → sum_by (λ x. 0) xs ≡ 0
sum_by-zero [] = refl
sum_by-zero (x ∷ xs) = omega (arith, sum_by-cons (λ y. 0) x xs, sum_by-zero xs)

pub sum_by-plus : {X : Type 0} (f g : X → ℕ) (xs : List X) → sum_by (λ x. f x + g x) xs ≡ sum_by f xs + sum_by g xs
sum_by-plus f g [] = refl
sum_by-plus f g (x ∷ xs) =
    omega (arith, sum_by-cons (λ y. f y + g y) x xs, sum_by-cons f x xs, sum_by-cons g x xs, sum_by-plus f g xs)

-- a sum of terms that are no larger is no larger
pub sum_by-no_more : {X : Type 0} (f g : X → ℕ) (xs : List X) → All (λ x. f x ≤ g x) xs → sum_by f xs ≤ sum_by g xs
sum_by-no_more f g [] each = omega arith
sum_by-no_more f g (x ∷ xs) each =
    omega (
      arith,
      sum_by-cons f x xs,
      sum_by-cons g x xs,
      All-head (λ y. f y ≤ g y) x xs each,
      sum_by-no_more f g xs (All-tail (λ y. f y ≤ g y) x xs each),
    )

-- the same over numbers of a range
pub sum_by-range_no_more : (f g : ℕ → ℕ) (first count : ℕ) → ((k : ℕ) → first ≤ k → k < first + count → f k ≤ g k)
    → sum_by f (range_with_len first count) ≤ sum_by g (range_with_len first count)
sum_by-range_no_more f g first zero each = omega arith
sum_by-range_no_more f g first (suc count) each =
    omega (
      arith,
      sum_by-cons f first (range_with_len (first + 1) count),
      sum_by-cons g first (range_with_len (first + 1) count),
      each first (omega arith) (omega arith),
      sum_by-range_no_more f g (first + 1) count (λ k least most. each k (omega (arith, least)) (omega (arith, most))),
    )

-- sums of equal terms are equal
pub sum_by-same : {X : Type 0} (f g : X → ℕ) (xs : List X) → ((x : X) → f x ≡ g x) → sum_by f xs ≡ sum_by g xs
sum_by-same f g [] same = refl
sum_by-same f g (x ∷ xs) same = omega (arith, sum_by-cons f x xs, sum_by-cons g x xs, same x, sum_by-same f g xs same)

pub sum_by-range_same : (f g : ℕ → ℕ) (first count : ℕ) → ((k : ℕ) → first ≤ k → k < first + count → f k ≡ g k)
    → sum_by f (range_with_len first count) ≡ sum_by g (range_with_len first count)
sum_by-range_same f g first zero same = refl
sum_by-range_same f g first (suc count) same =
    omega (
      arith,
      sum_by-cons f first (range_with_len (first + 1) count),
      sum_by-cons g first (range_with_len (first + 1) count),
      same first (omega arith) (omega arith),
      sum_by-range_same f g (first + 1) count (λ k least most. same k (omega (arith, least)) (omega (arith, most))),
    )

-- a sum of sums, in either order
pub sum_by-exchanged : {X Y : Type 0} (f : X → Y → ℕ) (xs : List X) (ys : List Y)
    → sum_by (λ x. sum_by (f x) ys) xs ≡ sum_by (λ y. sum_by (λ x. f x y) xs) ys
sum_by-exchanged f xs [] = sum_by-zero xs
sum_by-exchanged f xs (y ∷ ys) =
    sum_by-same (λ x. sum_by (f x) (y ∷ ys)) (λ x. f x y + sum_by (f x) ys) xs (λ x. sum_by-cons (f x) y ys)
    ∙ sum_by-plus (λ x. f x y) (λ x. sum_by (f x) ys) xs
    ∙ ap (λ n. sum_by (λ x. f x y) xs + n) (sum_by-exchanged f xs ys)
    ∙ sym (sum_by-cons (λ y. sum_by (λ x. f x y) xs) y ys)

-- what each of some shares has of each element is no more in all than what the elements have
pub sum_by-shared : {X Y : Type 0} (f : X → Y → ℕ) (g : Y → ℕ) (xs : List X) (ys : List Y) → All (λ y. sum_by (λ x. f x y) xs ≤ g y) ys
    → sum_by (λ x. sum_by (f x) ys) xs ≤ sum_by g ys
sum_by-shared f g xs ys each = omega (arith, sum_by-exchanged f xs ys, sum_by-no_more (λ y. sum_by (λ x. f x y) xs) g ys each)

-- where no element passes, and where of two elements not both pass
none_pass : {X : Type 0} (p : X → Bool) (c : ℕ) (xs : List X) → All (λ x. p x ≡ false) xs → sum_by (λ x. cond (p x) c 0) xs ≡ 0
none_pass p c [] each = refl
none_pass p c (x ∷ xs) each =
    let this = sum_by-cons (λ y. cond (p y) c 0) x xs
    ∙ ap (λ b. cond b c 0 + sum_by (λ y. cond (p y) c 0) xs) (All-head (λ y. p y ≡ false) x xs each) in
    omega (arith, this, none_pass p c xs (All-tail (λ y. p y ≡ false) x xs each))

pub once : {X : Type 0} (p : X → Bool) (c : ℕ) (xs : List X) → AllPairs (λ a b. p a ≡ true → p b ≡ true → ⊥) xs
    → sum_by (λ x. cond (p x) c 0) xs ≤ c
once p c [] pairs = omega arith
once p c (x ∷ xs) pairs = by_case (p x) refl (once p c xs (λ i j d less there. pairs (suc i) (suc j) d (omega (arith, less)) (omega (arith, there))))
  where
    by_case : (b : Bool) → p x ≡ b → sum_by (λ y. cond (p y) c 0) xs ≤ c → sum_by (λ y. cond (p y) c 0) (x ∷ xs) ≤ c
    by_case true is rest =
        let this = sum_by-cons (λ y. cond (p y) c 0) x xs ∙ ap (λ b. cond b c 0 + sum_by (λ y. cond (p y) c 0) xs) is in
        let none = none_pass p c xs (λ k d there. false_from_ne_true _ (λ h. pairs 0 (suc k) d (omega arith) (omega (arith, there)) is h)) in
        omega (arith, this, none)
    by_case false is rest =
        let this = sum_by-cons (λ y. cond (p y) c 0) x xs ∙ ap (λ b. cond b c 0 + sum_by (λ y. cond (p y) c 0) xs) is in
        omega (arith, this, rest)

-- the same over numbers of a range
pub once_in_range : (p : ℕ → Bool) (c first count : ℕ) → ((i j : ℕ) → i < j → j < first + count → p i ≡ true → p j ≡ true → ⊥)
    → sum_by (λ k. cond (p k) c 0) (range_with_len first count) ≤ c
once_in_range p c first count apart =
    once p c (range_with_len first count)
    (λ i j d less there.
    let there' : j < count = omega (arith, there, length-range_with_len first count) in
    let at = get_or-range_with_len first count i d (omega (arith, less, there')) in
    let at' = get_or-range_with_len first count j d there' in
    apart (get_or (range_with_len first count) i d) (get_or (range_with_len first count) j d) (omega (arith, at, at', less)) (omega (arith, at', there')))

-- a sum over elements by their numbers
pub sum_by-numbers : {X : Type 0} (g : X → ℕ) (xs : List X) (d : X) → sum_by (λ k. g (get_or xs k d)) (range_with_len 0 (length xs)) ≡ sum_by g xs
sum_by-numbers g xs d =
    sym (sum_by-map g (λ k. get_or xs k d) (range_with_len 0 (length xs)))
    ∙ ap (sum_by g) (sym (fill_by_all (λ k. get_or xs k d) xs (length xs) d refl (λ k there. refl)))

-- a look-up finds no more than pass a test that holds wherever it finds something
pub length-filter_map : {X Y : Type 0} (h : X → Option Y) (p : X → Bool) (xs : List X) → All (λ x. (y : Y) → h x ≡ Some y → p x ≡ true) xs
    → length (filter_map h xs) ≤ count_by p xs
length-filter_map h p [] each = omega arith
length-filter_map {Y = Y} h p (x ∷ xs) each =
    let here = All-head (λ x. (y : Y) → h x ≡ Some y → p x ≡ true) x xs each in
    let rest = length-filter_map h p xs (All-tail (λ x. (y : Y) → h x ≡ Some y → p x ≡ true) x xs each) in
    by_case (h x) (p x) refl here rest
  where
    by_case : (o : Option Y) (b : Bool) → p x ≡ b → ((y : Y) → o ≡ Some y → p x ≡ true) → length (filter_map h xs) ≤ count_by p xs
        → length (cons_option o (filter_map h xs)) ≤ count_by p (x ∷ xs)
    by_case None true is here rest = omega (arith, rest, count_yes p x xs is)
    by_case None false is here rest = omega (arith, rest, count_no p x xs is)
    by_case (Some y) b is here rest = omega (arith, rest, count_yes p x xs (here y refl))

-- a sum of multiples
pub sum_by-times : {X : Type 0} (c : ℕ) (g : X → ℕ) (xs : List X) → sum_by (λ x. c * g x) xs ≡ c * sum_by g xs
sum_by-times c g [] = omega arith
sum_by-times c g (x ∷ xs) =
    sum_by-cons (λ y. c * g y) x xs
    ∙ ap (λ n. c * g x + n) (sum_by-times c g xs)
    ∙ sym (mul-add c (g x) (sum_by g xs))
    ∙ ap (λ n. c * n) (sym (sum_by-cons g x xs))

-- a sum over what a look-up finds
pub sum_by-filter_map : {X Y : Type 0} (h : X → Option Y) (g : Y → ℕ) (f : X → ℕ) (xs : List X) → ((x : X) (y : Y) → h x ≡ Some y → g y ≤ f x)
    → sum_by g (filter_map h xs) ≤ sum_by f xs
sum_by-filter_map h g f [] each = omega arith
sum_by-filter_map {Y = Y} h g f (x ∷ xs) each = by_case (h x) refl (sum_by-filter_map h g f xs each)
  where
    by_case : (o : Option Y) → h x ≡ o → sum_by g (filter_map h xs) ≤ sum_by f xs → sum_by g (cons_option o (filter_map h xs)) ≤ sum_by f (x ∷ xs)
    by_case None is rest = omega (arith, rest, sum_by-cons f x xs)
    by_case (Some y) is rest = omega (arith, rest, each x y is, sum_by-cons g y (filter_map h xs), sum_by-cons f x xs)

-- an element that passes a test and has a number
pub record HasNumber {X : Type 0} (q : X → Bool) (number : X → ℕ) (n : ℕ) (x : X) : Type 0 where
  pub passes : q x ≡ true
  pub is : number x ≡ n

-- where for each number of a range that is listed there is an element with that number that passes, no more numbers are listed than elements pass
pub numbers_within : {X : Type 0} (q : X → Bool) (number : X → ℕ) (listed : ℕ → Bool) (xs : List X) (first count : ℕ)
    → ((n : ℕ) → first ≤ n → n < first + count → listed n ≡ true → Any (HasNumber q number n) xs)
    → sum_by (λ n. cond (listed n) 1 0) (range_with_len first count) ≤ sum_by (λ x. cond (q x) 1 0) xs
numbers_within {X} q number listed xs first count there_is =
    let each = sum_by-range_no_more (λ n. cond (listed n) 1 0) (λ n. sum_by (has n) xs) first count
    (λ n least most. by_listed n (listed n) (λ is. there_is n least most is) refl) in
    let shared = sum_by-shared has (λ x. cond (q x) 1 0) (range_with_len first count) xs (λ k d there. by_test (get_or xs k d) (q (get_or xs k d))) in
    omega (arith, each, shared)
  where
    has : ℕ → X → ℕ
    has n x = cond (q x && number x == n) 1 0

    by_listed : (n : ℕ) (b : Bool) → (listed n ≡ true → Any (HasNumber q number n) xs) → listed n ≡ b → cond b 1 0 ≤ sum_by (has n) xs
    by_listed n false there is = omega arith
    by_listed n true there is =
        let w = there is in
        let x : X = get_or xs w.0 w.1 in
        let passes : (q x && number x == n) ≡ true =
        and_from (q x) (number x == n) (ap q w.3 ∙ w.4.passes) (eq-eqb (number x) n (ap number w.3 ∙ w.4.is)) in
        let one : has n x ≡ 1 = ap (λ b. cond b 1 0) passes in
        omega (arith, one, get_or-le-sum_by (has n) xs w.0 w.1 w.2)

    by_test : (x : X) (b : Bool) → sum_by (λ n. cond (b && number x == n) 1 0) (range_with_len first count) ≤ cond b 1 0
    by_test x true =
        once_in_range (λ n. number x == n) 1 first count
        (λ i j less below is_i is_j. omega (arith, less, eqb-true (number x) i is_i, eqb-true (number x) j is_j))
    by_test x false = omega (arith, sum_by-zero (range_with_len first count))
