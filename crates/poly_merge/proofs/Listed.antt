-- Lists that are gathered over ranges: what stands in them, and their order.
use Rattle.std.proofs.Common.{◌≡◌, ℕ, zero, suc, ◌+◌, ◌-◌, ◌<◌, ◌≤◌, ◌⊎◌, Bool, true, false, cond, List, [], ◌∷◌, ◌++◌, length, filter, map, All, Option, refl, sym, ap, subst, ◌∙◌, inl, inr, arith}
use Rattle.std.specs.Prelude.{None, Some, Contains, slice_index_or}
use Rattle.std.specs.List.{cons_option, filter_map, flat_map, range_with_len}
use Rattle.std.proofs.lemmas.Bool.{both_ways}
use Rattle.std.proofs.lemmas.List.FromFn.{length-range_with_len, get_or-range_with_len}
use Rattle.std.proofs.lemmas.List.Elements.{All-append, All-contains_itself, All-cons, All-filter, All-from_get_or, All-head, All-nil, All-tail, All-weaker, Contains-append_left, Contains-append_right}
use Rattle.mesh_types.proofs.Sorting.{Rises}

-- ---- elements

-- an element of a list is its first or one of the others
contains_cases : {X : Type 0} (x y : X) (xs : List X) → Contains (x ∷ xs) y → (x ≡ y) ⊎ Contains xs y
contains_cases {X = X} x y xs held = by_place held.0 held.1 held.2
  where
    by_place : (k : ℕ) → k < length (x ∷ xs) → slice_index_or (x ∷ xs) k y ≡ y → (x ≡ y) ⊎ Contains xs y
    by_place zero there is = inl is
    by_place (suc k) there is = inr (k, omega (arith, there), is)

contains_first : {X : Type 0} (x : X) (xs : List X) → Contains (x ∷ xs) x
contains_first x xs = (0, omega arith, refl)

contains_later : {X : Type 0} (x y : X) (xs : List X) → Contains xs y → Contains (x ∷ xs) y
contains_later x y xs held = (suc held.0, omega (arith, held.1), held.2)

pub contains_none : {X : Type 0} (x : X) → Contains [] x → ⊥
contains_none x held = omega (arith, held.1)

-- what holds of each element
pub each_of : {X : Type 0} (P : X → Type 0) (xs : List X) → ((x : X) → Contains xs x → P x) → All P xs
each_of P xs each = All-weaker (Contains xs) P each xs (All-contains_itself xs)

-- an element that passes is kept
pub kept_if_passes : {X : Type 0} (p : X → Bool) (xs : List X) (x : X) → p x ≡ true → Contains xs x → Contains (filter p xs) x
kept_if_passes p [] x passes held = absurd (contains_none x held)
kept_if_passes {X = X} p (y ∷ ys) x passes held = by_test (p y) refl (contains_cases y x ys held) (kept_if_passes p ys x passes)
  where
    by_test : (b : Bool) → p y ≡ b → ((y ≡ x) ⊎ Contains ys x) → (Contains ys x → Contains (filter p ys) x) → Contains (cond b (y ∷ filter p ys) (filter p ys)) x
    by_test true is (inl same) rest = subst (λ (z : X). Contains (z ∷ filter p ys) x) (sym same) (contains_first x (filter p ys))
    by_test true is (inr later) rest = contains_later y x (filter p ys) (rest later)
    by_test false is (inl same) rest = absurd (both_ways (p y) is (ap p same ∙ passes))
    by_test false is (inr later) rest = rest later

-- what an element gives stands in what all give
pub contains_gathered : {X Y : Type 0} (f : X → List Y) (xs : List X) (x : X) (y : Y) → Contains xs x → Contains (f x) y → Contains (flat_map f xs) y
contains_gathered f [] x y there held = absurd (contains_none x there)
contains_gathered {X = X} {Y = Y} f (z ∷ zs) x y there held = by_place (contains_cases z x zs there) (λ later. contains_gathered f zs x y later held)
  where
    by_place : ((z ≡ x) ⊎ Contains zs x) → (Contains zs x → Contains (flat_map f zs) y) → Contains (f z ++ flat_map f zs) y
    by_place (inl same) rest = Contains-append_left (f z) (flat_map f zs) y (subst (λ (w : X). Contains (f w) y) (sym same) held)
    by_place (inr later) rest = Contains-append_right (f z) (flat_map f zs) y (rest later)

pub contains_found : {X Y : Type 0} (h : X → Option Y) (xs : List X) (x : X) (y : Y) → Contains xs x → h x ≡ Some y → Contains (filter_map h xs) y
contains_found h [] x y there is = absurd (contains_none x there)
contains_found {X = X} {Y = Y} h (z ∷ zs) x y there is = by_place (contains_cases z x zs there) (λ later. contains_found h zs x y later is)
  where
    behind : (o : Option Y) → Contains (filter_map h zs) y → Contains (cons_option o (filter_map h zs)) y
    behind None held = held
    behind (Some w) held = contains_later w y (filter_map h zs) held

    by_place : ((z ≡ x) ⊎ Contains zs x) → (Contains zs x → Contains (filter_map h zs) y) → Contains (cons_option (h z) (filter_map h zs)) y
    by_place (inl same) rest =
        subst (λ (o : Option Y). Contains (cons_option o (filter_map h zs)) y) (sym (ap h same ∙ is)) (contains_first y (filter_map h zs))
    by_place (inr later) rest = behind (h z) (rest later)

-- what is made of an element
pub contains_map : {X Y : Type 0} (f : X → Y) (xs : List X) (x : X) → Contains xs x → Contains (map f xs) (f x)
contains_map f [] x held = absurd (contains_none x held)
contains_map {X = X} {Y = Y} f (z ∷ zs) x held = by_place (contains_cases z x zs held) (λ later. contains_map f zs x later)
  where
    by_place : ((z ≡ x) ⊎ Contains zs x) → (Contains zs x → Contains (map f zs) (f x)) → Contains (f z ∷ map f zs) (f x)
    by_place (inl same) rest = subst (λ (y : Y). Contains (y ∷ map f zs) (f x)) (sym (ap f same)) (contains_first (f x) (map f zs))
    by_place (inr later) rest = contains_later (f z) (f x) (map f zs) (rest later)

-- the numbers of a range
pub contains_range : (start count i : ℕ) → start ≤ i → i < start + count → Contains (range_with_len start count) i
contains_range start count i low high = (
  i - start,
  omega (arith, low, high, length-range_with_len start count),
  get_or-range_with_len start count (i - start) i (omega (arith, low, high)) ∙ omega (arith, low),
)

pub all_range : (start count : ℕ) → All (λ i. (start ≤ i) × (i < start + count)) (range_with_len start count)
all_range start count =
    All-from_get_or (λ i. (start ≤ i) × (i < start + count)) (range_with_len start count) 0
    (λ i there.
    let size = length-range_with_len start count in
    let same = get_or-range_with_len start count i 0 (omega (arith, there, size)) in
    (omega (arith, same), omega (arith, there, same, size)))

-- what holds of all that each gives holds of what all give
pub all_gathered : {X Y : Type 0} (P : Y → Type 0) (f : X → List Y) (xs : List X) → All (λ x. All P (f x)) xs → All P (flat_map f xs)
all_gathered P f [] each = All-nil P
all_gathered P f (x ∷ xs) each =
    All-append P (f x) (flat_map f xs) (All-head (λ y. All P (f y)) x xs each) (all_gathered P f xs (All-tail (λ y. All P (f y)) x xs each))

pub all_found : {X Y : Type 0} (h : X → Option Y) (P : Y → Type 0) (xs : List X) → All (λ x. (y : Y) → h x ≡ Some y → P y) xs → All P (filter_map h xs)
all_found h P [] each = All-nil P
all_found {X} {Y} h P (x ∷ xs) each = first (h x) refl (all_found h P xs (All-tail (λ x. (y : Y) → h x ≡ Some y → P y) x xs each))
  where
    first : (o : Option Y) → h x ≡ o → All P (filter_map h xs) → All P (cons_option o (filter_map h xs))
    first None e rest = rest
    first (Some y) e rest = All-cons P y (filter_map h xs) (All-head (λ x. (y : Y) → h x ≡ Some y → P y) x xs each y e) rest

-- ---- order

-- one list behind another, of which no element comes before one of the first
rises_on : {X : Type 0} (lt : X → X → Bool) (xs ys : List X) → Rises lt xs → Rises lt ys → All (λ x. All (λ y. lt y x ≡ false) ys) xs → Rises lt (xs ++ ys)
rises_on lt [] ys up up' apart = up'
rises_on lt (x ∷ xs) ys up up' apart = (
  All-append (λ y. lt y x ≡ false) xs ys up.0 (All-head (λ x. All (λ y. lt y x ≡ false) ys) x xs apart),
  rises_on lt xs ys up.1 up' (All-tail (λ x. All (λ y. lt y x ≡ false) ys) x xs apart),
)

-- what a test keeps of a list in order
pub rises_kept : {X : Type 0} (lt : X → X → Bool) (p : X → Bool) (xs : List X) → Rises lt xs → Rises lt (filter p xs)
rises_kept lt p [] up = tt
rises_kept {X = X} lt p (x ∷ xs) up = by_test (p x) (rises_kept lt p xs up.1)
  where
    by_test : (b : Bool) → Rises lt (filter p xs) → Rises lt (cond b (x ∷ filter p xs) (filter p xs))
    by_test true rest = (All-filter p (λ y. lt y x ≡ false) xs up.0, rest)
    by_test false rest = rest

-- lists that rise, one for each number of a range, where elements with a higher number do not come before others
module _ {X : Type 0} (lt : X → X → Bool) (P : X → Type 0) (key : X → ℕ) (f : ℕ → List X)
    (by_key : (x y : X) → P x → P y → key x < key y → lt y x ≡ false)
    (here : (i : ℕ) → All (λ x. P x × (key x ≡ i)) (f i)) (each : (i : ℕ) → Rises lt (f i)) where
  later : (start count : ℕ) → All (λ x. P x × (start ≤ key x)) (flat_map f (range_with_len start count))
  later start zero = All-nil (λ x. P x × (start ≤ key x))
  later start (suc count) =
      All-append (λ x. P x × (start ≤ key x)) (f start) (flat_map f (range_with_len (start + 1) count))
      (All-weaker (λ x. P x × (key x ≡ start)) (λ x. P x × (start ≤ key x)) (λ x is. (is.0, omega (arith, is.1))) (f start) (here start))
      (All-weaker (λ x. P x × (start + 1 ≤ key x)) (λ x. P x × (start ≤ key x)) (λ x is. (is.0, omega (arith, is.1))) (flat_map f (range_with_len (start + 1) count)) (later (start + 1) count))

  pub rises_gathered : (start count : ℕ) → Rises lt (flat_map f (range_with_len start count))
  rises_gathered start zero = tt
  rises_gathered start (suc count) =
      let rest = flat_map f (range_with_len (start + 1) count) in
      rises_on lt (f start) rest (each start) (rises_gathered (start + 1) count)
      (All-weaker (λ x. P x × (key x ≡ start)) (λ x. All (λ y. lt y x ≡ false) rest)
      (λ x is. All-weaker (λ y. P y × (start + 1 ≤ key y)) (λ y. lt y x ≡ false) (λ y is'. by_key x y is.0 is'.0 (omega (arith, is.1, is'.1))) rest (later (start + 1) count))
      (f start) (here start))
