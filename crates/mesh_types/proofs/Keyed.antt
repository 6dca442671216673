-- Lists in the order of a key: what lies before a key, and what has it.
use Rattle.std.proofs.Common.{◌≡◌, ℕ, ◌+◌, ◌-◌, ◌<◌, ◌≤◌, Bool, true, false, cond, List, [], ◌∷◌, length, take, drop, filter, get_or, ap, ◌∙◌, sym, refl, arith, tests, suc}
use Rattle.std.specs.Prelude.{nat_lt, ◌==◌, ◌&&◌, not, All, slice_range}
use Rattle.std.specs.List.{count_by}
use Rattle.std.specs.List.Sorted.{IsNonDecreasingBy, IsPartitionedBy}
use Rattle.std.proofs.lemmas.Bool.{not-true}
use Rattle.std.proofs.lemmas.List.{drop-take, get_or-take, get_or-drop, length-drop}
use Rattle.std.proofs.lemmas.List.Elements.{filter_agree, filter_passes}
use Rattle.std.proofs.lemmas.List.Kept.{IsNonDecreasingBy-filter}
use Rattle.std.proofs.lemmas.List.Sums.{sum_by-cons, length-filter, count_by-le-length}
use Rattle.nav_ground.proofs.Selections.{filter-filter, filter_none, filter_all}

-- an element more that passes, or that does not
pub count_yes : {X : Type 0} (q : X → Bool) (x : X) (xs : List X) → q x ≡ true → count_by q (x ∷ xs) ≡ suc (count_by q xs)
count_yes q x xs passes =
    let more = sum_by-cons (λ y. cond (q y) 1 0) x xs in
    let n : ℕ = cond (q x) 1 0 in
    let one : n ≡ 1 = ap (λ b. cond b 1 0) passes in
    omega (arith, more, one)

pub count_no : {X : Type 0} (q : X → Bool) (x : X) (xs : List X) → q x ≡ false → count_by q (x ∷ xs) ≡ count_by q xs
count_no q x xs fails =
    let more = sum_by-cons (λ y. cond (q y) 1 0) x xs in
    let n : ℕ = cond (q x) 1 0 in
    let none : n ≡ 0 = ap (λ b. cond b 1 0) fails in
    omega (arith, more, none)

-- the rest of a list in which the elements that pass stand first
rest_first : {X : Type 0} (q : X → Bool) (x : X) (xs : List X) → IsPartitionedBy q (x ∷ xs) → IsPartitionedBy q xs
rest_first q x xs first i j d le there = first (suc i) (suc j) d (omega (arith, le)) (omega (arith, there))

-- where the first element does not pass, none does
none_pass : {X : Type 0} (q : X → Bool) (x : X) (xs : List X) → IsPartitionedBy q (x ∷ xs) → q x ≡ false → All (λ y. q y ≡ false) xs
none_pass q x xs first fails k d there =
    elim (q (get_or xs k d)) as (λ b. q (get_or xs k d) ≡ b → b ≡ false) [
      | true ↦ λ passes. sym (first 0 (suc k) d (omega arith) (omega (arith, there)) passes) ∙ fails
      | false ↦ λ is. refl
    ] refl

pub count_none : {X : Type 0} (q : X → Bool) (xs : List X) → All (λ y. q y ≡ false) xs → count_by q xs ≡ 0
count_none q xs none = sym (length-filter q xs) ∙ ap length (filter_none q xs none)

-- where the elements that pass stand first, they are the first so many, and the others are those after them
pub first_are : {X : Type 0} (q : X → Bool) (xs : List X) → IsPartitionedBy q xs → take (count_by q xs) xs ≡ filter q xs
first_are q [] first = refl
first_are {X = X} q (x ∷ xs) first = by_case (q x) refl (first_are q xs (rest_first q x xs first))
  where
    by_case : (b : Bool) → q x ≡ b → take (count_by q xs) xs ≡ filter q xs → take (count_by q (x ∷ xs)) (x ∷ xs) ≡ filter q (x ∷ xs)
    by_case true passes rest = rw (count_yes q x xs passes, passes) (ap (λ (ys : List X). x ∷ ys) rest)
    by_case false fails rest =
        let none = none_pass q x xs first fails in
        rw (count_no q x xs fails, count_none q xs none, fails) (sym (filter_none q xs none))

pub others_are : {X : Type 0} (q : X → Bool) (xs : List X) → IsPartitionedBy q xs → drop (count_by q xs) xs ≡ filter (λ y. not (q y)) xs
others_are q [] first = refl
others_are {X = X} q (x ∷ xs) first = by_case (q x) refl (others_are q xs (rest_first q x xs first))
  where
    by_case : (b : Bool) → q x ≡ b → drop (count_by q xs) xs ≡ filter (λ y. not (q y)) xs
        → drop (count_by q (x ∷ xs)) (x ∷ xs) ≡ filter (λ y. not (q y)) (x ∷ xs)
    by_case true passes rest = rw (count_yes q x xs passes, passes) rest
    by_case false fails rest =
        let none = none_pass q x xs first fails in
        rw (count_no q x xs fails, count_none q xs none, fails)
        (ap (λ (ys : List X). x ∷ ys) (sym (filter_all (λ y. not (q y)) xs (λ k d there. ap not (none k d there)))))

-- an element among the first so many passes, and one after them does not
pub first_passes : {X : Type 0} (q : X → Bool) (xs : List X) (k : ℕ) (d : X) → IsPartitionedBy q xs → k < count_by q xs → q (get_or xs k d) ≡ true
first_passes q xs k d first there =
    let same : get_or (take (count_by q xs) xs) k d ≡ get_or (filter q xs) k d = ap (λ ys. get_or ys k d) (first_are q xs first) in
    ap q (sym (get_or-take (count_by q xs) xs k d there) ∙ same)
    ∙ filter_passes q xs k d (omega (arith, there, length-filter q xs))

pub later_fails : {X : Type 0} (q : X → Bool) (xs : List X) (k : ℕ) (d : X) → IsPartitionedBy q xs → count_by q xs ≤ k → k < length xs
    → q (get_or xs k d) ≡ false
later_fails q xs k d first past there =
    let j : ℕ = k - count_by q xs in
    let at : get_or xs k d ≡ get_or (filter (λ y. not (q y)) xs) j d =
    ap (λ i. get_or xs i d) (omega (arith, past)) ∙ sym (get_or-drop (count_by q xs) xs j d) ∙ ap (λ ys. get_or ys j d) (others_are q xs first) in
    let many : length (filter (λ y. not (q y)) xs) ≡ length xs - count_by q xs =
    ap length (sym (others_are q xs first)) ∙ length-drop (count_by q xs) xs in
    not-true _ (ap (λ x. not (q x)) at ∙ filter_passes (λ y. not (q y)) xs j d (omega (arith, past, there, many)))

-- of a list in the order of a key, those before a key stand first
pub before_first : {X : Type 0} (n : X → ℕ) (p : ℕ) (xs : List X) → IsNonDecreasingBy n xs → IsPartitionedBy (λ x. nat_lt (n x) p) xs
before_first n p xs rises i j d le there below =
    let up = rises i j d le there in
    grind (arith, tests)

-- no fewer stand before a later key
pub fewer_before : {X : Type 0} (n : X → ℕ) (p : ℕ) (xs : List X) → count_by (λ x. nat_lt (n x) p) xs ≤ count_by (λ x. nat_lt (n x) (p + 1)) xs
fewer_before n p xs =
    let same =
    sym (length-filter (λ x. nat_lt (n x) p) xs)
    ∙ ap length (sym (filter_agree (λ y. nat_lt (n y) (p + 1) && nat_lt (n y) p) (λ y. nat_lt (n y) p) (λ y. earlier (n y)) xs))
    ∙ ap length (sym (filter-filter (λ x. nat_lt (n x) p) (λ x. nat_lt (n x) (p + 1)) xs))
    ∙ length-filter (λ x. nat_lt (n x) p) (filter (λ x. nat_lt (n x) (p + 1)) xs) in
    omega (arith, same, count_by-le-length (λ x. nat_lt (n x) p) (filter (λ x. nat_lt (n x) (p + 1)) xs), length-filter (λ x. nat_lt (n x) (p + 1)) xs)
  where
    earlier : (k : ℕ) → (nat_lt k (p + 1) && nat_lt k p) ≡ nat_lt k p
    earlier k = grind (arith, tests)

-- the elements with a key are the slice between those before it and those before the next
pub at_key : {X : Type 0} (n : X → ℕ) (p : ℕ) (xs : List X) → IsNonDecreasingBy n xs
    → slice_range xs (count_by (λ x. nat_lt (n x) p) xs) (count_by (λ x. nat_lt (n x) (p + 1)) xs) ≡ filter (λ x. n x == p) xs
at_key {X = X} n p xs rises =
    ap (λ m. take m (drop a xs)) (omega (arith, fewer))
    ∙ sym (drop-take a (b - a) xs)
    ∙ ap (λ m. drop a (take m xs)) {x = a + (b - a)} {y = b} (omega (arith, fewer))
    ∙ ap (drop a) (first_are upto xs (before_first n (p + 1) xs rises))
    ∙ ap (λ m. drop m (filter upto xs)) same_count
    ∙ others_are early (filter upto xs) (before_first n p (filter upto xs) (IsNonDecreasingBy-filter n upto xs rises))
    ∙ filter-filter (λ y. not (early y)) upto xs
    ∙ filter_agree (λ y. upto y && not (early y)) (λ y. n y == p) (λ y. one_key (n y)) xs
  where
    early : X → Bool
    early x = nat_lt (n x) p

    upto : X → Bool
    upto x = nat_lt (n x) (p + 1)

    a : ℕ
    a = count_by early xs

    b : ℕ
    b = count_by upto xs

    one_key : (k : ℕ) → (nat_lt k (p + 1) && not (nat_lt k p)) ≡ (k == p)
    one_key k = grind (arith, tests)

    within : (k : ℕ) → (nat_lt k (p + 1) && nat_lt k p) ≡ nat_lt k p
    within k = grind (arith, tests)

    same_count : a ≡ count_by early (filter upto xs)
    same_count =
        sym (length-filter early xs)
        ∙ ap length (sym (filter_agree (λ y. upto y && early y) early (λ y. within (n y)) xs))
        ∙ ap length (sym (filter-filter early upto xs))
        ∙ length-filter early (filter upto xs)

    fewer : a ≤ b
    fewer = omega (arith, same_count, count_by-le-length early (filter upto xs), length-filter upto xs)
