-- Places of numbers in a list that rises.
use Rattle.std.proofs.Common.{◌≡◌, ℕ, zero, suc, ◌+◌, ◌-◌, ◌≤◌, ◌<◌, Bool, true, false, List, [], ◌∷◌, length, get_or, map, refl, sym, ap, ◌∙◌, subst, arith, tests, ⊎_elim, inl, inr}
use Rattle.std.specs.Prelude.{◌⊎◌, ◌==◌, AllPairs, All, nat_le}
use Rattle.std.specs.List.{count_by, range_with_len}
use Rattle.std.specs.List.Sorted.{IsNonDecreasingBy}
use Rattle.std.proofs.lemmas.Bool.{cases_eq, cases_lt, cases_order, eq-eqb, ne_eqb}
use Rattle.std.proofs.lemmas.List.FromFn.{get_or-range_with_len, length-range_with_len}
use Rattle.std.proofs.lemmas.List.Sums.{count_by-le-length}
use Rattle.obstacle_registry.specs.Renewal.{rank}
use Rattle.obstacle_registry.proofs.Counts.{count_cons, count_no, count_yes, one_if, once_at_most, there_counted}

le_yes : (a b : ℕ) → a ≤ b → nat_le a b ≡ true
le_yes a b h = grind (arith, tests)

le_no : (a b : ℕ) → b < a → nat_le a b ≡ false
le_no a b h = grind (arith, tests)

-- what none passes is not counted
pub count_none : {A : Type 0} (p : A → Bool) (xs : List A) → ((k : ℕ) (d : A) → k < length xs → p (get_or xs k d) ≡ false) → count_by p xs ≡ 0
count_none p [] none = refl
count_none p (x ∷ xs) none =
    count_no p x xs (none 0 x (omega arith)) ∙ count_none p xs (λ k d within. none (suc k) d (omega (arith, within)))

-- of a list in which those that pass come first they are counted where the others begin
pub counted_to : {A : Type 0} (p : A → Bool) (xs : List A) (i : ℕ) → i ≤ length xs → ((k : ℕ) (d : A) → k < i → p (get_or xs k d) ≡ true)
    → ((k : ℕ) (d : A) → i ≤ k → k < length xs → p (get_or xs k d) ≡ false) → count_by p xs ≡ i
counted_to p [] i few passes fails = omega (arith, few)
counted_to p (x ∷ xs) zero few passes fails = count_none p (x ∷ xs) (λ k d within. fails k d (omega arith) within)
counted_to p (x ∷ xs) (suc i) few passes fails =
    let rest = counted_to p xs i (omega (arith, few)) (λ k d below. passes (suc k) d (omega (arith, below)))
    (λ k d past within. fails (suc k) d (omega (arith, past)) (omega (arith, within))) in
    let first = count_yes p x xs (passes 0 x (omega arith)) in
    omega (arith, rest, first)

-- tests that agree count alike
pub count_agree : {A : Type 0} (p q : A → Bool) (xs : List A) → ((k : ℕ) (d : A) → k < length xs → p (get_or xs k d) ≡ q (get_or xs k d))
    → count_by p xs ≡ count_by q xs
count_agree p q [] same = refl
count_agree p q (x ∷ xs) same =
    let rest = count_agree p q xs (λ k d within. same (suc k) d (omega (arith, within))) in
    count_cons p x xs ∙ ap (λ b. one_if b + count_by p xs) (same 0 x (omega arith)) ∙ ap (λ n. one_if (q x) + n) rest ∙ sym (count_cons q x xs)

pub count_mapped : {A B : Type 0} (p : B → Bool) (f : A → B) (xs : List A) → count_by p (map f xs) ≡ count_by (λ x. p (f x)) xs
count_mapped p f [] = refl
count_mapped p f (x ∷ xs) =
    count_cons p (f x) (map f xs) ∙ ap (λ n. one_if (p (f x)) + n) (count_mapped p f xs) ∙ sym (count_cons (λ y. p (f y)) x xs)

-- the rank of a number of the list is its place, from 1
pub rank_at : (xs : List ℕ) (k d : ℕ) → AllPairs (λ a b. a < b) xs → k < length xs → rank xs (get_or xs k d) ≡ k + 1
rank_at [] k d rising there = absurd (omega (arith, there))
rank_at (x ∷ xs) zero d rising there =
    count_yes (λ n. nat_le n x) x xs (le_yes x x (omega arith))
    ∙ ap (λ n. 1 + n) (count_none (λ n. nat_le n x) xs (λ k e within. le_no (get_or xs k e) x (rising 0 (suc k) e (omega arith) (omega (arith, within)))))
rank_at (x ∷ xs) (suc k) d rising there =
    let rest = rank_at xs k d (λ i j e before within. rising (suc i) (suc j) e (omega (arith, before)) (omega (arith, within))) (omega (arith, there)) in
    let below : x < get_or xs k d = rising 0 (suc k) d (omega arith) (omega (arith, there)) in
    let first = count_yes (λ n. nat_le n (get_or xs k d)) x xs (le_yes x (get_or xs k d) (omega (arith, below))) in
    omega (arith, rest, first)

pub rank_zero : (xs : List ℕ) → All (λ n. 1 ≤ n) xs → rank xs 0 ≡ 0
rank_zero xs some = count_none (λ n. nat_le n 0) xs (λ k d within. le_no (get_or xs k d) 0 (some k d within))

-- where a number stands
pub record IsPlaced (xs : List ℕ) (x : ℕ) : Type 0 where
  pub place : ℕ
  pub there : place < length xs
  pub is : (d : ℕ) → get_or xs place d ≡ x

pub found_at : (xs : List ℕ) (x : ℕ) → 1 ≤ count_by (λ n. n == x) xs → IsPlaced xs x
found_at [] x some = absurd (omega (arith, some))
found_at (y ∷ xs) x some =
    ⊎_elim
    (λ same. record { place = 0; there = omega arith; is = λ d. same })
    (λ apart.
    let less = count_no (λ n. n == x) y xs (ne_eqb y x apart) in
    let rest = found_at xs x (omega (arith, less, some)) in
    record { place = suc rest.place; there = omega (arith, rest.there); is = λ d. rest.is d })
    (cases_eq y x)

-- a number that is 0 or one of the list has the rank n exactly where it is the n-th
pub rank_tells : (xs : List ℕ) (x n : ℕ) → AllPairs (λ a b. a < b) xs → All (λ m. 1 ≤ m) xs → (x ≡ 0) ⊎ IsPlaced xs x → 1 ≤ n → n ≤ length xs
    → (rank xs x == n) ≡ (x == get_or xs (n - 1) 0)
rank_tells xs x n rising some where_is least most =
    let there : n - 1 < length xs = omega (arith, least, most) in
    let mth : 1 ≤ get_or xs (n - 1) 0 = some (n - 1) 0 there in
    ⊎_elim
    (λ none.
    subst (λ y. (rank xs y == n) ≡ (y == get_or xs (n - 1) 0)) (sym none)
    (ne_eqb (rank xs 0) n (λ same. omega (arith, same, rank_zero xs some, least)) ∙ sym (ne_eqb 0 (get_or xs (n - 1) 0) (λ same. omega (arith, same, mth)))))
    (λ (placed : IsPlaced xs x).
    let at = rank_at xs placed.place 0 rising placed.there in
    let here = ap (rank xs) (placed.is 0) in
    ⊎_elim
    (λ same.
    let is : get_or xs (n - 1) 0 ≡ x = ap (λ k. get_or xs k 0) (omega (arith, same)) ∙ placed.is 0 in
    eq-eqb (rank xs x) n (omega (arith, at, here, same)) ∙ sym (eq-eqb x (get_or xs (n - 1) 0) (sym is)))
    (λ apart.
    ne_eqb (rank xs x) n (λ same. apart (omega (arith, at, here, same)))
    ∙ sym (ne_eqb x (get_or xs (n - 1) 0) (λ same. ⊎_elim (λ e. apart (omega (arith, e)))
    (⊎_elim (λ below. omega (arith, rising placed.place (n - 1) 0 below there, placed.is 0, same))
    (λ above. omega (arith, rising (n - 1) placed.place 0 above placed.there, placed.is 0, same))) (cases_order placed.place (n - 1)))))
    (cases_eq (placed.place + 1) n))
    where_is

-- the numbers from 1 on, each once
range_once : (n most : ℕ) → 1 ≤ n → n ≤ most → count_by (λ m. m == n) (range_with_len 1 most) ≡ 1
range_once n most least less =
    let long = length-range_with_len 1 most in
    let at = get_or-range_with_len 1 most (n - 1) 0 (omega (arith, least, less)) in
    let some = there_counted (λ m. m == n) (range_with_len 1 most) (n - 1) 0 (omega (arith, long, least, less))
    (eq-eqb (get_or (range_with_len 1 most) (n - 1) 0) n (omega (arith, at, least))) in
    let few = once_at_most (range_with_len 1 most) n rises in
    omega (arith, some, few)
  where
    rises : AllPairs (λ a b. a < b) (range_with_len 1 most)
    rises i j d before within =
        let long = length-range_with_len 1 most in
        let one = get_or-range_with_len 1 most i d (omega (arith, before, within, long)) in
        let other = get_or-range_with_len 1 most j d (omega (arith, within, long)) in
        omega (arith, one, other, before)

-- numbers that stand in rows as often as in the list have ranks that stand there as often as in the numbers from 1 on
pub ranked_counts : {A : Type 0} (f : A → ℕ) (rows : List A) (xs : List ℕ) → AllPairs (λ a b. a < b) xs → All (λ m. 1 ≤ m) xs
    → ((n : ℕ) → 1 ≤ n → count_by (λ row. f row == n) rows ≡ count_by (λ m. m == n) xs)
    → (n : ℕ) → 1 ≤ n → count_by (λ row. rank xs (f row) == n) rows ≡ count_by (λ m. m == n) (range_with_len 1 (length xs))
ranked_counts {A = A} f rows xs rising some counts n least =
    ⊎_elim within above (cases_lt (length xs) n)
  where
    placed : (k : ℕ) (d : A) → k < length rows → (f (get_or rows k d) ≡ 0) ⊎ IsPlaced xs (f (get_or rows k d))
    placed k d there =
        ⊎_elim (λ none. inl none)
        (λ apart.
        let more : 1 ≤ f (get_or rows k d) = omega (arith, apart) in
        let its = there_counted (λ row. f row == f (get_or rows k d)) rows k d there
        (eq-eqb (f (get_or rows k d)) (f (get_or rows k d)) refl) in
        inr (found_at xs (f (get_or rows k d)) (omega (arith, its, counts (f (get_or rows k d)) more))))
        (cases_eq (f (get_or rows k d)) 0)

    above : n ≤ length xs → count_by (λ row. rank xs (f row) == n) rows ≡ count_by (λ m. m == n) (range_with_len 1 (length xs))
    above most =
        let there : n - 1 < length xs = omega (arith, least, most) in
        let m : ℕ = get_or xs (n - 1) 0 in
        let mth : 1 ≤ m = some (n - 1) 0 there in
        let alike = count_agree (λ row. rank xs (f row) == n) (λ row. f row == m) rows
        (λ k d inside. rank_tells xs (f (get_or rows k d)) n rising some (placed k d inside) least most) in
        let once = once_at_most xs m rising in
        let here = there_counted (λ x. x == m) xs (n - 1) 0 there (eq-eqb m m refl) in
        let one = range_once n (length xs) least most in
        alike ∙ counts m mth ∙ omega (arith, once, here, one)

    within : length xs < n → count_by (λ row. rank xs (f row) == n) rows ≡ count_by (λ m. m == n) (range_with_len 1 (length xs))
    within past =
        count_none (λ row. rank xs (f row) == n) rows
        (λ k d inside. ne_eqb (rank xs (f (get_or rows k d))) n
        (λ same. let few = count_by-le-length (λ x. nat_le x (f (get_or rows k d))) xs in omega (arith, same, few, past)))
        ∙ sym (count_none (λ m. m == n) (range_with_len 1 (length xs))
        (λ k d inside. ne_eqb (get_or (range_with_len 1 (length xs)) k d) n
        (λ same. let long = length-range_with_len 1 (length xs) in
        let at = get_or-range_with_len 1 (length xs) k d (omega (arith, inside, long)) in omega (arith, same, at, inside, long, past))))

-- numbers that rise do not fall
pub rising_sorted : (xs : List ℕ) → AllPairs (λ a b. a < b) xs → IsNonDecreasingBy (λ (n : ℕ). n) xs
rising_sorted xs rising i j d le within =
    ⊎_elim (λ e. omega (arith, ap (λ k. get_or xs k d) e))
    (⊎_elim (λ below. omega (arith, rising i j d below within)) (λ above. absurd (omega (arith, above, le)))) (cases_order i j)
