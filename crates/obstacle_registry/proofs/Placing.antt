-- The places of the rows with some numbers.
use Rattle.std.proofs.Common.{◌≡◌, ℕ, zero, suc, ◌+◌, ◌-◌, ◌≤◌, ◌<◌, Bool, true, List, [], ◌∷◌, length, get_or, map, set, refl, sym, ap, ◌∙◌, subst, arith, ⊎_elim}
use Rattle.std.specs.Prelude.{◌==◌, AllPairs, All}
use Rattle.std.specs.List.{count_by}
use Rattle.std.proofs.lemmas.Bool.{cases_Bool, cases_eq, eq-eqb, eqb-true, ne_eqb}
use Rattle.std.proofs.lemmas.List.{ext_get_or, get_or-map, get_or-set_other, get_or-set_same, length-map}
use Rattle.std.proofs.lemmas.List.Sums.{position_or_len_is}
use Rattle.nav_ground.specs.declared.shape.Shape.TheVariants.{Block}
use Rattle.obstacle_registry.specs.declared.row.Registered.{Registered}
use Rattle.obstacle_registry.specs.Registry.{rows_with_number}
use Rattle.obstacle_registry.specs.Renewal.{rank}
use Rattle.obstacle_registry.specs.Restoring.{HaveNumbers}
use Rattle.obstacle_registry.specs.Saving.{place_of}
use Rattle.obstacle_registry.proofs.Counts.{count_cons, count_no, count_yes, once_at_most, there_counted}
use Rattle.obstacle_registry.proofs.Ranks.{found_at, rank_at}

-- what stands for a row that is not there
abbrev pub no_row : Registered
no_row = record { id = 0; shape = Block 0 0 0 0 0 0; user = 0; number = 0 }

-- a list in which a test passes once at most passes it at one place
pub once_at : {A : Type 0} (p : A → Bool) (xs : List A) (i j : ℕ) (d e : A) → count_by p xs ≤ 1 → i < length xs → j < length xs
    → p (get_or xs i d) ≡ true → p (get_or xs j e) ≡ true → i ≡ j
once_at p [] i j d e few there within first second = absurd (omega (arith, there))
once_at p (x ∷ xs) zero zero d e few there within first second = refl
once_at p (x ∷ xs) zero (suc j) d e few there within first second =
    let more = there_counted p xs j e (omega (arith, within)) second in
    let all = count_yes p x xs first in
    absurd (omega (arith, more, all, few))
once_at p (x ∷ xs) (suc i) zero d e few there within first second =
    let more = there_counted p xs i d (omega (arith, there)) first in
    let all = count_yes p x xs second in
    absurd (omega (arith, more, all, few))
once_at p (x ∷ xs) (suc i) (suc j) d e few there within first second =
    let all = count_cons p x xs in
    let rest = once_at p xs i j d e (omega (arith, all, few)) (omega (arith, there)) (omega (arith, within)) first second in
    omega (arith, rest)

-- where a test passes
pub record PassesAt {A : Type 0} (p : A → Bool) (xs : List A) : Type 0 where
  pub place : ℕ
  pub there : place < length xs
  pub passes : (d : A) → p (get_or xs place d) ≡ true

pub passes_at : {A : Type 0} (p : A → Bool) (xs : List A) → 1 ≤ count_by p xs → PassesAt p xs
passes_at p [] some = absurd (omega (arith, some))
passes_at p (x ∷ xs) some =
    ⊎_elim
    (λ yes. record { place = 0; there = omega arith; passes = λ d. yes })
    (λ no.
    let less = count_no p x xs no in
    let rest = passes_at p xs (omega (arith, less, some)) in
    record { place = suc rest.place; there = omega (arith, rest.there); passes = λ d. rest.passes d })
    (cases_Bool (p x))

-- the only row with a number is that at its place
pub placed_at : (rows : List Registered) (k n : ℕ) (d : Registered) → rows_with_number n rows ≤ 1 → k < length rows → (get_or rows k d).number ≡ n
    → place_of rows n ≡ k
placed_at rows k n d few there its =
    position_or_len_is (λ (row : Registered). row.number == n) rows k d (omega (arith, there))
    (λ i below. ne_eqb (get_or rows i d).number n
    (λ same.
    let one = once_at (λ (row : Registered). row.number == n) rows i k d d few (omega (arith, below, there)) there
    (eq-eqb (get_or rows i d).number n same) (eq-eqb (get_or rows k d).number n its) in
    omega (arith, one, below)))
    (λ inside. eq-eqb (get_or rows k d).number n its)

-- a number of a list that rises stands in one row
pub few_rows : (numbers : List ℕ) (rows : List Registered) (n : ℕ) → HaveNumbers numbers rows → AllPairs (λ a b. a < b) numbers → 1 ≤ n → rows_with_number n rows ≤ 1
few_rows numbers rows n have rising least = let once = once_at_most numbers n rising in omega (arith, once, have n least)

pub row_there : (numbers : List ℕ) (rows : List Registered) (j : ℕ) → HaveNumbers numbers rows → All (λ n. 1 ≤ n) numbers → j < length numbers
    → PassesAt (λ (row : Registered). row.number == get_or numbers j 0) rows
row_there numbers rows j have some within =
    let n : ℕ = get_or numbers j 0 in
    let counted = there_counted (λ m. m == n) numbers j 0 within (eq-eqb n n refl) in
    passes_at (λ (row : Registered). row.number == n) rows (omega (arith, counted, have n (some j 0 within)))

-- the row of a number of the list is at its place
pub record IsRowAt (rows : List Registered) (place n : ℕ) : Type 0 where
  pub there : place < length rows
  pub its : (d : Registered) → (get_or rows place d).number ≡ n

pub row_at_place : (numbers : List ℕ) (rows : List Registered) (j : ℕ) → HaveNumbers numbers rows → AllPairs (λ a b. a < b) numbers → All (λ n. 1 ≤ n) numbers
    → j < length numbers → IsRowAt rows (place_of rows (get_or numbers j 0)) (get_or numbers j 0)
row_at_place numbers rows j have rising some within =
    let n : ℕ = get_or numbers j 0 in
    let found = row_there numbers rows j have some within in
    let its : (d : Registered) → (get_or rows found.place d).number ≡ n = λ d. eqb-true (get_or rows found.place d).number n (found.passes d) in
    let at = placed_at rows found.place n no_row (few_rows numbers rows n have rising (some j 0 within)) found.there (its no_row) in
    subst (λ place. IsRowAt rows place n) (sym at) (record { there = found.there; its = its })

-- the rank of a number of a row is a place from 1
pub ranked : (numbers : List ℕ) (rows : List Registered) (i n : ℕ) (e : Registered) → HaveNumbers numbers rows → AllPairs (λ a b. a < b) numbers
    → i < length rows → (get_or rows i e).number ≡ n → 1 ≤ n → (j : ℕ) × (j < length numbers) × (rank numbers n ≡ j + 1) × (get_or numbers j 0 ≡ n)
ranked numbers rows i n e have rising there its least =
    let counted = there_counted (λ (row : Registered). row.number == n) rows i e there (eq-eqb (get_or rows i e).number n its) in
    let placed = found_at numbers n (omega (arith, counted, have n least)) in
    (placed.place, placed.there, ap (rank numbers) (sym (placed.is 0)) ∙ rank_at numbers placed.place 0 rising placed.there, placed.is 0)

-- the rank of the number of a row that is on
pub rank_within : (numbers : List ℕ) (rows : List Registered) (i r : ℕ) (e : Registered) → HaveNumbers numbers rows → AllPairs (λ a b. a < b) numbers
    → i < length rows → ((get_or rows i e).number ≡ 0 → ⊥) → r ≡ rank numbers (get_or rows i e).number → (1 ≤ r) × (r - 1 < length numbers)
rank_within numbers rows i r e have rising there on is =
    let own = ranked numbers rows i (get_or rows i e).number e have rising there refl (omega (arith, on)) in
    (omega (arith, is, own.2), omega (arith, is, own.2, own.1))

-- an element that is there is the same, whatever stands for those that are not
pub any_default : {A : Type 0} (list : List A) (t : ℕ) (a b : A) → t < length list → get_or list t a ≡ get_or list t b
any_default [] t a b inside = absurd (omega (arith, inside))
any_default (x ∷ list) zero a b inside = refl
any_default (x ∷ list) (suc t) a b inside = any_default list t a b (omega (arith, inside))

-- the places of the rows so far stand where their numbers do
abbrev pub ArePlaced : List ℕ → List Registered → List ℕ → ℕ → Type 0
ArePlaced numbers rows places count =
    (k j : ℕ) (d : Registered) → k < count → j < length numbers → (get_or rows k d).number ≡ get_or numbers j 0 → get_or places j 0 ≡ k

-- one row more, which is on
pub one_placed : (numbers : List ℕ) (rows : List Registered) (places : List ℕ) (i n : ℕ) (e : Registered) → HaveNumbers numbers rows
    → AllPairs (λ a b. a < b) numbers → All (λ m. 1 ≤ m) numbers → length places ≡ length numbers → i < length rows → (get_or rows i e).number ≡ n → 1 ≤ n
    → ArePlaced numbers rows places i → ArePlaced numbers rows (set places (rank numbers n - 1) i) (i + 1)
one_placed numbers rows places i n e have rising some long there its least before k j d below within same =
    let own = ranked numbers rows i n e have rising there its least in
    let at : rank numbers n - 1 ≡ own.0 = omega (arith, own.2) in
    subst (λ t. get_or (set places t i) j 0 ≡ k) (sym at)
    (⊎_elim
    (λ here.
    let others : (get_or rows k d).number ≡ n = same ∙ ap (λ t. get_or numbers t 0) here ∙ own.3 in
    let one = once_at (λ (row : Registered). row.number == n) rows k i d e (few_rows numbers rows n have rising least) (omega (arith, below, there)) there
    (eq-eqb (get_or rows k d).number n others) (eq-eqb (get_or rows i e).number n its) in
    ap (λ t. get_or (set places own.0 i) t 0) here ∙ get_or-set_same places own.0 i 0 (omega (arith, own.1, long)) ∙ sym one)
    (λ apart.
    get_or-set_other places own.0 j i 0 apart
    ∙ before k j d (earlier own.0 own.1 own.3 apart) within same)
    (cases_eq j own.0))
  where
    number_at : k ≡ i → (get_or rows k d).number ≡ n
    number_at last = ap (λ t. (get_or rows t d).number) last ∙ ap (λ (row : Registered). row.number) (any_default rows i d e there) ∙ its

    earlier : (t : ℕ) → t < length numbers → get_or numbers t 0 ≡ n → (j ≡ t → ⊥) → k < i
    earlier t inside is apart =
        ⊎_elim
        (λ last.
        let others : get_or numbers j 0 ≡ n = sym same ∙ number_at last in
        absurd (apart (once_at (λ m. m == n) numbers j t 0 0 (once_at_most numbers n rising) within inside
        (eq-eqb (get_or numbers j 0) n others) (eq-eqb (get_or numbers t 0) n is))))
        (λ differs. omega (arith, below, differs))
        (cases_eq k i)

-- one row more, which is off
pub none_placed : (numbers : List ℕ) (rows : List Registered) (places : List ℕ) (i : ℕ) (e : Registered) → All (λ m. 1 ≤ m) numbers → i < length rows
    → (get_or rows i e).number ≡ 0 → ArePlaced numbers rows places i → ArePlaced numbers rows places (i + 1)
none_placed numbers rows places i e some there its before k j d below within same =
    ⊎_elim
    (λ last. absurd (omega (arith, same, number_at last, some j 0 within)))
    (λ differs. before k j d (omega (arith, below, differs)) within same)
    (cases_eq k i)
  where
    number_at : k ≡ i → (get_or rows k d).number ≡ 0
    number_at last = ap (λ t. (get_or rows t d).number) last ∙ ap (λ (row : Registered). row.number) (any_default rows i d e there) ∙ its

-- all rows
pub all_placed : (numbers : List ℕ) (rows : List Registered) (places : List ℕ) (count : ℕ) → HaveNumbers numbers rows → AllPairs (λ a b. a < b) numbers
    → All (λ m. 1 ≤ m) numbers → length places ≡ length numbers → length rows ≤ count → ArePlaced numbers rows places count
    → places ≡ map (place_of rows) numbers
all_placed numbers rows places count have rising some long most placed =
    ext_get_or 0 places (map (place_of rows) numbers) (long ∙ sym (length-map numbers (place_of rows)))
    (λ j inside.
    let within : j < length numbers = omega (arith, inside, long) in
    let own = row_at_place numbers rows j have rising some within in
    placed (place_of rows (get_or numbers j 0)) j no_row (omega (arith, own.there, most)) within (own.its no_row)
    ∙ sym (get_or-map (place_of rows) numbers j 0 0 within))
