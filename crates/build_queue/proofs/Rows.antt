-- What a test leaves of a list where it fails at one place alone, and rows by their numbers.
use Rattle.std.proofs.Common.{◌≡◌, ℕ, zero, suc, ◌<◌, ◌≤◌, Bool, true, false, not, cond, eqb, List, [], ◌∷◌, ◌++◌, length, filter, get_or, sym, ap, ◌∙◌, arith, tests, ⊎_elim, Ok, Err, Result}
use Rattle.std.specs.List.{remove, list_any}
use Rattle.std.specs.List.Sorted.{IsBinarySearchResult}
use Rattle.std.specs.Ordering.{nat_cmp, ordering_index}
use Rattle.std.specs.List.Sorted.{IsSearchInRange}
use Rattle.std.specs.Result.{MatchResult}
use Rattle.std.specs.declared.cmp.Ordering.TheVariants.{Less, Equal, Greater}
use Rattle.std.proofs.lemmas.Cmp.{ranked}
use Rattle.std.proofs.lemmas.Bool.{cases_lt, cases_order, eq-eqb, ne_eqb, not_from_true, not_from_false}
use Rattle.std.proofs.lemmas.List.Folds.{list_any_at, list_any_none}
use Rattle.nav_ground.proofs.Selections.{filter_all}
use Rattle.nav_ground.specs.declared.shape.Shape.{Shape}
use Rattle.build_queue.specs.declared.live.Live.{Live}
use Rattle.build_queue.specs.LiveTable.{is_row_of, rows_without, shapes_in, IsRising}

-- a test that fails at one place alone leaves the list without that element
pub filter_but_one : {A : Type 0} (p : A → Bool) (xs : List A) (i : ℕ) → i < length xs → ((d : A) → p (get_or xs i d) ≡ false)
    → ((k : ℕ) (d : A) → k < length xs → (k ≡ i → ⊥) → p (get_or xs k d) ≡ true) → filter p xs ≡ remove xs i
filter_but_one p [] i there fails others = absurd (omega (arith, there))
filter_but_one p (x ∷ xs) zero there fails others =
    let first : p x ≡ false = fails x in
    let rest = filter_all p xs (λ k d within. others (suc k) d (omega (arith, within)) (λ e. omega (arith, e))) in
    cc
filter_but_one p (x ∷ xs) (suc i) there fails others =
    let first : p x ≡ true = others zero x (omega arith) (λ e. omega (arith, e)) in
    let rest = filter_but_one p xs i (omega (arith, there)) fails (λ k d within apart. others (suc k) d (omega (arith, within)) (λ e. apart (omega (arith, e)))) in
    cc

-- the rows without the one that has the number
pub rows_without_found : (rows : List Live) (number i : ℕ) → IsRising rows → i < length rows → ((d : Live) → (get_or rows i d).number ≡ number)
    → rows_without number rows ≡ remove rows i
rows_without_found rows number i rising there found =
    filter_but_one (λ (row : Live). not (is_row_of number row)) rows i there
    (λ d. not_from_true (eqb (get_or rows i d).number number) (eq-eqb (get_or rows i d).number number (found d)))
    (λ k d within apart. not_from_false (eqb (get_or rows k d).number number) (ne_eqb (get_or rows k d).number number (λ same. apart_from_found k d within apart same)))
  where
    apart_from_found : (k : ℕ) (d : Live) → k < length rows → (k ≡ i → ⊥) → (get_or rows k d).number ≡ number → ⊥
    apart_from_found k d within apart same =
        ⊎_elim (λ here. apart here)
        (⊎_elim (λ below. omega (arith, rising k i d below there, found d)) (λ above. omega (arith, rising i k d above within, found d)))
        (cases_order k i)

-- no row has the number: then all rows stay
pub rows_without_missing : (rows : List Live) (number : ℕ) → ((k : ℕ) (d : Live) → k < length rows → (get_or rows k d).number ≡ number → ⊥)
    → (rows_without number rows ≡ rows) × (list_any (is_row_of number) rows ≡ false)
rows_without_missing rows number apart =
    let differs : (k : ℕ) (d : Live) → k < length rows → eqb (get_or rows k d).number number ≡ false
    = λ k d within. ne_eqb (get_or rows k d).number number (apart k d within) in (
      filter_all (λ (row : Live). not (is_row_of number row)) rows (λ k d within. not_from_false (eqb (get_or rows k d).number number) (differs k d within)),
      list_any_none (is_row_of number) rows differs,
    )

passes_there : {A : Type 0} (p : A → Bool) (xs : List A) (i : ℕ) → i < length xs → ((d : A) → p (get_or xs i d) ≡ true) → list_any p xs ≡ true
passes_there p [] i there passes = absurd (omega (arith, there))
passes_there p (x ∷ xs) i there passes = list_any_at p (x ∷ xs) i x there (passes x)

-- what a binary search by the numbers found
pub searched_rows : (rows : List Live) (number : ℕ) (found : Result ℕ ℕ) → IsRising rows → IsSearchInRange found (length rows)
    → IsBinarySearchResult (λ (row : Live). nat_cmp row.number number) rows found
    → MatchResult found (λ i. (list_any (is_row_of number) rows ≡ true) × (rows_without number rows ≡ remove rows i))
    (λ i. (list_any (is_row_of number) rows ≡ false) × (rows_without number rows ≡ rows))
searched_rows rows number (Ok i) rising there equal =
    let same : (d : Live) → (get_or rows i d).number ≡ number = λ d. ranked (get_or rows i d).number number Equal (sym (equal d)) in (
      passes_there (is_row_of number) rows i there (λ d. eq-eqb (get_or rows i d).number number (same d)),
      rows_without_found rows number i rising there same,
    )
searched_rows rows number (Err i) rising there parts =
    let missing = rows_without_missing rows number apart in
    (missing.1, missing.0)
  where
    higher : (a b : ℕ) → a ≤ b → ordering_index (nat_cmp a number) ≤ ordering_index (nat_cmp b number)
    higher a b le = grind (arith, tests)

    not_above : (i j : ℕ) (d : Live) → i ≤ j → j < length rows → (get_or rows i d).number ≤ (get_or rows j d).number
    not_above i j d le within = ⊎_elim (λ e. omega (arith, ap (λ k. (get_or rows k d).number) e))
        (⊎_elim (λ below. omega (arith, rising i j d below within)) (λ above. absurd (omega (arith, above, le)))) (cases_order i j)

    apart : (k : ℕ) (d : Live) → k < length rows → (get_or rows k d).number ≡ number → ⊥
    apart k d within same =
        let point = parts (λ i j d le last. higher (get_or rows i d).number (get_or rows j d).number (not_above i j d le last)) in
        ⊎_elim (λ below. omega (arith, same, ranked (get_or rows k d).number number Less (sym (point.0 k d (omega arith) below))))
        (λ past. omega (arith, same, ranked (get_or rows k d).number number Greater (sym (point.1 k d past within))))
        (cases_lt k i)

-- what a test keeps of the shapes stays where a row comes or goes whose shape does not pass
pub added_unseen : (p : Shape → Bool) (rows : List Live) (row : Live) → p row.shape ≡ false → filter p (shapes_in (rows ++ row ∷ [])) ≡ filter p (shapes_in rows)
added_unseen p [] row fails = ap (λ b. cond b (row.shape ∷ []) []) fails
added_unseen p (x ∷ rows) row fails = ap (λ rest. cond (p x.shape) (x.shape ∷ rest) rest) (added_unseen p rows row fails)

pub removed_unseen : (p : Shape → Bool) (rows : List Live) (i : ℕ) (row : Live) → i < length rows → row ≡ get_or rows i row → p row.shape ≡ false
    → filter p (shapes_in (remove rows i)) ≡ filter p (shapes_in rows)
removed_unseen p [] i row there is fails = absurd (omega (arith, there))
removed_unseen p (x ∷ rows) zero row there is fails =
    sym (ap (λ b. cond b (x.shape ∷ filter p (shapes_in rows)) (filter p (shapes_in rows))) (ap (λ (r : Live). p r.shape) (sym is) ∙ fails))
removed_unseen p (x ∷ rows) (suc i) row there is fails =
    ap (λ rest. cond (p x.shape) (x.shape ∷ rest) rest) (removed_unseen p rows i row (omega (arith, there)) is fails)
