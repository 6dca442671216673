-- Rows by their ids.
use Rattle.std.proofs.Common.{◌≡◌, ℕ, zero, suc, ◌≤◌, ◌<◌, Bool, true, false, not, cond, eqb, List, [], ◌∷◌, length, get_or, set, Ok, Err, Result, Some, None, refl, sym, ap, ◌∙◌, subst, arith, tests, ⊎_elim}
use Rattle.std.specs.Prelude.{◌==◌, if◌then◌else◌, AllPairs, slice_get, find}
use Rattle.std.specs.List.{remove}
use Rattle.std.specs.List.Sorted.{IsBinarySearchResult, IsSearchInRange}
use Rattle.std.specs.Ordering.{nat_cmp, ordering_index}
use Rattle.std.specs.Result.{MatchResult}
use Rattle.std.specs.declared.cmp.Ordering.TheVariants.{Less, Equal, Greater}
use Rattle.std.proofs.lemmas.Cmp.{ranked}
use Rattle.std.proofs.lemmas.Bool.{cases_lt, cases_eq, cases_order, eq-eqb, ne_eqb, not_from_true, not_from_false}
use Rattle.std.proofs.lemmas.List.{get_or-map, length-map, length-set, get_or-set_same, get_or-set_other, ext_get_or}
use Rattle.build_queue.proofs.Rows.{filter_but_one}
use Rattle.obstacle_registry.specs.declared.row.Registered.{Registered}
use Rattle.obstacle_registry.specs.Registry.{row_of, with_row, without_row}

abbrev pub AreRising : List Registered → Type 0
AreRising rows = AllPairs (λ (a b : Registered). a.id < b.id) rows

-- two rows at different places have different ids
pub apart_ids : (rows : List Registered) (i k : ℕ) (d : Registered) → AreRising rows → i < length rows → k < length rows → (k ≡ i → ⊥)
    → (get_or rows k d).id ≡ (get_or rows i d).id → ⊥
apart_ids rows i k d rising there within apart same =
    ⊎_elim (λ here. apart here)
    (⊎_elim (λ below. omega (arith, rising k i d below there, same)) (λ above. omega (arith, rising i k d above within, same)))
    (cases_order k i)

-- the first that passes is found
found_first : {A : Type 0} (p : A → Bool) (xs : List A) (i : ℕ) → i < length xs → ((d : A) → p (get_or xs i d) ≡ true)
    → ((k : ℕ) (d : A) → k < i → p (get_or xs k d) ≡ false) → find p xs ≡ slice_get xs i
found_first p [] i there passes before = absurd (omega (arith, there))
found_first p (x ∷ xs) zero there passes before = ap (λ b. cond b (Some x) (find p xs)) (passes x)
found_first p (x ∷ xs) (suc i) there passes before =
    ap (λ b. cond b (Some x) (find p xs)) (before 0 x (omega arith))
    ∙ found_first p xs i (omega (arith, there)) passes (λ k d below. before (suc k) d (omega (arith, below)))

none_found : {A : Type 0} (p : A → Bool) (xs : List A) → ((k : ℕ) (d : A) → k < length xs → p (get_or xs k d) ≡ false) → find p xs ≡ None
none_found p [] fails = refl
none_found p (x ∷ xs) fails =
    ap (λ b. cond b (Some x) (find p xs)) (fails 0 x (omega arith)) ∙ none_found p xs (λ k d within. fails (suc k) d (omega (arith, within)))

-- what a binary search by the ids found
pub searched_ids : (rows : List Registered) (id : ℕ) (found : Result ℕ ℕ) → AreRising rows → IsSearchInRange found (length rows)
    → IsBinarySearchResult (λ (row : Registered). nat_cmp row.id id) rows found
    → MatchResult found (λ i. (row_of id rows ≡ slice_get rows i) × ((d : Registered) → (get_or rows i d).id ≡ id)) (λ i. row_of id rows ≡ None)
searched_ids rows id (Ok i) rising there equal =
    let same : (d : Registered) → (get_or rows i d).id ≡ id = λ d. ranked (get_or rows i d).id id Equal (sym (equal d)) in (
      found_first (λ (row : Registered). row.id == id) rows i there (λ d. eq-eqb (get_or rows i d).id id (same d))
          (λ k d below. ne_eqb (get_or rows k d).id id (λ its. omega (arith, its, same d, rising k i d below there))),
      same,
    )
searched_ids rows id (Err i) rising there parts =
    none_found (λ (row : Registered). row.id == id) rows (λ k d within. ne_eqb (get_or rows k d).id id (apart k d within))
  where
    higher : (a b : ℕ) → a ≤ b → ordering_index (nat_cmp a id) ≤ ordering_index (nat_cmp b id)
    higher a b le = grind (arith, tests)

    not_above : (i j : ℕ) (d : Registered) → i ≤ j → j < length rows → (get_or rows i d).id ≤ (get_or rows j d).id
    not_above i j d le within = ⊎_elim (λ e. omega (arith, ap (λ k. (get_or rows k d).id) e))
        (⊎_elim (λ below. omega (arith, rising i j d below within)) (λ above. absurd (omega (arith, above, le)))) (cases_order i j)

    apart : (k : ℕ) (d : Registered) → k < length rows → (get_or rows k d).id ≡ id → ⊥
    apart k d within same =
        let point = parts (λ i j d le last. higher (get_or rows i d).id (get_or rows j d).id (not_above i j d le last)) in
        ⊎_elim (λ below. omega (arith, same, ranked (get_or rows k d).id id Less (sym (point.0 k d (omega arith) below))))
        (λ past. omega (arith, same, ranked (get_or rows k d).id id Greater (sym (point.1 k d past within))))
        (cases_lt k i)

-- a row that is written over the one with its id is put in the place of that one
pub written : (rows : List Registered) (i : ℕ) (row : Registered) → AreRising rows → i < length rows → ((d : Registered) → (get_or rows i d).id ≡ row.id)
    → set rows i row ≡ with_row row rows
written rows i row rising there its =
    ext_get_or row (set rows i row) (with_row row rows)
    (length-set rows i row ∙ sym (length-map rows (λ (other : Registered). if other.id == row.id then row else other)))
    (λ k inside.
    let within : k < length rows = rw length-set at inside in
    ⊎_elim
    (λ same.
    subst (λ n. get_or (set rows i row) n row ≡ (if (get_or rows n row).id == row.id then row else get_or rows n row)) (sym same)
    (get_or-set_same rows i row row there ∙ sym (ap (λ b. if b then row else get_or rows i row) (eq-eqb (get_or rows i row).id row.id (its row)))))
    (λ apart.
    get_or-set_other rows i k row row apart
    ∙ sym (ap (λ b. if b then row else get_or rows k row) (ne_eqb (get_or rows k row).id row.id (λ same. apart_ids rows i k row rising there within apart (same ∙ sym (its row))))))
    (cases_eq k i)
    ∙ sym (get_or-map (λ (other : Registered). if other.id == row.id then row else other) rows k row row within))

-- the rows without the one at a place
pub left_out : (rows : List Registered) (i id : ℕ) → AreRising rows → i < length rows → ((d : Registered) → (get_or rows i d).id ≡ id)
    → remove rows i ≡ without_row id rows
left_out rows i id rising there its =
    sym (filter_but_one (λ (row : Registered). not (row.id == id)) rows i there
    (λ d. not_from_true (eqb (get_or rows i d).id id) (eq-eqb (get_or rows i d).id id (its d)))
    (λ k d within apart. not_from_false (eqb (get_or rows k d).id id)
    (ne_eqb (get_or rows k d).id id (λ same. apart_ids rows i k d rising there within apart (same ∙ sym (its d))))))
