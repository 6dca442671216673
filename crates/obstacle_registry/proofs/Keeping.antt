-- What each change keeps of a registry.
use Rattle.std.proofs.Common.{◌≡◌, ℕ, ◌≤◌, ◌<◌, true, false, not, eqb, List, [], ◌∷◌, ◌++◌, length, filter, get_or, Ok, Err, Result, refl, sym, ap, ◌∙◌, subst, arith, tests, ⊎_elim}
use Rattle.std.specs.Prelude.{◌==◌, if◌then◌else◌, AllPairs}
use Rattle.std.specs.List.{list_any, remove}
use Rattle.std.specs.List.Sorted.{IsBinarySearchResult, IsSearchInRange}
use Rattle.std.specs.Ordering.{nat_cmp, ordering_index}
use Rattle.std.specs.Result.{MatchResult}
use Rattle.std.specs.declared.cmp.Ordering.TheVariants.{Less, Equal, Greater}
use Rattle.std.proofs.lemmas.Cmp.{ranked}
use Rattle.std.proofs.lemmas.Bool.{both_ways, cases_lt, cases_order, eq-eqb, ne_eqb, not_from_true, not_from_false}
use Rattle.std.proofs.lemmas.List.Folds.{list_any_none}
use Rattle.build_queue.proofs.Rows.{filter_but_one}
use Rattle.std.proofs.lemmas.List.{length_push}
use Rattle.nav_ground.specs.declared.shape.Shape.{Shape}
use Rattle.nav_ground.specs.declared.history.Request.{Request}
use Rattle.nav_ground.specs.History.{history_limit}
use Rattle.nav_ground.proofs.AliveLaws.{alive_after-rising}
use Rattle.build_queue.specs.BookState.{BookState}
use Rattle.build_queue.specs.Steps.{after_request, requested}
use Rattle.obstacle_registry.specs.Changes.{next_number, put_up, taken_down}
use Rattle.obstacle_registry.specs.Registry.{alive_now, is_crowded}
use Rattle.obstacle_registry.proofs.Entries.{alive_put_up, alive_taken_down}
use Rattle.obstacle_registry.proofs.Counts.{fewer_left}

-- as few as there may be, and not as many
pub fewer : (book : BookState) (numbers : List ℕ) → numbers ≡ alive_now book → length numbers ≤ book.ground.setting.limit → is_crowded book ≡ false
    → length numbers < book.ground.setting.limit
fewer book numbers are few not_full =
    let apart : length (alive_now book) ≡ book.ground.setting.limit → ⊥ =
    λ same. both_ways false refl (sym not_full ∙ eq-eqb (length (alive_now book)) book.ground.setting.limit same) in
    let long : length numbers ≡ length (alive_now book) = ap (λ (ns : List ℕ). length ns) are in
    ⊎_elim (λ less. less) (λ past. absurd (apart (omega (arith, long, few, past)))) (cases_lt (length numbers) book.ground.setting.limit)

-- a number more is at hand
pub put_at_hand : (book : BookState) (shape : Shape) (numbers new : List ℕ) (number : ℕ) → numbers ≡ alive_now book
    → length numbers ≤ book.ground.setting.limit → is_crowded book ≡ false → new ≡ numbers ++ number ∷ [] → number ≡ next_number book
    → (new ≡ alive_now (put_up shape book)) × (length new ≤ book.ground.setting.limit)
put_at_hand book shape numbers new number are few not_full made its = (
  made ∙ ap (λ ns. ns ++ number ∷ []) are ∙ ap (λ n. alive_now book ++ n ∷ []) its ∙ sym (alive_put_up book shape not_full),
  let less = fewer book numbers are few not_full in
      omega (arith, ap (λ (ns : List ℕ). length ns) made, length_push numbers number, less),
)

-- where a full history is not in the way, a request is an entry
pub entered : (book : BookState) (request : Request) → length book.history < history_limit → requested book 0 request ≡ after_request book 0 request
entered book request room =
    ap (λ b. if b then book else after_request book 0 request) (ne_eqb (length book.history) history_limit (λ same. omega (arith, same, room)))

-- a number that is alive is taken away
pub taken_at_hand : (book : BookState) (numbers new : List ℕ) (number : ℕ) → numbers ≡ alive_now book → length numbers ≤ book.ground.setting.limit
    → list_any (λ alive. alive == number) (alive_now book) ≡ true → new ≡ filter (λ alive. not (alive == number)) numbers
    → (new ≡ alive_now (taken_down number book)) × (length new ≤ book.ground.setting.limit)
taken_at_hand book numbers new number are few there made =
    let is : new ≡ filter (λ alive. not (alive == number)) (alive_now book) = made ∙ ap (filter (λ alive. not (alive == number))) are in
    let less = fewer_left (alive_now book) number there in
    (is ∙ sym (alive_taken_down book number there), omega (arith, few, less, ap (λ (ns : List ℕ). length ns) is, ap (λ (ns : List ℕ). length ns) are))

-- and then there are not as many as may be
pub not_crowded : (book : BookState) (numbers : List ℕ) (number : ℕ) → numbers ≡ alive_now book → length numbers ≤ book.ground.setting.limit
    → list_any (λ alive. alive == number) (alive_now book) ≡ true → is_crowded (taken_down number book) ≡ false
not_crowded book numbers number are few there =
    let less = fewer_left (alive_now book) number there in
    let left = ap (λ (ns : List ℕ). length ns) (alive_taken_down book number there) in
    ne_eqb (length (alive_now (taken_down number book))) book.ground.setting.limit
    (λ same. omega (arith, same, less, left, few, ap (λ (ns : List ℕ). length ns) are))

-- what a binary search in rising numbers found
pub searched_numbers : (numbers : List ℕ) (number : ℕ) (found : Result ℕ ℕ) → AllPairs (λ a b. a < b) numbers → IsSearchInRange found (length numbers)
    → IsBinarySearchResult (λ n. nat_cmp n number) numbers found → list_any (λ n. n == number) numbers ≡ true
    → MatchResult found (λ i. filter (λ n. not (n == number)) numbers ≡ remove numbers i) (λ i. ⊥)
searched_numbers numbers number (Ok i) rising there equal any =
    filter_but_one (λ n. not (n == number)) numbers i there
    (λ d. not_from_true (eqb (get_or numbers i d) number) (eq-eqb (get_or numbers i d) number (same d)))
    (λ k d within apart. not_from_false (eqb (get_or numbers k d) number) (ne_eqb (get_or numbers k d) number (λ its.
    ⊎_elim (λ here. apart here)
    (⊎_elim (λ below. omega (arith, rising k i d below there, its, same d)) (λ above. omega (arith, rising i k d above within, its, same d)))
    (cases_order k i))))
  where
    same : (d : ℕ) → get_or numbers i d ≡ number
    same d = ranked (get_or numbers i d) number Equal (sym (equal d))
searched_numbers numbers number (Err i) rising there parts any =
    both_ways false refl (sym (list_any_none (λ n. n == number) numbers (λ k d within. ne_eqb (get_or numbers k d) number (apart k d within))) ∙ any)
  where
    higher : (a b : ℕ) → a ≤ b → ordering_index (nat_cmp a number) ≤ ordering_index (nat_cmp b number)
    higher a b le = grind (arith, tests)

    not_above : (i j : ℕ) (d : ℕ) → i ≤ j → j < length numbers → get_or numbers i d ≤ get_or numbers j d
    not_above i j d le within = ⊎_elim (λ e. omega (arith, ap (λ k. get_or numbers k d) e))
        (⊎_elim (λ below. omega (arith, rising i j d below within)) (λ above. absurd (omega (arith, above, le)))) (cases_order i j)

    apart : (k : ℕ) (d : ℕ) → k < length numbers → get_or numbers k d ≡ number → ⊥
    apart k d within same =
        let point = parts (λ i j d le last. higher (get_or numbers i d) (get_or numbers j d) (not_above i j d le last)) in
        ⊎_elim (λ below. omega (arith, same, ranked (get_or numbers k d) number Less (sym (point.0 k d (omega arith) below))))
        (λ past. omega (arith, same, ranked (get_or numbers k d) number Greater (sym (point.1 k d past within))))
        (cases_lt k i)

-- the same of a slice of the numbers at hand
pub found_at_hand : (book : BookState) (numbers slice : List ℕ) (number : ℕ) (found : Result ℕ ℕ) → slice ≡ numbers → numbers ≡ alive_now book
    → list_any (λ alive. alive == number) (alive_now book) ≡ true → IsSearchInRange found (length slice)
    → IsBinarySearchResult (λ n. nat_cmp n number) slice found
    → MatchResult found (λ i. filter (λ n. not (n == number)) numbers ≡ remove numbers i) (λ i. ⊥)
found_at_hand book numbers slice number found same are there within position =
    subst (λ (list : List ℕ). MatchResult found (λ i. filter (λ n. not (n == number)) list ≡ remove list i) (λ i. ⊥)) same
    (searched_numbers slice number found
    (subst (λ (list : List ℕ). AllPairs (λ a b. a < b) list) (sym (same ∙ are)) (alive_after-rising book.history (length book.history)))
    within position (subst (λ (list : List ℕ). list_any (λ n. n == number) list ≡ true) (sym (same ∙ are)) there))
