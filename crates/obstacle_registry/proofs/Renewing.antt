-- A registry stays one where the history of its level begins again.
use Rattle.std.proofs.Common.{◌≡◌, ℕ, ◌+◌, ◌≤◌, ◌<◌, true, List, length, get_or, map, set, Some, refl, sym, ap, ◌∙◌, subst, arith, ⊎_elim}
use Rattle.std.specs.Prelude.{◌==◌, slice_get, nat_le}
use Rattle.std.specs.List.{count_by, range_with_len}
use Rattle.std.proofs.lemmas.Bool.{and_parts, cases_eq, eq-eqb, eqb-true}
use Rattle.std.proofs.lemmas.List.{get_or-map, get_or-set_other, get_or-set_same, length-map}
use Rattle.std.proofs.lemmas.List.FromFn.{length-range_with_len}
use Rattle.std.proofs.lemmas.Option.{get_or_from_slice_get, slice_get-get_or}
use Rattle.nav_ground.specs.History.{shape_of}
use Rattle.nav_ground.proofs.AliveLaws.{alive_after-rising}
use Rattle.build_queue.specs.BookState.{BookState, IsBook}
use Rattle.build_queue.specs.Renewal.{IsAllShown, IsRenewed}
use Rattle.obstacle_registry.specs.declared.row.Registered.{Registered}
use Rattle.obstacle_registry.specs.Registry.{IsRegistry, IsRowOf, RegistryState, alive_now}
use Rattle.obstacle_registry.specs.Renewal.{is_due, long_history, rank, renumbered}
use Rattle.obstacle_registry.proofs.Again.{alive_again, numbers_some, shape_again}
use Rattle.obstacle_registry.proofs.Counts.{there_counted}
use Rattle.obstacle_registry.proofs.Ranks.{count_mapped, found_at, rank_at, rank_zero, ranked_counts}

-- the numbers that are alive then are those of places, from 1
pub alive_renewed : (book new : BookState) → IsRenewed book new → alive_now new ≡ range_with_len 1 (length (alive_now book))
alive_renewed book new renewed = alive_again book.history (alive_now book) new.history renewed.history

-- and there are as many
pub renewed_long : (book new : BookState) → IsRenewed book new → length (alive_now new) ≡ length (alive_now book)
renewed_long book new renewed =
    ap (λ (ns : List ℕ). length ns) (alive_renewed book new renewed) ∙ length-range_with_len 1 (length (alive_now book))

-- the obstacle of a number of the old history has its shape under its place in the new one
shape_renewed : (book new : BookState) (number : ℕ) → IsRenewed book new → 1 ≤ count_by (λ m. m == number) (alive_now book)
    → shape_of new.history (rank (alive_now book) number) ≡ shape_of book.history number
shape_renewed book new number renewed some =
    let placed = found_at (alive_now book) number some in
    let at : rank (alive_now book) number ≡ placed.place + 1 =
    ap (rank (alive_now book)) (sym (placed.is 0)) ∙ rank_at (alive_now book) placed.place 0 (alive_after-rising book.history (length book.history)) placed.there in
    let there : slice_get (alive_now book) placed.place ≡ Some number =
    slice_get-get_or (alive_now book) placed.place 0 placed.there ∙ ap Some (placed.is 0) in
    ap (shape_of new.history) at ∙ shape_again book.history (alive_now book) new.history placed.place number renewed.history placed.there there

-- a row is that of its obstacle again
row_renewed : (state : RegistryState) (new : BookState) (k : ℕ) (d : Registered) → IsRegistry state → IsRenewed state.book new → k < length state.rows
    → IsRowOf new (renumbered (alive_now state.book) (get_or state.rows k d))
row_renewed state new k d rules' renewed there =
    let row : Registered = get_or state.rows k d in
    let own = rules'.holds.each k d there in
    record {
      limits = own.limits;
      added = λ some.
          ⊎_elim
          (λ off. absurd (omega (arith, some, ap (rank (alive_now state.book)) off, rank_zero (alive_now state.book) (numbers_some state.book.history (length state.book.history)))))
          (λ apart.
          let on : 1 ≤ row.number = omega (arith, apart) in
          let counted = there_counted (λ (r : Registered). r.number == row.number) state.rows k d there (eq-eqb row.number row.number refl) in
          shape_renewed state.book new row.number renewed (omega (arith, counted, rules'.holds.numbers row.number on)) ∙ own.added on)
          (cases_eq row.number 0);
    }

pub kept_renewed : (state : RegistryState) (new : BookState) → IsRegistry state → IsRenewed state.book new → IsBook new
    → IsRegistry (record state { book = new; rows = map (renumbered (alive_now state.book)) state.rows })
kept_renewed state new rules' renewed book' = record {
  book = book';
  ids = record {
    rising = λ i j d before within.
        let inside : j < length state.rows = omega (arith, within, length-map state.rows again) in
        let one = ap (λ (r : Registered). r.id) (get_or-map again state.rows i d d (omega (arith, before, inside))) in
        let other = ap (λ (r : Registered). r.id) (get_or-map again state.rows j d d inside) in
        omega (arith, one, other, rules'.ids.rising i j d before inside);
    given = λ k d within.
        let inside : k < length state.rows = omega (arith, within, length-map state.rows again) in
        let one = ap (λ (r : Registered). r.id) (get_or-map again state.rows k d d inside) in
        let own = rules'.ids.given k d inside in
        (omega (arith, one, own.0), omega (arith, one, own.1));
  };
  holds = record {
    numbers = λ n some.
        count_mapped (λ (row : Registered). row.number == n) again state.rows
        ∙ ranked_counts (λ (row : Registered). row.number) state.rows (alive_now state.book)
        (alive_after-rising state.book.history (length state.book.history)) (numbers_some state.book.history (length state.book.history)) rules'.holds.numbers n some
        ∙ ap (count_by (λ m. m == n)) (sym (alive_renewed state.book new renewed));
    each = λ k d within.
        let inside : k < length state.rows = omega (arith, within, length-map state.rows again) in
        subst (IsRowOf new) (sym (get_or-map again state.rows k d d inside)) (row_renewed state new k d rules' renewed inside);
  };
  few = omega (arith, rules'.few, length-map state.rows again);
}
  where
    again : Registered → Registered
    again = renumbered (alive_now state.book)

-- where a renewal is due, all is shown
pub due_shown : (book : BookState) → is_due book ≡ true → IsAllShown book
due_shown book due = record { shown = eqb-true book.published (length book.history) (and_parts (nat_le long_history (length book.history)) (book.published == length book.history) due).1 }

-- a row more has its new number
pub one_more_row : (numbers : List ℕ) (old rows : List Registered) (i n : ℕ) (e : Registered) → i < length rows
    → ((k : ℕ) (d : Registered) → k < i → get_or rows k d ≡ renumbered numbers (get_or old k d))
    → ((k : ℕ) (d : Registered) → i ≤ k → get_or rows k d ≡ get_or old k d)
    → n ≡ rank numbers (get_or rows i e).number
    → ((k : ℕ) (d : Registered) → k < i + 1 → get_or (set rows i (record (get_or rows i e) { number = n })) k d ≡ renumbered numbers (get_or old k d))
    × ((k : ℕ) (d : Registered) → i + 1 ≤ k → get_or (set rows i (record (get_or rows i e) { number = n })) k d ≡ get_or old k d)
one_more_row numbers old rows i n e there done rest its = (
  λ k d below.
      ⊎_elim
      (λ same.
      let here : get_or rows i e ≡ get_or old i d =
      sym (get_or_from_slice_get rows i (get_or rows i e) d (slice_get-get_or rows i e there)) ∙ rest i d (omega arith) in
      subst (λ m. get_or (set rows i (record (get_or rows i e) { number = n })) m d ≡ renumbered numbers (get_or old m d)) (sym same)
      (get_or-set_same rows i (record (get_or rows i e) { number = n }) d there
      ∙ ap (λ m. record (get_or rows i e) { number = m }) its ∙ ap (renumbered numbers) here))
      (λ apart. get_or-set_other rows i k (record (get_or rows i e) { number = n }) d apart ∙ done k d (omega (arith, below, apart)))
      (cases_eq k i),
  λ k d past.
      get_or-set_other rows i k (record (get_or rows i e) { number = n }) d (λ same. omega (arith, same, past)) ∙ rest k d (omega (arith, past)),
)
