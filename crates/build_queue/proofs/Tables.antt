-- The table of live obstacles as a history grows.
use Rattle.std.proofs.Common.{◌≡◌, ℕ, suc, ◌+◌, ◌<◌, true, false, not, cond, ◌&&◌, eqb, List, [], ◌∷◌, ◌++◌, length, map, filter, get_or, Some, refl, sym, ap, ◌∙◌, subst, ⊎_elim, arith, tests}
use Rattle.std.specs.List.{list_any, filter_map, All, AllPairs}
use Rattle.std.proofs.lemmas.List.{length_push, length-map, map-append, get_or-map, append-nil}
use Rattle.std.proofs.lemmas.List.Elements.{filter_agree, All-weaker, All-push, All-filter, All-head, All-tail}
use Rattle.std.specs.Option.{option_and_then}
use Rattle.std.proofs.lemmas.Bool.{cases_Bool, or_parts, and_right, not_from_false}
use Rattle.nav_ground.specs.declared.history.Entry.{Entry}
use Rattle.nav_ground.specs.declared.history.Reply.TheVariants.{Added, Removed, Full, Dead}
use Rattle.nav_ground.specs.declared.history.Request.{Request}
use Rattle.nav_ground.specs.declared.history.Request.TheVariants.{Add, Remove}
use Rattle.nav_ground.specs.declared.shape.Shape.{Shape}
use Rattle.nav_ground.specs.History.{alive_after, is_removal_of, reply_to, shape_in, shape_of, shapes_alive}
use Rattle.nav_ground.proofs.Words.{is_adding}
use Rattle.nav_ground.proofs.Selections.{filter_all, filter-map, list_any-map, slice_get-push}
use Rattle.nav_ground.proofs.AliveLaws.{alive_after-push, alive_after-rising, shape_of-push}
use Rattle.build_queue.specs.declared.live.Live.{Live}
use Rattle.build_queue.specs.LiveTable.{is_row_of, rows_without, rows_after, reply_among, numbers_of, IsRising, IsLiveTable}

-- the numbers of the table rise
pub table_rises : (history : List Entry) (rows : List Live) → IsLiveTable history rows → IsRising rows
table_rises history rows table i j d apart within =
    let rising : AllPairs (λ a b. a < b) (numbers_of rows) = rw table.numbers (alive_after-rising history (length history)) in
    let below = rising i j d.number apart (rw length-map within) in
    rw (get_or-map (λ (row : Live). row.number) rows i d d.number (omega arith), get_or-map (λ (row : Live). row.number) rows j d d.number within) at below

-- the table's shapes are the shapes alive
pub table_shapes : (history : List Entry) (rows : List Live) → IsLiveTable history rows → map (λ (row : Live). row.shape) rows ≡ shapes_alive history (length history)
table_shapes history rows table = sym (found rows table.shapes) ∙ ap (filter_map (shape_of history)) table.numbers
  where
    found : (some : List Live) → All (λ (row : Live). shape_of history row.number ≡ Some row.shape) some
        → filter_map (shape_of history) (numbers_of some) ≡ map (λ (row : Live). row.shape) some
    found [] each = refl
    found (row ∷ some) each =
        let here = All-head (λ (row : Live). shape_of history row.number ≡ Some row.shape) row some each in
        rw here (ap (λ shapes. row.shape ∷ shapes) (found some (All-tail (λ (row : Live). shape_of history row.number ≡ Some row.shape) row some each)))

-- the reply by the table is the reply by the history
pub table_replies : (limit : ℕ) (history : List Entry) (rows : List Live) (request : Request) → IsLiveTable history rows
    → reply_among limit (length history + 1) rows request ≡ reply_to limit history request
table_replies limit history rows (Add shape) table = rw (← table.numbers, length-map) refl
table_replies limit history rows (Remove other) table =
    rw (← table.numbers, list_any-map (λ alive. eqb alive other) (λ (row : Live). row.number) rows) refl

-- the table under one more entry that keeps some rows and adds others
table-push : (history : List Entry) (entry : Entry) (kept added : List Live)
    → numbers_of kept ≡ filter (λ number. not (is_removal_of number entry)) (alive_after history (length history))
    → numbers_of added ≡ cond (is_adding entry) ((1 + length history) ∷ []) []
    → All (λ (row : Live). shape_of (history ++ entry ∷ []) row.number ≡ Some row.shape) (kept ++ added)
    → IsLiveTable (history ++ entry ∷ []) (kept ++ added)
table-push history entry kept added stay new each = record {
  numbers =
      map-append (λ (row : Live). row.number) kept added
      ∙ ap (λ ns. ns ++ numbers_of added) stay
      ∙ ap (λ ns. filter (λ number. not (is_removal_of number entry)) (alive_after history (length history)) ++ ns) new
      ∙ sym (alive_after-push history entry)
      ∙ ap (alive_after (history ++ entry ∷ [])) (sym (length_push history entry));
  shapes = each;
}

-- the shapes of the rows stay under one more entry
shapes_stay : (history : List Entry) (entry : Entry) (rows : List Live) → All (λ (row : Live). shape_of history row.number ≡ Some row.shape) rows
    → All (λ (row : Live). shape_of (history ++ entry ∷ []) row.number ≡ Some row.shape) rows
shapes_stay history entry rows each =
    All-weaker (λ (row : Live). shape_of history row.number ≡ Some row.shape) (λ (row : Live). shape_of (history ++ entry ∷ []) row.number ≡ Some row.shape)
    (λ row. shape_of-push history entry row.number row.shape) rows each

-- an entry that neither adds nor removes leaves the table
table_kept : (history : List Entry) (entry : Entry) (rows : List Live) → is_adding entry ≡ false → ((number : ℕ) → is_removal_of number entry ≡ false)
    → IsLiveTable history rows → IsLiveTable (history ++ entry ∷ []) rows
table_kept history entry rows adds removes table =
    subst (IsLiveTable (history ++ entry ∷ [])) (append-nil rows)
    (table-push history entry rows []
    (table.numbers ∙ sym (filter_all (λ number. not (is_removal_of number entry)) (alive_after history (length history)) (λ k d within. not_from_false (is_removal_of (get_or (alive_after history (length history)) k d) entry) (removes (get_or (alive_after history (length history)) k d)))))
    (rw adds refl)
    (rw append-nil (shapes_stay history entry rows table.shapes)))

-- an entry that adds an obstacle adds its row
table_added : (lane : ℕ) (history : List Entry) (rows : List Live) (shape : Shape) → IsLiveTable history rows
    → IsLiveTable (history ++ record { lane = lane; request = Add shape; reply = Added (length history + 1) } ∷ []) (rows ++ record { number = length history + 1; shape = shape } ∷ [])
table_added lane history rows shape table =
    let entry : Entry = record { lane = lane; request = Add shape; reply = Added (length history + 1) } in
    let row : Live = record { number = length history + 1; shape = shape } in
    let number : suc (length history) ≡ length history + 1 = omega arith in
    let last : shape_of (history ++ entry ∷ []) (length history + 1) ≡ Some shape =
    subst (λ n. shape_of (history ++ entry ∷ []) n ≡ Some shape) number (ap (option_and_then (λ (e : Entry). shape_in e.request)) (slice_get-push history entry)) in
    table-push history entry rows (row ∷ [])
    (table.numbers ∙ sym (filter_all (λ number. not (is_removal_of number entry)) (alive_after history (length history)) (λ k d within. refl)))
    (ap (λ n. n ∷ []) (omega arith))
    (All-push (λ (row : Live). shape_of (history ++ entry ∷ []) row.number ≡ Some row.shape) rows row (shapes_stay history entry rows table.shapes) last)

-- an entry that removes an obstacle removes its row
table_removed : (lane : ℕ) (history : List Entry) (rows : List Live) (other : ℕ) → IsLiveTable history rows
    → IsLiveTable (history ++ record { lane = lane; request = Remove other; reply = Removed } ∷ []) (rows_without other rows)
table_removed lane history rows other table =
    let entry : Entry = record { lane = lane; request = Remove other; reply = Removed } in
    let kept : List Live = rows_without other rows in
    subst (IsLiveTable (history ++ entry ∷ [])) (append-nil kept)
    (table-push history entry kept []
    (sym (filter-map (λ number. not (eqb number other)) (λ (row : Live). row.number) rows)
    ∙ ap (filter (λ number. not (eqb number other))) table.numbers
    ∙ filter_agree (λ number. not (eqb number other)) (λ number. not (eqb other number && true)) same_test (alive_after history (length history)))
    refl
    (rw append-nil (shapes_stay history entry kept (All-filter (λ (row : Live). not (is_row_of other row)) (λ (row : Live). shape_of history row.number ≡ Some row.shape) rows table.shapes))))
  where
    same_test : (number : ℕ) → not (eqb number other) ≡ not (eqb other number && true)
    same_test number = grind (arith, tests)

-- where no row has the number, all stay
all_without : (rows : List Live) (number : ℕ) → list_any (is_row_of number) rows ≡ false → rows_without number rows ≡ rows
all_without [] number none = refl
all_without (row ∷ rows) number none =
    let parts = or_parts (is_row_of number row) (list_any (is_row_of number) rows) none in
    rw parts.0 (ap (λ rest. row ∷ rest) (all_without rows number parts.1))

-- the table after a request is that of the history with its entry
pub table_after : (limit lane : ℕ) (history : List Entry) (rows : List Live) (request : Request) → IsLiveTable history rows
    → IsLiveTable (history ++ record { lane = lane; request = request; reply = reply_among limit (length history + 1) rows request } ∷ []) (rows_after limit (length history + 1) rows request)
table_after limit lane history rows (Add shape) table = ⊎_elim full fits (cases_Bool (eqb (length rows) limit))
  where
    full : eqb (length rows) limit ≡ true
        → IsLiveTable (history ++ record { lane = lane; request = Add shape; reply = reply_among limit (length history + 1) rows (Add shape) } ∷ []) (rows_after limit (length history + 1) rows (Add shape))
    full e = rw e (table_kept history (record { lane = lane; request = Add shape; reply = Full limit }) rows refl (λ number. refl) table)

    fits : eqb (length rows) limit ≡ false
        → IsLiveTable (history ++ record { lane = lane; request = Add shape; reply = reply_among limit (length history + 1) rows (Add shape) } ∷ []) (rows_after limit (length history + 1) rows (Add shape))
    fits e = rw e (table_added lane history rows shape table)
table_after limit lane history rows (Remove other) table = ⊎_elim there missing (cases_Bool (list_any (is_row_of other) rows))
  where
    there : list_any (is_row_of other) rows ≡ true
        → IsLiveTable (history ++ record { lane = lane; request = Remove other; reply = reply_among limit (length history + 1) rows (Remove other) } ∷ []) (rows_without other rows)
    there e = rw e (table_removed lane history rows other table)

    missing : list_any (is_row_of other) rows ≡ false
        → IsLiveTable (history ++ record { lane = lane; request = Remove other; reply = reply_among limit (length history + 1) rows (Remove other) } ∷ []) (rows_without other rows)
    missing e = rw (e, all_without rows other e) (table_kept history (record { lane = lane; request = Remove other; reply = Dead other }) rows refl (λ number. and_right (eqb other number) false refl) table)
