-- A registry stays one where an obstacle is added, removed, switched and moved.
use Rattle.std.proofs.Common.{◌≡◌, ℕ, ◌+◌, ◌≤◌, ◌<◌, true, false, not, List, [], ◌∷◌, ◌++◌, length, filter, get_or, set, Some, refl, sym, ap, ◌∙◌, subst, arith, ⊎_elim}
use Rattle.std.specs.Prelude.{◌==◌, ◌||◌, ◌-◌, ◌^◌, All, slice_get}
use Rattle.std.specs.List.{list_any, remove, count_by}
use Rattle.std.proofs.lemmas.Bool.{both_ways, cases_eq, eq-eqb, ne_eqb, or_parts}
use Rattle.std.proofs.lemmas.List.{length_push, length-set, get_or-set_same, get_or-set_other}
use Rattle.std.proofs.lemmas.List.Elements.{All-filter, All-push, All-set, All-weaker}
use Rattle.std.proofs.lemmas.List.Kept.{AllPairs-filter}
use Rattle.std.proofs.lemmas.List.Quantifiers.{all_pairs_push}
use Rattle.std.proofs.lemmas.List.Sums.{length-filter, count_by-le-length}
use Rattle.std.proofs.lemmas.Option.{get_or_from_slice_get, slice_get-get_or, slice_get_within}
use Rattle.nav_ground.specs.declared.shape.Shape.{Shape}
use Rattle.nav_ground.specs.declared.history.Request.{Request}
use Rattle.nav_ground.specs.declared.history.Request.TheVariants.{Add, Remove}
use Rattle.nav_ground.specs.History.{shape_of}
use Rattle.nav_ground.specs.Limits.{IsShape}
use Rattle.nav_ground.proofs.AliveLaws.{alive_after-rising}
use Rattle.build_queue.specs.BookState.{BookState, IsBook}
use Rattle.build_queue.specs.Steps.{after_request}
use Rattle.obstacle_registry.specs.declared.row.Registered.{Registered}
use Rattle.obstacle_registry.specs.Changes.{after_add, dropped, next_number, put_up, taken_down}
use Rattle.obstacle_registry.specs.Registry.{AreNumbered, HaveIds, IsOffAt, IsRegistry, IsRewriting, IsRowOf, RegistryState, alive_now, is_crowded, is_crowded_registry, is_on, row_limit, rows_with_number, with_row, without_row}
use Rattle.obstacle_registry.proofs.Counts.{count_left_out, count_push, count_remove, count_set, count_without, counted_there, once_at_most, one_if, there_counted}
use Rattle.obstacle_registry.proofs.Entries.{alive_put_up, alive_taken_down, shape_kept, shape_put_up}
use Rattle.obstacle_registry.proofs.Rows.{left_out, written}

-- the row at a place
at_place : (rows : List Registered) (place : ℕ) (row d : Registered) → slice_get rows place ≡ Some row → get_or rows place d ≡ row
at_place rows place row d there = get_or_from_slice_get rows place row d there

-- a row that is on has a number
pub on_number : (row : Registered) → is_on row ≡ true → 1 ≤ row.number
on_number row on =
    let apart : row.number ≡ 0 → ⊥ = λ zero'. both_ways false refl (sym (ap not (eq-eqb row.number 0 zero')) ∙ on) in
    ⊎_elim (λ same. absurd (apart same)) (λ differs. omega (arith, differs)) (cases_eq row.number 0)

-- ids stay where a row is written over one with the same id
id_at : (rows : List Registered) (place k : ℕ) (row before d : Registered) → slice_get rows place ≡ Some before → before.id ≡ row.id
    → (get_or (set rows place row) k d).id ≡ (get_or rows k d).id
id_at rows place k row before d there same =
    ⊎_elim
    (λ here.
    subst (λ n. (get_or (set rows place row) n d).id ≡ (get_or rows n d).id) (sym here)
    (ap (λ (r : Registered). r.id) (get_or-set_same rows place row d (slice_get_within rows place before there)) ∙ sym same
    ∙ ap (λ (r : Registered). r.id) (sym (at_place rows place before d there))))
    (λ apart. ap (λ (r : Registered). r.id) (get_or-set_other rows place k row d apart))
    (cases_eq k place)

pub ids_set : (last : ℕ) (rows : List Registered) (place : ℕ) (row before : Registered) → HaveIds last rows → slice_get rows place ≡ Some before
    → before.id ≡ row.id → HaveIds last (set rows place row)
ids_set last rows place row before ids there same = record {
  rising = λ i j d apart within.
      let inside : j < length rows = rw length-set at within in
      omega (arith, id_at rows place i row before d there same, id_at rows place j row before d there same, ids.rising i j d apart inside);
  given = λ k d within.
      let inside : k < length rows = rw length-set at within in
      let own = ids.given k d inside in
      let is = id_at rows place k row before d there same in
      (omega (arith, own.0, is), omega (arith, own.1, is));
}

pub ids_push : (last : ℕ) (rows : List Registered) (row : Registered) → HaveIds last rows → row.id ≡ last + 1 → HaveIds (last + 1) (rows ++ row ∷ [])
ids_push last rows row ids next = record {
  rising = all_pairs_push (λ (a b : Registered). a.id < b.id) rows row ids.rising (λ k d within. omega (arith, (ids.given k d within).1, next));
  given = All-push (λ (r : Registered). (1 ≤ r.id) × (r.id ≤ last + 1)) rows row
      (λ k d within. let own = ids.given k d within in (own.0, omega (arith, own.1)))
      (omega (arith, next), omega (arith, next));
}

pub ids_without : (last : ℕ) (rows : List Registered) (id : ℕ) → HaveIds last rows → HaveIds last (without_row id rows)
ids_without last rows id ids = record {
  rising = AllPairs-filter (λ (a b : Registered). a.id < b.id) (λ (row : Registered). not (row.id == id)) rows ids.rising;
  given = All-filter (λ (row : Registered). not (row.id == id)) (λ (r : Registered). (1 ≤ r.id) × (r.id ≤ last)) rows ids.given;
}

-- numbers stand as often in the rows as among the obstacles that are alive, where both change alike
numbered_set : (book book' : BookState) (rows : List Registered) (place : ℕ) (row before : Registered) → slice_get rows place ≡ Some before
    → AreNumbered book rows
    → ((n : ℕ) → 1 ≤ n → count_by (λ m. m == n) (alive_now book') + one_if (before.number == n) ≡ count_by (λ m. m == n) (alive_now book) + one_if (row.number == n))
    → AreNumbered book' (set rows place row)
numbered_set book book' rows place row before there are alike n some =
    let counted = count_set (λ (r : Registered). r.number == n) rows place row before (slice_get_within rows place before there) in
    let its = ap (λ (r : Registered). one_if (r.number == n)) (at_place rows place before before there) in
    omega (arith, counted, its, are n some, alike n some)

-- the number of a row that is on is alive, once
pub on_there : (book : BookState) (rows : List Registered) (place : ℕ) (row : Registered) → AreNumbered book rows → slice_get rows place ≡ Some row
    → 1 ≤ row.number → count_by (λ n. n == row.number) (alive_now book) ≡ 1
on_there book rows place row are there some =
    let most = once_at_most (alive_now book) row.number (alive_after-rising book.history (length book.history)) in
    let least = there_counted (λ (r : Registered). r.number == row.number) rows place row (slice_get_within rows place row there)
    (eq-eqb (get_or rows place row).number row.number (ap (λ (r : Registered). r.number) (at_place rows place row row there))) in
    omega (arith, most, least, are row.number some)

pub alive_there : (state : RegistryState) (place : ℕ) (row : Registered) → IsRegistry state → slice_get state.rows place ≡ Some row → is_on row ≡ true
    → list_any (λ alive. alive == row.number) (alive_now state.book) ≡ true
alive_there state place row rules' there on =
    let once = on_there state.book state.rows place row rules'.holds.numbers there (on_number row on) in
    counted_there (λ alive. alive == row.number) (alive_now state.book) (omega (arith, once))

zero_apart : (n : ℕ) → 1 ≤ n → one_if (0 == n) ≡ 0
zero_apart n some = ap one_if (ne_eqb 0 n (λ same. omega (arith, same, some)))

-- rows keep what they are under an entry more
rows_kept : (book : BookState) (request : Request) (rows : List Registered) → All (IsRowOf book) rows → All (IsRowOf (after_request book 0 request)) rows
rows_kept book request rows each =
    All-weaker (IsRowOf book) (IsRowOf (after_request book 0 request))
    (λ row own. record { limits = own.limits; added = λ some. shape_kept book request row.number row.shape (own.added some) }) rows each

-- a row is that of a place
row_at : (book : BookState) (rows : List Registered) (place : ℕ) (row : Registered) → All (IsRowOf book) rows → slice_get rows place ≡ Some row → IsRowOf book row
row_at book rows place row each there =
    subst (IsRowOf book) (at_place rows place row row there) (each place row (slice_get_within rows place row there))

pub row_limits : (state : RegistryState) (place : ℕ) (row : Registered) → IsRegistry state → slice_get state.rows place ≡ Some row → IsShape row.shape
row_limits state place row rules' there = (row_at state.book state.rows place row rules'.holds.each there).limits

-- switched off
pub kept_off : (state : RegistryState) (place : ℕ) (row : Registered) → IsRegistry state → slice_get state.rows place ≡ Some row → is_on row ≡ true
    → IsBook (taken_down row.number state.book)
    → IsRegistry (record state { book = taken_down row.number state.book; rows = set state.rows place (record row { number = 0 }) })
kept_off state place row rules' there on book = record {
  book = book;
  ids = ids_set state.last state.rows place (record row { number = 0 }) row rules'.ids there refl;
  holds = record {
    numbers = numbered_set state.book (taken_down row.number state.book) state.rows place (record row { number = 0 }) row there rules'.holds.numbers alike;
    each = All-set (IsRowOf (taken_down row.number state.book)) state.rows place (record row { number = 0 })
        (record { limits = row_limits state place row rules' there; added = λ some. absurd (omega (arith, some)) })
        (rows_kept state.book (Remove row.number) state.rows rules'.holds.each);
  };
  few = rw length-set rules'.few;
}
  where
    some_number : 1 ≤ row.number
    some_number = on_number row on

    left : alive_now (taken_down row.number state.book) ≡ filter (λ alive. not (alive == row.number)) (alive_now state.book)
    left = alive_taken_down state.book row.number (alive_there state place row rules' there on)

    alike : (n : ℕ) → 1 ≤ n → count_by (λ m. m == n) (alive_now (taken_down row.number state.book)) + one_if (row.number == n)
        ≡ count_by (λ m. m == n) (alive_now state.book) + one_if (0 == n)
    alike n some = ⊎_elim
        (λ same.
        subst (λ k. count_by (λ m. m == k) (alive_now (taken_down row.number state.book)) + one_if (row.number == k)
        ≡ count_by (λ m. m == k) (alive_now state.book) + one_if (0 == k)) (sym same)
        (let none = ap (count_by (λ m. m == row.number)) left ∙ count_left_out (alive_now state.book) row.number in
        let once = on_there state.book state.rows place row rules'.holds.numbers there some_number in
        let own = ap one_if (eq-eqb row.number row.number refl) in
        let none' = zero_apart row.number some_number in
        omega (arith, none, once, own, none')))
        (λ apart.
        let others = ap (count_by (λ m. m == n)) left ∙ count_without (alive_now state.book) row.number n apart in
        let own = ap one_if (ne_eqb row.number n (λ same. apart (sym same))) in
        let none' = zero_apart n some in
        omega (arith, others, own, none'))
        (cases_eq n row.number)

-- a row over another with its id
pub set_is : (state : RegistryState) (place : ℕ) (row before : Registered) → IsRegistry state → slice_get state.rows place ≡ Some before → before.id ≡ row.id
    → set state.rows place row ≡ with_row row state.rows
set_is state place row before rules' there same =
    written state.rows place row rules'.ids.rising (slice_get_within state.rows place before there)
    (λ d. ap (λ (r : Registered). r.id) (at_place state.rows place before d there) ∙ same)

-- switched on
pub kept_on : (state : RegistryState) (place : ℕ) (row : Registered) → IsRegistry state → (off : IsOffAt state.rows place row.id) → IsShape row.shape
    → is_crowded state.book ≡ false → IsBook (put_up row.shape state.book)
    → IsRegistry (record state { book = put_up row.shape state.book; rows = set state.rows place (record row { number = next_number state.book }) })
kept_on state place row rules' off limits' few book = record {
  book = book;
  ids = ids_set state.last state.rows place (record row { number = next_number state.book }) off.row rules'.ids off.there off.its;
  holds = record {
    numbers = numbered_set state.book (put_up row.shape state.book) state.rows place (record row { number = next_number state.book }) off.row off.there
        rules'.holds.numbers alike;
    each = All-set (IsRowOf (put_up row.shape state.book)) state.rows place (record row { number = next_number state.book })
        (record { limits = limits'; added = λ some. shape_put_up state.book row.shape })
        (rows_kept state.book (Add row.shape) state.rows rules'.holds.each);
  };
  few = rw length-set rules'.few;
}
  where
    alike : (n : ℕ) → 1 ≤ n → count_by (λ m. m == n) (alive_now (put_up row.shape state.book)) + one_if (off.row.number == n)
        ≡ count_by (λ m. m == n) (alive_now state.book) + one_if (next_number state.book == n)
    alike n some =
        let more = ap (count_by (λ m. m == n)) (alive_put_up state.book row.shape few) ∙ count_push (λ m. m == n) (alive_now state.book) (next_number state.book) in
        let none = ap (λ k. one_if (k == n)) off.off in
        let none' = zero_apart n some in
        omega (arith, more, none, none')

-- one row more
pub kept_add : (state : RegistryState) (shape' : Shape) (user' : ℕ) → IsRegistry state → IsShape shape' → is_crowded state.book ≡ false
    → (length state.rows ≡ row_limit → ⊥) → IsBook (put_up shape' state.book) → IsRegistry (after_add state shape' user')
kept_add state shape' user' rules' limits' few places book =
    let row : Registered = record { id = state.last + 1; shape = shape'; user = user'; number = next_number state.book } in
    record {
      book = book;
      ids = ids_push state.last state.rows row rules'.ids refl;
      holds = record {
        numbers = λ n some.
            let more = ap (count_by (λ m. m == n)) (alive_put_up state.book shape' few) ∙ count_push (λ m. m == n) (alive_now state.book) (next_number state.book) in
            let rows' = count_push (λ (r : Registered). r.number == n) state.rows row in
            omega (arith, more, rows', rules'.holds.numbers n some);
        each = All-push (IsRowOf (put_up shape' state.book)) state.rows row (rows_kept state.book (Add shape') state.rows rules'.holds.each)
            (record { limits = limits'; added = λ some. shape_put_up state.book shape' });
      };
      few = omega (arith, rules'.few, places, length_push state.rows row);
    }

-- a row that only says something else of its obstacle
pub kept_rewrite : (state : RegistryState) (place : ℕ) (row : Registered) → IsRegistry state → (rewriting : IsRewriting state.rows place row)
    → IsRegistry (record state { rows = set state.rows place row })
kept_rewrite state place row rules' rewriting = record {
  book = rules'.book;
  ids = ids_set state.last state.rows place row rewriting.before rules'.ids rewriting.there rewriting.id;
  holds = record {
    numbers = numbered_set state.book state.book state.rows place row rewriting.before rewriting.there rules'.holds.numbers
        (λ n some. ap (λ k. count_by (λ m. m == n) (alive_now state.book) + one_if (k == n)) rewriting.number);
    each = All-set (IsRowOf state.book) state.rows place row
        (record {
          limits = rewriting.limits;
          added = λ some.
              let own = row_at state.book state.rows place rewriting.before rules'.holds.each rewriting.there in
              subst (λ n. shape_of state.book.history n ≡ Some row.shape) rewriting.number
              (own.added (omega (arith, some, rewriting.number)) ∙ ap Some (rewriting.shape some));
        })
        rules'.holds.each;
  };
  few = rw length-set rules'.few;
}

-- a row of an obstacle that is off is left out
pub drop_is : (state : RegistryState) (place id : ℕ) → IsRegistry state → (off : IsOffAt state.rows place id) → remove state.rows place ≡ without_row id state.rows
drop_is state place id rules' off =
    left_out state.rows place id rules'.ids.rising (slice_get_within state.rows place off.row off.there)
    (λ d. ap (λ (r : Registered). r.id) (at_place state.rows place off.row d off.there) ∙ off.its)

pub kept_drop : (state : RegistryState) (place id : ℕ) → IsRegistry state → (off : IsOffAt state.rows place id) → IsRegistry (dropped id state)
kept_drop state place id rules' off = record {
  book = rules'.book;
  ids = ids_without state.last state.rows id rules'.ids;
  holds = record {
    numbers = λ n some.
        let less = count_remove (λ (r : Registered). r.number == n) state.rows place off.row (slice_get_within state.rows place off.row off.there) in
        let its = ap (λ (r : Registered). one_if (r.number == n)) (at_place state.rows place off.row off.row off.there) in
        let none = ap (λ k. one_if (k == n)) off.off in
        let none' = zero_apart n some in
        let is = ap (λ (rows : List Registered). rows_with_number n rows) (drop_is state place id rules' off) in
        omega (arith, less, its, none, none', is, rules'.holds.numbers n some);
    each = All-filter (λ (row : Registered). not (row.id == id)) (IsRowOf state.book) state.rows rules'.holds.each;
  };
  few =
      let long : length (without_row id state.rows) ≡ count_by (λ (row : Registered). not (row.id == id)) state.rows =
      length-filter (λ (row : Registered). not (row.id == id)) state.rows in
      let least = count_by-le-length (λ (row : Registered). not (row.id == id)) state.rows in
      omega (arith, long, least, rules'.few);
}

-- a row that was written over one is there
pub there_set : (rows : List Registered) (place : ℕ) (row before : Registered) → slice_get rows place ≡ Some before → slice_get (set rows place row) place ≡ Some row
there_set rows place row before there =
    let within = slice_get_within rows place before there in
    slice_get-get_or (set rows place row) place row (omega (arith, within, length-set rows place row)) ∙ ap Some (get_or-set_same rows place row row within)

-- where more can be added, not as many are alive as may be, and there is a place for a row
pub uncrowded : (state : RegistryState) → is_crowded_registry state ≡ false → (is_crowded state.book ≡ false) × (length state.rows ≡ row_limit → ⊥)
uncrowded state no' =
    let parts = or_parts (is_crowded state.book) (length state.rows == row_limit || state.last == 2 ^ 64 - 1) no' in
    let more = or_parts (length state.rows == row_limit) (state.last == 2 ^ 64 - 1) parts.1 in
    (parts.0, λ full. both_ways false refl (sym more.0 ∙ eq-eqb (length state.rows) row_limit full))
