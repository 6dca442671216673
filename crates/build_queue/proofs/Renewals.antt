-- A history that is begun again, place by place.
use Rattle.std.proofs.Common.{◌≡◌, ◌≢◌, ℕ, zero, suc, ◌+◌, ◌-◌, ◌<◌, Bool, List, [], ◌∷◌, ◌++◌, length, get_or, take, set, Some, refl, sym, ap, ◌∙◌, subst, ⊎_elim, arith}
use Rattle.std.specs.Prelude.{◌≤◌, All, if◌then◌else◌}
use Rattle.std.specs.List.{slice_get, range_with_len}
use Rattle.std.specs.Option.{option_map}
use Rattle.std.proofs.lemmas.Bool.{cases_eq, ne_eqb}
use Rattle.std.proofs.lemmas.List.{ext_get_or, get_or-map, get_or-set_other, get_or-set_same, get_or_default, length-map, length-set, length-take-le, take_all, take_more}
use Rattle.std.proofs.lemmas.List.Elements.{All-filter, All-nil}
use Rattle.std.proofs.lemmas.List.FromFn.{get_or-range_with_len, length-range_with_len}
use Rattle.std.proofs.lemmas.Option.{get_or_from_slice_get, none-some, option_and_then_some, same_Some, slice_get-get_or, slice_get_within}
use Rattle.nav_ground.specs.declared.history.Entry.{Entry}
use Rattle.nav_ground.specs.declared.history.Reply.TheVariants.{Added, Full, Removed}
use Rattle.nav_ground.specs.declared.history.Request.{Request}
use Rattle.nav_ground.specs.declared.history.Request.TheVariants.{Add, Remove}
use Rattle.nav_ground.specs.declared.shape.Shape.{Shape}
use Rattle.nav_ground.specs.declared.shape.Shape.TheVariants.{Block}
use Rattle.nav_ground.specs.History.{IsHistory, IsRequest, alive_after, entry_at, is_alive, shape_in, shape_of}
use Rattle.nav_ground.proofs.Selections.{slice_get-take}
use Rattle.build_queue.specs.declared.live.Live.{Live}
use Rattle.build_queue.specs.LiveTable.{IsLiveTable, numbers_of, rows_after, shapes_in}
use Rattle.build_queue.specs.Renewal.{AddsAgain, under}
use Rattle.build_queue.proofs.Histories.{request_kept, shape_limits}
use Rattle.build_queue.proofs.Tables.{table_rises}

-- the history and its table with the first k places begun again, the others as they were
pub record IsBegun (history entries : List Entry) (rows live : List Live) (k : ℕ) : Type 0 where
  pub each : length live ≡ length rows
  pub entries_each : length entries ≡ length history
  pub rows_new : (j : ℕ) (d : Live) → j < k → get_or live j d ≡ record (get_or rows j d) { number = j + 1 }
  pub rows_left : (j : ℕ) (d : Live) → k ≤ j → get_or live j d ≡ get_or rows j d
  pub new : (j : ℕ) (d : Live) (e : Entry) → j < k → get_or entries j e ≡ under (j + 1) (get_or history ((get_or rows j d).number - 1) e)
  pub left : (j : ℕ) (e : Entry) → k ≤ j → get_or entries j e ≡ get_or history j e

pub begun_none : (history : List Entry) (rows : List Live) → IsBegun history history rows rows 0
begun_none history rows = record {
  each = refl;
  entries_each = refl;
  rows_new = λ j d below. absurd (omega (arith, below));
  rows_left = λ j d past. refl;
  new = λ j d e below. absurd (omega (arith, below));
  left = λ j e past. refl;
}

-- the number of a row is beyond its place, and that of an entry
pub row_number : (history : List Entry) (rows : List Live) → IsLiveTable history rows → (j : ℕ) (d : Live) → j < length rows
    → (j + 1 ≤ (get_or rows j d).number) × ((get_or rows j d).number ≤ length history)
row_number history rows table j d within = (least j within, (between j within).1)
  where
    In : ℕ → Type 0
    In n = (1 ≤ n) × (n ≤ length history)

    all_in : All In (alive_after history (length history))
    all_in =
        All-filter (is_alive history (length history)) In (range_with_len 1 (length history))
        (λ i e there.
        let below : i < length history = rw length-range_with_len at there in
        rw (get_or-range_with_len 1 (length history) i e below) (omega arith, omega (arith, below)))

    between : (i : ℕ) → i < length rows → In (get_or rows i d).number
    between i there =
        let among : All In (numbers_of rows) = rw table.numbers all_in in
        rw (get_or-map (λ (row : Live). row.number) rows i d d.number there) at (among i d.number (rw length-map there))

    least : (i : ℕ) → i < length rows → i + 1 ≤ (get_or rows i d).number
    least zero there = let first = between zero there in omega (arith, first.0)
    least (suc i) there =
        let before = least i (omega (arith, there)) in
        let rises = table_rises history rows table i (suc i) d (omega arith) there in
        omega (arith, before, rises)

-- so there are no more rows than entries
pub rows_fit : (history : List Entry) (rows : List Live) → IsLiveTable history rows → length rows ≤ length history
rows_fit history [] table = omega arith
rows_fit history (row ∷ rows) table =
    let last = row_number history (row ∷ rows) table (length rows) row (omega arith) in
    omega (arith, last.0, last.1)

-- a row and an entry to read past the end of lists
no_row : Live
no_row = record { number = 0; shape = Block 0 0 0 0 0 0 }

no_entry : Entry
no_entry = record { lane = 0; request = Remove 0; reply = Removed }

-- one place more
pub begun_more : (history entries : List Entry) (rows live : List Live) (k : ℕ) (row : Live) (entry : Entry) → IsBegun history entries rows live k
    → k < length rows → k < length history → row ≡ get_or live k row → k + 1 ≤ row.number → entry ≡ get_or entries (row.number - 1) entry
    → row.number ≤ length history
    → IsBegun history (set entries k (under (k + 1) entry)) rows (set live k (record row { number = k + 1 })) (k + 1)
begun_more history entries rows live k row entry done within room row_is beyond entry_is there = record {
  each = length-set live k (record row { number = k + 1 }) ∙ done.each;
  entries_each = length-set entries k (under (k + 1) entry) ∙ done.entries_each;
  rows_new = λ j d below. ⊎_elim
      (λ same.
      subst (λ n. get_or (set live k (record row { number = k + 1 })) n d ≡ record (get_or rows n d) { number = n + 1 }) (sym same)
      (get_or-set_same live k (record row { number = k + 1 }) d (omega (arith, within, done.each)) ∙ ap (λ (r : Live). record r { number = k + 1 }) (row_at d)))
      (λ apart. get_or-set_other live k j (record row { number = k + 1 }) d apart ∙ done.rows_new j d (omega (arith, below, apart)))
      (cases_eq j k);
  rows_left = λ j d past. get_or-set_other live k j (record row { number = k + 1 }) d (λ same. omega (arith, same, past)) ∙ done.rows_left j d (omega (arith, past));
  new = λ j d e below. ⊎_elim
      (λ same.
      subst (λ n. get_or (set entries k (under (k + 1) entry)) n e ≡ under (n + 1) (get_or history ((get_or rows n d).number - 1) e)) (sym same)
      (get_or-set_same entries k (under (k + 1) entry) e (omega (arith, room, done.entries_each))
      ∙ ap (under (k + 1)) (entry_at_number e ∙ ap (λ (r : Live). get_or history (r.number - 1) e) (row_at d))))
      (λ apart. get_or-set_other entries k j (under (k + 1) entry) e apart ∙ done.new j d e (omega (arith, below, apart)))
      (cases_eq j k);
  left = λ j e past. get_or-set_other entries k j (under (k + 1) entry) e (λ same. omega (arith, same, past)) ∙ done.left j e (omega (arith, past));
}
  where
    row_at : (d : Live) → row ≡ get_or rows k d
    row_at d = row_is ∙ done.rows_left k row (omega arith) ∙ get_or_default rows k row d within

    entry_at_number : (e : Entry) → entry ≡ get_or history (row.number - 1) e
    entry_at_number e =
        entry_is ∙ done.left (row.number - 1) entry (omega (arith, beyond)) ∙ get_or_default history (row.number - 1) entry e (omega (arith, beyond, there))

-- the shapes of the rows stay
pub shapes_begun : (history entries : List Entry) (rows live : List Live) → IsBegun history entries rows live (length rows) → shapes_in live ≡ shapes_in rows
shapes_begun history entries rows [] done = let none = done.each in by_rows rows none
  where
    by_rows : (some : List Live) → 0 ≡ length some → [] ≡ shapes_in some
    by_rows [] none = refl
    by_rows (row ∷ some) none = absurd (omega (arith, none))
shapes_begun history entries rows (first ∷ live) done =
    ext_get_or first.shape (shapes_in (first ∷ live)) (shapes_in rows)
    (length-map (first ∷ live) (λ (row : Live). row.shape) ∙ done.each ∙ sym (length-map rows (λ (row : Live). row.shape)))
    (λ i there.
    let within : i < length (first ∷ live) = rw length-map at there in
    get_or-map (λ (row : Live). row.shape) (first ∷ live) i first first.shape within
    ∙ ap (λ (row : Live). row.shape) (done.rows_new i first (omega (arith, within, done.each)))
    ∙ sym (get_or-map (λ (row : Live). row.shape) rows i first first.shape (omega (arith, within, done.each))))

-- the entry with a number whose obstacle has a shape asked to add that shape
request_from : (request : Request) (shape : Shape) → shape_in request ≡ Some shape → request ≡ Add shape
request_from (Add other) shape here = ap Add (same_Some other shape here)
request_from (Remove number) shape here = absurd (none-some shape here)

added_entry : (history : List Entry) (number : ℕ) (shape : Shape) (e : Entry) → 1 ≤ number → shape_of history number ≡ Some shape
    → (get_or history (number - 1) e).request ≡ Add shape
added_entry history zero shape e some found = absurd (omega (arith, some))
added_entry history (suc place) shape e some found =
    let less : suc place - 1 ≡ place = omega arith in
    rw less
    (option_and_then_some (λ (entry : Entry). shape_in entry.request) (slice_get history place) shape found
    (λ entry there here. ap (λ (x : Entry). x.request) (get_or_from_slice_get history place entry e there) ∙ request_from entry.request shape here))

module _ (limit : ℕ) (history entries : List Entry) (rows live : List Live) (rules : IsHistory limit history) (table : IsLiveTable history rows)
    (few : length rows ≤ limit) (done : IsBegun history entries rows live (length rows)) where
  d : Live
  d = no_row

  e : Entry
  e = no_entry

  -- the first k places are a history with its table
  pub grown : (k : ℕ) → k ≤ length rows → IsHistory limit (take k entries) × IsLiveTable (take k entries) (take k live)
  grown zero within = (
    record {
      few = omega arith;
      requests = All-nil (λ (entry : Entry). IsRequest entry.request);
      replies = λ k entry there. absurd (none-some entry there);
    },
    record {
      numbers = refl;
      shapes = All-nil (λ (row : Live). shape_of [] row.number ≡ Some row.shape);
    },
  )
  grown (suc k) within =
      let below : k < length rows = omega (arith, within) in
      let before = grown k (omega (arith, within)) in
      let row : Live = get_or rows k d in
      let old : Entry = get_or history (row.number - 1) e in
      let number = row_number history rows table k d below in
      let asked : old.request ≡ Add row.shape = added_entry history row.number row.shape e (omega (arith, number.0)) (table.shapes k d below) in
      let entry : get_or entries k e ≡ record { lane = old.lane; request = Add row.shape; reply = Added (k + 1) } =
      done.new k d e below ∙ ap (λ (r : Request). record { lane = old.lane; request = r; reply = Added (k + 1) }) asked in
      let row_is : get_or live k d ≡ record { number = k + 1; shape = row.shape } = done.rows_new k d below in
      let count : length (take k entries) ≡ k = length-take-le k entries (omega (arith, number.0, number.1, done.entries_each)) in
      let row_count : length (take k live) ≡ k = length-take-le k live (omega (arith, below, done.each)) in
      let not_full : length (take k live) ≢ limit = λ full. omega (arith, full, row_count, below, few) in
      let step = request_kept limit old.lane (k + 1) (take k entries) (take k live) (Add row.shape) (Added (k + 1)) before.0 before.1
      (omega (arith, count, number.0, number.1, rules.few)) (shape_limits history row.number row.shape rules.requests (table.shapes k d below))
      (omega (arith, count)) (sym (ap (λ (b : Bool). if b then Full limit else Added (k + 1)) (ne_eqb (length (take k live)) limit not_full))) in
      let more : k + 1 ≡ suc k = omega arith in
      let entries_more : take (k + 1) entries ≡ take k entries ++ record { lane = old.lane; request = Add row.shape; reply = Added (k + 1) } ∷ [] =
      take_more entries k e (omega (arith, number.0, number.1, done.entries_each)) ∙ ap (λ (x : Entry). take k entries ++ x ∷ []) entry in
      let live_more : take (k + 1) live ≡ rows_after limit (k + 1) (take k live) (Add row.shape) =
      take_more live k d (omega (arith, below, done.each)) ∙ ap (λ (x : Live). take k live ++ x ∷ []) row_is
      ∙ sym (ap (λ (b : Bool). if b then take k live else take k live ++ record { number = k + 1; shape = row.shape } ∷ []) (ne_eqb (length (take k live)) limit not_full)) in
      subst (λ n. IsHistory limit (take n entries) × IsLiveTable (take n entries) (take n live)) more
      (rw (entries_more, live_more) (step.1, step.2))

  pub begun_history : IsHistory limit (take (length rows) entries)
  begun_history = (grown (length rows) (omega arith)).0

  pub begun_table : IsLiveTable (take (length rows) entries) live
  begun_table =
      subst (IsLiveTable (take (length rows) entries)) (take_all (length rows) live (omega (arith, done.each))) (grown (length rows) (omega arith)).1

-- the first places add the obstacles of the rows again
pub begun_again : (history entries : List Entry) (rows live : List Live) → IsLiveTable history rows → IsBegun history entries rows live (length rows)
    → AddsAgain history (numbers_of rows) (take (length rows) entries)
begun_again history entries rows live table done = record {
  each = length-take-le (length rows) entries (omega (arith, fewer, done.entries_each)) ∙ sym (length-map rows (λ (row : Live). row.number));
  again = again;
}
  where
    d : Live
    d = no_row

    e : Entry
    e = no_entry

    fewer : length rows ≤ length history
    fewer = rows_fit history rows table

    found : (number : ℕ) → 1 ≤ number → number ≤ length history → entry_at history number ≡ Some (get_or history (number - 1) e)
    found zero some there = absurd (omega (arith, some))
    found (suc p) some there =
        let less : suc p - 1 ≡ p = omega arith in
        rw less (slice_get-get_or history p e (omega (arith, there)))

    again : (place number : ℕ) → slice_get (numbers_of rows) place ≡ Some number
        → slice_get (take (length rows) entries) place ≡ option_map (under (place + 1)) (entry_at history number)
    again place number at =
        let within : place < length rows = rw length-map at (slice_get_within (numbers_of rows) place number at) in
        let is : (get_or rows place d).number ≡ number =
        sym (get_or-map (λ (row : Live). row.number) rows place d d.number within) ∙ get_or_from_slice_get (numbers_of rows) place number d.number at in
        let bounds = row_number history rows table place d within in
        slice_get-take (length rows) entries place within
        ∙ slice_get-get_or entries place e (omega (arith, within, fewer, done.entries_each))
        ∙ ap Some (done.new place d e within ∙ ap (λ n. under (place + 1) (get_or history (n - 1) e)) is)
        ∙ sym (ap (option_map (under (place + 1))) (found number (omega (arith, bounds.0, is)) (omega (arith, bounds.1, is))))

-- a list that adds again the obstacles with some numbers is the only one
pub only_adds : (before : List Entry) (numbers : List ℕ) (a b : List Entry) → AddsAgain before numbers a → AddsAgain before numbers b → a ≡ b
only_adds before numbers a b adds others =
    ext_get_or no_entry a b (adds.each ∙ sym others.each) (λ place there.
    let at : slice_get numbers place ≡ Some (get_or numbers place 0) = slice_get-get_or numbers place 0 (omega (arith, there, adds.each)) in
    same_Some (get_or a place no_entry) (get_or b place no_entry)
    (sym (slice_get-get_or a place no_entry there) ∙ adds.again place (get_or numbers place 0) at ∙ sym (others.again place (get_or numbers place 0) at)
    ∙ slice_get-get_or b place no_entry (omega (arith, there, adds.each, others.each))))
