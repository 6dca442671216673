-- A registry is restored.
use Rattle.std.proofs.Common.{◌≡◌, ℕ, ◌+◌, ◌≤◌, ◌<◌, Bool, true, false, List, [], ◌∷◌, ◌++◌, length, get_or, map, Some, None, refl, sym, ap, ◌∙◌, arith}
use Rattle.std.specs.Prelude.{◌==◌, ◌&&◌, ◌-◌, ◌^◌, if◌then◌else◌, max, not}
use Rattle.std.specs.List.{count_by}
use Rattle.std.proofs.lemmas.Bool.{and_parts, both_ways, eq-eqb, eqb-true, leb-true, ne_eqb}
use Rattle.std.proofs.lemmas.List.{get_or-map, length-map}
use Rattle.nav_ground.specs.declared.history.Ground.{Ground}
use Rattle.nav_ground.specs.declared.history.Request.TheVariants.{Add, Remove}
use Rattle.nav_ground.specs.History.{history_limit}
use Rattle.build_queue.specs.BookState.{BookState, IsBook}
use Rattle.registry_format.specs.Saved.{KeepsRules}
use Rattle.registry_format.specs.declared.saved.SavedField.{SavedField}
use Rattle.registry_format.specs.declared.saved.SavedObstacle.{SavedObstacle}
use Rattle.registry_format.specs.declared.saved.SavedRegistry.{SavedRegistry}
use Rattle.obstacle_registry.specs.declared.row.Registered.{Registered}
use Rattle.obstacle_registry.specs.declared.row.Refused.{Refused}
use Rattle.obstacle_registry.specs.declared.row.Refused.TheVariants.{Foreign, HistoryFull, TooMany}
use Rattle.obstacle_registry.specs.Registry.{IsRegistry, RegistryState, alive_now}
use Rattle.obstacle_registry.specs.Restoring.{AreOffRows, AreSwitchedOn, AreToSwitch, all_removed, with_rows}
use Rattle.obstacle_registry.specs.Saving.{IsRestored, additions, after_requests, field_of, has_room_for, is_last_of_both, is_same_field, removals, row_off, row_saved, shapes_at, why_not_restored}
use Rattle.obstacle_registry.proofs.Ranks.{count_none}
use Rattle.obstacle_registry.proofs.Requests.{requests_append, requests_ground, requests_long}

-- rows of obstacles that are off are those of a level of which none is alive
pub kept_off_rows : (book : BookState) (rows : List Registered) (last version : ℕ) → IsBook book → alive_now book ≡ [] → AreOffRows last rows
    → IsRegistry (record { book = book; rows = rows; last = last; version = version })
kept_off_rows book rows last version rules' none off = record {
  book = rules';
  ids = off.ids;
  holds = record {
    numbers = λ n some.
        count_none (λ (row : Registered). row.number == n) rows
        (λ k d within. ne_eqb (get_or rows k d).number n (λ same. omega (arith, same, some, off.off k d within)))
        ∙ sym (ap (count_by (λ alive. alive == n)) none);
    each = λ k d within. record { limits = off.limits k d within; added = λ some. absurd (omega (arith, some, off.off k d within)) };
  };
  few = off.few;
}

-- the rows of what was saved are so
pub off_rows : (saved : SavedRegistry) (last : ℕ) → KeepsRules saved → saved.last ≤ last → AreOffRows last (map row_off saved.rows)
off_rows saved last rules' least = record {
  ids = record {
    rising = λ i j d before within.
        let inside : j < length saved.rows = omega (arith, within, length-map saved.rows row_off) in
        let one = ap (λ (r : Registered). r.id) (get_or-map row_off saved.rows i (row_saved d) d (omega (arith, before, inside))) in
        let other = ap (λ (r : Registered). r.id) (get_or-map row_off saved.rows j (row_saved d) d inside) in
        omega (arith, one, other, rules'.rising i j (row_saved d) before inside);
    given = λ k d within.
        let inside : k < length saved.rows = omega (arith, within, length-map saved.rows row_off) in
        let at = ap (λ (r : Registered). r.id) (get_or-map row_off saved.rows k (row_saved d) d inside) in
        let own = rules'.each k (row_saved d) inside in
        (omega (arith, at, own.from_one), omega (arith, at, own.given, least));
  };
  limits = λ k d within.
      let inside : k < length saved.rows = omega (arith, within, length-map saved.rows row_off) in
      let at = get_or-map row_off saved.rows k (row_saved d) d inside in
      rw at (rules'.each k (row_saved d) inside).limits;
  off = λ k d within.
      let inside : k < length saved.rows = omega (arith, within, length-map saved.rows row_off) in
      ap (λ (r : Registered). r.number) (get_or-map row_off saved.rows k (row_saved d) d inside);
  few = omega (arith, rules'.few, length-map saved.rows row_off);
}

-- nothing is against it
pub record IsFree (state : RegistryState) (saved : SavedRegistry) : Type 0 where
  pub same : is_same_field (field_of state.book.ground.setting) saved.field ≡ true
  pub versions : is_last_of_both state saved ≡ false
  pub room : has_room_for (length saved.on) state.book ≡ true

pub free_of : (state : RegistryState) (saved : SavedRegistry) → why_not_restored state saved ≡ None → IsFree state saved
free_of state saved none = by_case (is_same_field (field_of state.book.ground.setting) saved.field) (is_last_of_both state saved)
    (has_room_for (length saved.on) state.book) refl refl refl none
  where
    some_apart : (why : Refused) → Some why ≡ None → ⊥
    some_apart why wrong = cc

    by_case : (a b c : Bool) → is_same_field (field_of state.book.ground.setting) saved.field ≡ a → is_last_of_both state saved ≡ b
        → has_room_for (length saved.on) state.book ≡ c
        → (if not a then Some Foreign else if b then Some TooMany else if c then None else Some HistoryFull) ≡ None → IsFree state saved
    by_case false b c same versions room is = absurd (some_apart Foreign is)
    by_case true true c same versions room is = absurd (some_apart TooMany is)
    by_case true false false same versions room is = absurd (some_apart HistoryFull is)
    by_case true false true same versions room is = record { same = same; versions = versions; room = room }

pub same_field : (a b : SavedField) → is_same_field a b ≡ true → a ≡ b
same_field a b same =
    let first = and_parts (a.width == b.width) (a.depth == b.depth && (a.tile == b.tile && a.limit == b.limit)) same in
    let second = and_parts (a.depth == b.depth) (a.tile == b.tile && a.limit == b.limit) first.1 in
    let third = and_parts (a.tile == b.tile) (a.limit == b.limit) second.1 in
    let width' = eqb-true a.width b.width first.0 in
    let depth' = eqb-true a.depth b.depth second.0 in
    let tile' = eqb-true a.tile b.tile third.0 in
    let limit' = eqb-true a.limit b.limit third.1 in
    λ i. record { width = width' i; depth = depth' i; tile = tile' i; limit = limit' i }

-- there is room for as many entries as are made
pub room_for : (count : ℕ) (book : BookState) → has_room_for count book ≡ true → length book.history + (length (alive_now book) + count) ≤ history_limit
room_for count book room = leb-true (length book.history + (length (alive_now book) + count)) history_limit room

-- a version more can be shown
pub version_left : (state : RegistryState) (saved : SavedRegistry) → is_last_of_both state saved ≡ false → max state.version saved.version ≡ 2 ^ 64 - 1 → ⊥
version_left state saved none same = both_ways false refl (sym none ∙ eq-eqb (max state.version saved.version) (2 ^ 64 - 1) same)

-- the rows that were saved may be switched on
pub to_switch : (state : RegistryState) (saved : SavedRegistry) (last version : ℕ) → KeepsRules saved → IsFree state saved → alive_now (all_removed state.book) ≡ []
    → AreToSwitch (with_rows state (map row_off saved.rows) last version) saved.on
to_switch state saved last version rules' free none =
    let long = requests_long state.book (removals state.book) in
    let removed = length-map (alive_now state.book) Remove in
    let limit = ap (λ (field : SavedField). field.limit) (same_field (field_of state.book.ground.setting) saved.field free.same) in
    let base = ap (λ (g : Ground). g.setting.limit) (requests_ground state.book (removals state.book)) in
    record {
      none = none;
      off = λ k d within.
          let inside : k < length saved.rows = omega (arith, within, length-map saved.rows row_off) in
          ap (λ (r : Registered). r.number) (get_or-map row_off saved.rows k (row_saved d) d inside);
      there = λ k d within. omega (arith, rules'.there k d within, length-map saved.rows row_off);
      once = rules'.once;
      few = omega (arith, rules'.few_on, limit, base);
      room = omega (arith, long, removed, room_for (length saved.on) state.book free.room);
    }

-- rows that are off say what was saved of them
off_again : (rows : List SavedObstacle) → map row_saved (map row_off rows) ≡ rows
off_again [] = refl
off_again (row ∷ rows) = ap (λ rest. row ∷ rest) (off_again rows)

pub restored : (saved : SavedRegistry) (old middle new : RegistryState) (last version : ℕ) → IsFree old saved → last ≡ max old.last saved.last
    → version ≡ max old.version saved.version + 1 → middle ≡ with_rows old (map row_off saved.rows) last version → AreSwitchedOn saved.on middle new
    → IsRestored saved old new
restored saved old middle new last version free greater more made on =
    let rows = ap (λ (s : RegistryState). map row_saved s.rows) made ∙ off_again saved.rows in
    let book = on.book ∙ (λ i. after_requests (made i).book (map Add (shapes_at (rows i) saved.on))) in
    record {
      book = book ∙ sym (requests_append old.book (removals old.book) (additions saved));
      again =
          let base = ap (λ (b : BookState). b.ground) (book ∙ sym (requests_append old.book (removals old.book) (additions saved)))
          ∙ requests_ground old.book (removals old.book ++ additions saved) in
          let field' = ap (λ (g : Ground). field_of g.setting) base ∙ same_field (field_of old.book.ground.setting) saved.field free.same in
          let rows' = on.rows ∙ rows in
          let last' = on.last ∙ ap (λ (s : RegistryState). s.last) made ∙ greater in
          let version' = on.version ∙ ap (λ (s : RegistryState). s.version) made ∙ more in
          λ i. record { field = field' i; last = last' i; version = version' i; rows = rows' i; on = on.on i };
    }
