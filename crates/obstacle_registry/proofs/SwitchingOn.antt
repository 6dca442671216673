-- The rows at some places are switched on, one after the other.
use Rattle.std.proofs.Common.{◌≡◌, ℕ, zero, suc, ◌+◌, ◌≤◌, ◌<◌, false, List, [], ◌∷◌, ◌++◌, length, get_or, map, set, take, Option, Some, refl, sym, ap, ◌∙◌, subst, arith, ⊎_elim}
use Rattle.std.specs.Prelude.{HoldsAt, IfSome, filter_map, option_map, slice_get}
use Rattle.std.specs.List.{cons_option, range_with_len}
use Rattle.std.proofs.lemmas.Bool.{cases_eq, ne_eqb}
use Rattle.std.proofs.lemmas.List.{ext_get_or, get_or-map, get_or-set_other, get_or-set_same, length-map, length_push, map-append, map-id, take_all, take_more}
use Rattle.std.proofs.lemmas.List.Elements.{filter_map-append}
use Rattle.std.proofs.lemmas.List.FromFn.{get_or-range_with_len, length-range_with_len, map-range_with_len_more}
use Rattle.std.proofs.lemmas.Option.{slice_get-get_or}
use Rattle.nav_ground.specs.declared.history.Request.TheVariants.{Add}
use Rattle.nav_ground.specs.declared.history.Ground.{Ground}
use Rattle.nav_ground.specs.History.{history_limit}
use Rattle.nav_ground.proofs.AliveLaws.{alive_after-rising}
use Rattle.build_queue.specs.Steps.{next_reply}
use Rattle.registry_format.specs.declared.saved.SavedObstacle.{SavedObstacle}
use Rattle.obstacle_registry.specs.declared.row.Registered.{Registered}
use Rattle.obstacle_registry.specs.Changes.{next_number, put_up, switched_on}
use Rattle.obstacle_registry.specs.Registry.{IsRegistry, RegistryState, alive_now, is_crowded}
use Rattle.obstacle_registry.specs.Restoring.{AreSwitchedOn, AreToSwitch}
use Rattle.obstacle_registry.specs.Saving.{after_requests, place_of, row_saved, shapes_at}
use Rattle.obstacle_registry.proofs.Entries.{alive_put_up}
use Rattle.obstacle_registry.proofs.Placing.{few_rows, no_row, placed_at}
use Rattle.obstacle_registry.proofs.Requests.{requests_push}
use Rattle.obstacle_registry.proofs.Switching.{set_is}

-- so many of the rows at some places were switched on
pub record AreOnSoFar (places : List ℕ) (count : ℕ) (old new : RegistryState) : Type 0 where
  pub book : new.book ≡ after_requests old.book (map Add (shapes_at (map row_saved old.rows) (take count places)))
  pub alive : alive_now new.book ≡ range_with_len (length old.book.history + 1) count
  pub rows : map row_saved new.rows ≡ map row_saved old.rows
  pub on : (j : ℕ) (d : Registered) → j < count → (get_or new.rows (get_or places j 0) d).number ≡ length old.book.history + 1 + j
  pub off : (j : ℕ) (d : Registered) → count ≤ j → j < length places → (get_or new.rows (get_or places j 0) d).number ≡ 0
  pub long : length new.book.history ≡ length old.book.history + count
  pub base : new.book.ground ≡ old.book.ground
  pub last : new.last ≡ old.last
  pub version : new.version ≡ old.version
  pub rules : IsRegistry new

-- none yet
pub none_on : (places : List ℕ) (state : RegistryState) → IsRegistry state → AreToSwitch state places → AreOnSoFar places 0 state state
none_on places state is to = record {
  book = refl;
  alive = to.none;
  rows = refl;
  on = λ j d below. absurd (omega (arith, below));
  off = λ j d past within. to.off (get_or places j 0) d (to.there j 0 within);
  long = omega arith;
  base = refl;
  last = refl;
  version = refl;
  rules = is;
}

-- a place that is there
pub place_there : (places : List ℕ) (count : ℕ) (old new : RegistryState) (place : ℕ) → AreToSwitch old places → AreOnSoFar places count old new
    → count < length places → place ≡ get_or places count 0 → place < length new.rows
place_there places count old new place to far there is =
    let same = ap (λ (rows : List SavedObstacle). length rows) far.rows in
    omega (arith, is, to.there count 0 there, same, length-map new.rows row_saved, length-map old.rows row_saved)

-- what the next one wants: its row is off, and there is room
pub row_off_at : (places : List ℕ) (count : ℕ) (old new : RegistryState) (place : ℕ) → AreOnSoFar places count old new
    → count < length places → place ≡ get_or places count 0 → HoldsAt (λ (row : Registered). row.number ≡ 0) new.rows place
row_off_at places count old new place far there is d =
    ap (λ n. (get_or new.rows n d).number) is ∙ far.off count d (omega arith) there

pub few_so_far : (places : List ℕ) (count : ℕ) (old new : RegistryState) → AreToSwitch old places → AreOnSoFar places count old new
    → count < length places → is_crowded new.book ≡ false
few_so_far places count old new to far there =
    let long = ap (λ (ns : List ℕ). length ns) far.alive in
    let limit = ap (λ (g : Ground). g.setting.limit) far.base in
    ne_eqb (length (alive_now new.book)) new.book.ground.setting.limit
    (λ same. omega (arith, same, long, length-range_with_len (length old.book.history + 1) count, limit, to.few, there))

pub room_so_far : (places : List ℕ) (count : ℕ) (old new : RegistryState) → AreToSwitch old places → AreOnSoFar places count old new
    → count < length places → length new.book.history < history_limit
room_so_far places count old new to far there = omega (arith, far.long, to.room, there)

-- a row with a number more says the same of its obstacle
map_set_same : {A B : Type 0} (f : A → B) (xs : List A) (i : ℕ) (y d : A) → i < length xs → f y ≡ f (get_or xs i d) → map f (set xs i y) ≡ map f xs
map_set_same f [] i y d there same = refl
map_set_same f (x ∷ xs) zero y d there same = ap (λ z. z ∷ map f xs) same
map_set_same f (x ∷ xs) (suc i) y d there same = ap (λ zs. f x ∷ zs) (map_set_same f xs i y d (omega (arith, there)) same)

-- one number more
range_more : (first count : ℕ) → range_with_len first (count + 1) ≡ range_with_len first count ++ (first + count) ∷ []
range_more first count =
    sym (map-id (range_with_len first (count + 1))) ∙ map-range_with_len_more (λ (n : ℕ). n) first count (first + count) refl
    ∙ ap (λ ns. ns ++ (first + count) ∷ []) (map-id (range_with_len first count))

-- the shape of the row at a place
shape_at : (rows : List SavedObstacle) (place : ℕ) (row : SavedObstacle) → slice_get rows place ≡ Some row
    → filter_map (λ p. option_map (λ (r : SavedObstacle). r.shape) (slice_get rows p)) (place ∷ []) ≡ row.shape ∷ []
shape_at rows place row there = ap (λ o. cons_option (option_map (λ (r : SavedObstacle). r.shape) o) []) there

shapes_more : (rows : List SavedObstacle) (places : List ℕ) (count : ℕ) (row : SavedObstacle) → count < length places
    → slice_get rows (get_or places count 0) ≡ Some row → map Add (shapes_at rows (take (count + 1) places)) ≡ map Add (shapes_at rows (take count places)) ++ Add row.shape ∷ []
shapes_more rows places count row there is =
    ap (λ ps. map Add (shapes_at rows ps)) (take_more places count 0 there)
    ∙ ap (map Add) (filter_map-append (λ p. option_map (λ (r : SavedObstacle). r.shape) (slice_get rows p)) (take count places) (get_or places count 0 ∷ [])
    ∙ ap (λ ss. shapes_at rows (take count places) ++ ss) (shape_at rows (get_or places count 0) row is))
    ∙ map-append Add (shapes_at rows (take count places)) (row.shape ∷ [])

-- a row as it is saved
saved_at : (old new : List Registered) (place : ℕ) → map row_saved new ≡ map row_saved old → place < length new
    → slice_get (map row_saved old) place ≡ Some (row_saved (get_or new place no_row))
saved_at old new place same there =
    ap (λ (rows : List SavedObstacle). slice_get rows place) (sym same)
    ∙ slice_get-get_or (map row_saved new) place (row_saved no_row) (omega (arith, there, length-map new row_saved))
    ∙ ap Some (get_or-map row_saved new place no_row (row_saved no_row) there)

-- the row that was there is the one that is meant
switched_is : (new after : RegistryState) (place : ℕ) → place < length new.rows → IfSome (slice_get new.rows place) (λ row. after ≡ switched_on new row)
    → after ≡ switched_on new (get_or new.rows place no_row)
switched_is new after place there did =
    subst (λ (o : Option Registered). IfSome o (λ row. after ≡ switched_on new row)) (slice_get-get_or new.rows place no_row there) did

-- one more
pub one_on : (places : List ℕ) (count : ℕ) (old new after : RegistryState) (place : ℕ) → AreToSwitch old places → AreOnSoFar places count old new
    → count < length places → place ≡ get_or places count 0 → IfSome (slice_get new.rows place) (λ row. after ≡ switched_on new row)
    → IsRegistry after → AreOnSoFar places (count + 1) old after
one_on places count old new after place to far there is did rules' = record {
  book =
      ap (λ (s : RegistryState). s.book) made ∙ ap (put_up row.shape) far.book
      ∙ sym (requests_push old.book (map Add (shapes_at (map row_saved old.rows) (take count places))) (Add row.shape))
      ∙ ap (after_requests old.book) (sym (shapes_more (map row_saved old.rows) places count (row_saved row) there
      (ap (slice_get (map row_saved old.rows)) (sym is) ∙ saved_at old.rows new.rows place far.rows inside)));
  alive =
      ap (λ (s : RegistryState). alive_now s.book) made ∙ alive_put_up new.book row.shape (few_so_far places count old new to far there)
      ∙ ap (λ ns. ns ++ next_number new.book ∷ []) far.alive
      ∙ ap (λ n. range_with_len (length old.book.history + 1) count ++ n ∷ []) next
      ∙ sym (range_more (length old.book.history + 1) count);
  rows = ap (map row_saved) set_rows ∙ map_set_same row_saved new.rows place numbered no_row inside refl ∙ far.rows;
  on = λ j d below.
      ⊎_elim
      (λ last'.
      ap (λ (rows : List Registered). (get_or rows (get_or places j 0) d).number) set_rows
      ∙ ap (λ n. (get_or (set new.rows place numbered) n d).number) (ap (λ n. get_or places n 0) last' ∙ sym is)
      ∙ ap (λ (r : Registered). r.number) (get_or-set_same new.rows place numbered d inside)
      ∙ next ∙ ap (λ n. length old.book.history + 1 + n) (sym last'))
      (λ apart.
      let earlier : j < count = omega (arith, below, apart) in
      ap (λ (rows : List Registered). (get_or rows (get_or places j 0) d).number) set_rows
      ∙ ap (λ (r : Registered). r.number) (get_or-set_other new.rows place (get_or places j 0) numbered d
      (λ same. to.once j count 0 earlier there (same ∙ is)))
      ∙ far.on j d earlier)
      (cases_eq j count);
  off = λ j d past within.
      let later : count < j = omega (arith, past) in
      ap (λ (rows : List Registered). (get_or rows (get_or places j 0) d).number) set_rows
      ∙ ap (λ (r : Registered). r.number) (get_or-set_other new.rows place (get_or places j 0) numbered d
      (λ same. to.once count j 0 later within (sym is ∙ sym same)))
      ∙ far.off j d (omega (arith, later)) within;
  long =
      let more = length_push new.book.history (record { lane = 0; request = Add row.shape; reply = next_reply new.book (Add row.shape) }) in
      omega (arith, far.long, more, ap (λ (s : RegistryState). length s.book.history) made);
  base = ap (λ (s : RegistryState). s.book.ground) made ∙ far.base;
  last = ap (λ (s : RegistryState). s.last) made ∙ far.last;
  version = ap (λ (s : RegistryState). s.version) made ∙ far.version;
  rules = rules';
}
  where
    inside : place < length new.rows
    inside = place_there places count old new place to far there is

    row : Registered
    row = get_or new.rows place no_row

    numbered : Registered
    numbered = record row { number = next_number new.book }

    made : after ≡ switched_on new row
    made = switched_is new after place inside did

    set_rows : after.rows ≡ set new.rows place numbered
    set_rows = ap (λ (s : RegistryState). s.rows) made
        ∙ sym (set_is new place numbered row far.rules (slice_get-get_or new.rows place no_row inside) refl)

    next : next_number new.book ≡ length old.book.history + 1 + count
    next = omega (arith, far.long)

-- all of them
pub all_on : (places : List ℕ) (count : ℕ) (old new : RegistryState) → AreToSwitch old places → AreOnSoFar places count old new
    → count ≤ length places → length places ≤ count → AreSwitchedOn places old new
all_on places count old new to far few most = record {
  book = far.book ∙ ap (λ ps. after_requests old.book (map Add (shapes_at (map row_saved old.rows) ps))) (take_all count places most);
  rows = far.rows;
  on =
      ext_get_or 0 (map (place_of new.rows) (alive_now new.book)) places
      (length-map (alive_now new.book) (place_of new.rows) ∙ alive_long ∙ omega (arith, few, most))
      (λ j inside.
      let within : j < length (alive_now new.book) = omega (arith, inside, length-map (alive_now new.book) (place_of new.rows)) in
      let below : j < count = omega (arith, within, alive_long) in
      get_or-map (place_of new.rows) (alive_now new.book) j 0 0 within
      ∙ ap (place_of new.rows) (number_at j below)
      ∙ placed_at new.rows (get_or places j 0) (length old.book.history + 1 + j) no_row
      (few_rows (alive_now new.book) new.rows (length old.book.history + 1 + j) far.rules.holds.numbers
      (alive_after-rising new.book.history (length new.book.history)) (omega arith))
      (there_at j (omega (arith, below, few))) (far.on j no_row below));
  last = far.last;
  version = far.version;
}
  where
    alive_long : length (alive_now new.book) ≡ count
    alive_long = ap (λ (ns : List ℕ). length ns) far.alive ∙ length-range_with_len (length old.book.history + 1) count

    number_at : (j : ℕ) → j < count → get_or (alive_now new.book) j 0 ≡ length old.book.history + 1 + j
    number_at j below = ap (λ (ns : List ℕ). get_or ns j 0) far.alive ∙ get_or-range_with_len (length old.book.history + 1) count j 0 below

    there_at : (j : ℕ) → j < length places → get_or places j 0 < length new.rows
    there_at j within =
        let same = ap (λ (rows : List SavedObstacle). length rows) far.rows in
        omega (arith, to.there j 0 within, same, length-map new.rows row_saved, length-map old.rows row_saved)
