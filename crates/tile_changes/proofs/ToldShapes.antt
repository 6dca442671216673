-- The shapes that entries tell are those of the obstacles that are there after exactly one of two lengths.
use Rattle.std.proofs.Common.{◌≡◌, ℕ, zero, suc, ◌+◌, ◌-◌, ◌<◌, ◌≤◌, Bool, true, false, not, ◌&&◌, ◌||◌, List, [], ◌∷◌, ◌++◌, length, take, drop, get_or, Option, Some, None, refl, sym, ap, ◌∙◌, subst, arith, inl, inr, replicate, nat_le}
use Rattle.std.specs.List.{slice_get, list_any}
use Rattle.std.specs.Prelude.{Contains, if◌then◌else◌, ◌==◌, ◌↔◌, option_and_then}
use Rattle.std.proofs.lemmas.Bool.{and_parts, and_from, both_ways, eqb-true, eq-eqb, le-leb, leb-true, cases_lt, cases_eq}
use Rattle.std.proofs.lemmas.List.{get_or-replicate, length-replicate, drop_all, length-take-le, length-drop, get_or_default, get_or-drop, get_or-take}
use Rattle.std.proofs.lemmas.List.Elements.{Contains-push, Contains-push_cases, Contains-append_left}
use Rattle.std.proofs.lemmas.List.Folds.{list_any_at}
use Rattle.std.specs.Option.{option_map_or}
use Rattle.std.proofs.lemmas.Option.{none-some, same_Some, option_and_then_some, slice_get_read, get_or_from_slice_get}
use Rattle.nav_ground.specs.declared.history.Entry.{Entry}
use Rattle.nav_ground.specs.declared.history.Reply.{Reply}
use Rattle.nav_ground.specs.declared.history.Request.{Request}
use Rattle.nav_ground.specs.declared.history.Request.TheVariants.{Add, Remove}
use Rattle.nav_ground.specs.declared.shape.Shape.{Shape}
use Rattle.nav_ground.specs.History.{is_added, is_alive, is_removal_of, is_removed, shape_in, shape_of}
use Rattle.nav_ground.proofs.Selections.{found, slice_get-take}
use Rattle.tile_changes.specs.Changes.{IsThereOnce}
use Rattle.tile_changes.specs.Telling.{RemovesWhatIsThere, told_by}
use Rattle.tile_changes.proofs.ToldEntries.{AreLaterRemovals, AreTold, IsToldFrom, is_removed_from, told_at}
use Rattle.tile_changes.proofs.AliveBetween.{alive_before, alive_between, not_yet, removed_more}

-- before the first entry is looked at
pub none_marked : (history : List Entry) (a b : ℕ) (marks : List Bool) → b ≤ length history → marks ≡ replicate (b - a) false
    → AreLaterRemovals history a b b marks
none_marked history a b marks within none = record {
  count = ap length none ∙ length-replicate (b - a) false;
  are = λ i there.
      ap (λ (ms : List Bool). get_or ms i false) none ∙ get_or-replicate (b - a) i false false there
      ∙ sym (ap (list_any (is_removal_of (a + i + 1))) (drop_all b (take b history) (omega (arith, length-take-le b history within))));
}

pub none_told : (history : List Entry) (a b : ℕ) (shapes : List Shape) → shapes ≡ [] → AreTold history a b b shapes
none_told history a b shapes none = record {
  each = λ shape held. absurd (nowhere shape (subst (λ (list : List Shape). Contains list shape) none held));
  all = λ shape told. absurd (omega (arith, told.least, told.most));
}
  where
    nowhere : (shape : Shape) → Contains [] shape → ⊥
    nowhere shape held = omega (arith, held.1)

-- one entry more, from the last back
pub marked_more : (history : List Entry) (a b place : ℕ) (entry : Entry) (marks new : List Bool) → place < b → b ≤ length history
    → slice_get history place ≡ Some entry → AreLaterRemovals history a b (place + 1) marks → length new ≡ length marks
    → ((i : ℕ) → i < length marks → get_or new i false ≡ (is_removal_of (a + i + 1) entry || get_or marks i false))
    → AreLaterRemovals history a b place new
marked_more history a b place entry marks new there within at before count written = record {
  count = count ∙ before.count;
  are = λ i inside.
      written i (omega (arith, inside, before.count))
      ∙ ap (λ c. is_removal_of (a + i + 1) entry || c) (before.are i inside)
      ∙ sym (removed_more history b place (a + i + 1) entry there within at);
}

module _ (history : List Entry) (a b place : ℕ) (entry : Entry) (marks : List Bool) (order : a ≤ place) (there : place < b) (within : b ≤ length history)
    (at : slice_get history place ≡ Some entry) (before : AreLaterRemovals history a b (place + 1) marks) where
  -- what the code tells at an entry
  tells : (later : Bool) → later ≡ get_or marks (place - a) later → told_by history a later entry ≡ told_at history a b place
  tells later read =
      ap (λ c. told_by history a c entry) (mark later read)
      ∙ sym (ap (option_and_then (told_by history a (is_removed_from history b (place + 1) (place + 1))))
      at)
    where
      mark : (later : Bool) → later ≡ get_or marks (place - a) later → later ≡ is_removed_from history b (place + 1) (place + 1)
      mark later read =
          read
          ∙ get_or_default marks (place - a) later false (omega (arith, order, there, before.count))
          ∙ before.are (place - a) (omega (arith, order, there))
          ∙ ap (is_removed_from history b (place + 1)) {x = a + (place - a) + 1} {y = place + 1} (omega (arith, order))

  pub told_one : (later : Bool) (shape : Shape) (shapes new : List Shape) → later ≡ get_or marks (place - a) later → AreTold history a b (place + 1) shapes
      → told_by history a later entry ≡ Some shape → new ≡ shapes ++ shape ∷ [] → AreTold history a b place new
  told_one later shape shapes new read so_far told pushed = subst (AreTold history a b place) (sym pushed) (record {
    each = λ other held. elim (Contains-push_cases shapes shape other held) [
      | inl old ↦ let t = so_far.each other old in record { at = t.at; least = omega (arith, t.least); most = t.most; told = t.told }
      | inr same ↦ record { at = place; least = omega arith; most = there; told = sym (tells later read) ∙ told ∙ ap (λ (s : Shape). Some s) same }
    ];
    all = λ other t. elim (cases_eq t.at place) [
      | inl here ↦ subst (Contains (shapes ++ shape ∷ []))
          (same_Some shape other (sym told ∙ tells later read ∙ sym (ap (told_at history a b) here) ∙ t.told)) (Contains-push shapes shape)
      | inr apart ↦ Contains-append_left shapes (shape ∷ []) other
          (so_far.all other (record { at = t.at; least = omega (arith, t.least, apart); most = t.most; told = t.told }))
    ];
  })

  pub told_none : (later : Bool) (shapes : List Shape) → later ≡ get_or marks (place - a) later → AreTold history a b (place + 1) shapes
      → told_by history a later entry ≡ None → AreTold history a b place shapes
  told_none later shapes read so_far told = record {
    each = λ other held. let t = so_far.each other held in record { at = t.at; least = omega (arith, t.least); most = t.most; told = t.told };
    all = λ other t. elim (cases_eq t.at place) [
      | inl here ↦ absurd (none-some other (sym told ∙ tells later read ∙ sym (ap (told_at history a b) here) ∙ t.told))
      | inr apart ↦ so_far.all other (record { at = t.at; least = omega (arith, t.least, apart); most = t.most; told = t.told })
    ];
  }

some_if : (c : Bool) (x y : Shape) → (if c then Some x else None) ≡ Some y → (c ≡ true) × (x ≡ y)
some_if true x y is = (refl, same_Some x y is)
some_if false x y is = absurd (none-some y is)

found_if : (c : Bool) (o : Option Shape) (y : Shape) → (if c then o else None) ≡ Some y → (c ≡ true) × (o ≡ Some y)
found_if true o y is = (refl, is)
found_if false o y is = absurd (none-some y is)

-- a number after a place
after_place : (place : ℕ) → suc place ≡ place + 1
after_place place = omega arith

not_true : (c : Bool) → not c ≡ true → c ≡ false
not_true true is = absurd (both_ways false refl is)
not_true false is = refl

-- an add that was answered so, and that stays, tells its shape
add_tells : (history : List Entry) (a lane : ℕ) (later : Bool) (request : Request) (reply : Reply) (shape : Shape) → shape_in request ≡ Some shape
    → is_added reply ≡ true → later ≡ false → told_by history a later (record { lane = lane; request = request; reply = reply }) ≡ Some shape
add_tells history a lane later (Add own) reply shape is added stays =
    ap (λ c. if c then Some own else None) (and_from (is_added reply) (not later) added (ap not stays)) ∙ is
add_tells history a lane later (Remove number) reply shape is added stays = absurd (none-some shape is)

-- and a removal of an obstacle from before tells that obstacle's
removal_tells : (history : List Entry) (a lane number : ℕ) (later : Bool) (request : Request) (reply : Reply) (shape : Shape)
    → is_removal_of number (record { lane = lane; request = request; reply = reply }) ≡ true → number ≤ a → shape_of history number ≡ Some shape
    → told_by history a later (record { lane = lane; request = request; reply = reply }) ≡ Some shape
removal_tells history a lane number later (Add own) reply shape removes low is = absurd (both_ways false refl removes)
removal_tells history a lane number later (Remove other) reply shape removes low is =
    let parts = and_parts (other == number) (is_removed reply) removes in
    let same = eqb-true other number parts.0 in
    ap (λ c. if c then shape_of history other else None) (and_from (is_removed reply) (nat_le other a) parts.1 (le-leb other a (omega (arith, same, low))))
    ∙ ap (shape_of history) same ∙ is

module _ (history : List Entry) (a b : ℕ) (rules' : RemovesWhatIsThere history) (order : a ≤ b) (within : b ≤ length history) where
  -- an obstacle of before a that an entry from there on removes is not there at b, and was there at a
  removed_since : (place number : ℕ) (entry : Entry) → a ≤ place → place < b → slice_get history place ≡ Some entry → is_removal_of number entry ≡ true
      → number ≤ a → is_alive history a number ≡ not (is_alive history b number)
  removed_since place number entry least most at removes low =
      let was = alive_before history a place number low least (omega (arith, most, within)) (rules'.each place number entry at removes) in
      let count = length-take-le b history within in
      let held : get_or (drop a (take b history)) (place - a) entry ≡ entry =
      get_or-drop a (take b history) (place - a) entry
      ∙ ap (λ n. get_or (take b history) n entry) {x = a + (place - a)} {y = place} (omega (arith, least))
      ∙ get_or-take b history place entry most ∙ get_or_from_slice_get history place entry entry at in
      let gone : is_removed_from history b a number ≡ true =
      list_any_at (is_removal_of number) (drop a (take b history)) (place - a) entry
      (omega (arith, least, most, count, length-drop a (take b history))) (ap (is_removal_of number) held ∙ removes) in
      was ∙ sym (ap not (alive_between history a b number low order within ∙ (λ i. was i && not (gone i))))

  -- an obstacle that an entry from a on added, and that no later one removes, is there at b alone
  added_since : (place : ℕ) (entry : Entry) → a ≤ place → place < b → slice_get history place ≡ Some entry → is_added entry.reply ≡ true
      → is_removed_from history b (place + 1) (place + 1) ≡ false → is_alive history a (suc place) ≡ not (is_alive history b (suc place))
  added_since place entry least most at added stays =
      let here : slice_get (take b history) place ≡ Some entry = slice_get-take b history place most ∙ at in
      let last : is_removed_from history b (suc place) (suc place) ≡ false = ap (λ n. is_removed_from history b n n) (after_place place) ∙ stays in
      not_yet history a (suc place) (omega (arith, least))
      ∙ sym (ap not ((λ i. option_map_or (λ (e : Entry). is_added e.reply) (here i) false && not (last i)) ∙ ap (λ c. c && true) added))

  -- so what an entry tells has changed
  changed_by : (place : ℕ) (shape : Shape) (lane : ℕ) (request : Request) (reply : Reply) → a ≤ place → place < b
      → slice_get history place ≡ Some (record { lane = lane; request = request; reply = reply })
      → told_by history a (is_removed_from history b (place + 1) (place + 1)) (record { lane = lane; request = request; reply = reply }) ≡ Some shape
      → IsThereOnce history a b shape
  changed_by place shape lane (Add own) reply least most at told =
      let parts = some_if (is_added reply && not (is_removed_from history b (place + 1) (place + 1))) own shape told in
      let added = and_parts (is_added reply) (not (is_removed_from history b (place + 1) (place + 1))) parts.0 in
      record {
        number = suc place;
        is = ap (option_and_then (λ (e : Entry). shape_in e.request)) at ∙ ap (λ (s : Shape). Some s) parts.1;
        once = added_since place (record { lane = lane; request = Add own; reply = reply }) least most at added.0 (not_true _ added.1);
      }
  changed_by place shape lane (Remove number) reply least most at told =
      let parts = found_if (is_removed reply && nat_le number a) (shape_of history number) shape told in
      let removed = and_parts (is_removed reply) (nat_le number a) parts.0 in
      record {
        number = number;
        is = parts.1;
        once = removed_since place number (record { lane = lane; request = Remove number; reply = reply }) least most at
            (and_from (number == number) (is_removed reply) (eq-eqb number number refl) removed.0) (leb-true number a removed.1);
      }

  told_changed : (shape : Shape) → IsToldFrom history a b a shape → IsThereOnce history a b shape
  told_changed shape told =
      option_and_then_some (told_by history a (is_removed_from history b (told.at + 1) (told.at + 1))) (slice_get history told.at) shape told.told
      (λ entry at tells. changed_by told.at shape entry.lane entry.request entry.reply told.least told.most at tells)

  -- and what has changed is told: an obstacle that came since
  came : (number : ℕ) (shape : Shape) → a < number → shape_of history number ≡ Some shape → is_alive history b number ≡ true → IsToldFrom history a b a shape
  came zero shape beyond is there = absurd (omega (arith, beyond))
  came (suc place) shape beyond is there =
      option_and_then_some (λ (e : Entry). shape_in e.request) (slice_get history place) shape is
      (λ entry at asked.
      let most : place < b = elim (cases_lt place b) [ inl below ↦ below | inr past ↦ absurd (both_ways false refl (sym (not_yet history b (suc place) (omega (arith, past))) ∙ there)) ] in
      let here : slice_get (take b history) place ≡ Some entry = slice_get-take b history place most ∙ at in
      let parts = and_parts (option_map_or (λ (e : Entry). is_added e.reply) (slice_get (take b history) place) false) _ there in
      let added : is_added entry.reply ≡ true = sym (ap (λ (o : Option Entry). option_map_or (λ (e : Entry). is_added e.reply) o false) here) ∙ parts.0 in
      let stays : is_removed_from history b (place + 1) (place + 1) ≡ false =
      ap (λ n. is_removed_from history b n n) (sym (after_place place)) ∙ not_true _ parts.1 in
      record {
        at = place;
        least = omega (arith, beyond);
        most = most;
        told = ap (option_and_then (told_by history a (is_removed_from history b (place + 1) (place + 1)))) at
            ∙ add_tells history a entry.lane _ entry.request entry.reply shape asked added stays;
      })

  -- and one that went since
  went : (number : ℕ) (shape : Shape) → number ≤ a → shape_of history number ≡ Some shape → is_alive history a number ≡ true
      → is_alive history b number ≡ false → IsToldFrom history a b a shape
  went number shape low is was gone =
      let between = alive_between history a b number low order within in
      let some : is_removed_from history b a number ≡ true =
      by_test (is_removed_from history b a number) refl (sym gone ∙ between ∙ ap (λ c. c && not (is_removed_from history b a number)) was) in
      let hit = found (is_removal_of number) (drop a (take b history)) some in
      let count = length-take-le b history within in
      let most : a + hit.1.0 < b = omega (arith, hit.1.1, length-drop a (take b history), count) in
      let at : slice_get history (a + hit.1.0) ≡ Some hit.0 =
      slice_get_read history (length history) (a + hit.1.0) hit.0 refl (omega (arith, most, within))
      (sym (sym (get_or-take b history (a + hit.1.0) hit.0 most) ∙ sym (get_or-drop a (take b history) hit.1.0 hit.0) ∙ hit.1.2)) in
      record {
        at = a + hit.1.0;
        least = omega arith;
        most = most;
        told = ap (option_and_then (told_by history a (is_removed_from history b (a + hit.1.0 + 1) (a + hit.1.0 + 1)))) at
            ∙ removal_tells history a hit.0.lane number _ hit.0.request hit.0.reply shape hit.2 low is;
      }
    where
      by_test : (r : Bool) → is_removed_from history b a number ≡ r → false ≡ not r → is_removed_from history b a number ≡ true
      by_test true is' same = is'
      by_test false is' same = absurd (both_ways false refl same)

  changed_told : (shape : Shape) → IsThereOnce history a b shape → IsToldFrom history a b a shape
  changed_told shape changed =
      let number = changed.number in
      elim (cases_lt a number) [
        | inl beyond ↦ came number shape beyond changed.is (by_later (is_alive history b number) refl (sym (not_yet history a number beyond) ∙ changed.once))
        | inr low ↦ by_earlier (is_alive history b number) refl low
      ]
    where
      by_later : (r : Bool) → is_alive history b changed.number ≡ r → false ≡ not r → is_alive history b changed.number ≡ true
      by_later true is same = is
      by_later false is same = absurd (both_ways false refl same)

      by_earlier : (r : Bool) → is_alive history b changed.number ≡ r → changed.number ≤ a → IsToldFrom history a b a shape
      by_earlier true is low =
          absurd (both_ways (is_alive history a changed.number) (changed.once ∙ ap not is) (alive_before history a b changed.number low order within is))
      by_earlier false is low = went changed.number shape low changed.is (changed.once ∙ ap not is) is

  pub told_are_changed : (place : ℕ) (shapes : List Shape) → AreTold history a b place shapes → place ≡ a
      → (shape : Shape) → Contains shapes shape ↔ IsThereOnce history a b shape
  told_are_changed place shapes told end shape = (
    λ held. told_changed shape (subst (λ n. IsToldFrom history a b n shape) end (told.each shape held)),
    λ changed. told.all shape (subst (λ n. IsToldFrom history a b n shape) (sym end) (changed_told shape changed)),
  )
