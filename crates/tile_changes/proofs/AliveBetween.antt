-- Which obstacles are there after two lengths of a history, and what the entries between them remove.
use Rattle.std.proofs.Common.{◌≡◌, ℕ, zero, suc, ◌+◌, ◌<◌, ◌≤◌, Bool, true, false, not, ◌&&◌, ◌||◌, List, ◌++◌, length, take, drop, Option, Some, refl, sym, ap, ◌∙◌, subst, arith, inl, inr}
use Rattle.std.specs.List.{slice_get, list_any, range_with_len}
use Rattle.std.specs.Prelude.{if◌then◌else◌, ◌==◌}
use Rattle.std.specs.Option.{option_map_or}
use Rattle.std.proofs.lemmas.Bool.{and_parts, both_ways, cases_lt, eqb-true}
use Rattle.std.proofs.lemmas.List.{take-take, length-take, length-take-le, take-append-drop, drop-append-le, drop_more, get_or-take}
use Rattle.std.proofs.lemmas.List.Elements.{filter_passes}
use Rattle.std.proofs.lemmas.List.Folds.{list_any-append}
use Rattle.std.proofs.lemmas.Option.{slice_get_past, get_or_from_slice_get, slice_get_within}
use Rattle.nav_ground.specs.declared.history.Entry.{Entry}
use Rattle.nav_ground.specs.declared.history.Reply.{Reply}
use Rattle.nav_ground.specs.declared.history.Reply.TheVariants.{Removed, Dead}
use Rattle.nav_ground.specs.declared.history.Request.{Request}
use Rattle.nav_ground.specs.declared.history.Request.TheVariants.{Add, Remove}
use Rattle.nav_ground.specs.History.{alive_after, entry_at, is_added, is_alive, is_removal_of, is_removed, reply_to, IsWellReplied}
use Rattle.nav_ground.proofs.Selections.{found, slice_get-take}
use Rattle.tile_changes.specs.Telling.{RemovesWhatIsThere}
use Rattle.tile_changes.proofs.ToldEntries.{is_removed_from}

-- the first of the first entries
entry_before : (history : List Entry) (a b number : ℕ) → number ≤ a → a ≤ b → entry_at (take b history) number ≡ entry_at (take a history) number
entry_before history a b zero low order = refl
entry_before history a b (suc place) low order =
    slice_get-take b history place (omega (arith, low, order)) ∙ sym (slice_get-take a history place (omega (arith, low)))

-- the later entries of the first b ones, from one place on, are those up to a further place and those from there on
later_parts : (history : List Entry) (number a b : ℕ) → number ≤ a → a ≤ b → b ≤ length history
    → drop number (take b history) ≡ drop number (take a history) ++ drop a (take b history)
later_parts history number a b low order within =
    ap (drop number) (sym (take-append-drop a (take b history)) ∙ ap (λ (first : List Entry). first ++ drop a (take b history)) (take-take a b history order))
    ∙ drop-append-le number (take a history) (drop a (take b history)) (omega (arith, low, order, within, length-take-le a history (omega (arith, order, within))))

split_not : (x y z : Bool) → (x && not (y || z)) ≡ ((x && not y) && not z)
split_not true true z = refl
split_not true false true = refl
split_not true false false = refl
split_not false y z = refl

-- an obstacle of the first a entries is there after b ones where it was after a and none between removes it
pub alive_between : (history : List Entry) (a b number : ℕ) → number ≤ a → a ≤ b → b ≤ length history
    → is_alive history b number ≡ (is_alive history a number && not (is_removed_from history b a number))
alive_between history a b number low order within =
    (λ i. option_map_or (λ (entry : Entry). is_added entry.reply) (entry_before history a b number low order i) false
    && not (list_any (is_removal_of number) (later_parts history number a b low order within i)))
    ∙ ap (λ c. option_map_or (λ (entry : Entry). is_added entry.reply) (entry_at (take a history) number) false && not c)
    (list_any-append (is_removal_of number) (drop number (take a history)) (drop a (take b history)))
    ∙ split_not (option_map_or (λ (entry : Entry). is_added entry.reply) (entry_at (take a history) number) false)
    (list_any (is_removal_of number) (drop number (take a history))) (list_any (is_removal_of number) (drop a (take b history)))

-- so one that is there later was there before
pub alive_before : (history : List Entry) (a b number : ℕ) → number ≤ a → a ≤ b → b ≤ length history → is_alive history b number ≡ true
    → is_alive history a number ≡ true
alive_before history a b number low order within later =
    (and_parts (is_alive history a number) _ (sym (alive_between history a b number low order within) ∙ later)).0

-- an obstacle of a later entry is not there yet
pub not_yet : (history : List Entry) (a number : ℕ) → a < number → is_alive history a number ≡ false
not_yet history a zero beyond = absurd (omega (arith, beyond))
not_yet history a (suc place) beyond =
    ap (λ (found : Option Entry). option_map_or (λ (entry : Entry). is_added entry.reply) found false && not (list_any (is_removal_of (suc place)) (drop (suc place) (take a history))))
    (slice_get_past (take a history) place (omega (arith, beyond, length-take a history)))

-- and the obstacle 0 never is
never_zero : (history : List Entry) (a : ℕ) → is_alive history a 0 ≡ false
never_zero history a = refl

-- what is removed from a place on is what the entry there removes and what is removed behind it
pub removed_more : (history : List Entry) (b place number : ℕ) (entry : Entry) → place < b → b ≤ length history → slice_get history place ≡ Some entry
    → is_removed_from history b place number ≡ (is_removal_of number entry || is_removed_from history b (place + 1) number)
removed_more history b place number entry there within at =
    let count = length-take-le b history within in
    ap (list_any (is_removal_of number)) (drop_more (take b history) place entry (omega (arith, there, count)))
    ∙ ap (λ (e : Entry). is_removal_of number e || is_removed_from history b (place + 1) number)
    (get_or-take b history place entry there ∙ get_or_from_slice_get history place entry entry at)

-- a history whose requests are answered by the rules removes what is there
by_rules : (limit : ℕ) (history : List Entry) (number : ℕ) (request : Request) (reply : Reply) → reply ≡ reply_to limit history request
    → is_removal_of number (record { lane = 0; request = request; reply = reply }) ≡ true → is_alive history (length history) number ≡ true
by_rules limit history number (Add shape) reply right removes = absurd (both_ways false refl removes)
by_rules limit history number (Remove other) reply right removes =
    let parts = and_parts (other == number) (is_removed reply) removes in
    by_test (list_any (λ alive. alive == other) (alive_after history (length history))) refl
    (sym (ap is_removed right) ∙ parts.1) (eqb-true other number parts.0)
  where
    by_test : (b : Bool) → list_any (λ alive. alive == other) (alive_after history (length history)) ≡ b
        → is_removed (if list_any (λ alive. alive == other) (alive_after history (length history)) then Removed else Dead other) ≡ true
        → other ≡ number → is_alive history (length history) number ≡ true
    by_test true is done same =
        let hit = found (λ alive. alive == other) (alive_after history (length history)) is in
        let passes = filter_passes (is_alive history (length history)) (range_with_len 1 (length history)) hit.1.0 hit.0 hit.1.1 in
        subst (λ n. is_alive history (length history) n ≡ true) (hit.1.2 ∙ eqb-true hit.0 other hit.2 ∙ same) passes
    by_test false is done same =
        absurd (both_ways false refl (sym (ap (λ c. is_removed (if c then Removed else Dead other)) is) ∙ done))

pub removes_what_is_there : (limit : ℕ) (history : List Entry) → IsWellReplied limit history → RemovesWhatIsThere history
removes_what_is_there limit history replied = record {
  each = λ place number entry there removes.
      let within = slice_get_within history place entry there in
      let count = length-take-le place history (omega (arith, within)) in
      sym (ap (λ (first : List Entry). option_map_or (λ (e : Entry). is_added e.reply) (entry_at first number) false
      && not (list_any (is_removal_of number) (drop number first)))
      (take-take (length (take place history)) place history (omega (arith, count)) ∙ ap (λ k. take k history) count))
      ∙ by_rules limit (take place history) number entry.request entry.reply (replied place entry there) removes;
}

-- so an entry removes an obstacle of an entry before it
pub removed_earlier : (history : List Entry) (place number : ℕ) (entry : Entry) → RemovesWhatIsThere history → slice_get history place ≡ Some entry
    → is_removal_of number entry ≡ true → number ≤ place
removed_earlier history place number entry rules' at removes = elim (cases_lt place number) [
  | inl beyond ↦ absurd (both_ways false refl (sym (not_yet history place number beyond) ∙ rules'.each place number entry at removes))
  | inr within ↦ within
]
