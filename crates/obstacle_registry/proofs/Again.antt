-- A history that adds obstacles again: which are alive after it, and with which shapes.
use Rattle.std.proofs.Common.{◌≡◌, ℕ, suc, ◌+◌, ◌≤◌, ◌<◌, Bool, true, false, not, ◌&&◌, List, length, get_or, drop, take, take_all, Option, Some, None, refl, sym, ap, ◌∙◌, arith}
use Rattle.std.specs.Prelude.{All, slice_get, option_and_then}
use Rattle.std.specs.List.{list_any, range_with_len}
use Rattle.std.specs.Option.{option_map, option_map_or}
use Rattle.std.proofs.lemmas.List.{get_or-drop, length-drop}
use Rattle.std.proofs.lemmas.List.Elements.{All-filter}
use Rattle.std.proofs.lemmas.List.Folds.{list_any_none}
use Rattle.std.proofs.lemmas.List.FromFn.{get_or-range_with_len, length-range_with_len}
use Rattle.std.proofs.lemmas.Option.{get_or_from_slice_get, slice_get-get_or}
use Rattle.nav_ground.specs.declared.history.Entry.{Entry}
use Rattle.nav_ground.specs.declared.history.Reply.TheVariants.{Removed}
use Rattle.nav_ground.specs.declared.history.Request.TheVariants.{Remove}
use Rattle.nav_ground.specs.History.{alive_after, entry_at, is_added, is_alive, is_removal_of, is_removing, shape_in, shape_of}
use Rattle.nav_ground.proofs.Selections.{filter_all}
use Rattle.build_queue.specs.Renewal.{AddsAgain, under}

-- an entry that adds an obstacle again, and the one that added it first
pub record IsAgain (before after : List Entry) (number place : ℕ) : Type 0 where
  pub entry : Entry
  pub first : entry_at before number ≡ Some entry
  pub again : slice_get after place ≡ Some (under (place + 1) entry)

pub again_at : (before : List Entry) (numbers : List ℕ) (after : List Entry) (place number : ℕ) → AddsAgain before numbers after
    → place < length numbers → slice_get numbers place ≡ Some number → IsAgain before after number place
again_at before numbers after place number adds within there =
    by_case (entry_at before number) refl
  where
    d : Entry
    d = record { lane = 0; request = Remove 0; reply = Removed }

    at : slice_get after place ≡ Some (get_or after place d)
    at = slice_get-get_or after place d (omega (arith, within, adds.each))

    none_apart : Some (get_or after place d) ≡ None → ⊥
    none_apart wrong = cc

    by_case : (found : Option Entry) → entry_at before number ≡ found → IsAgain before after number place
    by_case None is = let wrong = sym at ∙ adds.again place number there ∙ ap (option_map (under (place + 1))) is in absurd (none_apart wrong)
    by_case (Some entry) is = record { entry = entry; first = is; again = adds.again place number there ∙ ap (option_map (under (place + 1))) is }

-- the numbers of those that are alive begin with 1
pub numbers_some : (history : List Entry) (k : ℕ) → All (λ n. 1 ≤ n) (alive_after history k)
numbers_some history k = All-filter (is_alive history k) (λ n. 1 ≤ n) (range_with_len 1 k)
    (λ i d within. let at = get_or-range_with_len 1 k i d (omega (arith, within, length-range_with_len 1 k)) in omega (arith, at))

-- all that are added again are alive, under the numbers of their places
pub alive_again : (before : List Entry) (numbers : List ℕ) (after : List Entry) → AddsAgain before numbers after
    → alive_after after (length after) ≡ range_with_len 1 (length numbers)
alive_again before numbers after adds =
    filter_all (is_alive after (length after)) (range_with_len 1 (length after)) each
    ∙ ap (range_with_len 1) adds.each
  where
    entry_there : (place : ℕ) → place < length after → IsAgain before after (get_or numbers place 0) place
    entry_there place within =
        again_at before numbers after place (get_or numbers place 0) adds (omega (arith, within, adds.each))
        (slice_get-get_or numbers place 0 (omega (arith, within, adds.each)))

    and_false : (b : Bool) → (b && false) ≡ false
    and_false true = refl
    and_false false = refl

    not_removal : (number : ℕ) (entry : Entry) (place : ℕ) → is_removal_of number (under place entry) ≡ false
    not_removal number entry place = and_false (is_removing number entry.request)

    alive_at : (place : ℕ) → place < length after → is_alive after (length after) (suc place) ≡ true
    alive_at place within =
        let it = entry_there place within in
        let whole : take (length after) after ≡ after = take_all (length after) after (omega arith) in
        let added = ap (λ (o : Option Entry). option_map_or (λ (entry : Entry). is_added entry.reply) o false) it.again in
        let none = list_any_none (is_removal_of (suc place)) (drop (suc place) after)
        (λ i d inside.
        let long = length-drop (suc place) after in
        let far : suc place + i < length after = omega (arith, inside, long) in
        let other = entry_there (suc place + i) far in
        ap (is_removal_of (suc place)) (get_or-drop (suc place) after i d ∙ get_or_from_slice_get after (suc place + i) (under (suc place + i + 1) other.entry) d other.again)
        ∙ not_removal (suc place) other.entry (suc place + i + 1)) in
        ap (λ (h : List Entry). option_map_or (λ (entry : Entry). is_added entry.reply) (slice_get h place) false && not (list_any (is_removal_of (suc place)) (drop (suc place) h))) whole
        ∙ ap (λ b. b && not (list_any (is_removal_of (suc place)) (drop (suc place) after))) added
        ∙ ap not none

    each : All (λ number. is_alive after (length after) number ≡ true) (range_with_len 1 (length after))
    each i d within =
        let below : i < length after = omega (arith, within, length-range_with_len 1 (length after)) in
        let at : get_or (range_with_len 1 (length after)) i d ≡ suc i = get_or-range_with_len 1 (length after) i d below ∙ omega arith in
        ap (is_alive after (length after)) at ∙ alive_at i below

-- and have the shapes that they had
pub shape_again : (before : List Entry) (numbers : List ℕ) (after : List Entry) (place number : ℕ) → AddsAgain before numbers after
    → place < length numbers → slice_get numbers place ≡ Some number → shape_of after (place + 1) ≡ shape_of before number
shape_again before numbers after place number adds within there =
    let it = again_at before numbers after place number adds within there in
    let more : place + 1 ≡ suc place = omega arith in
    ap (shape_of after) more
    ∙ ap (option_and_then (λ (entry : Entry). shape_in entry.request)) it.again
    ∙ sym (ap (option_and_then (λ (entry : Entry). shape_in entry.request)) it.first)
