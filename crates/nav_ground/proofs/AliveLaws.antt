-- Laws of the obstacles that are alive, and of replies, as a history grows.
use Rattle.std.proofs.Common.{◌≡◌, ℕ, zero, suc, ◌+◌, ◌<◌, ◌≤◌, Bool, true, false, not, cond, ◌&&◌, ◌||◌, List, [], ◌∷◌, ◌++◌, length, take, drop, filter, Some, refl, sym, ap, ◌∙◌, subst, ⊎_elim, arith}
use Rattle.std.specs.List.{slice_get, range_with_len, list_any, filter_map, AllPairs}
use Rattle.std.specs.Option.{option_map_or}
use Rattle.std.specs.Option.{option_and_then}
use Rattle.std.proofs.lemmas.Option.{slice_get_within, same_Some, option_and_then_some}
use Rattle.std.proofs.lemmas.List.{take-take, take_at, length-take, take_all, take-append-le, drop-append-le, drop_all, length_push}
use Rattle.std.proofs.lemmas.List.Elements.{filter-append, filter_agree}
use Rattle.std.proofs.lemmas.List.Folds.{list_any-append}
use Rattle.std.proofs.lemmas.List.FromFn.{get_or-range_with_len, length-range_with_len}
use Rattle.std.proofs.lemmas.List.Kept.{AllPairs-filter}
use Rattle.std.proofs.lemmas.Bool.{cases_lt}
use Rattle.nav_ground.specs.declared.history.Entry.{Entry}
use Rattle.nav_ground.specs.declared.history.TheConstants.{HISTORY_LIMIT}
use Rattle.nav_ground.specs.declared.shape.Shape.{Shape}
use Rattle.nav_ground.specs.History.{history_limit, entry_at, shape_in, is_removal_of, is_alive, alive_after, shape_of, shapes_alive, reply_to, IsWellReplied}
use Rattle.nav_ground.proofs.Words.{is_adding}
use Rattle.nav_ground.proofs.Selections.{slice_get-take, slice_get-append, slice_get-push, filter-range_same, filter_map-range_same, range-push, filter-filter}

-- the code's limit is that of the definitions
pub limit_is : HISTORY_LIMIT ≡ history_limit
limit_is = refl

-- the entry of a number that the first k entries have
entry_at-take : (history : List Entry) (k number : ℕ) → number < 1 + k → entry_at (take k history) number ≡ entry_at history number
entry_at-take history k zero within = refl
entry_at-take history k (suc place) within = slice_get-take k history place (omega arith)

entry_at-push : (history : List Entry) (entry : Entry) (number : ℕ) → number < 1 + length history → entry_at (history ++ entry ∷ []) number ≡ entry_at history number
entry_at-push history entry zero within = refl
entry_at-push history entry (suc place) within = slice_get-append history (entry ∷ []) place (omega arith)

-- which obstacles are alive after the first k entries rests on those entries alone
is_alive-same : (history other : List Entry) (k number : ℕ) → take k history ≡ take k other → is_alive history k number ≡ is_alive other k number
is_alive-same history other k number same =
    ap (λ (first : List Entry). option_map_or is_adding (entry_at first number) false && not (list_any (is_removal_of number) (drop number first))) same

alive_after-same : (history other : List Entry) (k : ℕ) → take k history ≡ take k other → alive_after history k ≡ alive_after other k
alive_after-same history other k same =
    filter_agree (is_alive history k) (is_alive other k) (λ number. is_alive-same history other k number same) (range_with_len 1 k)

pub alive_after-take : (history : List Entry) (k : ℕ) → alive_after (take k history) k ≡ alive_after history k
alive_after-take history k = alive_after-same (take k history) history k (take-take k k history (omega arith))

-- so the obstacles alive after the first k entries stay the same, however the history grows
pub alive_after-append : (history more : List Entry) (k : ℕ) → k ≤ length history → alive_after (history ++ more) k ≡ alive_after history k
alive_after-append history more k within = alive_after-same (history ++ more) history k (take-append-le k history more within)

shape_of-take : (history : List Entry) (k number : ℕ) → number < 1 + k → shape_of (take k history) number ≡ shape_of history number
shape_of-take history k number within =
    let entry = entry_at-take history k number within in
    cc

-- the same of their shapes
pub shapes_alive-take : (history : List Entry) (k : ℕ) → shapes_alive (take k history) k ≡ shapes_alive history k
shapes_alive-take history k =
    ap (filter_map (shape_of (take k history))) (alive_after-take history k)
    ∙ filter_map-range_same (shape_of (take k history)) (shape_of history) (is_alive history k) 1 k (λ number _ within. shape_of-take history k number within)

pub shapes_alive-append : (history more : List Entry) (k : ℕ) → k ≤ length history → shapes_alive (history ++ more) k ≡ shapes_alive history k
shapes_alive-append history more k within =
    sym (shapes_alive-take (history ++ more) k) ∙ ap (λ first. shapes_alive first k) (take-append-le k history more within) ∙ shapes_alive-take history k

and_not_either : (a b c : Bool) → (a && not (b || (c || false))) ≡ (a && not b && not c)
and_not_either true true c = refl
and_not_either true false true = refl
and_not_either true false false = refl
and_not_either false b c = refl

and_true : (a : Bool) → (a && true) ≡ a
and_true true = refl
and_true false = refl

-- an earlier obstacle is alive after one more entry where it was alive before and the entry does not remove it
is_alive-push : (history : List Entry) (entry : Entry) (number : ℕ) → 1 ≤ number → number < 1 + length history
    → is_alive (history ++ entry ∷ []) (length history + 1) number ≡ (is_alive history (length history) number && not (is_removal_of number entry))
is_alive-push history entry number least most =
    let all = take_all (length history + 1) (history ++ entry ∷ []) (omega (arith, length_push history entry)) in
    let before = take_all (length history) history (omega arith) in
    let found = entry_at-push history entry number most in
    let later = drop-append-le number history (entry ∷ []) (omega arith) in
    let removed = list_any-append (is_removal_of number) (drop number history) (entry ∷ []) in
    rw (all, before, found, later, removed)
    (and_not_either (option_map_or is_adding (entry_at history number) false) (list_any (is_removal_of number) (drop number history)) (is_removal_of number entry))

-- the last entry's obstacle is alive where that entry added one
is_alive-last : (history : List Entry) (entry : Entry) → is_alive (history ++ entry ∷ []) (length history + 1) (1 + length history) ≡ is_adding entry
is_alive-last history entry =
    let all = take_all (length history + 1) (history ++ entry ∷ []) (omega (arith, length_push history entry)) in
    let later = drop_all (suc (length history)) (history ++ entry ∷ []) (omega (arith, length_push history entry)) in
    let number : 1 + length history ≡ suc (length history) = omega arith in
    rw (number, all, slice_get-push history entry, later) (and_true (is_adding entry))

-- one more entry takes away the obstacle that it removes and adds the one that it adds
pub alive_after-push : (history : List Entry) (entry : Entry)
    → alive_after (history ++ entry ∷ []) (length history + 1)
    ≡ filter (λ number. not (is_removal_of number entry)) (alive_after history (length history)) ++ cond (is_adding entry) ((1 + length history) ∷ []) []
alive_after-push history entry =
    let before : ℕ → Bool = is_alive history (length history) in
    let after : ℕ → Bool = is_alive (history ++ entry ∷ []) (length history + 1) in
    let kept : ℕ → Bool = λ number. not (is_removal_of number entry) in
    ap (filter after) (range-push 1 (length history))
    ∙ filter-append after (range_with_len 1 (length history)) ((1 + length history) ∷ [])
    ∙ ap (λ ns. ns ++ filter after ((1 + length history) ∷ []))
    (filter-range_same after (λ number. before number && kept number) 1 (length history) (is_alive-push history entry)
    ∙ sym (filter-filter kept before (range_with_len 1 (length history))))
    ∙ ap (λ b. filter kept (filter before (range_with_len 1 (length history))) ++ cond b ((1 + length history) ∷ []) []) (is_alive-last history entry)

-- the numbers of the obstacles that are alive rise
pub alive_after-rising : (history : List Entry) (k : ℕ) → AllPairs (λ a b. a < b) (alive_after history k)
alive_after-rising history k = AllPairs-filter (λ a b. a < b) (is_alive history k) (range_with_len 1 k) (rising 1 k)
  where
    rising : (first count : ℕ) → AllPairs (λ a b. a < b) (range_with_len first count)
    rising first count i j d apart within =
        let there : j < count = rw length-range_with_len at within in
        rw (get_or-range_with_len first count i d (omega arith), get_or-range_with_len first count j d there) (omega arith)

-- a history stays well replied under one more entry that has the reply of the history before it
pub IsWellReplied-push : (limit : ℕ) (history : List Entry) (entry : Entry) → IsWellReplied limit history → entry.reply ≡ reply_to limit history entry.request
    → IsWellReplied limit (history ++ entry ∷ [])
IsWellReplied-push limit history entry replied reply k other at = ⊎_elim earlier last (cases_lt k (length history))
  where
    earlier : k < length history → other.reply ≡ reply_to limit (take k (history ++ entry ∷ [])) other.request
    earlier before =
        let there : slice_get history k ≡ Some other = sym (slice_get-append history (entry ∷ []) k before) ∙ at in
        rw (take-append-le k history (entry ∷ []) (omega arith)) (replied k other there)

    last : length history ≤ k → other.reply ≡ reply_to limit (take k (history ++ entry ∷ [])) other.request
    last past =
        let within = slice_get_within (history ++ entry ∷ []) k other at in
        let place : length history ≡ k = omega (arith, length_push history entry) in
        let there : slice_get (history ++ entry ∷ []) k ≡ Some entry = subst (λ i. slice_get (history ++ entry ∷ []) i ≡ Some entry) place (slice_get-push history entry) in
        let same = same_Some entry other (sym there ∙ at) in
        rw (take_at history (entry ∷ []) k place) (subst (λ (e : Entry). e.reply ≡ reply_to limit history e.request) same reply)

-- the first entries of a well replied history are a well replied history
pub IsWellReplied-take : (limit : ℕ) (history : List Entry) (n : ℕ) → IsWellReplied limit history → IsWellReplied limit (take n history)
IsWellReplied-take limit history n replied k other at =
    let within = slice_get_within (take n history) k other at in
    let below : k < n = omega (arith, length-take n history) in
    let there : slice_get history k ≡ Some other = sym (slice_get-take n history k below) ∙ at in
    rw (take-take k n history (omega arith)) (replied k other there)

-- an obstacle keeps its shape under one more entry
pub shape_of-push : (history : List Entry) (entry : Entry) (number : ℕ) (shape : Shape) → shape_of history number ≡ Some shape → shape_of (history ++ entry ∷ []) number ≡ Some shape
shape_of-push history entry zero shape found = found
shape_of-push history entry (suc place) shape found =
    option_and_then_some (λ (e : Entry). shape_in e.request) (slice_get history place) shape found
    (λ e there here. ap (option_and_then (λ (e : Entry). shape_in e.request)) (slice_get-append history (entry ∷ []) place (slice_get_within history place e there)) ∙ found)
