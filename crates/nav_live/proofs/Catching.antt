-- Eyes that have seen all that is published, and how many tiles are built to settle a book.
use Rattle.std.proofs.Common.{◌≡◌, ℕ, ◌+◌, ◌<◌, ◌≤◌, not, List, length, get_or, set, take, ap, ◌∙◌, sym, subst, refl, arith, inl, inr}
use Rattle.std.specs.Prelude.{All, OnOk, Result, Ok, Err}
use mathlib.Core.List.{IsPrefix}
use Rattle.std.specs.List.{range_with_len}
use Rattle.std.proofs.lemmas.Bool.{cases_lt}
use Rattle.std.proofs.lemmas.List.{get_or_default, get_or-set_other, take_all}
use Rattle.std.proofs.lemmas.List.Filters.{length-filter_both}
use Rattle.std.proofs.lemmas.List.FromFn.{length-range_with_len}
use Rattle.logbook.specs.Pages.{Book}
use Rattle.nav_ground.specs.declared.history.Entry.{Entry}
use Rattle.nav_ground.specs.Tiling.{tile_count}
use Rattle.nav_version.specs.Pairs.{EyeView}
use Rattle.nav_version.proofs.Beginnings.{IsPrefix-whole}
use Rattle.build_queue.specs.BookState.{BookState, is_awaited}
use Rattle.nav_base.specs.Counts.{HasRisenAtMost}
use Rattle.nav_book.specs.Results.{published_entries}
use Rattle.nav_book.specs.Settling.{awaited_tiles, settling}

-- a list that goes on from another one, and is as long, is that one
pub saw_all : (list seen : List Entry) (n k : ℕ) → IsPrefix list seen → n ≡ length seen → k ≡ length list → n ≡ k → seen ≡ list
saw_all list seen n k begins long all same = sym (IsPrefix-whole list seen begins (omega (arith, long, all, same)))

-- no more tiles are awaited than there are
few_awaited : (book : BookState) → length (awaited_tiles book) ≤ tile_count book.ground.setting
few_awaited book =
    let tiles : List ℕ = range_with_len 0 (tile_count book.ground.setting) in
    omega (
      arith,
      length-filter_both (is_awaited book) (λ tile. not (is_awaited book tile)) (λ tile. refl) tiles,
      length-range_with_len 0 (tile_count book.ground.setting),
    )

-- so each tile is built once at most
pub once_each : (book : BookState) (m n : ℕ) → HasRisenAtMost (length (awaited_tiles (settling book))) m n → HasRisenAtMost (tile_count book.ground.setting) m n
once_each book m n risen = record { least = risen.least; most_risen = omega (arith, risen.most_risen, few_awaited (settling book)) }

-- so many eyes are through: what they had seen begins a list; the others are as they were
pub record HaveSeen (list : List Entry) (count : ℕ) (before now : List EyeView) : Type 0 where
  pub seen : (k : ℕ) (d : EyeView) → k < count → IsPrefix (get_or before k d).seen list
  pub rest : (k : ℕ) (d : EyeView) → count ≤ k → get_or now k d ≡ get_or before k d

pub none_yet : (list : List Entry) (eyes : List EyeView) → HaveSeen list 0 eyes eyes
none_yet list eyes = record { seen = λ k d none. absurd (omega (arith, none)); rest = λ k d there. refl }

pub one_more : (list : List Entry) (i : ℕ) (before now : List EyeView) (e new : EyeView) → HaveSeen list i before now → i < length now
    → IsPrefix (get_or now i e).seen list → HaveSeen list (i + 1) before (set now i new)
one_more list i before now e new have there begins = record {
  seen = λ k d below. elim (cases_lt k i) [
    | inl earlier ↦ have.seen k d earlier
    | inr other ↦
        let last : k ≡ i = omega (arith, below, other) in
        subst (λ (eye : EyeView). IsPrefix eye.seen list) (get_or_default now i e d there ∙ have.rest i d (omega arith) ∙ sym (ap (λ n. get_or before n d) last)) begins
  ];
  rest = λ k d beyond. get_or-set_other now i k new d (λ same. omega (arith, beyond, same)) ∙ have.rest k d (omega (arith, beyond));
}

pub all_seen : (list : List Entry) (count : ℕ) (before now : List EyeView) → HaveSeen list count before now → length before ≤ count
    → All (λ (eye : EyeView). IsPrefix eye.seen list) before
all_seen list count before now have end = λ k d there. have.seen k d (omega (arith, there, end))

-- the next eye is still as it was, and of the same pair
pub pair_kept : (pair : Book) (list : List Entry) (i : ℕ) (before now : List EyeView) (d : EyeView) → All (λ (e : EyeView). e.pair ≡ pair) before
    → HaveSeen list i before now → i < length before → (get_or now i d).pair ≡ pair
pair_kept pair list i before now d pairs have there = ap (λ (e : EyeView). e.pair) (have.rest i d (omega arith)) ∙ pairs i d there

-- where the whole history is published, its entries are those that are published
pub all_published : (state : BookState) (history : List Entry) → state.history ≡ history → state.published ≡ length history → published_entries state ≡ history
all_published state history same shown = (λ i. take (shown i) (same i)) ∙ take_all (length history) history (omega arith)

-- what holds in any case
pub in_any_case : {A E P : Type 0} (r : Result A E) → P → OnOk r P
in_any_case (Ok value) p = p
in_any_case (Err refused) p = tt
