-- Laws of a book's steps: what is taken, what is awaited no more, and when a publish comes.
use Rattle.std.proofs.Common.{◌≡◌, ℕ, zero, suc, ◌<◌, Bool, true, false, not, ◌&&◌, List, [], length, replicate, Option, Some, None, ap, sym, ◌∙◌, refl}
use Rattle.std.specs.Prelude.{◌==◌, if◌then◌else◌, slice_index_or, slice_set}
use Rattle.std.proofs.lemmas.Bool.{and_parts, both_ways, eqb-true}
use Rattle.std.proofs.lemmas.List.{get_or-set_same}
use Rattle.nav_ground.specs.declared.shape.Shape.{Shape}
use Rattle.nav_ground.specs.Tiling.{tile_count}
use Rattle.build_queue.specs.declared.live.Published.{Published}
use Rattle.build_queue.specs.declared.live.Published.TheVariants.{New, Same, NotYet}
use Rattle.build_queue.specs.BookState.{BookState, IsUnclaimed, is_awaited, is_claimable, least_awaited, least_claimable, wanted_at}
use Rattle.build_queue.proofs.Words.{stored_at}
use Rattle.build_queue.specs.SameShapes.{are_same}
use Rattle.build_queue.specs.Steps.{is_taken, after_put_back_all, after_submit, publication, publication_by, published_by, after_publish}
use Rattle.build_queue.proofs.Leasts.{none_below, least_below-same}
use Rattle.build_queue.proofs.SameShapes.{same_lists_decide}

not_from : (b : Bool) → not b ≡ false → b ≡ true
not_from true is = refl
not_from false is = absurd (both_ways true is refl)

-- where no tile is awaited, each is stored with its touching list at the target
pub none_awaited : (state : BookState) (tile : ℕ) → least_awaited state ≡ None → tile < tile_count state.ground.setting → stored_at state tile ≡ wanted_at state tile
none_awaited state tile none there =
    (same_lists_decide (stored_at state tile) (wanted_at state tile)).0
    (not_from (are_same (stored_at state tile) (wanted_at state tile)) (none_below (tile_count state.ground.setting) (is_awaited state) tile none there))

-- a list that is taken is the touching list of its tile at the target
pub taken_list : (state : BookState) (tile : ℕ) (shapes : List Shape) → is_taken state tile shapes ≡ true → shapes ≡ wanted_at state tile
taken_list state tile shapes taken =
    (same_lists_decide shapes (wanted_at state tile)).0 (and_parts (is_awaited state tile) (are_same shapes (wanted_at state tile)) taken).1

-- and then the tile is awaited no more
pub taken_not_awaited : (state : BookState) (tile : ℕ) (shapes : List Shape) → tile < length state.stored → is_taken state tile shapes ≡ true
    → is_awaited (after_submit state tile shapes) tile ≡ false
taken_not_awaited state tile shapes there taken =
    let same = (and_parts (is_awaited state tile) (are_same shapes (wanted_at state tile)) taken).1 in
    ap (λ (b : Bool). not (are_same (slice_index_or (if b then slice_set state.stored tile shapes else state.stored) tile []) (wanted_at state tile))) taken
    ∙ ap (λ (list : List Shape). not (are_same list (wanted_at state tile))) (get_or-set_same state.stored tile shapes [] there)
    ∙ ap not same

-- a publish of a new length comes only where no tile is awaited, and shows the target
pub publication-New : (state : BookState) (k : ℕ) → publication state ≡ New k → (least_awaited state ≡ None) × (state.target ≡ k)
publication-New state k is = by_least (least_awaited state) refl is
  where
    by_test : (b : Bool) → (if b then Same state.published else New state.target) ≡ New k → state.target ≡ k
    by_test true other = absurd cc
    by_test false here = ap (λ (p : Published). published_by p 0) here

    by_least : (least : Option ℕ) → least_awaited state ≡ least → publication_by least state.target state.published ≡ New k
        → (least_awaited state ≡ None) × (state.target ≡ k)
    by_least (Some tile) here other = absurd cc
    by_least None here answer = (here, by_test (state.target == state.published) answer)

-- one of the same length too, and that is the target
pub publication-Same : (state : BookState) (k : ℕ) → publication state ≡ Same k
    → (least_awaited state ≡ None) × (state.target ≡ k) × (state.published ≡ k)
publication-Same state k is = by_least (least_awaited state) refl is
  where
    length_of : Published → ℕ
    length_of (New n) = n
    length_of (Same n) = n
    length_of (NotYet n) = n

    by_test : (b : Bool) → (state.target == state.published) ≡ b → (if b then Same state.published else New state.target) ≡ Same k
        → (state.target ≡ k) × (state.published ≡ k)
    by_test true is answer =
        let shown : state.published ≡ k = ap length_of answer in (eqb-true state.target state.published is ∙ shown, shown)
    by_test false is other = absurd cc

    by_least : (least : Option ℕ) → least_awaited state ≡ least → publication_by least state.target state.published ≡ Same k
        → (least_awaited state ≡ None) × (state.target ≡ k) × (state.published ≡ k)
    by_least (Some tile) here other = absurd cc
    by_least None here answer = let is = by_test (state.target == state.published) refl answer in (here, is.0, is.1)

-- where no tile is awaited, a publish shows the target
pub shown_after_publish : (state : BookState) → least_awaited state ≡ None → (after_publish state).published ≡ state.target
shown_after_publish state none =
    ap (λ (least : Option ℕ). published_by (publication_by least state.target state.published) state.published) none
    ∙ by_test (state.target == state.published) refl
  where
    by_test : (b : Bool) → (state.target == state.published) ≡ b
        → published_by (if b then Same state.published else New state.target) state.published ≡ state.target
    by_test true is = sym (eqb-true state.target state.published is)
    by_test false is = refl

-- no tile is claimed once all are put back
unclaimed : (count tile : ℕ) → slice_index_or (replicate count false) tile false ≡ false
unclaimed zero tile = refl
unclaimed (suc count) zero = refl
unclaimed (suc count) (suc tile) = unclaimed count tile

pub unclaimed_by_all : (book : BookState) → IsUnclaimed (after_put_back_all book)
unclaimed_by_all book = record { at = unclaimed (length book.claimed) }

-- where nothing is claimed, the least tile that can be claimed is the least that is awaited
pub least_claimable-none_claimed : (state : BookState) → least_claimable (after_put_back_all state) ≡ least_awaited state
least_claimable-none_claimed state =
    least_below-same (tile_count state.ground.setting) (is_claimable (after_put_back_all state)) (is_awaited state)
    (λ tile _. ap (λ (claimed : Bool). is_awaited state tile && not claimed) (unclaimed (length state.claimed) tile) ∙ and_true (is_awaited state tile))
  where
    and_true : (a : Bool) → (a && true) ≡ a
    and_true true = refl
    and_true false = refl
