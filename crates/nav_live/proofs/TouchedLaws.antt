-- A tile that is awaited was touched by an obstacle of the history; and each step keeps that a tile is stored with obstacles only where one touched
-- it.
use Rattle.std.proofs.Common.{◌≡◌, ◌∙◌, sym, ap, subst, refl, ℕ, zero, suc, ◌<◌, ◌≤◌, ◌⊎◌, ⊎_elim, inl, inr, Bool, true, false, List, [], ◌∷◌, ◌++◌, length, length-append, arith, replicate, Option, Some, None, not}
use Rattle.std.specs.Prelude.{option_map, if◌then◌else◌, slice_index_or, slice_set}
use Rattle.std.proofs.lemmas.Bool.{and_parts, both_ways}
use Rattle.std.proofs.lemmas.Option.{none-some, same_Some}
use Rattle.nav_ground.specs.declared.history.Entry.{Entry}
use Rattle.nav_ground.specs.declared.history.Ground.{Ground}
use Rattle.nav_ground.specs.declared.history.Request.{Request}
use Rattle.nav_ground.specs.declared.shape.Shape.{Shape}
use Rattle.nav_ground.specs.Tiling.{tile_count}
use Rattle.nav_ground.specs.Touching.{touching_shapes}
use Rattle.nav_ground.proofs.AliveLaws.{shapes_alive-append}
use Rattle.build_queue.specs.declared.live.Job.{Job}
use Rattle.build_queue.specs.BookState.{BookState, IsBook, first_state, is_awaited, is_claimable, is_claimed, least_claimable, wanted_at}
use Rattle.build_queue.specs.SameShapes.{are_same}
use Rattle.build_queue.specs.Steps.{after_request, after_submit, is_full, is_taken, next_job, requested}
use Rattle.build_queue.proofs.BookLaws.{taken_list}
use Rattle.build_queue.proofs.Leasts.{least_passes}
use Rattle.nav_book.specs.Views.{BookView}
use Rattle.nav_live.specs.ActRules.{IsTouched}
use Rattle.nav_live.specs.LiveBooks.{Steps, having}
use Rattle.nav_live.specs.declared.book.LiveAct.TheVariants as acts
use Rattle.nav_live.specs.declared.book.LiveDone.{LiveDone}
use Rattle.nav_live.specs.Touched.{AreTouched}

-- where two lists are not the same, and the second is empty, the first is not
some_stored : (stored wanted : List Shape) → not (are_same stored wanted) ≡ true → wanted ≡ [] → 0 < length stored
some_stored [] wanted other none = absurd (both_ways false refl (ap (λ (list : List Shape). not (are_same [] list)) (sym none) ∙ other))
some_stored (shape ∷ stored) wanted other none = omega arith

-- an awaited tile was touched: by what is alive at the target, or by what it is stored with
pub awaited_touched : (book : BookView) (tile : ℕ) → book.state.target ≤ length book.state.history → AreTouched book → is_awaited book.state tile ≡ true
    → IsTouched book.state.ground book.state.history tile
awaited_touched book tile aimed touched awaited = by_wanted (wanted_at book.state tile) refl
  where
    by_wanted : (wanted : List Shape) → wanted_at book.state tile ≡ wanted → IsTouched book.state.ground book.state.history tile
    by_wanted [] none = touched.each tile (some_stored (slice_index_or book.state.stored tile []) (wanted_at book.state tile) awaited none)
    by_wanted (shape ∷ more) some = record { entries = book.state.target; most = aimed; some = subst (λ (list : List Shape). 0 < length list) (sym some) (omega arith) }

-- so was the tile of the next job
pub job_touched : (book : BookView) (job : Job) → book.state.target ≤ length book.state.history → AreTouched book → Some job ≡ next_job book.state
    → IsTouched book.state.ground book.state.history job.tile
job_touched book job aimed touched is = by_least (least_claimable book.state) refl is
  where
    by_least : (least : Option ℕ) → least_claimable book.state ≡ least
        → Some job ≡ option_map (λ (tile : ℕ). record { tile = tile; shapes = wanted_at book.state tile }) least
        → IsTouched book.state.ground book.state.history job.tile
    by_least None least none = absurd (none-some job (sym none))
    by_least (Some tile) least some =
        let same = same_Some job (record { tile = tile; shapes = wanted_at book.state tile }) some in
        let passes = (least_passes (tile_count book.state.ground.setting) tile (is_claimable book.state) least).1 in
        subst (IsTouched book.state.ground book.state.history) (sym (ap (λ (j : Job). j.tile) same))
        (awaited_touched book tile aimed touched (and_parts (is_awaited book.state tile) (not (is_claimed book.state tile)) passes).0)

-- one entry more leaves a tile touched
touched_push : (ground : Ground) (history : List Entry) (entry : Entry) (tile : ℕ) → IsTouched ground history tile → IsTouched ground (history ++ entry ∷ []) tile
touched_push ground history entry tile touched = record {
  entries = touched.entries;
  most = omega (arith, touched.most, length-append history (entry ∷ []));
  some =
      subst (λ (shapes : List Shape). 0 < length (touching_shapes ground.setting tile shapes)) (sym (shapes_alive-append history (entry ∷ []) touched.entries touched.most))
      touched.some;
}

-- where a list has another written at a place, what stands somewhere is the one that was written, or it stood there before
written_or_not : (lists : List (List Shape)) (i k : ℕ) (list : List Shape) → 0 < length (slice_index_or (slice_set lists i list) k [])
    → ((k ≡ i) × (0 < length list)) ⊎ (0 < length (slice_index_or lists k []))
written_or_not [] i k list some = inr some
written_or_not (first ∷ lists) zero zero list some = inl (refl, some)
written_or_not (first ∷ lists) zero (suc k) list some = inr some
written_or_not (first ∷ lists) (suc i) zero list some = inr some
written_or_not (first ∷ lists) (suc i) (suc k) list some = ⊎_elim (λ here. inl (ap suc here.0, here.1)) inr (written_or_not lists i k list some)

-- at the opening nothing is stored
none_stored : (count tile : ℕ) → slice_index_or {A = List Shape} (replicate count []) tile [] ≡ []
none_stored zero tile = refl
none_stored (suc count) zero = refl
none_stored (suc count) (suc tile) = none_stored count tile

no_less : 0 < 0 → ⊥
no_less less = omega (arith, less)

-- a book at its opening, and its steps
pub first_touched : (level : Ground) (book : BookView) → book.state ≡ first_state level → AreTouched book
first_touched level book first = record {
  each = λ tile some. absurd (no_less (subst (λ (list : List Shape). 0 < length list)
      (ap (λ (s : BookState). slice_index_or s.stored tile []) first ∙ none_stored (tile_count level.setting) tile) some));
}

pub requested_touched : (book : BookView) (lane : ℕ) (request : Request) → AreTouched book → AreTouched (having book (requested book.state lane request))
requested_touched book lane request touched = by_case (is_full book.state)
  where
    by_case : (full : Bool) → AreTouched (having book (if full then book.state else after_request book.state lane request))
    by_case true = record { each = touched.each }
    by_case false = record { each = λ tile some. touched_push book.state.ground book.state.history _ tile (touched.each tile some) }

pub submitted_touched : (book : BookView) (tile : ℕ) (shapes : List Shape) → book.state.target ≤ length book.state.history → AreTouched book
    → AreTouched (having book (after_submit book.state tile shapes))
submitted_touched book tile shapes aimed touched = by_case (is_taken book.state tile shapes) refl
  where
    by_case : (taken : Bool) → is_taken book.state tile shapes ≡ taken
        → AreTouched (having book (record book.state { claimed = slice_set book.state.claimed tile false; stored = if taken then slice_set book.state.stored tile shapes else book.state.stored }))
    by_case false is = record { each = touched.each }
    by_case true is = record {
      each = λ other some.
          ⊎_elim
          (λ here. subst (IsTouched book.state.ground book.state.history) (sym here.0) (record {
            entries = book.state.target;
            most = aimed;
            some = subst (λ (list : List Shape). 0 < length list) (taken_list book.state tile shapes is) here.1;
          }))
          (touched.each other) (written_or_not book.state.stored tile other shapes some);
    }

-- and the book after each act
pub same_touched : (book after : BookView) (state : BookState) → after.state ≡ state → AreTouched (having book state) → AreTouched after
same_touched book after state is touched = record {
  each = subst (λ (s : BookState). (k : ℕ) → 0 < length (slice_index_or s.stored k []) → IsTouched s.ground s.history k) (sym is) touched.each;
}

pub submitted_after : (book after : BookView) (tile : ℕ) (shapes : List Shape) → after.state ≡ after_submit book.state tile shapes → IsBook after.state
    → AreTouched book → AreTouched after
submitted_after book after tile shapes stored rules touched =
    let aimed = subst (λ (s : BookState). s.target ≤ length s.history) stored rules.aimed in
    same_touched book after (after_submit book.state tile shapes) stored (submitted_touched book tile shapes aimed touched)

pub asked_touched : (book after : BookView) (lane : ℕ) (request : Request) (done : LiveDone) → Steps book (acts.Ask lane request) done after → AreTouched book
    → AreTouched after
asked_touched book after lane request done steps touched = subst AreTouched (sym steps.1) (requested_touched book lane request touched)

pub claimed_touched : (book after : BookView) (done : LiveDone) → Steps book acts.Claim done after → AreTouched book → AreTouched after
claimed_touched book after done steps touched =
    elim steps [
      | inl taken ↦ subst AreTouched (sym taken.1) (record { each = touched.each })
      | inr refused ↦ subst AreTouched (sym refused.1) touched
    ]

pub published_touched : (book after : BookView) (done : LiveDone) → Steps book acts.Publish done after → AreTouched book → AreTouched after
published_touched book after done steps touched =
    elim steps [
      | inl taken ↦ subst AreTouched (sym taken.1) (record { each = touched.each })
      | inr refused ↦ subst AreTouched (sym refused.1) touched
    ]
