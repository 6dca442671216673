-- What a publish of a level says of the tiles that it awaits.
use Rattle.std.proofs.Common.{◌≡◌, ℕ, Bool, true, false, Option, Some, None, ap, ◌∙◌, sym, refl}
use Rattle.std.specs.Prelude.{◌==◌, if◌then◌else◌}
use Rattle.build_queue.specs.declared.live.Published.{Published}
use Rattle.build_queue.specs.declared.live.Published.TheVariants.{New, Same, NotYet}
use Rattle.build_queue.specs.BookState.{BookState, least_awaited}
use Rattle.build_queue.specs.Steps.{publication, publication_by}

-- not yet, since a tile is awaited
pub not_yet : (state : BookState) (tile : ℕ) → NotYet tile ≡ publication state → least_awaited state ≡ Some tile
not_yet state tile is = by_least (least_awaited state) refl is
  where
    tile_of : Published → ℕ
    tile_of (NotYet n) = n
    tile_of _ = 0

    by_test : (b : Bool) → NotYet tile ≡ (if b then Same state.published else New state.target) → ⊥
    by_test true other = absurd cc
    by_test false other = absurd cc

    by_least : (least : Option ℕ) → least_awaited state ≡ least → NotYet tile ≡ publication_by least state.target state.published
        → least_awaited state ≡ Some tile
    by_least (Some other) here same = here ∙ ap Some (sym (ap tile_of same))
    by_least None here same = absurd (by_test (state.target == state.published) same)

-- no tile is awaited where it does not say so
pub none_yet : (state : BookState) (answer : Published) → answer ≡ publication state → ((tile : ℕ) → answer ≡ NotYet tile → ⊥) → least_awaited state ≡ None
none_yet state answer is never = by_least (least_awaited state) refl
  where
    by_least : (least : Option ℕ) → least_awaited state ≡ least → least_awaited state ≡ None
    by_least (Some tile) here = absurd (never tile (is ∙ ap (λ (least : Option ℕ). publication_by least state.target state.published) here))
    by_least None here = here
