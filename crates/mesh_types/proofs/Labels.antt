-- Runs of labels, place by place.
use Rattle.std.proofs.Common.{◌≡◌, ℕ, ◌+◌, List, [], ◌∷◌, ◌++◌, ap, ◌∙◌, sym, arith, Option}
use Rattle.std.specs.List.{filter_map, cons_option, range_with_len}
use Rattle.std.proofs.lemmas.List.Elements.{filter_map-append}
use Rattle.nav_ground.proofs.Selections.{range-push}

-- what a look-up gives of one number more
pub one_more_place : {X : Type 0} (f : ℕ → Option X) (place : ℕ) (found : List X) (next : Option X)
    → next ≡ f place → found ≡ filter_map f (range_with_len 0 place)
    → found ++ cons_option next [] ≡ filter_map f (range_with_len 0 (place + 1))
one_more_place f place found next is before =
    ap (λ o. found ++ cons_option o []) is
    ∙ ap (λ xs. xs ++ cons_option (f place) []) before
    ∙ ap (λ n. filter_map f (range_with_len 0 place) ++ cons_option (f n) []) {x = place} {y = 0 + place} (omega arith)
    ∙ sym (filter_map-append f (range_with_len 0 place) ((0 + place) ∷ []))
    ∙ ap (filter_map f) (sym (range-push 0 place))
