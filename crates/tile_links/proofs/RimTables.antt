-- The places of a rim: which entries they name, and that they are handed out in order.
use Rattle.std.proofs.Common.{◌≡◌, ℕ, ◌<◌, Bool, true, false, List, [], ◌++◌, filter, length, take, drop, get_or, ap, ◌∙◌, sym, subst, arith}
use Rattle.std.specs.Prelude.{All, ◌==◌, if◌then◌else◌}
use Rattle.std.specs.List.{flat_map, range_with_len}
use Rattle.std.specs.List.Sorted.{IsPermutation}
use Rattle.std.proofs.lemmas.List.{map-id}
use Rattle.std.proofs.lemmas.List.Elements.{All-map, All-filter, All-nil}
use Rattle.std.proofs.lemmas.List.FromFn.{get_or-range_with_len, length-range_with_len}
use Rattle.std.proofs.lemmas.Map.Views.{All-map-IsPermutation}
use Rattle.mesh_types.specs.declared.mesh.RimEdge.{RimEdge}
use Rattle.tile_links.specs.declared.rim.RimPlace.{RimPlace}
use Rattle.tile_links.specs.RimPlaces.{entry_of, place_of, entry_places, places_along, side_places, AreInOrder, ArePlaces, is_at_place}
use Rattle.tile_links.proofs.LooseLinks.{All-flat_map, written_back}

-- a place names an entry that is there
names_entry : (side : ℕ) (rim : List RimEdge) → All (λ (place : RimPlace). place.entry < length rim) (side_places side rim)
names_entry side rim =
    All-flat_map P (places_along side rim) (range_with_len 0 (length rim))
    (λ k d there.
    let number : ℕ = get_or (range_with_len 0 (length rim)) k d in
    let there' : k < length rim = omega (arith, there, length-range_with_len 0 (length rim)) in
    by_side number (omega (arith, there', get_or-range_with_len 0 (length rim) k d there')) ((entry_of rim number).side == side))
  where
    P : RimPlace → Type 0
    P place = place.entry < length rim

    by_side : (number : ℕ) → number < length rim → (b : Bool) → All P (if b then entry_places number (entry_of rim number) else [])
    by_side number there true =
        All-map P (place_of number (entry_of rim number)) (range_with_len 0 (length (entry_of rim number).pairs)) (λ k d inside. there)
    by_side number there false = All-nil P

-- so do those that are looked up
pub found_within : (side : ℕ) (rim : List RimEdge) (places across : List RimPlace) (position level i : ℕ) (d : RimPlace) → ArePlaces side rim places
    → across ≡ filter (is_at_place position level) places → i < length across → (get_or across i d).entry < length rim
found_within side rim places across position level i d are is there =
    let P : RimPlace → Type 0 = λ place. place.entry < length rim in
    let Q : List RimPlace → Type 0 = All P in
    let all : All P places =
    subst Q (map-id places) (All-map-IsPermutation (λ (place : RimPlace). place) P (side_places side rim) places are.all (subst Q (sym (map-id (side_places side rim))) (names_entry side rim))) in
    subst Q (sym is) (All-filter (is_at_place position level) P places all) i d there

-- the places as they are handed out
pub handed_out : (side : ℕ) (rim : List RimEdge) (len number : ℕ) (items lent new : List RimPlace) → len ≡ length items → lent ≡ items → length new ≡ length lent
    → AreInOrder new → IsPermutation lent new → items ≡ flat_map (places_along side rim) (range_with_len 0 number) → number ≡ length rim
    → ArePlaces side rim (take len (new ++ drop (length new) items))
handed_out side rim len number items lent new count same kept order moved made all =
    let are : lent ≡ side_places side rim = same ∙ made ∙ ap (λ n. flat_map (places_along side rim) (range_with_len 0 n)) all in
    subst (ArePlaces side rim) (sym (written_back len items lent new count same kept))
    (record { order = order; all = subst (λ (places : List RimPlace). IsPermutation places new) are moved })

-- the same places, said of equal values
pub same_places : (side side' : ℕ) (rim rim' : List RimEdge) (places places' : List RimPlace) → ArePlaces side rim places → side ≡ side' → rim ≡ rim'
    → places ≡ places' → ArePlaces side' rim' places'
same_places side side' rim rim' places places' are same same' same'' =
    subst (ArePlaces side' rim') same'' (subst (λ r. ArePlaces side' r places) same' (subst (λ n. ArePlaces n rim places) same are))
