-- The links that are found by places are those of the definition, each as often, in another order.
use Rattle.std.proofs.Common.{◌≡◌, ℕ, ◌+◌, ◌-◌, ◌<◌, ◌≤◌, Bool, true, false, cond, List, [], ◌∷◌, ◌++◌, map, filter, length, get_or, Option, ap, ◌∙◌, sym, refl, arith}
use Rattle.std.specs.Prelude.{Some, None, ◌==◌, nat_le, slice_get, if◌then◌else◌}
use Rattle.std.specs.List.{sum_by, count_by, flat_map, filter_map, cons_option, range_with_len}
use Rattle.std.specs.List.Sorted.{IsPermutation}
use Rattle.std.proofs.lemmas.Bool.{and_parts, and_from, eq-eqb, eqb-true, leb-true, le-leb}
use Rattle.std.proofs.lemmas.List.FromFn.{get_or-range_with_len, length-range_with_len}
use Rattle.std.proofs.lemmas.List.Sorted.{sum_by-IsPermutation}
use Rattle.std.proofs.lemmas.List.Sums.{sum_by-cons, sum_by-append, get_or-le-sum_by}
use Rattle.std.proofs.lemmas.Option.{slice_get_within, get_or_from_slice_get, slice_get-get_or}
use Rattle.nav_ground.specs.Cells.{opposite}
use Rattle.mesh_types.specs.declared.region.LabelRun.{LabelRun}
use Rattle.mesh_types.specs.declared.links.Link.{Link}
use Rattle.mesh_types.specs.declared.mesh.LevelPair.{LevelPair}
use Rattle.mesh_types.specs.declared.mesh.RimEdge.{RimEdge}
use Rattle.mesh_types.specs.declared.mesh.TileMesh.{TileMesh}
use Rattle.mesh_types.specs.Runs.{label_if, run_with, runs_of}
use Rattle.mesh_types.specs.BorderLinks.{pair_at, are_meeting, meetings, along_side, border_link}
use Rattle.mesh_types.proofs.Totals.{sum_by-map, sum_by-flat_map, sum_by-filter, sum_by-zero, sum_by-same, sum_by-range_same, sum_by-exchanged, sum_by-numbers, once_in_range}
use Rattle.tile_links.specs.declared.rim.RimPlace.{RimPlace}
use Rattle.tile_links.specs.RimPlaces.{some_entry, some_pair, pair_of, entry_of, place_of, entry_places, places_along, side_places, is_at_place}
use Rattle.tile_links.specs.Loose.{run_at, pair_links, entry_links, loose_links, run_links, place_links, placed_links, HasGained}
use Rattle.tile_links.proofs.MeetingPlaces.{length-meetings, meeting_at}

-- a place of an entry where it meets another: the other has there the level that the one leads to
record IsMet (entry other : RimEdge) (place : ℕ) : Type 0 where
  pub begins : other.first ≤ entry.first + place
  pub inside : entry.first + place - other.first < length other.pairs
  pub level : (pair_of other (entry.first + place - other.first)).own ≡ (pair_of entry place).other

met : (entry other : RimEdge) (place : ℕ) → place < length entry.pairs
    → are_meeting (pair_at entry (entry.first + place)) (pair_at other (entry.first + place)) ≡ true → IsMet entry other place
met entry other place there meet = by_test (nat_le other.first position) refl (own ∙ meet)
  where
    position : ℕ
    position = entry.first + place

    -- the entry's own pair at the position
    own : are_meeting (Some (pair_of entry place)) (pair_at other position) ≡ are_meeting (pair_at entry position) (pair_at other position)
    own =
        ap (λ (o : Option LevelPair). are_meeting o (pair_at other position))
        (sym (slice_get-get_or entry.pairs place some_pair there)
        ∙ ap (slice_get entry.pairs) {x = place} {y = position - entry.first} (omega arith)
        ∙ ap (λ b. if b then slice_get entry.pairs (position - entry.first) else None) {x = true} {y = nat_le entry.first position} (sym (le-leb entry.first position (omega arith))))

    by_pair : other.first ≤ position → (found : Option LevelPair) → slice_get other.pairs (position - other.first) ≡ found
        → are_meeting (Some (pair_of entry place)) found ≡ true → IsMet entry other place
    by_pair begins None at is = absurd cc
    by_pair begins (Some pair) at is = record {
      begins = begins;
      inside = slice_get_within other.pairs (position - other.first) pair at;
      level = ap (λ (p : LevelPair). p.own) (get_or_from_slice_get other.pairs (position - other.first) pair some_pair at)
          ∙ sym (eqb-true (pair_of entry place).other pair.own (and_parts ((pair_of entry place).own == pair.other) _ is).1);
    }

    by_test : (b : Bool) → nat_le other.first position ≡ b
        → are_meeting (Some (pair_of entry place)) (if b then slice_get other.pairs (position - other.first) else None) ≡ true → IsMet entry other place
    by_test true begins is = by_pair (leb-true other.first position begins) (slice_get other.pairs (position - other.first)) refl is
    by_test false after is = absurd cc

-- where a run begins the entries meet
begun_met : (entry other : RimEdge) (place : ℕ) (run : LabelRun) → place < length entry.pairs → run_at entry other place ≡ Some run → IsMet entry other place
begun_met entry other place run there is =
    met entry other place there
    (by_test (are_meeting (pair_at entry (entry.first + place)) (pair_at other (entry.first + place)))
    (ap (run_with (meetings entry other) place) (sym (meeting_at entry other place there)) ∙ is))
  where
    by_test : (b : Bool) → run_with (meetings entry other) place (label_if b) ≡ Some run → b ≡ true
    by_test true is = refl
    by_test false is = absurd cc

-- so of the places of an entry exactly one is looked up where a run begins
looked_up : (entry other : RimEdge) (place weight : ℕ) → IsMet entry other place
    → sum_by (λ k. cond (is_at_place (entry.first + place) (pair_of entry place).other (place_of 0 other k)) weight 0) (range_with_len 0 (length other.pairs)) ≡ weight
looked_up entry other place weight is =
    let position : ℕ = entry.first + place in
    let level : ℕ = (pair_of entry place).other in
    let test : ℕ → Bool = λ k. is_at_place position level (place_of 0 other k) in
    let places : List ℕ = range_with_len 0 (length other.pairs) in
    let k : ℕ = position - other.first in
    let most = once_in_range test weight 0 (length other.pairs)
    (λ i j less below at_i at_j.
    let first = eqb-true (other.first + i) position (and_parts (other.first + i == position) _ at_i).0 in
    let second = eqb-true (other.first + j) position (and_parts (other.first + j == position) _ at_j).0 in
    omega (arith, less, first, second)) in
    let at : get_or places k 0 ≡ k = get_or-range_with_len 0 (length other.pairs) k 0 is.inside ∙ omega arith in
    let passes : test k ≡ true =
    and_from (other.first + k == position) _ (eq-eqb (other.first + k) position (omega (arith, is.begins))) (eq-eqb _ level is.level) in
    let this : cond (test (get_or places k 0)) weight 0 ≡ weight = ap (λ n. cond (test n) weight 0) at ∙ ap (λ b. cond b weight 0) passes in
    let least = get_or-le-sum_by (λ k. cond (test k) weight 0) places k 0 (omega (arith, is.inside, length-range_with_len 0 (length other.pairs))) in
    omega (arith, most, least, this)

-- how often a test holds of the link along the run that begins at a place, if one does
abbrev weight_of : (Link → Bool) → TileMesh → TileMesh → ℕ → RimEdge → RimEdge → ℕ → ℕ
weight_of p a b side entry other place = count_by p (map (border_link a b side entry other) (cons_option (run_at entry other place) []))

looked_up_weight : (p : Link → Bool) (a b : TileMesh) (side : ℕ) (entry other : RimEdge) (place : ℕ) → place < length entry.pairs
    → sum_by (λ k. cond (is_at_place (entry.first + place) (pair_of entry place).other (place_of 0 other k)) (weight_of p a b side entry other place) 0)
    (range_with_len 0 (length other.pairs))
    ≡ weight_of p a b side entry other place
looked_up_weight p a b side entry other place there = by_run (run_at entry other place) refl
  where
    test : ℕ → Bool
    test k = is_at_place (entry.first + place) (pair_of entry place).other (place_of 0 other k)

    nothing : (b : Bool) → ◌≡◌ {A = ℕ} (cond b 0 0) 0
    nothing true = refl
    nothing false = refl

    by_run : (o : Option LabelRun) → run_at entry other place ≡ o
        → sum_by (λ k. cond (test k) (count_by p (map (border_link a b side entry other) (cons_option o []))) 0) (range_with_len 0 (length other.pairs))
        ≡ count_by p (map (border_link a b side entry other) (cons_option o []))
    by_run None is = sum_by-same (λ k. cond (test k) 0 0) (λ k. 0) (range_with_len 0 (length other.pairs)) (λ k. nothing (test k)) ∙ sum_by-zero (range_with_len 0 (length other.pairs))
    by_run (Some run) is = looked_up entry other place _ (begun_met entry other place run there is)

-- the links along the runs of two entries, by the places where the runs begin
found_by_run : (p : Link → Bool) (a b : TileMesh) (side : ℕ) (entry other : RimEdge)
    → count_by p (pair_links a b side entry other) ≡ sum_by (weight_of p a b side entry other) (range_with_len 0 (length entry.pairs))
unfolding runs_of
found_by_run p a b side entry other =
    by_places (range_with_len 0 (length (meetings entry other)))
    ∙ ap (λ n. sum_by (weight_of p a b side entry other) (range_with_len 0 n)) (length-meetings entry other)
  where
    g : LabelRun → Link
    g = border_link a b side entry other

    rest_of : List ℕ → List Link
    rest_of places = map g (filter_map (run_at entry other) places)

    by_run : (places : List ℕ) (o : Option LabelRun) → count_by p (rest_of places) ≡ sum_by (weight_of p a b side entry other) places
        → count_by p (map g (cons_option o (filter_map (run_at entry other) places)))
        ≡ count_by p (map g (cons_option o [])) + sum_by (weight_of p a b side entry other) places
    by_run places None rest = omega (arith, rest)
    by_run places (Some run) rest =
        omega (arith, rest, sum_by-cons (λ link. cond (p link) 1 0) (g run) (rest_of places), sum_by-cons (λ link. cond (p link) 1 0) (g run) [])

    by_places : (places : List ℕ) → count_by p (rest_of places) ≡ sum_by (weight_of p a b side entry other) places
    by_places [] = refl
    by_places (place ∷ places) =
        by_run places (run_at entry other place) (by_places places) ∙ sym (sum_by-cons (weight_of p a b side entry other) place places)

-- what is found at a place of an entry, entry by entry across
found_at_place : (p : Link → Bool) (a b : TileMesh) (side : ℕ) (entry : RimEdge) (places : List RimPlace) (place : ℕ)
    → IsPermutation (side_places (opposite side) b.rim) places → place < length entry.pairs
    → count_by p (place_links a b side entry places place)
    ≡ sum_by (λ (other : RimEdge). weight_of p a b side entry other place) (along_side (opposite side) b.rim)
found_at_place p a b side entry places place all there =
    sum_by-flat_map (λ link. cond (p link) 1 0) (run_links a b side entry place) (filter test places)
    ∙ sum_by-filter (λ (found : RimPlace). weight (entry_of b.rim found.entry)) test places
    ∙ sum_by-IsPermutation looked (side_places facing b.rim) places all
    ∙ sum_by-flat_map looked (places_along facing b.rim) (range_with_len 0 (length b.rim))
    ∙ sum_by-same (λ number. sum_by looked (places_along facing b.rim number)) (λ number. faced (entry_of b.rim number)) (range_with_len 0 (length b.rim))
    (λ number. by_side number ((entry_of b.rim number).side == facing))
    ∙ sum_by-numbers faced b.rim some_entry
    ∙ sym (sum_by-filter weight (λ (other : RimEdge). other.side == facing) b.rim)
  where
    facing : ℕ
    facing = opposite side

    test : RimPlace → Bool
    test = is_at_place (entry.first + place) (pair_of entry place).other

    weight : RimEdge → ℕ
    weight other = weight_of p a b side entry other place

    looked : RimPlace → ℕ
    looked found = cond (test found) (weight (entry_of b.rim found.entry)) 0

    faced : RimEdge → ℕ
    faced other = cond (other.side == facing) (weight other) 0

    by_side : (number : ℕ) (t : Bool)
        → sum_by looked (if t then entry_places number (entry_of b.rim number) else []) ≡ cond t (weight (entry_of b.rim number)) 0
    by_side number true =
        sum_by-map looked (place_of number (entry_of b.rim number)) (range_with_len 0 (length (entry_of b.rim number).pairs))
        ∙ looked_up_weight p a b side entry (entry_of b.rim number) place there
    by_side number false = refl

-- what is found of an entry
found_of_entry : (p : Link → Bool) (a b : TileMesh) (side : ℕ) (places : List RimPlace) (entry : RimEdge)
    → IsPermutation (side_places (opposite side) b.rim) places
    → count_by p (placed_links a b side places entry) ≡ count_by p (entry_links a b side entry (along_side (opposite side) b.rim))
found_of_entry p a b side places entry all =
    let others : List RimEdge = along_side (opposite side) b.rim in
    let numbers : List ℕ = range_with_len 0 (length entry.pairs) in
    sum_by-flat_map (λ link. cond (p link) 1 0) (place_links a b side entry places) numbers
    ∙ sum_by-range_same (λ place. count_by p (place_links a b side entry places place))
    (λ place. sum_by (λ (other : RimEdge). weight_of p a b side entry other place) others) 0 (length entry.pairs)
    (λ place least most. found_at_place p a b side entry places place all (omega (arith, most)))
    ∙ sum_by-exchanged (λ place (other : RimEdge). weight_of p a b side entry other place) numbers others
    ∙ sum_by-same (λ (other : RimEdge). sum_by (weight_of p a b side entry other) numbers) (λ other. count_by p (pair_links a b side entry other)) others
    (λ other. sym (found_by_run p a b side entry other))
    ∙ sym (sum_by-flat_map (λ link. cond (p link) 1 0) (pair_links a b side entry) others)

-- so the links from all entries along a side are gained
pub gained : (a b : TileMesh) (side : ℕ) (places : List RimPlace) (old new : List Link) → IsPermutation (side_places (opposite side) b.rim) places
    → new ≡ old ++ flat_map (placed_links a b side places) (along_side side a.rim) → HasGained old (loose_links a b side) new
gained a b side places old new all is p =
    let entries : List RimEdge = along_side side a.rim in
    let found : List Link = flat_map (placed_links a b side places) entries in
    let from : RimEdge → List Link = λ (entry : RimEdge). entry_links a b side entry (along_side (opposite side) b.rim) in
    let same : count_by p found ≡ count_by p (loose_links a b side) =
    sum_by-flat_map (λ link. cond (p link) 1 0) (placed_links a b side places) entries
    ∙ sum_by-same (λ entry. count_by p (placed_links a b side places entry)) (λ entry. count_by p (from entry)) entries
    (λ entry. found_of_entry p a b side places entry all)
    ∙ sym (sum_by-flat_map (λ link. cond (p link) 1 0) from entries) in
    ap (count_by p) is
    ∙ sum_by-append (λ link. cond (p link) 1 0) old found
    ∙ ap (λ n. count_by p old + n) same
    ∙ sym (sum_by-append (λ link. cond (p link) 1 0) old (loose_links a b side))

-- gains add up
pub gained_more : (start first second mid new : List Link) → HasGained start first mid → HasGained mid second new → HasGained start (first ++ second) new
gained_more start first second mid new gain gain' p =
    gain' p
    ∙ sum_by-append (λ link. cond (p link) 1 0) mid second
    ∙ ap (λ n. n + count_by p second) (gain p ∙ sum_by-append (λ link. cond (p link) 1 0) start first)
    ∙ omega (arith, sum_by-append (λ link. cond (p link) 1 0) start (first ++ second), sum_by-append (λ link. cond (p link) 1 0) first second)
