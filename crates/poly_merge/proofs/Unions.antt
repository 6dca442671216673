-- Two pieces together: their points, and how many there are.
use Rattle.std.proofs.Common.{◌≡◌, ℕ, zero, suc, ◌+◌, ◌<◌, ◌≤◌, Bool, true, false, cond, List, Option, [], ◌∷◌, ◌++◌, length, map, All, refl, sym, ap, subst, ◌∙◌, arith, length-append, length-take, length-drop}
use Rattle.std.specs.Prelude.{None, Some, nat_le, ◌&&◌, ◌↔◌, IsTrue}
use Rattle.std.specs.Option.{option_map}
use Rattle.std.specs.List.{cons_option, filter_map, find, range_with_len}
use Rattle.std.proofs.lemmas.Bool.Decides.{nat_tests}
use Rattle.std.proofs.lemmas.List.{map-append}
use Rattle.std.proofs.lemmas.List.Elements.{All-map, All-append, All-get_or, All-nil, All-cons, All-head, All-tail}
use Rattle.nav_base.specs.declared.point.Point.{Point}
use Rattle.nav_base.specs.Point.{HasCoordinates}
use Rattle.nav_base.specs.Convex.{IsStrictlyConvex, corner_at}
use Rattle.mesh_types.specs.declared.region.Piece.{Piece}
use Rattle.mesh_types.specs.Ears.{ArePlacesOf}
use Rattle.mesh_types.specs.Merging as merging
use Rattle.mesh_types.specs.Merging.{IsPieceOf, is_admissible, is_convex, is_facing, merge_over, merges_between, past_edge, places_at, union_of}
use Rattle.mesh_types.proofs.EarLaws.{all_below}
use Rattle.mesh_types.proofs.MergeLaws.{is_convex-is, is_convex-from, past_edge-places, piece_at}

-- all but one
length-past_edge : (places : List ℕ) (edge : ℕ) → edge < length places → length (past_edge places edge) + 1 ≡ length places
length-past_edge places edge below = simp (length-append, length-drop, length-take) (omega (arith, below))

-- the points of two pieces together, one piece after the other
pub union-points : (corners : List Point) (pieces : List Piece) (m : merging.Merge) (p q : List ℕ) (first both : List Point)
    → p ≡ places_at pieces m.first → q ≡ places_at pieces m.second → first ≡ map (corner_at corners) (past_edge p m.edge)
    → both ≡ first ++ map (corner_at corners) (past_edge q m.facing) → both ≡ map (corner_at corners) (union_of pieces m)
union-points corners pieces m p q first both is_p is_q is_first is_both =
    is_both ∙ (λ i. is_first i ++ map (corner_at corners) (past_edge (is_q i) m.facing))
    ∙ (λ i. map (corner_at corners) (past_edge (is_p i) m.edge) ++ map (corner_at corners) (past_edge (places_at pieces m.second) m.facing))
    ∙ sym (map-append (corner_at corners) (past_edge (places_at pieces m.first) m.edge) (past_edge (places_at pieces m.second) m.facing))

-- they have coordinates
pub union-coordinates : (corners : List Point) (pieces : List Piece) (m : merging.Merge) → All HasCoordinates corners → All (IsPieceOf corners) pieces
    → m.first < length pieces → m.second < length pieces → All HasCoordinates (map (corner_at corners) (union_of pieces m))
union-coordinates corners pieces m points are first second =
    All-map HasCoordinates (corner_at corners) (union_of pieces m)
    (λ k d below. All-get_or HasCoordinates corners _ _ (places k d below) points)
  where
    places : ArePlacesOf corners (union_of pieces m)
    places = All-append (λ place. place < length corners) (past_edge (places_at pieces m.first) m.edge) (past_edge (places_at pieces m.second) m.facing)
        (past_edge-places corners (places_at pieces m.first) m.edge (piece_at corners pieces m.first are first).places)
        (past_edge-places corners (places_at pieces m.second) m.facing (piece_at corners pieces m.second are second).places)

-- at most six where two pieces have eight corners
pub length-union : (pieces : List Piece) (m : merging.Merge) → m.edge < length (places_at pieces m.first) → m.facing < length (places_at pieces m.second)
    → length (union_of pieces m) + 2 ≡ length (places_at pieces m.first) + length (places_at pieces m.second)
length-union pieces m edge facing =
    let both = length-append (past_edge (places_at pieces m.first) m.edge) (past_edge (places_at pieces m.second) m.facing) in
    omega (arith, both, length-past_edge (places_at pieces m.first) m.edge edge, length-past_edge (places_at pieces m.second) m.facing facing)

-- two tests of one fact
same_test : (b c : Bool) (P : Type 0) → (IsTrue b ↔ P) → (c ≡ true → P) → (P → c ≡ true) → b ≡ c
same_test true true P is there back = refl
same_test true false P is there back = sym (back (is.0 refl))
same_test false true P is there back = is.1 (there refl)
same_test false false P is there back = refl

-- the test that is left for few corners
pub admissible-few : (b : Bool) (corners : List Point) (pieces : List Piece) (m : merging.Merge) (points : List Point) → points ≡ map (corner_at corners) (union_of pieces m)
    → length (union_of pieces m) ≤ 6 → (IsTrue b ↔ IsStrictlyConvex points) → b ≡ is_admissible corners pieces m
admissible-few b corners pieces m points same few is =
    let size : nat_le (length (union_of pieces m)) 6 ≡ true = at_most (length (union_of pieces m)) few in
    let convex : b ≡ is_convex points = same_test b (is_convex points) (IsStrictlyConvex points) is (is_convex-is points) (is_convex-from points) in
    convex ∙ ap is_convex same ∙ ap (λ c. c && is_convex (map (corner_at corners) (union_of pieces m))) (sym size)
  where
    at_most : (n : ℕ) → n ≤ 6 → nat_le n 6 ≡ true
    at_most n few = grind (arith, nat_tests)

-- what a search along a range finds is in the range
pub find-below : (p : ℕ → Bool) (start count i : ℕ) → find p (range_with_len start count) ≡ Some i → i < start + count
find-below p start zero i is = absurd (cc)
find-below p start (suc count) i is = cases (p start) is (λ e. find-below p (start + 1) count i e)
  where
    cases : (b : Bool) → cond b (Some start) (find p (range_with_len (start + 1) count)) ≡ Some i
        → (find p (range_with_len (start + 1) count) ≡ Some i → i < start + 1 + count) → i < start + suc count
    cases true e later = let same : start ≡ i = cc in omega (arith, same)
    cases false e later = omega (arith, later e)

-- what holds of all that a look-up finds
All-filter_map : {X Y : Type 0} (h : X → Option Y) (P : Y → Type 0) (xs : List X) → All (λ x. (y : Y) → h x ≡ Some y → P y) xs → All P (filter_map h xs)
All-filter_map h P [] each = All-nil P
All-filter_map {X} {Y} h P (x ∷ xs) each = first (h x) refl (All-filter_map h P xs (All-tail (λ x. (y : Y) → h x ≡ Some y → P y) x xs each))
  where
    first : (o : Option Y) → h x ≡ o → All P (filter_map h xs) → All P (cons_option o (filter_map h xs))
    first None e rest = rest
    first (Some y) e rest = All-cons P y (filter_map h xs) (All-head (λ x. (y : Y) → h x ≡ Some y → P y) x xs each y e) rest

-- two pieces with more than eight corners have no admissible merge
pub none-admissible : (corners : List Point) (pieces : List Piece) (first second : ℕ) → 8 < length (places_at pieces first) + length (places_at pieces second)
    → All (λ m. is_admissible corners pieces m ≡ false) (merges_between pieces first second)
none-admissible corners pieces first second many =
    All-filter_map (merge_over pieces first second) (λ m. is_admissible corners pieces m ≡ false) (range_with_len 0 (length p))
    (λ k d below m is. one _ (All-get_or (λ edge. edge < length p) (range_with_len 0 (length p)) k d below (all_below (length p))) m _ refl is)
  where
    p : List ℕ
    p = places_at pieces first

    q : List ℕ
    q = places_at pieces second

    large : (n : ℕ) (b : Bool) → 6 < n → (nat_le n 6 && b) ≡ false
    large n b more = grind (arith, nat_tests)

    at : ℕ → ℕ → merging.Merge
    at edge facing = record { first = first; second = second; edge = edge; facing = facing }

    one : (edge : ℕ) → edge < length p → (m : merging.Merge) (o : Option ℕ) → find (is_facing p edge q) (range_with_len 0 (length q)) ≡ o
        → option_map (at edge) o ≡ Some m → is_admissible corners pieces m ≡ false
    one edge there m None e is = absurd (cc)
    one edge there m (Some facing) e is =
        let same : at edge facing ≡ m = cc in
        let found : facing < 0 + length q = find-below (is_facing p edge q) 0 (length q) facing e in
        subst (λ m. is_admissible corners pieces m ≡ false) same
        (large (length (union_of pieces (at edge facing))) _ (omega (arith, many, length-union pieces (at edge facing) there (omega (arith, found)))))
