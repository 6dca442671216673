-- The laws of merging: the test for strict convexity, what pieces keep, and the walk of the merges.
use Rattle.std.proofs.Common.{◌≡◌, ◌≢◌, ℕ, zero, suc, ◌+◌, ◌<◌, ◌≤◌, pos, ◌<ℤ◌, Bool, true, false, List, [], ◌∷◌, length, get_or, take, drop, map, All, refl, ap, ◌∙◌, inl, inr, arith}
use Rattle.std.specs.Prelude.{None, Some, nat_le, ◌||◌, ◌==◌, slice_set}
use Rattle.std.specs.Option.{option_map_or}
use Rattle.std.specs.List.{list_all, range_with_len}
use Rattle.std.proofs.Math.Dec.{T}
use Rattle.std.proofs.Math.ListN.{length-set}
use Rattle.std.proofs.lemmas.Bool.{and_parts, cases_eq}
use Rattle.std.proofs.lemmas.Bool.Decides.{nat_tests}
use Rattle.std.proofs.lemmas.List.Edits.{length-remove}
use Rattle.std.proofs.lemmas.List.Elements.{All-map, All-cons, All-nil, All-append, All-take, All-drop, All-get_or, All-set}
use Rattle.nav_base.specs.declared.point.Point.{Point}
use Rattle.nav_base.specs.Convex.{IsStrictlyConvex, LiesLeft, corner_at, place_after}
use Rattle.nav_base.proofs.ConvexLaws.{IsStrictlyConvex-triangle}
use Rattle.mesh_types.specs.declared.region.Triangle.{Triangle}
use Rattle.mesh_types.specs.declared.region.Piece.{Piece}
use Rattle.mesh_types.specs.Ears.{ArePlacesOf, IsTriangleOf, turn_of}
use Rattle.mesh_types.specs.Merging.{IsPieceOf, Merge, best_merge, is_admissible, is_convex, joined, lies_left, merge_all, merged, merges_of, past_edge, places_at, union_of}
use Rattle.mesh_types.proofs.Words.{is_longer}
use Rattle.mesh_types.specs.Words.{piece_of}
use Rattle.mesh_types.proofs.ChoiceLaws.{first_best-all, filter-passes}
use Rattle.mesh_types.proofs.EarLaws.{AreTriangles, lt_z_true}

-- ---- the test for strict convexity

-- a test that all numbers of a range pass
all_range : (p : ℕ → Bool) (first count : ℕ) → list_all p (range_with_len first count) ≡ true → (i : ℕ) → first ≤ i → i < first + count → p i ≡ true
all_range p first zero is i low high = absurd (omega arith)
all_range p first (suc count) is i low high =
    let both = and_parts (p first) (list_all p (range_with_len (first + 1) count)) is in
    elim (cases_eq i first) [
      | inl same ↦ ap p same ∙ both.0
      | inr differ ↦ all_range p (first + 1) count both.1 i (omega arith) (omega arith)
    ]

all_range-from : (p : ℕ → Bool) (first count : ℕ) → ((i : ℕ) → first ≤ i → i < first + count → p i ≡ true) → list_all p (range_with_len first count) ≡ true
all_range-from p first zero each = refl
all_range-from p first (suc count) each =
    let here = each first (omega arith) (omega arith) in
    let rest = all_range-from p (first + 1) count (λ i low high. each i (omega (arith, low)) (omega (arith, high))) in
    cc

-- one of three
or_third : (i j k : ℕ) (b : Bool) → (j == i || j == k || b) ≡ true → j ≢ i → j ≢ k → b ≡ true
or_third i j k b is differ apart = grind (arith, nat_tests)

or_third-from : (i j k : ℕ) (b : Bool) → (j ≢ i → j ≢ k → b ≡ true) → (j == i || j == k || b) ≡ true
or_third-from i j k b is =
    elim (cases_eq j i) [
      | inl same ↦ grind (arith, nat_tests, same)
      | inr differ ↦ elim (cases_eq j k) [
        | inl same ↦ grind (arith, nat_tests, same)
        | inr apart ↦ let third = is differ apart in grind (arith, nat_tests, third)
      ]
    ]

lt_z_yes_true : (b : Bool) → T b → b ≡ true
lt_z_yes_true true h = refl
lt_z_yes_true false h = absurd h

lies_left-is : (corners : List Point) (i j : ℕ) → lies_left corners i j ≡ true → LiesLeft corners i j
lies_left-is corners i j is differ apart = lt_z_true _ _ (or_third i j (place_after (length corners) i) _ is differ apart)

lies_left-from : (corners : List Point) (i j : ℕ) → LiesLeft corners i j → lies_left corners i j ≡ true
lies_left-from corners i j is = or_third-from i j (place_after (length corners) i) _ (λ differ apart. lt_z_yes_true _ (is differ apart).lt)

-- a count that is enough
enough_is : (n : ℕ) → nat_le 3 n ≡ true → 3 ≤ n
enough_is n is = grind (arith, nat_tests)

enough_from : (n : ℕ) → 3 ≤ n → nat_le 3 n ≡ true
enough_from n is = grind (arith, nat_tests)

pub is_convex-is : (corners : List Point) → is_convex corners ≡ true → IsStrictlyConvex corners
unfolding is_convex
is_convex-is corners is =
    let n = length corners in
    let row : ℕ → Bool = λ i. list_all (lies_left corners i) (range_with_len 0 n) in
    let parts = and_parts (nat_le 3 n) (list_all row (range_with_len 0 n)) is in
    record {
      enough = enough_is n parts.0;
      left = λ i i-in j j-in.
          lies_left-is corners i j (all_range (lies_left corners i) 0 n (all_range row 0 n parts.1 i (omega arith) (omega (arith, i-in))) j (omega arith) (omega (arith, j-in)));
    }

pub is_convex-from : (corners : List Point) → IsStrictlyConvex corners → is_convex corners ≡ true
unfolding is_convex
is_convex-from corners is =
    let n = length corners in
    let row : ℕ → Bool = λ i. list_all (lies_left corners i) (range_with_len 0 n) in
    let enough = enough_from n is.enough in
    let all : list_all row (range_with_len 0 n) ≡ true =
    all_range-from row 0 n (λ i low i-in. all_range-from (lies_left corners i) 0 n (λ j low' j-in. lies_left-from corners i j (is.left i (omega (arith, i-in)) j (omega (arith, j-in))))) in
    cc

-- ---- what pieces keep

-- the best merge is admissible
pub best_merge-admissible : (corners : List Point) (pieces : List Piece) (m : Merge) → best_merge corners pieces ≡ Some m → is_admissible corners pieces m ≡ true
unfolding best_merge
best_merge-admissible corners pieces m is =
    (first_best-all (is_longer corners pieces) (λ m. (m ≡ m) × (is_admissible corners pieces m ≡ true)) _ m
    (filter-passes (is_admissible corners pieces) (λ m. m ≡ m) (merges_of pieces) (λ k d below. refl)) is).1

-- all places of a piece but the beginning of an edge name corners
pub past_edge-places : (corners : List Point) (places : List ℕ) (edge : ℕ) → ArePlacesOf corners places → ArePlacesOf corners (past_edge places edge)
past_edge-places corners places edge are =
    All-append (λ place. place < length corners) (drop (edge + 1) places) (take edge places) (All-drop (λ place. place < length corners) (edge + 1) places are)
    (All-take (λ place. place < length corners) edge places are)

-- the piece at an index
pub piece_at : (corners : List Point) (pieces : List Piece) (i : ℕ) → All (IsPieceOf corners) pieces → i < length pieces
    → IsPieceOf corners (get_or pieces i (record { corners = [] }))
piece_at corners pieces i are below = All-get_or (IsPieceOf corners) pieces i (record { corners = [] }) below are

-- the pieces after an admissible merge
pub joined-pieces : (corners : List Point) (pieces : List Piece) (m : Merge) → All (IsPieceOf corners) pieces → m.first < length pieces → m.second < length pieces
    → is_admissible corners pieces m ≡ true → All (IsPieceOf corners) (joined pieces m)
joined-pieces corners pieces m are first second admissible =
    let both = and_parts (nat_le (length (union_of pieces m)) 6) (is_convex (map (corner_at corners) (union_of pieces m))) admissible in
    let united : IsPieceOf corners (record { corners = union_of pieces m }) = record {
      places = All-append (λ place. place < length corners) (past_edge (places_at pieces m.first) m.edge) (past_edge (places_at pieces m.second) m.facing)
          (past_edge-places corners (places_at pieces m.first) m.edge (piece_at corners pieces m.first are first).places)
          (past_edge-places corners (places_at pieces m.second) m.facing (piece_at corners pieces m.second are second).places);
      most = at_most_6 (length (union_of pieces m)) both.0;
      convex = is_convex-is (map (corner_at corners) (union_of pieces m)) both.1;
    } in
    let set = All-set (IsPieceOf corners) pieces m.first (record { corners = union_of pieces m }) united are in
    All-append (IsPieceOf corners) (take m.second (slice_set pieces m.first (record { corners = union_of pieces m }))) (drop (suc m.second) (slice_set pieces m.first (record { corners = union_of pieces m })))
    (All-take (IsPieceOf corners) m.second _ set) (All-drop (IsPieceOf corners) (suc m.second) _ set)
  where
    at_most_6 : (n : ℕ) → nat_le n 6 ≡ true → n ≤ 6
    at_most_6 n is = grind (arith, nat_tests)

-- each merge leaves one piece fewer
pub length-joined : (pieces : List Piece) (m : Merge) → m.second < length pieces → length (joined pieces m) + 1 ≡ length pieces
length-joined pieces m below =
    let set : length (slice_set pieces m.first (record { corners = union_of pieces m })) ≡ length pieces = simp length-set refl in
    length-remove (slice_set pieces m.first (record { corners = union_of pieces m })) m.second (omega (arith, set, below)) ∙ set

-- a counterclockwise triangle is a piece
triangle-piece : (corners : List Point) (t : Triangle) → pos 0 <ℤ turn_of corners t → IsTriangleOf corners t → IsPieceOf corners (piece_of t)
triangle-piece corners t turn there = record {
  places = All-cons (λ place. place < length corners) t.a (t.b ∷ t.c ∷ []) there.a
      (All-cons (λ place. place < length corners) t.b (t.c ∷ []) there.b (All-cons (λ place. place < length corners) t.c [] there.c (All-nil (λ place. place < length corners))));
  most = omega arith;
  convex = IsStrictlyConvex-triangle (corner_at corners t.a) (corner_at corners t.b) (corner_at corners t.c) turn;
}

pub triangles-pieces : (corners : List Point) (many : ℕ) (triangles : List Triangle) → AreTriangles corners many triangles → All (IsPieceOf corners) (map piece_of triangles)
triangles-pieces corners many triangles are =
    All-map (IsPieceOf corners) piece_of triangles (λ k d below. triangle-piece corners (get_or triangles k d) (are.turn k d below) (are.there k d below))

-- ---- the walk of the merges

pub merged-begun : (corners : List Point) (triangles : List Triangle) → merged corners triangles ≡ merge_all corners (length triangles) (map piece_of triangles)
unfolding merged
merged-begun corners triangles = refl

pub merge_all-some : (corners : List Point) (pieces : List Piece) (m : Merge) → best_merge corners pieces ≡ Some m → m.second < length pieces
    → merge_all corners (length pieces) pieces ≡ merge_all corners (length (joined pieces m)) (joined pieces m)
unfolding merge_all
merge_all-some corners pieces m is below =
    ap (λ n. merge_all corners n pieces) {x = length pieces} {y = suc (length (joined pieces m))} (omega (arith, length-joined pieces m below))
    ∙ ap (λ o. option_map_or (λ n. merge_all corners (length (joined pieces m)) (joined pieces n)) o pieces) is

pub merge_all-none : (corners : List Point) (more : ℕ) (pieces : List Piece) → best_merge corners pieces ≡ None → merge_all corners more pieces ≡ pieces
unfolding merge_all
merge_all-none corners zero pieces none = refl
merge_all-none corners (suc more) pieces none = ap (λ o. option_map_or (λ n. merge_all corners more (joined pieces n)) o pieces) none
