-- The laws of cutting ears: the cut of one ear, and what the triangles of an outline are.
use Rattle.std.proofs.Common.{◌≡◌, ℕ, zero, suc, ◌+◌, ◌-◌, ◌<◌, ◌≤◌, ℤ, pos, ◌<ℤ◌, Bool, true, false, cond, List, [], ◌∷◌, ◌++◌, length, take, drop, filter, All, Option, refl, sym, ap, subst, ◌∙◌, arith, append_assoc}
use Rattle.std.specs.Prelude.{None, Some, Ok, Err, Result, slice_index, if◌then◌else◌}
use Rattle.std.specs.Option.{option_map_or}
use Rattle.std.specs.List.{range_with_len, remove}
use Rattle.std.specs.Int.Signed.{lt_z, lt_z_yes}
use Rattle.std.proofs.Math.Dec.{T}
use Rattle.std.proofs.lemmas.Bool.{and_parts}
use Rattle.std.proofs.lemmas.Bool.Decides.{nat_tests}
use Rattle.std.proofs.lemmas.List.Elements.{All-cons, All-nil, All-append, All-take, All-drop, All-get_or, All-from_get_or, filter-append}
use Rattle.std.specs.Cmp.{IsStrictWeakOrder}
use Rattle.std.proofs.lemmas.List.{append-nil}
use Rattle.std.proofs.lemmas.List.MinMax.{IsStrictWeakOrder-by_number}
use Rattle.std.proofs.lemmas.List.Edits.{length-remove}
use Rattle.std.proofs.lemmas.List.FromFn.{length-range_with_len, get_or-range_with_len}
use Rattle.nav_ground.proofs.Selections.{range-push}
use Rattle.nav_base.proofs.ConvexLaws.{place_after-in}
use Rattle.nav_base.specs.declared.point.Point.{Point}
use Rattle.mesh_types.specs.declared.region.Triangle.{Triangle}
use Rattle.mesh_types.specs.Choices.{or_later, first_best}
use Rattle.mesh_types.specs.Ears.{ArePlacesOf, IsTriangleOf, turn_of, triangle_at, is_ear, width_at, best_ear, put_before, last_cut, cut_ears, ears_of}
use Rattle.mesh_types.specs.Words.{is_narrower}
use Rattle.mesh_types.specs.Rings.{place_before}
use Rattle.mesh_types.proofs.ChoiceLaws.{first_best-push, first_best-all, filter-passes}

-- a test that is passed
pub lt_z_true : (m n : ℤ) → lt_z m n ≡ true → m <ℤ n
lt_z_true m n passed = lt_z_yes (subst T (sym passed) tt)

-- the first numbers are below their count
pub all_below : (count : ℕ) → All (λ i. i < count) (range_with_len 0 count)
all_below count =
    All-from_get_or (λ i. i < count) (range_with_len 0 count) 0
    (λ i there. let same = get_or-range_with_len 0 count i 0 (omega (arith, there, length-range_with_len 0 count)) in omega (arith, there, same, length-range_with_len 0 count))

-- the position before one is in the list
pub place_before-in : (count i : ℕ) → i < count → place_before count i < count
place_before-in count i below = grind (arith, nat_tests)

-- the best ear is an ear
pub best_ear-is : (corners : List Point) (rest : List ℕ) (i : ℕ) → best_ear corners rest ≡ Some i → (i < length rest) × (is_ear corners rest i ≡ true)
unfolding best_ear
best_ear-is corners rest i is = first_best-all (is_narrower corners rest) (λ i. (i < length rest) × (is_ear corners rest i ≡ true)) _ i
    (filter-passes (is_ear corners rest) (λ i. i < length rest) _ (all_below (length rest))) is

-- triangles before what a cut gives
abbrev pub after : List Triangle → Result (List Triangle) (List ℕ) → Result (List Triangle) (List ℕ)
after before (Ok triangles) = Ok (before ++ triangles)
after before (Err left) = Err left

pub after-none : (r : Result (List Triangle) (List ℕ)) → after [] r ≡ r
after-none (Ok triangles) = refl
after-none (Err left) = refl

pub after-more : (before : List Triangle) (t : Triangle) (r : Result (List Triangle) (List ℕ)) → after before (put_before t r) ≡ after (before ++ t ∷ []) r
after-more before t (Ok triangles) = ap Ok (sym (append_assoc before (t ∷ []) triangles))
after-more before t (Err left) = refl

-- the cut of one ear
pub cut_ears-some : (corners : List Point) (rest : List ℕ) (i : ℕ) → 3 < length rest → best_ear corners rest ≡ Some i
    → cut_ears corners (length rest - 3) rest ≡ put_before (triangle_at rest i) (cut_ears corners (length (remove rest i) - 3) (remove rest i))
unfolding cut_ears
cut_ears-some corners rest i more is =
    let above : ℕ = length (remove rest i) - 3 in
    ap (λ n. cut_ears corners n rest) {x = length rest - 3} {y = suc above} (omega (arith, length-remove rest i (best_ear-is corners rest i is).0))
    ∙ ap (λ o. option_map_or (λ i. put_before (triangle_at rest i) (cut_ears corners above (remove rest i))) o (Err rest)) is

-- where there is no ear
pub cut_ears-none : (corners : List Point) (rest : List ℕ) → 3 < length rest → best_ear corners rest ≡ None → cut_ears corners (length rest - 3) rest ≡ Err rest
unfolding cut_ears
cut_ears-none corners rest more is = ap (λ n. cut_ears corners n rest) {x = length rest - 3} {y = suc (length rest - 4)} (omega arith)
    ∙ ap (λ o. option_map_or (λ i. put_before (triangle_at rest i) (cut_ears corners (length rest - 4) (remove rest i))) o (Err rest)) is

-- the last three
pub cut_ears-last : (corners : List Point) (rest : List ℕ) → length rest ≤ 3 → cut_ears corners (length rest - 3) rest ≡ last_cut corners rest
unfolding cut_ears
cut_ears-last corners rest few = ap (λ n. cut_ears corners n rest) {x = length rest - 3} {y = 0} (omega arith)

-- so many triangles of corners, each counterclockwise
pub record AreTriangles (corners : List Point) (many : ℕ) (triangles : List Triangle) : Type 0 where
  pub count : length triangles ≡ many
  pub turn : All (λ t. pos 0 <ℤ turn_of corners t) triangles
  pub there : All (IsTriangleOf corners) triangles

-- the triangle at a position is one of corners
pub triangle_at-there : (corners : List Point) (rest : List ℕ) (i : ℕ) → ArePlacesOf corners rest → i < length rest → IsTriangleOf corners (triangle_at rest i)
triangle_at-there corners rest i places there =
    let at : (k : ℕ) → k < length rest → slice_index rest k < length corners = λ k below. All-get_or (λ place. place < length corners) rest k 0 below places in
    record { a = at _ (place_before-in (length rest) i there); b = at i there; c = at _ (place_after-in (length rest) i there) }

-- the places that remain after a cut name corners
pub places-remove : (corners : List Point) (rest : List ℕ) (i : ℕ) → ArePlacesOf corners rest → ArePlacesOf corners (remove rest i)
places-remove corners rest i places =
    All-append (λ place. place < length corners) (take i rest) (drop (suc i) rest) (All-take (λ place. place < length corners) i rest places)
    (All-drop (λ place. place < length corners) (suc i) rest places)

-- one triangle more
more : (corners : List Point) (many : ℕ) (t : Triangle) (triangles : List Triangle) → pos 0 <ℤ turn_of corners t → IsTriangleOf corners t
    → AreTriangles corners many triangles → AreTriangles corners (many + 1) (t ∷ triangles)
more corners many t triangles turn there are = record {
  count = omega (arith, are.count);
  turn = All-cons (λ t. pos 0 <ℤ turn_of corners t) t triangles turn are.turn;
  there = All-cons (IsTriangleOf corners) t triangles there are.there;
}

-- none
none : (corners : List Point) → AreTriangles corners 0 []
none corners = record { count = refl; turn = All-nil (λ t. pos 0 <ℤ turn_of corners t); there = All-nil (IsTriangleOf corners) }

-- what the last three places give
last-triangles : (corners : List Point) (rest : List ℕ) (triangles : List Triangle) → length rest ≡ 3 → ArePlacesOf corners rest
    → (b : Bool) → lt_z (pos 0) (turn_of corners (triangle_at rest 1)) ≡ b
    → (if b then Ok (triangle_at rest 1 ∷ []) else Err rest) ≡ Ok triangles → AreTriangles corners 1 triangles
last-triangles corners rest triangles count places true turn is =
    let same : triangle_at rest 1 ∷ [] ≡ triangles = cc in
    subst (AreTriangles corners 1) same
    (more corners 0 (triangle_at rest 1) [] (lt_z_true _ _ turn) (triangle_at-there corners rest 1 places (omega arith)) (none corners))
last-triangles corners rest triangles count places false turn is = absurd (cc)

-- an ear before triangles
ear-triangles : (corners : List Point) (rest : List ℕ) (i many : ℕ) (triangles : List Triangle) (r : Result (List Triangle) (List ℕ)) → ArePlacesOf corners rest
    → (i < length rest) × (is_ear corners rest i ≡ true) → ((others : List Triangle) → r ≡ Ok others → AreTriangles corners many others)
    → put_before (triangle_at rest i) r ≡ Ok triangles → AreTriangles corners (many + 1) triangles
ear-triangles corners rest i many triangles (Ok others) places ear others_are is =
    let same : triangle_at rest i ∷ others ≡ triangles = cc in
    subst (AreTriangles corners (many + 1)) same
    (more corners many (triangle_at rest i) others (lt_z_true _ _ (and_parts _ _ ear.1).0) (triangle_at-there corners rest i places ear.0) (others_are others refl))
ear-triangles corners rest i many triangles (Err left) places ear others_are is = absurd (cc)

cut_ears-triangles : (corners : List Point) (above : ℕ) (rest : List ℕ) (triangles : List Triangle) → length rest ≡ above + 3 → ArePlacesOf corners rest
    → cut_ears corners above rest ≡ Ok triangles → AreTriangles corners (above + 1) triangles
unfolding cut_ears
cut_ears-triangles corners zero rest triangles count places is = last-triangles corners rest triangles count places _ refl is
cut_ears-triangles corners (suc above) rest triangles count places is =
    ear (best_ear corners rest) refl is
    (λ i others fewer cut. cut_ears-triangles corners above (remove rest i) others fewer (places-remove corners rest i places) cut)
  where
    ear : (o : Option ℕ) → best_ear corners rest ≡ o
        → option_map_or (λ i. put_before (triangle_at rest i) (cut_ears corners above (remove rest i))) o (Err rest) ≡ Ok triangles
        → ((i : ℕ) (others : List Triangle) → length (remove rest i) ≡ above + 3 → cut_ears corners above (remove rest i) ≡ Ok others → AreTriangles corners (above + 1) others)
        → AreTriangles corners (suc above + 1) triangles
    ear None e same others_are = absurd (cc)
    ear (Some i) e same others_are =
        let is_one = best_ear-is corners rest i e in
        subst (λ n. AreTriangles corners n triangles) {x = above + 1 + 1} {y = suc above + 1} (omega arith)
        (ear-triangles corners rest i (above + 1) triangles _ places is_one
        (λ others cut. others_are i others (omega (arith, length-remove rest i is_one.0)) cut) same)

-- the places of an outline name its corners
pub all_places : (corners : List Point) → ArePlacesOf corners (range_with_len 0 (length corners))
all_places corners = all_below (length corners)

-- an outline of n corners gives n - 2 triangles
pub ears_of-triangles : (corners : List Point) (triangles : List Triangle) → 3 ≤ length corners → ears_of corners ≡ Ok triangles
    → AreTriangles corners (length corners - 2) triangles
unfolding ears_of
ears_of-triangles corners triangles enough is =
    subst (λ n. AreTriangles corners n triangles) {x = length corners - 3 + 1} {y = length corners - 2} (omega arith)
    (cut_ears-triangles corners (length corners - 3) _ triangles (omega (arith, length-range_with_len 0 (length corners))) (all_places corners) is)

-- the narrower of two is an order
narrower-order : (corners : List Point) (rest : List ℕ) → IsStrictWeakOrder (is_narrower corners rest)
narrower-order corners rest = IsStrictWeakOrder-by_number (width_at corners rest)

-- the best of the ears at the first positions, and at one more
pub best_ear-more : (corners : List Point) (rest : List ℕ) (position : ℕ) (best next : Option ℕ)
    → best ≡ first_best (is_narrower corners rest) (filter (is_ear corners rest) (range_with_len 0 position))
    → next ≡ (if is_ear corners rest position then or_later (is_narrower corners rest) best position else best)
    → next ≡ first_best (is_narrower corners rest) (filter (is_ear corners rest) (range_with_len 0 (position + 1)))
best_ear-more corners rest position best next before is =
    is ∙ cases (is_ear corners rest position) refl
    ∙ ap (first_best (is_narrower corners rest)) (sym (filter-append (is_ear corners rest) (range_with_len 0 position) (position ∷ [])))
    ∙ ap (λ (n : ℕ). first_best (is_narrower corners rest) (filter (is_ear corners rest) (range_with_len 0 position ++ n ∷ []))) {x = position} {y = 0 + position} (omega arith)
    ∙ ap (λ places. first_best (is_narrower corners rest) (filter (is_ear corners rest) places)) (sym (range-push 0 position))
  where
    ears : List ℕ
    ears = filter (is_ear corners rest) (range_with_len 0 position)

    cases : (b : Bool) → is_ear corners rest position ≡ b
        → (if b then or_later (is_narrower corners rest) best position else best) ≡ first_best (is_narrower corners rest) (ears ++ cond b (position ∷ []) [])
    cases true e = ap (λ o. or_later (is_narrower corners rest) o position) before ∙ sym (first_best-push (is_narrower corners rest) (narrower-order corners rest) ears position)
    cases false e = before ∙ ap (first_best (is_narrower corners rest)) (sym (append-nil ears))

-- and at all
pub best_ear-all : (corners : List Point) (rest : List ℕ) (position : ℕ) (best : Option ℕ) → position ≡ length rest
    → best ≡ first_best (is_narrower corners rest) (filter (is_ear corners rest) (range_with_len 0 position)) → best ≡ best_ear corners rest
unfolding best_ear
best_ear-all corners rest position best end is = is ∙ ap (λ n. first_best (is_narrower corners rest) (filter (is_ear corners rest) (range_with_len 0 n))) end

-- ---- the walk of the cut

-- at the beginning
pub cut-begun : (corners : List Point) (rest : List ℕ) (triangles : List Triangle) → rest ≡ range_with_len 0 (length corners) → triangles ≡ []
    → ears_of corners ≡ after triangles (cut_ears corners (length rest - 3) rest)
unfolding ears_of
cut-begun corners rest triangles all none =
    sym (after-none (cut_ears corners (length corners - 3) (range_with_len 0 (length corners))))
    ∙ ap (λ ts. after ts (cut_ears corners (length corners - 3) (range_with_len 0 (length corners)))) (sym none)
    ∙ ap (λ n. after triangles (cut_ears corners (n - 3) (range_with_len 0 (length corners)))) (sym (length-range_with_len 0 (length corners)))
    ∙ ap (λ places. after triangles (cut_ears corners (length places - 3) places)) (sym all)

-- after one more ear
pub cut-more : (corners : List Point) (rest : List ℕ) (triangles : List Triangle) (i : ℕ) → 3 < length rest → best_ear corners rest ≡ Some i
    → ears_of corners ≡ after triangles (cut_ears corners (length rest - 3) rest)
    → ears_of corners ≡ after (triangles ++ triangle_at rest i ∷ []) (cut_ears corners (length (remove rest i) - 3) (remove rest i))
cut-more corners rest triangles i more is before =
    before ∙ ap (after triangles) (cut_ears-some corners rest i more is) ∙ after-more triangles (triangle_at rest i) (cut_ears corners (length (remove rest i) - 3) (remove rest i))

-- without an ear
pub cut-none : (corners : List Point) (rest : List ℕ) (triangles : List Triangle) → 3 < length rest → best_ear corners rest ≡ None
    → ears_of corners ≡ after triangles (cut_ears corners (length rest - 3) rest) → ears_of corners ≡ Err rest
cut-none corners rest triangles more is before = before ∙ ap (after triangles) (cut_ears-none corners rest more is)

-- at the last three
pub cut-last : (corners : List Point) (rest : List ℕ) (triangles : List Triangle) → length rest ≤ 3
    → ears_of corners ≡ after triangles (cut_ears corners (length rest - 3) rest) → lt_z (pos 0) (turn_of corners (triangle_at rest 1)) ≡ true
    → ears_of corners ≡ Ok (triangles ++ triangle_at rest 1 ∷ [])
cut-last corners rest triangles few before turn =
    before ∙ ap (after triangles) (cut_ears-last corners rest few)
    ∙ ap (λ (b : Bool). after triangles (if b then Ok (triangle_at rest 1 ∷ []) else Err rest)) turn

pub cut-last_none : (corners : List Point) (rest : List ℕ) (triangles : List Triangle) → length rest ≤ 3
    → ears_of corners ≡ after triangles (cut_ears corners (length rest - 3) rest) → lt_z (pos 0) (turn_of corners (triangle_at rest 1)) ≡ false → ears_of corners ≡ Err rest
cut-last_none corners rest triangles few before turn =
    before ∙ ap (after triangles) (cut_ears-last corners rest few)
    ∙ ap (λ (b : Bool). after triangles (if b then Ok (triangle_at rest 1 ∷ []) else Err rest)) turn
