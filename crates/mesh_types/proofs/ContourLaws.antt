-- A contour is the walk once round the rim, and all its edges are edges of the rim.
use Rattle.std.proofs.Common.{◌≡◌, ℕ, zero, suc, ◌+◌, ◌-◌, ◌<◌, Bool, true, false, List, [], ◌∷◌, length, get_or, take, drop, refl, sym, ap, subst, ◌∙◌, arith, inl, inr, Option, Some, None}
use Rattle.std.specs.Prelude.{All, Contains, if◌then◌else◌}
use Rattle.std.specs.List.{find}
use Rattle.std.specs.List.Sorted.{IsPermutation}
use Rattle.std.specs.Option.{option_map_or}
use Rattle.std.specs.Ordering.{int_eq}
use Rattle.std.specs.Cmp.{IsStrictWeakOrder}
use Rattle.std.proofs.lemmas.Bool.{and_parts, and_from, cases_lt}
use Rattle.std.proofs.lemmas.Bool.Decides.{Decides-int_eq}
use Rattle.std.proofs.lemmas.List.{get_or-map, get_or-drop, get_or_default, length-map, length-drop, take_all, drop_more}
use Rattle.std.proofs.lemmas.List.MinMax.{ranks_by}
use Rattle.std.proofs.lemmas.List.Elements.{All-nil, All-cons, All-contains_itself, Contains-get_or}
use Rattle.std.proofs.lemmas.List.Sorted.{All-permutation, Contains-permutation, length_permutation, IsPermutation-sym}
use Rattle.std.proofs.Math.ListN.{get_or-append}
use Rattle.nav_base.specs.declared.point.Point.{Point}
use Rattle.nav_ground.specs.declared.cell.Cell.{Cell}
use Rattle.nav_ground.specs.declared.cell.Window.{Window}
use Rattle.nav_ground.proofs.Found.{first_found, found_in}
use Rattle.mesh_types.specs.declared.region.Regions.{Regions}
use Rattle.mesh_types.specs.declared.region.UnitEdge.{UnitEdge}
use Rattle.mesh_types.specs.Choices.{first_best, or_earlier}
use Rattle.mesh_types.specs.Contours.{rim_of, IsContour, walk_from, once_round, contour_of}
use Rattle.mesh_types.specs.Ears.{is_same_point}
use Rattle.mesh_types.specs.LinkOrder.{is_point_before}
use Rattle.mesh_types.specs.Rings.{beginnings, IsRing}
use Rattle.mesh_types.proofs.Words.{begins_at, begins_before}
use Rattle.mesh_types.proofs.ChoiceLaws.{first_best-all}
use Rattle.mesh_types.proofs.LinkOrderLaws.{point_total, points_tie}

-- ---- points that are the same

pub same_point : (p q : Point) → is_same_point p q ≡ true → p ≡ q
same_point p q h =
    let parts = and_parts (int_eq p.x q.x) (int_eq p.z q.z) h in
    let x = (Decides-int_eq p.x q.x).0 parts.0 in
    let z = (Decides-int_eq p.z q.z).0 parts.1 in
    ap (λ k. record { x = k; z = p.z }) x ∙ ap (λ k. record { x = q.x; z = k }) z

pub is_same_point-from : (p q : Point) → p ≡ q → is_same_point p q ≡ true
is_same_point-from p q e =
    and_from (int_eq p.x q.x) (int_eq p.z q.z) ((Decides-int_eq p.x q.x).1 (ap (λ (r : Point). r.x) e)) ((Decides-int_eq p.z q.z).1 (ap (λ (r : Point). r.z) e))

-- ---- what holds of all edges of a rim holds of all edges of the walk round it

-- what holds of all elements holds of the one that is found
pub found_all : {X : Type 0} (p : X → Bool) (P : X → Type 0) (xs : List X) (x : X) → All P xs → find p xs ≡ Some x → P x
found_all p P xs x each is =
    let found = found_in p xs x is in
    subst P found.at (each found.place x found.there)

walk_all : (P : UnitEdge → Type 0) (rim : List UnitEdge) → All P rim → (most : ℕ) (edge : UnitEdge) → P edge → All P (walk_from rim most edge)
unfolding walk_from
walk_all P rim each zero edge here = All-cons P edge [] here (All-nil P)
walk_all P rim each (suc most) edge here = next (λ e there. walk_all P rim each most e there) (find (begins_at edge.to) rim) refl
  where
    next : ((e : UnitEdge) → P e → All P (walk_from rim most e)) → (o : Option UnitEdge) → find (begins_at edge.to) rim ≡ o
        → All P (edge ∷ option_map_or (walk_from rim most) o [])
    next later None is = All-cons P edge [] here (All-nil P)
    next later (Some e) is = All-cons P edge (walk_from rim most e) here (later e (found_all (begins_at edge.to) P rim e each is))

pub round_all : (P : UnitEdge → Type 0) (rim : List UnitEdge) → All P rim → All P (once_round rim)
unfolding once_round
round_all P rim each = begun (first_best begins_before rim) refl
  where
    begun : (o : Option UnitEdge) → first_best begins_before rim ≡ o → All P (option_map_or (walk_from rim (length rim - 1)) o [])
    begun None is = All-nil P
    begun (Some e) is = walk_all P rim each (length rim - 1) e (first_best-all begins_before P rim e each is)

-- ---- the first of the best is beaten by none

itself : {X : Type 0} (beats : X → X → Bool) → IsStrictWeakOrder beats → (x : X) → beats x x ≡ false
itself {X} beats order x = by_test (beats x x) refl
  where
    by_test : (b : Bool) → beats x x ≡ b → beats x x ≡ false
    by_test true e = order.one_way x x e
    by_test false e = e

pub first_best-least : {X : Type 0} (beats : X → X → Bool) → IsStrictWeakOrder beats → (xs : List X) (x : X) → first_best beats xs ≡ Some x
    → All (λ y. beats y x ≡ false) xs
first_best-least beats order [] x is = absurd cc
first_best-least {X} beats order (y ∷ []) x is =
    let at : y ≡ x = cc in
    let P : X → Type 0 = λ v. All (λ w. beats w v ≡ false) (y ∷ []) in
    subst P at (All-cons (λ w. beats w y ≡ false) y [] (itself beats order y) (All-nil (λ w. beats w y ≡ false)))
first_best-least {X} beats order (y ∷ z ∷ zs) x is =
    let best : X = or_earlier beats z (first_best beats zs) in
    let at : (if beats best y then best else y) ≡ x = cc in
    by_beat best (first_best-least beats order (z ∷ zs) best refl) (beats best y) refl at
  where
    by_beat : (best : X) → All (λ w. beats w best ≡ false) (z ∷ zs) → (b : Bool) → beats best y ≡ b → (if b then best else y) ≡ x
        → All (λ w. beats w x ≡ false) (y ∷ z ∷ zs)
    by_beat best each true e same =
        let P : X → Type 0 = λ v. All (λ w. beats w v ≡ false) (y ∷ z ∷ zs) in
        subst P same (All-cons (λ w. beats w best ≡ false) y (z ∷ zs) (order.one_way best y e) each)
    by_beat best each false e same =
        let P : X → Type 0 = λ v. All (λ w. beats w v ≡ false) (y ∷ z ∷ zs) in
        subst P same
        (All-cons (λ w. beats w y ≡ false) y (z ∷ zs) (itself beats order y) (λ k d there. order.chain (get_or (z ∷ zs) k d) best y (each k d there) e))

-- ---- a ring is the walk once round its edges in any order

-- no order has an item in no items
first_best-none : {X : Type 0} (beats : X → X → Bool) (x : X) (xs : List X) → first_best beats (x ∷ xs) ≡ None → ⊥
first_best-none beats x xs is = absurd cc

module _ (rim edges : List UnitEdge) (permuted : IsPermutation rim edges) (ring : IsRing edges) where
  -- an edge that begins where the edge at a place does is that edge
  alone : (j : ℕ) (d : UnitEdge) → j < length edges → All (λ (e : UnitEdge). e.from ≡ (get_or edges j d).from → e ≡ get_or edges j d) edges
  alone j d there m e below same =
      elim (cases_lt m j) [
        | inl before ↦ absurd (ring.apart m j (get_or edges j d).from before (omega (arith, there, length-map edges (λ (x : UnitEdge). x.from))) (at m e below ∙ same ∙ sym (at j d there)))
        | inr past ↦ elim (cases_lt j m) [
          | inl after ↦ absurd (ring.apart j m (get_or edges j d).from after (omega (arith, below, length-map edges (λ (x : UnitEdge). x.from))) (at j d there ∙ sym same ∙ sym (at m e below)))
          | inr equal ↦ ap (λ k. get_or edges k e) {x = m} {y = j} (omega (arith, past, equal)) ∙ get_or_default edges j e d there
        ]
      ]
    where
      at : (k : ℕ) (x : UnitEdge) → k < length edges → get_or (beginnings edges) k (get_or edges j d).from ≡ (get_or edges k x).from
      at k x inside = get_or-map (λ (y : UnitEdge). y.from) edges k x (get_or edges j d).from inside

  alone_in_rim : (j : ℕ) (d : UnitEdge) → j < length edges → All (λ (e : UnitEdge). e.from ≡ (get_or edges j d).from → e ≡ get_or edges j d) rim
  alone_in_rim j d there =
      All-permutation (λ (e : UnitEdge). e.from ≡ (get_or edges j d).from → e ≡ get_or edges j d) edges rim (IsPermutation-sym rim edges permuted) (alone j d there)

  -- the edge at a place is the one that is found where it begins
  found : (j : ℕ) (d : UnitEdge) (corner : Point) → j < length edges → corner ≡ (get_or edges j d).from → find (begins_at corner) rim ≡ Some (get_or edges j d)
  found j d corner there is =
      let e = get_or edges j d in
      let has : Contains rim e = Contains-permutation edges rim e (IsPermutation-sym rim edges permuted) (Contains-get_or edges j d there) in
      let first = first_found (begins_at corner) rim has.0 e has.1 (ap (begins_at corner) has.2 ∙ is_same_point-from e.from corner (sym is)) in
      first.is
      ∙ ap (λ (x : UnitEdge). Some x)
      (alone_in_rim j d there first.place e (omega (arith, first.most, has.1)) (same_point (get_or rim first.place e).from corner first.passes ∙ is))

  -- an edge ends where the one at the next place begins
  next_begins : (i : ℕ) (d : UnitEdge) → i + 1 < length edges → (get_or edges i d).to ≡ (get_or edges (i + 1) d).from
  next_begins i d there =
      let b : List Point = beginnings edges in
      let many : length b ≡ length edges = length-map edges (λ (e : UnitEdge). e.from) in
      sym (get_or-map (λ (e : UnitEdge). e.to) edges i d d.from (omega (arith, there)))
      ∙ ap (λ (ps : List Point). get_or ps i d.from) ring.closed
      ∙ get_or-append (drop 1 b) (take 1 b) d.from i (omega (arith, there, many, length-drop 1 b))
      ∙ get_or-drop 1 b i d.from
      ∙ get_or-map (λ (e : UnitEdge). e.from) edges (1 + i) d d.from (omega (arith, there))
      ∙ ap (λ k. (get_or edges k d).from) {x = 1 + i} {y = i + 1} (omega arith)

  -- the walk from the edge at a place
  walked : (most i : ℕ) (d : UnitEdge) → i + most < length edges → walk_from rim most (get_or edges i d) ≡ take (suc most) (drop i edges)
  unfolding walk_from
  walked zero i d there = ap (λ (es : List UnitEdge). take 1 es) (sym (drop_more edges i d (omega (arith, there))))
  walked (suc most) i d there =
      let e = get_or edges i d in
      ap (λ o. e ∷ option_map_or (walk_from rim most) o []) (found (i + 1) d e.to (omega (arith, there)) (next_begins i d (omega (arith, there))))
      ∙ ap (λ (es : List UnitEdge). e ∷ es) (walked most (i + 1) d (omega (arith, there)))
      ∙ ap (λ (es : List UnitEdge). take (suc (suc most)) es) (sym (drop_more edges i d (omega (arith, there))))

  same_length : length edges ≡ length rim
  same_length = length_permutation rim edges permuted

  -- begun at a least corner
  module _ (least : (k : ℕ) (d : UnitEdge) → k < length edges → is_point_before (get_or edges k d).from (get_or edges 0 d).from ≡ false) where
    -- the edge that begins before all others is the first
    first_edge : (e : UnitEdge) → first_best begins_before rim ≡ Some e → (0 < length edges) × (e ≡ get_or edges 0 e)
    first_edge e is =
        let each : All (Contains edges) rim = All-permutation (Contains edges) edges rim (IsPermutation-sym rim edges permuted) (All-contains_itself edges) in
        let has : Contains edges e = first_best-all begins_before (Contains edges) rim e each is in
        let some : 0 < length edges = omega (arith, has.1) in
        let lowest : All (λ (x : UnitEdge). begins_before x e ≡ false) edges =
        All-permutation (λ (x : UnitEdge). begins_before x e ≡ false) rim edges permuted (first_best-least begins_before (ranks_by point_total (λ (x : UnitEdge). x.from)) rim e is) in
        let high : is_point_before e.from (get_or edges 0 e).from ≡ false = ap (λ (x : UnitEdge). is_point_before x.from (get_or edges 0 e).from) (sym has.2) ∙ least has.0 e has.1 in
        let same : e.from ≡ (get_or edges 0 e).from = points_tie e.from (get_or edges 0 e).from high (lowest 0 e some) in
        (some, sym has.2 ∙ alone 0 e some has.0 e has.1 (ap (λ (x : UnitEdge). x.from) has.2 ∙ same))

    pub is_once_round : edges ≡ once_round rim
    unfolding once_round
    is_once_round = by_case (first_best begins_before rim) refl
      where
        none : (es r : List UnitEdge) → length es ≡ length r → first_best begins_before r ≡ None → es ≡ []
        none [] r same is = refl
        none (e ∷ es) [] same is = absurd (omega (arith, same))
        none (e ∷ es) (x ∷ r) same is = absurd (first_best-none begins_before x r is)

        by_case : (o : Option UnitEdge) → first_best begins_before rim ≡ o → edges ≡ option_map_or (walk_from rim (length rim - 1)) o []
        by_case None is = none edges rim same_length is
        by_case (Some e) is =
            let first = first_edge e is in
            sym (take_all (suc (length rim - 1)) edges (omega (arith, same_length)))
            ∙ sym (walked (length rim - 1) 0 e (omega (arith, same_length, first.0)))
            ∙ ap (walk_from rim (length rim - 1)) (sym first.1)

-- a contour without a corner that it passes twice is the contour of its region
pub contour_is : (window : Window) (cells : List Cell) (regions : Regions) (id : ℕ) (edges : List UnitEdge) → IsContour window cells regions id edges → IsRing edges
    → edges ≡ contour_of window cells regions id
contour_is window cells regions id edges contour ring = is_once_round (rim_of window cells regions id) edges contour.rim ring contour.least
