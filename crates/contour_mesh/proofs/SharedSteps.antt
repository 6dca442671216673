-- Where the outline of a ring has an edge along another ring, the outline of that one has it as well, the other way round.
use Rattle.std.proofs.Common.{◌≡◌, ℕ, ◌+◌, ◌-◌, ◌<◌, ◌≤◌, Bool, true, false, List, length, get_or, map, filter, ap, ◌∙◌, sym, refl, subst, arith, inl, inr}
use Rattle.std.specs.Prelude.{Contains, Some, slice_get}
use Rattle.std.specs.List.{range_with_len}
use Rattle.std.specs.Ordering.{is_eq, is_lt, ordering_reverse}
use Rattle.std.specs.declared.cmp.Ordering.{Ordering}
use Rattle.std.specs.declared.cmp.Ordering.TheVariants.{Less, Equal, Greater}
use Rattle.std.proofs.lemmas.Bool.{both_ways, cases_lt, false_from_ne_true}
use Rattle.std.proofs.lemmas.List.{get_or-map, length-map}
use Rattle.std.proofs.lemmas.List.Folds.{Any-from_list_any, list_any_at}
use Rattle.std.proofs.lemmas.List.FromFn.{fill_by_all}
use Rattle.std.proofs.lemmas.Option.{same_Some, slice_get-get_or}
use Rattle.nav_base.specs.declared.point.Point.{Point}
use Rattle.nav_base.specs.Convex.{place_after}
use Rattle.nav_ground.proofs.Selections.{filter-map}
use Rattle.mesh_types.specs.declared.region.Outline as outlines
use Rattle.mesh_types.specs.declared.region.Code.{Code}
use Rattle.mesh_types.specs.declared.region.UnitEdge.{UnitEdge}
use Rattle.mesh_types.specs.LinkOrder.{point_cmp}
use Rattle.mesh_types.specs.Rings.{beginnings, place_before}
use Rattle.mesh_types.specs.Simplified.{begins_among, changes, does_change, kept_corners, kept_edges, origin}
use Rattle.mesh_types.specs.Words.{codes_of, is_among}
use Rattle.mesh_types.proofs.LinkOrderLaws.{point_total, points_tie}
use Rattle.contour_mesh.specs.SharedEdges.{HasEdge}
use Rattle.contour_mesh.proofs.RingStops.{AreNext, below, index_of, listed_next, next_is, next_of, passing}
use Rattle.contour_mesh.proofs.RingWalks.{HasCode, IsBack, RunAlong, after_inside, begins_back, corners_back, edge_at, not_changed, some_edge, turn, turn_high, turn_inside, turn_low, turned_round, unchanged, walked_back}
use Rattle.contour_mesh.proofs.SharedCorners.{before_next, change_kept, corner_at, kept_other, run_coded}

-- ---- corners that are among others

equal_itself : (x : Point) → is_eq (point_cmp x x) ≡ true
equal_itself x = by_case (point_cmp x x) (point_total.antisymm x x)
  where
    by_case : (o : Ordering) → o ≡ ordering_reverse o → is_eq o ≡ true
    by_case Less is = absurd cc
    by_case Equal is = refl
    by_case Greater is = absurd cc

equal_same : (x y : Point) → is_eq (point_cmp x y) ≡ true → x ≡ y
equal_same x y = by_case (point_cmp x y) refl
  where
    by_case : (o : Ordering) → point_cmp x y ≡ o → is_eq o ≡ true → x ≡ y
    by_case Less is h = absurd cc
    by_case Equal is h = points_tie x y (ap is_lt is) (ap is_lt (point_total.antisymm y x ∙ ap ordering_reverse is))
    by_case Greater is h = absurd cc

among_from : (ps : List Point) (x : Point) → Contains ps x → is_among ps x ≡ true
among_from ps x held =
    list_any_at (λ other. is_eq (point_cmp other x)) ps held.0 x held.1 (ap (λ p. is_eq (point_cmp p x)) held.2 ∙ equal_itself x)

among_held : (ps : List Point) (x : Point) → is_among ps x ≡ true → Contains ps x
among_held ps x is =
    let any = Any-from_list_any (λ other. is_eq (point_cmp other x)) ps is in
    subst (Contains ps) (equal_same any.1 x any.4) (any.0, any.2, any.3)

-- an edge begins at a corner that is kept
abbrev pub is_kept : ℕ → List UnitEdge → ℕ → Bool
is_kept error E k = begins_among (kept_corners error E) (edge_at E k)

-- ---- from one kept corner to the next

-- between them the code does not change
kept_stays : (error : ℕ) (E : List UnitEdge) (i j : ℕ) → AreNext (length E) (is_kept error E) i j → (k : ℕ) → i < k → k < j → does_change E (turn (length E) k) ≡ false
kept_stays error E i j next k low high =
    let place : ℕ = turn (length E) k in
    false_from_ne_true (does_change E place)
    (λ h.
    let there : place < length E = turn_inside (length E) k (omega (arith, high, next.there, next.round)) in
    let w = index_of (length E) (does_change E) place there h in
    both_ways (is_kept error E place) (next.inner k low high)
    (among_from (kept_corners error E) (edge_at E place).from (change_kept E (omega (arith, w.1)) error place there h)))

-- so all edges have the code of the first
pub kept_coded : (error : ℕ) (E : List UnitEdge) (i j u : ℕ) → AreNext (length E) (is_kept error E) i j → i + u < j
    → (edge_at E (turn (length E) (i + u))).code ≡ (edge_at E i).code
kept_coded error E i j u next less = run_coded E i j next.there next.round (kept_stays error E i j next) u less

-- the same steps, seen from the other ring
record IsStepBack (error : ℕ) (E F : List UnitEdge) (d : Code) (k j : ℕ) : Type 0 where
  place : ℕ
  next : AreNext (length F) (is_kept error F) place (place + (j - k))
  coded : (edge_at F place).code ≡ d
  begins : (edge_at F place).from ≡ corner_at E j
  ends : corner_at F (place + (j - k)) ≡ (edge_at E k).from

step_back : (error : ℕ) (E F : List UnitEdge) (c d : Code) → RunAlong E F c d → 0 < length (changes E) → 0 < length (changes F) → (k j : ℕ)
    → AreNext (length E) (is_kept error E) k j → (edge_at E k).code ≡ c → IsStepBack error E F d k j
step_back error E F c d are some some' k j next coded =
    record {
      place = s;
      next = record {
        there = found.1;
        later = omega (arith, next.later);
        round = omega (arith, small);
        first = among_from (kept_corners error F) (edge_at F s).from first_kept;
        last = among_from (kept_corners error F) (corner_at F (s + size))
            (subst (Contains (kept_corners error F)) (sym last)
            (kept_other E F c d are error k some some' next.there coded (among_held (kept_corners error E) (edge_at E k).from next.first)));
        inner = inner;
      };
      coded = found.2.coded;
      begins = first;
      ends = last;
    }
  where
    n : ℕ
    n = length E

    m : ℕ
    m = length F

    size : ℕ
    size = j - k

    all : k + size ≡ j
    all = omega (arith, next.later)

    wide : k + size < length E + length E
    wide = omega (arith, all, next.there, next.round)

    code : (u : ℕ) → k + u < j → (edge_at E (turn (length E) (k + u))).code ≡ c
    code u less = kept_coded error E k j u next less ∙ coded

    has : HasCode E c k size
    has = record {
      there = next.there;
      some = omega (arith, next.later);
      round = omega (arith, next.round);
      coded = λ u less. code u (omega (arith, less, all));
    }

    found : (s : ℕ) × (s < length F) × IsBack (edge_at E (turn (length E) (k + (size - 1)))) (edge_at F s) d
    found = are.forth (turn n (k + (size - 1))) (turn_inside n (k + (size - 1)) (omega (arith, wide))) (code (size - 1) (omega (arith, all, next.later)))

    s : ℕ
    s = found.0

    back : (u : ℕ) → u ≤ size → s + u < length F + length F → corner_at F (s + u) ≡ corner_at E (k + (size - u))
    back = corners_back E F c d are k size s has found.1 found.2

    first : (edge_at F s).from ≡ corner_at E j
    first =
        ap (λ i. (edge_at F i).from) (sym (turn_low m s found.1))
        ∙ ap (corner_at F) {x = s} {y = s + 0} (omega arith)
        ∙ back 0 (omega arith) (omega (arith, found.1))
        ∙ ap (corner_at E) {x = k + (size - 0)} {y = j} (omega (arith, all))

    end_code : (edge_at E (place_before (length E) (turn (length E) j))).code ≡ c
    end_code =
        let i : ℕ = k + (size - 1) in
        let step : i + 1 ≡ j = omega (arith, all, next.later) in
        ap (λ x. (edge_at E (place_before n (turn n x))).code) (sym step)
        ∙ ap (λ x. (edge_at E x).code) (before_next n i (omega (arith, step, all, wide)))
        ∙ code (size - 1) (omega (arith, step))

    first_kept : Contains (kept_corners error F) (edge_at F s).from
    first_kept = by_case (does_change E (turn n j)) refl
      where
        by_case : (b : Bool) → does_change E (turn n j) ≡ b → Contains (kept_corners error F) (edge_at F s).from
        by_case false is =
            subst (Contains (kept_corners error F)) (sym first)
            (kept_other E F c d are error (turn n j) some some' (turn_inside n j (omega (arith, all, wide))) (sym (unchanged E (turn n j) is) ∙ end_code)
            (among_held (kept_corners error E) (corner_at E j) next.last))
        by_case true is =
            change_kept F some' error s found.1
            (begins_back E F c d are k size s has found.1 found.2 wide
            (λ same. both_ways (does_change E (turn n j)) (not_changed E (turn n j) (end_code ∙ sym same ∙ ap (λ x. (edge_at E (turn n x)).code) all)) is))

    small : size ≤ length F
    small = elim (cases_lt (length F) size) [
      | inl less ↦
          let round : turn m (s + m) ≡ s = turn_high m (s + m) (omega arith) ∙ omega arith in
          let same : corner_at E j ≡ corner_at E (k + (size - m)) =
          sym first ∙ ap (λ i. (edge_at F i).from) (sym round) ∙ back m (omega (arith, less)) (omega (arith, found.1)) in
          absurd (both_ways (is_kept error E (turn n (k + (size - m)))) (next.inner (k + (size - m)) (omega (arith, less)) (omega (arith, all, less, found.1)))
          (ap (is_among (kept_corners error E)) (sym same) ∙ next.last))
      | inr most ↦ most
    ]

    within : s + size < length F + length F
    within = omega (arith, found.1, small)

    last : corner_at F (s + size) ≡ (edge_at E k).from
    last =
        back size (omega arith) within
        ∙ ap (corner_at E) {x = k + (size - size)} {y = k} (omega arith)
        ∙ ap (λ i. (edge_at E i).from) (turn_low n k next.there)

    inner : (i : ℕ) → s < i → i < s + size → is_kept error F (turn (length F) i) ≡ false
    inner i low high =
        let u : ℕ = i - s in
        let at : s + u ≡ i = omega (arith, low) in
        let corner : corner_at F i ≡ corner_at E (k + (size - u)) = ap (corner_at F) (sym at) ∙ back u (omega (arith, high)) (omega (arith, at, high, within)) in
        let own = walked_back E F c d are k size s has found.1 found.2 u (omega (arith, low, high)) (omega (arith, at, high, within)) in
        false_from_ne_true (is_kept error F (turn m i))
        (λ h.
        let held = kept_other F E d c (turned_round E F c d are) error (turn m i) some' some (turn_inside m i (omega (arith, high, within)))
        (ap (λ x. (edge_at F (turn m x)).code) (sym at) ∙ own.coded) (among_held (kept_corners error F) (corner_at F i) h) in
        both_ways (is_kept error E (turn n (k + (size - u)))) (next.inner (k + (size - u)) (omega (arith, low, high)) (omega (arith, low, high, all)))
        (ap (is_among (kept_corners error E)) (sym corner) ∙ among_from (kept_corners error E) (corner_at F i) held))

-- ---- outlines

-- the outline that a ring keeps
abbrev pub outline_of : ℕ → List UnitEdge → outlines.Outline
outline_of error E = record { corners = beginnings (kept_edges error E); codes = codes_of (kept_edges error E) }

abbrev pub places_of : ℕ → List UnitEdge → List ℕ
places_of error E = passing (length E) (is_kept error E)

edges_are : (error : ℕ) (E : List UnitEdge) → kept_edges error E ≡ map (edge_at E) (places_of error E)
unfolding kept_edges
edges_are error E =
    ap (filter (begins_among (kept_corners error E))) (fill_by_all (edge_at E) E (length E) some_edge refl (λ k there. refl))
    ∙ filter-map (begins_among (kept_corners error E)) (edge_at E) (range_with_len 0 (length E))

pub kept_count : (error : ℕ) (E : List UnitEdge) → length (kept_edges error E) ≡ length (places_of error E)
kept_count error E = ap length (edges_are error E) ∙ length-map (places_of error E) (edge_at E)

pub outline_count : (error : ℕ) (E : List UnitEdge) → length (outline_of error E).corners ≡ length (places_of error E)
outline_count error E = length-map (kept_edges error E) (λ (e : UnitEdge). e.from) ∙ kept_count error E

edge_there : (error : ℕ) (E : List UnitEdge) (t : ℕ) → t < length (places_of error E) → get_or (kept_edges error E) t some_edge ≡ edge_at E (get_or (places_of error E) t 0)
edge_there error E t less = ap (λ es. get_or es t some_edge) (edges_are error E) ∙ get_or-map (edge_at E) (places_of error E) t 0 some_edge less

pub outline_corner : (error : ℕ) (E : List UnitEdge) (t : ℕ) → t < length (places_of error E)
    → get_or (outline_of error E).corners t origin ≡ (edge_at E (get_or (places_of error E) t 0)).from
outline_corner error E t less =
    get_or-map (λ (e : UnitEdge). e.from) (kept_edges error E) t some_edge origin (omega (arith, less, kept_count error E))
    ∙ ap (λ (e : UnitEdge). e.from) (edge_there error E t less)

pub outline_code : (error : ℕ) (E : List UnitEdge) (t : ℕ) → t < length (places_of error E)
    → slice_get (outline_of error E).codes t ≡ Some (edge_at E (get_or (places_of error E) t 0)).code
outline_code error E t less =
    let there : t < length (kept_edges error E) = omega (arith, less, kept_count error E) in
    slice_get-get_or (outline_of error E).codes t some_edge.code (omega (arith, there, length-map (kept_edges error E) (λ (e : UnitEdge). e.code)))
    ∙ ap (λ (x : Code). Some x)
    (get_or-map (λ (e : UnitEdge). e.code) (kept_edges error E) t some_edge some_edge.code there ∙ ap (λ (e : UnitEdge). e.code) (edge_there error E t less))

after_there : (count t : ℕ) → t < count → place_after count t < count
after_there count t less = after_inside count t less

pub edges_shared : (error : ℕ) (E F : List UnitEdge) (c d : Code) → RunAlong E F c d → 0 < length (changes E) → 0 < length (changes F) → (from to : Point)
    → HasEdge (outline_of error E) from to c → HasEdge (outline_of error F) to from d
edges_shared error E F c d are some some' from to edge =
    let n : ℕ = length E in
    let t : ℕ = edge.place in
    let count = outline_count error E in
    let t-in : t < length (places_of error E) = omega (arith, edge.there, count) in
    let k : ℕ = get_or (places_of error E) t 0 in
    let j : ℕ = next_of n (is_kept error E) t in
    let step = next_is n (is_kept error E) t t-in in
    let coded : (edge_at E k).code ≡ c = same_Some (edge_at E k).code c (sym (outline_code error E t t-in) ∙ edge.coded) in
    let back = step_back error E F c d are some some' k j step.next coded in
    let listed = listed_next (length F) (is_kept error F) back.place (back.place + (j - k)) back.next in
    let r : ℕ = listed.place in
    let count' = outline_count error F in
    let after : ℕ = place_after (length (outline_of error E).corners) t in
    let same_after : after ≡ place_after (length (places_of error E)) t = ap (λ x. place_after x t) count in
    let begin : (edge_at E k).from ≡ from = sym (outline_corner error E t t-in) ∙ edge.begins in
    let end : corner_at E j ≡ to =
    ap (λ x. (edge_at E x).from) (sym step.listed)
    ∙ sym (outline_corner error E (place_after (length (places_of error E)) t) (after_there (length (places_of error E)) t t-in))
    ∙ ap (λ x. get_or (outline_of error E).corners x origin) (sym same_after) ∙ edge.ends in
    record {
      place = r;
      there = omega (arith, listed.there, count');
      begins = outline_corner error F r listed.there ∙ ap (λ x. (edge_at F x).from) listed.first ∙ back.begins ∙ end;
      ends = ap (λ x. get_or (outline_of error F).corners (place_after x r) origin) count'
          ∙ outline_corner error F (place_after (length (places_of error F)) r) (after_there (length (places_of error F)) r listed.there)
          ∙ ap (λ x. (edge_at F x).from) listed.listed ∙ back.ends ∙ begin;
      coded = outline_code error F r listed.there ∙ ap (λ x. Some (edge_at F x).code) listed.first ∙ ap (λ (x : Code). Some x) back.coded;
    }

-- an edge of an outline begins as an edge of the ring with its code
pub record IsRingEdge (E : List UnitEdge) (code : Code) : Type 0 where
  pub place : ℕ
  pub there : place < length E
  pub coded : (edge_at E place).code ≡ code

pub edge_of_outline : (error : ℕ) (E : List UnitEdge) (from to : Point) (code : Code) → HasEdge (outline_of error E) from to code → IsRingEdge E code
edge_of_outline error E from to code edge =
    let t-in : edge.place < length (places_of error E) = omega (arith, edge.there, outline_count error E) in
    let k : ℕ = get_or (places_of error E) edge.place 0 in
    record {
      place = k;
      there = below (length E) (is_kept error E) edge.place t-in;
      coded = same_Some (edge_at E k).code code (sym (outline_code error E edge.place t-in) ∙ edge.coded);
    }
