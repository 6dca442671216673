-- Corners that a run keeps, and rings of which two places are kept at first.
use Rattle.std.proofs.Common.{◌≡◌, ℕ, zero, suc, ◌+◌, ◌-◌, ◌<◌, ◌≤◌, Bool, true, false, List, [], ◌∷◌, ◌++◌, length, get_or, take, drop, refl, sym, subst, ap, ◌∙◌, inl, inr, arith}
use Rattle.std.specs.Prelude.{Contains, reverse, slice_range, if◌then◌else◌}
use Rattle.std.specs.List.{list_any}
use Rattle.std.specs.Ordering.{is_eq}
use Rattle.std.proofs.lemmas.Cmp.{tied_itself}
use Rattle.std.proofs.lemmas.Bool.{cases_lt}
use Rattle.std.proofs.lemmas.List.{get_or_append_left, get_or-append_right, get_or_default, get_or-drop, get_or-map, get_or-reverse, get_or-take, length-append, length-drop, length-map, length-reverse, length-take, reverse-reverse}
use Rattle.std.proofs.lemmas.List.Elements.{Contains-append_right, Contains-get_or}
use Rattle.std.proofs.lemmas.List.Folds.{list_any_at}
use Rattle.std.proofs.lemmas.List.Sorted.{IsPermutation-reverse, list_any-IsPermutation}
use Rattle.nav_base.specs.declared.point.Point.{Point}
use Rattle.mesh_types.specs.declared.region.UnitEdge.{UnitEdge}
use Rattle.mesh_types.specs.Choices.{first_best_place}
use Rattle.mesh_types.specs.LinkOrder.{is_point_before, point_cmp}
use Rattle.mesh_types.specs.Rings.{beginnings}
use Rattle.mesh_types.specs.Simplified.{deviates_more, deviates_over, kept_corners, kept_edges, kept_inside, kept_places, kept_round, kept_walking, left_of_run, origin}
use Rattle.mesh_types.specs.Words.{twice_round}
use Rattle.mesh_types.proofs.LinkOrderLaws.{point_total}
use Rattle.contour_simplify.proofs.Bests.{best_there}
use Rattle.contour_simplify.proofs.Deviations.{deviations_order}
use Rattle.contour_mesh.proofs.RingStops.{index_of, passing}
use Rattle.contour_mesh.proofs.RingWalks.{edge_at, some_edge, turn_high, turn_low}
use Rattle.contour_mesh.proofs.SharedCorners.{corner_at}
use Rattle.contour_mesh.proofs.SharedSteps.{is_kept, kept_count}

-- ---- one run

-- an inner corner that is kept
record KeepsOne (inner kept : List Point) : Type 0 where
  corner : Point
  inside : Contains inner corner
  held : Contains kept corner

some_there : {X : Type 0} (p : X → Bool) (xs : List X) → list_any p xs ≡ true → 0 < length xs
some_there p [] h = absurd cc
some_there p (x ∷ xs) h = omega arith

-- where an inner corner deviates over the error, one is kept
walking_keeps : (error depth : ℕ) (a : Point) (inner : List Point) (b : Point) → 0 < depth → list_any (deviates_over error a b) inner ≡ true
    → KeepsOne inner (kept_walking depth error a inner b)
unfolding kept_walking
walking_keeps error zero a inner b some over = absurd (omega (arith, some))
walking_keeps error (suc depth) a inner b some over =
    let place : ℕ = first_best_place (deviates_more a b) inner in
    let there : place < length inner = best_there (deviates_more a b) (deviations_order a b) inner a (some_there (deviates_over error a b) inner over) in
    let at : Point = get_or inner place a in
    record {
      corner = at;
      inside = Contains-get_or inner place a there;
      held = rw over
          (Contains-append_right (kept_walking depth error a (take place inner) at) (at ∷ kept_walking depth error at (drop (place + 1) inner) b) at
          (0, omega arith, refl));
    }

Contains-reverse : {X : Type 0} (xs : List X) (x : X) → Contains xs x → Contains (reverse xs) x
Contains-reverse xs x held =
    let k : ℕ = length xs - 1 - held.0 in
    let there : k < length xs = omega (arith, held.1) in (
      k,
      omega (arith, there, length-reverse xs),
      get_or-reverse xs k x there ∙ ap (λ j. get_or xs j x) {x = length xs - 1 - k} {y = held.0} (omega (arith, held.1)) ∙ held.2,
    )

-- the same from either side
inside_keeps : (error : ℕ) (a : Point) (inner : List Point) (b : Point) → list_any (deviates_over error a b) inner ≡ true → list_any (deviates_over error b a) inner ≡ true
    → KeepsOne inner (kept_inside error a inner b)
unfolding kept_inside
inside_keeps error a inner b forth back = by_case (is_point_before a b)
  where
    some : 0 < length inner
    some = some_there (deviates_over error a b) inner forth

    by_case : (test : Bool) → KeepsOne inner (if test then kept_walking (length inner) error a inner b else reverse (kept_walking (length inner) error b (reverse inner) a))
    by_case true = walking_keeps error (length inner) a inner b some forth
    by_case false =
        let one = walking_keeps error (length inner) b (reverse inner) a some
        (sym (list_any-IsPermutation (deviates_over error b a) inner (reverse inner) (IsPermutation-reverse inner)) ∙ back) in
        record {
          corner = one.corner;
          inside = subst (λ ps. Contains ps one.corner) (reverse-reverse inner) (Contains-reverse (reverse inner) one.corner one.inside);
          held = Contains-reverse (kept_walking (length inner) error b (reverse inner) a) one.corner one.held;
        }

-- ---- the corners of a ring, twice round

twice_at : (E : List UnitEdge) (k : ℕ) → k < length E + length E → get_or (twice_round E) k origin ≡ corner_at E k
twice_at E k less =
    let b : List Point = beginnings E in
    let many : length b ≡ length E = length-map E (λ (e : UnitEdge). e.from) in
    elim (cases_lt k (length E)) [
      | inl low ↦
          get_or_append_left b b origin k (omega (arith, low, many))
          ∙ get_or-map (λ (e : UnitEdge). e.from) E k some_edge origin low
          ∙ ap (λ j. (edge_at E j).from) (sym (turn_low (length E) k low))
      | inr high ↦
          get_or-append_right b b (length E) k origin many high
          ∙ get_or-map (λ (e : UnitEdge). e.from) E (k - length E) some_edge origin (omega (arith, high, less))
          ∙ ap (λ j. (edge_at E j).from) (sym (turn_high (length E) k high))
    ]

length-twice : (E : List UnitEdge) → length (twice_round E) ≡ length E + length E
length-twice E = length-append (beginnings E) (beginnings E) ∙ omega (arith, length-map E (λ (e : UnitEdge). e.from))

-- the inner corners of the run from one place to another
abbrev inner_of : List UnitEdge → ℕ → ℕ → List Point
inner_of E i j = slice_range (twice_round E) (i + 1) j

length-inner : (E : List UnitEdge) (i j : ℕ) → i < j → j ≤ length E + length E → length (inner_of E i j) ≡ j - (i + 1)
length-inner E i j less most = length-take (j - (i + 1)) (drop (i + 1) (twice_round E)) ∙ omega (arith, length-drop (i + 1) (twice_round E), length-twice E, less, most)

inner_at : (E : List UnitEdge) (i j v : ℕ) → v < j - (i + 1) → j ≤ length E + length E → get_or (inner_of E i j) v origin ≡ corner_at E (i + 1 + v)
inner_at E i j v less most =
    get_or-take (j - (i + 1)) (drop (i + 1) (twice_round E)) v origin less
    ∙ get_or-drop (i + 1) (twice_round E) v origin
    ∙ twice_at E (i + 1 + v) (omega (arith, less, most))

left_is : (error : ℕ) (E : List UnitEdge) (i j : ℕ) → i < length E → j ≤ i + length E
    → left_of_run error (twice_round E) (i, j) ≡ corner_at E i ∷ kept_inside error (corner_at E i) (inner_of E i j) (corner_at E j)
unfolding left_of_run
left_is error E i j there round =
    let a : Point = get_or (twice_round E) i origin in
    let b : Point = get_or (twice_round E) j origin in
    ap (λ (p : Point). p ∷ kept_inside error p (inner_of E i j) b) (twice_at E i (omega (arith, there)))
    ∙ ap (λ (p : Point). corner_at E i ∷ kept_inside error (corner_at E i) (inner_of E i j) p) (twice_at E j (omega (arith, there, round)))

-- an inner corner of a run is that of a place between its ends
record IsBetween (E : List UnitEdge) (i j : ℕ) (corner : Point) : Type 0 where
  place : ℕ
  after : i < place
  before : place < j
  stands : corner ≡ corner_at E place

inner_held : (E : List UnitEdge) (i j : ℕ) (corner : Point) → i < j → j ≤ length E + length E → Contains (inner_of E i j) corner → IsBetween E i j corner
inner_held E i j corner less most held =
    let v-in : held.0 < j - (i + 1) = omega (arith, held.1, length-inner E i j less most) in
    record {
      place = i + 1 + held.0;
      after = omega arith;
      before = omega (arith, v-in);
      stands = sym held.2 ∙ get_or_default (inner_of E i j) held.0 corner origin held.1 ∙ inner_at E i j held.0 v-in most;
    }

-- and where one of them passes a test, one passes it
inner_passes : (E : List UnitEdge) (i j k : ℕ) (test : Point → Bool) → i < k → k < j → j ≤ length E + length E → test (corner_at E k) ≡ true
    → list_any test (inner_of E i j) ≡ true
inner_passes E i j k test after before most is =
    let v-in : k - (i + 1) < j - (i + 1) = omega (arith, after, before) in
    let at : get_or (inner_of E i j) (k - (i + 1)) origin ≡ corner_at E k = inner_at E i j (k - (i + 1)) v-in most ∙ ap (corner_at E) {x = i + 1 + (k - (i + 1))} {y = k} (omega (arith, after)) in
    list_any_at test (inner_of E i j) (k - (i + 1)) origin (omega (arith, v-in, length-inner E i j (omega (arith, after, before)) most)) (ap test at ∙ is)

-- a place between the ends of a run whose corner the run keeps
pub record KeepsBetween (error : ℕ) (E : List UnitEdge) (i j : ℕ) : Type 0 where
  pub place : ℕ
  pub after : i < place
  pub before : place < j
  pub held : Contains (left_of_run error (twice_round E) (i, j)) (corner_at E place)

-- where the corner of a place between the ends deviates over the error from either side, a run keeps that of one
pub run_keeps : (error : ℕ) (E : List UnitEdge) (i j k : ℕ) → i < length E → j ≤ i + length E → i < k → k < j
    → deviates_over error (corner_at E i) (corner_at E j) (corner_at E k) ≡ true → deviates_over error (corner_at E j) (corner_at E i) (corner_at E k) ≡ true
    → KeepsBetween error E i j
run_keeps error E i j k there round after before forth back =
    made (inside_keeps error (corner_at E i) (inner_of E i j) (corner_at E j)
    (inner_passes E i j k (deviates_over error (corner_at E i) (corner_at E j)) after before most forth)
    (inner_passes E i j k (deviates_over error (corner_at E j) (corner_at E i)) after before most back))
  where
    most : j ≤ length E + length E
    most = omega (arith, there, round)

    kept : List Point
    kept = kept_inside error (corner_at E i) (inner_of E i j) (corner_at E j)

    made : KeepsOne (inner_of E i j) (kept_inside error (corner_at E i) (inner_of E i j) (corner_at E j)) → KeepsBetween error E i j
    made one =
        let at : IsBetween E i j one.corner = inner_held E i j one.corner (omega (arith, after, before)) most one.inside in
        record {
          place = at.place;
          after = at.after;
          before = at.before;
          held = subst (λ ps. Contains ps (corner_at E at.place)) (sym (left_is error E i j there round))
              (Contains-append_right (corner_at E i ∷ []) kept (corner_at E at.place) (subst (Contains kept) at.stands one.held));
        }

-- and it keeps its first corner
pub run_begins : (error : ℕ) (E : List UnitEdge) (i j : ℕ) → i < length E → j ≤ i + length E → Contains (left_of_run error (twice_round E) (i, j)) (corner_at E i)
run_begins error E i j there round =
    subst (λ ps. Contains ps (corner_at E i)) (sym (left_is error E i j there round)) (0, omega arith, refl)

-- ---- two places that are kept at first

-- what is kept is what the two runs between them leave
pub two_runs : (error : ℕ) (E : List UnitEdge) (p q : ℕ) → kept_places E ≡ p ∷ q ∷ []
    → kept_corners error E ≡ left_of_run error (twice_round E) (p, q) ++ (left_of_run error (twice_round E) (q, p + length E) ++ [])
unfolding kept_corners kept_round
two_runs error E p q are = rw are refl

-- ---- how many are kept

-- three different numbers below another
pub three_below : (n s t r : ℕ) → s < n → t < n → r < n → (s ≡ t → ⊥) → (r ≡ s → ⊥) → (r ≡ t → ⊥) → 3 ≤ n
three_below n s t r s-in t-in r-in st rs rt = omega arith

-- three places whose corners are kept
pub three_kept : (error : ℕ) (E : List UnitEdge) (i j k : ℕ) → i < j → j < length E → k < length E → (k ≡ i → ⊥) → (k ≡ j → ⊥)
    → Contains (kept_corners error E) (edge_at E i).from → Contains (kept_corners error E) (edge_at E j).from → Contains (kept_corners error E) (edge_at E k).from
    → 3 ≤ length (kept_edges error E)
three_kept error E i j k less j-in k-in not_i not_j first second third =
    let ps : List Point = kept_corners error E in
    let listed : (m : ℕ) → m < length E → Contains ps (edge_at E m).from → (t : ℕ) × (t < length (passing (length E) (is_kept error E))) × (get_or (passing (length E) (is_kept error E)) t 0 ≡ m) =
    λ m inside held. index_of (length E) (is_kept error E) m inside
    (list_any_at (λ other. is_eq (point_cmp other (edge_at E m).from)) ps held.0 (edge_at E m).from held.1
    (ap (λ p. is_eq (point_cmp p (edge_at E m).from)) held.2 ∙ ap is_eq (tied_itself point_total (edge_at E m).from))) in
    let places : List ℕ = passing (length E) (is_kept error E) in
    let a = listed i (omega (arith, less, j-in)) first in
    let b = listed j j-in second in
    let c = listed k k-in third in
    let apart : (s t : ℕ) (m n : ℕ) → get_or places s 0 ≡ m → get_or places t 0 ≡ n → (m ≡ n → ⊥) → s ≡ t → ⊥ =
    λ s t m n at at' differ same. differ (sym at ∙ ap (λ x. get_or places x 0) same ∙ at') in
    omega (
      arith,
      kept_count error E,
      three_below (length places) a.0 b.0 c.0 a.1 b.1 c.1
          (apart a.0 b.0 i j a.2 b.2 (λ e. omega (arith, e, less))) (apart c.0 a.0 k i c.2 a.2 not_i) (apart c.0 b.0 k j c.2 b.2 not_j),
    )
