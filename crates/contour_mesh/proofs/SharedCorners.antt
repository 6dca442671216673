-- Two rings that run along each other keep the same corners where they do.
use Rattle.std.proofs.Common.{◌≡◌, ℕ, zero, suc, ◌+◌, ◌-◌, ◌<◌, ◌≤◌, Bool, true, false, List, [], ◌∷◌, ◌++◌, length, get_or, take, drop, ap, ◌∙◌, sym, refl, subst, arith, inl, inr}
use Rattle.std.specs.Prelude.{All, Contains, reverse, slice_range, if◌then◌else◌}
use Rattle.std.specs.List.{flat_map, list_any}
use Rattle.std.proofs.lemmas.Bool.{both_ways, cases_lt}
use Rattle.std.proofs.lemmas.List.{ext_get_or, get_or_append_left, get_or-append_right, get_or_default, get_or-drop, get_or-map, get_or-reverse, get_or-take, length-append, length-drop, length-map, length-reverse, length-take}
use Rattle.std.proofs.lemmas.List.Elements.{All-append, All-cons, All-contains, All-drop, All-nil, All-take, Contains-append_cases, Contains-append_right}
use Rattle.nav_base.specs.declared.point.Point.{Point}
use Rattle.mesh_types.specs.declared.region.Code.{Code}
use Rattle.mesh_types.specs.declared.region.UnitEdge.{UnitEdge}
use Rattle.mesh_types.specs.Choices.{first_best_place}
use Rattle.mesh_types.specs.LinkOrder.{is_point_before}
use Rattle.mesh_types.specs.Rings.{AreApart, beginnings, place_before}
use Rattle.mesh_types.specs.Simplified.{changes, deviates_more, deviates_over, does_change, kept_corners, kept_inside, kept_walking, left_of_run, origin, kept_round}
use Rattle.mesh_types.specs.Words.{runs_between, twice_round}
use Rattle.mesh_types.proofs.Gathered.{Contains-flat_map}
use Rattle.contour_simplify.proofs.Bests.{best_there}
use Rattle.contour_simplify.proofs.Deviations.{deviations_order}
use Rattle.contour_simplify.proofs.Mirrored.{mirrored}
use Rattle.contour_mesh.proofs.RingStops.{AreNext, AreNextKept, index_of, next_is, next_of, run_listed, runs_are_next}
use Rattle.contour_mesh.proofs.RingWalks.{HasCode, IsBack, RunAlong, before_after, begins_back, corners_back, edge_at, ends_back, not_changed, one_place, some_edge, stays_back, turn, turn_high, turn_inside, turn_low, turn_next, unchanged}

-- ---- what a run keeps are corners of it

Contains-reverse : {X : Type 0} (xs : List X) (x : X) → Contains xs x → Contains (reverse xs) x
Contains-reverse xs x held =
    let k : ℕ = length xs - 1 - held.0 in
    let there : k < length xs = omega (arith, held.1) in (
      k,
      omega (arith, there, length-reverse xs),
      get_or-reverse xs k x there ∙ ap (λ j. get_or xs j x) {x = length xs - 1 - k} {y = held.0} (omega (arith, held.1)) ∙ held.2,
    )

All-reverse : {X : Type 0} (P : X → Type 0) (xs : List X) → All P xs → All P (reverse xs)
All-reverse P xs each k d there =
    let there' : k < length xs = omega (arith, there, length-reverse xs) in
    subst P (sym (get_or-reverse xs k d there')) (each (length xs - 1 - k) d (omega (arith, there')))

-- one that passes a test is there
some_there : {X : Type 0} (p : X → Bool) (xs : List X) → list_any p xs ≡ true → 0 < length xs
some_there p [] h = absurd cc
some_there p (x ∷ xs) h = omega arith

walking_kept : (P : Point → Type 0) (error depth : ℕ) (a : Point) (inner : List Point) (b : Point) → All P inner → All P (kept_walking depth error a inner b)
unfolding kept_walking
walking_kept P error zero a inner b each = All-nil P
walking_kept P error (suc depth) a inner b each =
    by_case (list_any (deviates_over error a b) inner) refl
    (λ x. walking_kept P error depth a (take place inner) x (All-take P place inner each))
    (λ x. walking_kept P error depth x (drop (place + 1) inner) b (All-drop P (place + 1) inner each))
  where
    place : ℕ
    place = first_best_place (deviates_more a b) inner

    by_case : (t : Bool) → list_any (deviates_over error a b) inner ≡ t
        → ((x : Point) → All P (kept_walking depth error a (take place inner) x)) → ((x : Point) → All P (kept_walking depth error x (drop (place + 1) inner) b))
        → All P (if t then kept_walking depth error a (take place inner) (get_or inner place a) ++ get_or inner place a ∷ kept_walking depth error (get_or inner place a) (drop (place + 1) inner) b else [])
    by_case false is left right = All-nil P
    by_case true is left right =
        let there : place < length inner = best_there (deviates_more a b) (deviations_order a b) inner a (some_there (deviates_over error a b) inner is) in
        All-append P (kept_walking depth error a (take place inner) (get_or inner place a)) _ (left (get_or inner place a))
        (All-cons P (get_or inner place a) _ (each place a there) (right (get_or inner place a)))

inside_kept : (P : Point → Type 0) (error : ℕ) (a : Point) (inner : List Point) (b : Point) → All P inner → All P (kept_inside error a inner b)
unfolding kept_inside
inside_kept P error a inner b each = by_case (is_point_before a b)
  where
    by_case : (t : Bool) → All P (if t then kept_walking (length inner) error a inner b else reverse (kept_walking (length inner) error b (reverse inner) a))
    by_case true = walking_kept P error (length inner) a inner b each
    by_case false =
        All-reverse P (kept_walking (length inner) error b (reverse inner) a)
        (walking_kept P error (length inner) b (reverse inner) a (All-reverse P inner each))

-- ---- the corners of a ring, twice round

abbrev pub corner_at : List UnitEdge → ℕ → Point
corner_at E k = (edge_at E (turn (length E) k)).from

twice_at : (E : List UnitEdge) (k : ℕ) → k < length E + length E → get_or (twice_round E) k origin ≡ corner_at E k
twice_at E k less =
    let b : List Point = beginnings E in
    let many : length b ≡ length E = length-map E (λ (e : UnitEdge). e.from) in
    elim (cases_lt k (length E)) [
      | inl low ↦
          get_or_append_left b b origin k (omega (arith, low, many))
          ∙ get_or-map (λ (e : UnitEdge). e.from) E k some_edge origin low
          ∙ ap (λ j. (edge_at E j).from) (sym (turn_low (length E) k low))
      | inr high ↦
          get_or-append_right b b (length E) k origin many high
          ∙ get_or-map (λ (e : UnitEdge). e.from) E (k - length E) some_edge origin (omega (arith, high, less))
          ∙ ap (λ j. (edge_at E j).from) (sym (turn_high (length E) k high))
    ]

length-twice : (E : List UnitEdge) → length (twice_round E) ≡ length E + length E
length-twice E = length-append (beginnings E) (beginnings E) ∙ omega (arith, length-map E (λ (e : UnitEdge). e.from))

-- the inner corners of a run
abbrev inner_of : List UnitEdge → ℕ → ℕ → List Point
inner_of E i j = slice_range (twice_round E) (i + 1) j

length-inner : (E : List UnitEdge) (i j : ℕ) → i < j → j ≤ length E + length E → length (inner_of E i j) ≡ j - (i + 1)
length-inner E i j less most = length-take (j - (i + 1)) (drop (i + 1) (twice_round E)) ∙ omega (arith, length-drop (i + 1) (twice_round E), length-twice E, less, most)

inner_at : (E : List UnitEdge) (i j v : ℕ) → v < j - (i + 1) → j ≤ length E + length E → get_or (inner_of E i j) v origin ≡ corner_at E (i + 1 + v)
inner_at E i j v less most =
    get_or-take (j - (i + 1)) (drop (i + 1) (twice_round E)) v origin less
    ∙ get_or-drop (i + 1) (twice_round E) v origin
    ∙ twice_at E (i + 1 + v) (omega (arith, less, most))

-- a run is left with its first corner and what it keeps of its inner ones
left_is : (error : ℕ) (E : List UnitEdge) (i j : ℕ) → i < length E → j ≤ i + length E
    → left_of_run error (twice_round E) (i, j) ≡ corner_at E i ∷ kept_inside error (corner_at E i) (inner_of E i j) (corner_at E j)
unfolding left_of_run
left_is error E i j there round =
    let a : Point = get_or (twice_round E) i origin in
    let b : Point = get_or (twice_round E) j origin in
    ap (λ (p : Point). p ∷ kept_inside error p (inner_of E i j) b) (twice_at E i (omega (arith, there)))
    ∙ ap (λ (p : Point). corner_at E i ∷ kept_inside error (corner_at E i) (inner_of E i j) p) (twice_at E j (omega (arith, there, round)))

-- ---- one run

-- the edges of a run have one code, which ends with it
record IsRunWith (E : List UnitEdge) (c : Code) (i size : ℕ) : Type 0 where
  has : HasCode E c i size
  begins : (edge_at E (place_before (length E) i)).code ≡ c → ⊥
  ends : (edge_at E (turn (length E) (i + size))).code ≡ c → ⊥

-- the place before one further on
pub before_next : (n k : ℕ) → k + 1 < n + n → place_before n (turn n (k + 1)) ≡ turn n k
before_next n k less =
    ap (place_before n) (sym (turn_next n k less)) ∙ before_after n (turn n k) (turn_inside n k (omega (arith, less)))

-- the code of each edge of a run is that of the first
pub run_coded : (E : List UnitEdge) (i j : ℕ) → i < length E → j ≤ i + length E → ((k : ℕ) → i < k → k < j → does_change E (turn (length E) k) ≡ false)
    → (u : ℕ) → i + u < j → (edge_at E (turn (length E) (i + u))).code ≡ (edge_at E i).code
run_coded E i j there round stays zero less =
    ap (λ k. (edge_at E k).code) (ap (turn (length E)) {x = i + 0} {y = i} (omega arith) ∙ turn_low (length E) i there)
run_coded E i j there round stays (suc u) less =
    let n : ℕ = length E in
    let step : i + u + 1 ≡ i + suc u = omega arith in
    let wide : i + u + 1 < n + n = omega (arith, step, less, there, round) in
    let before : place_before n (turn n (i + suc u)) ≡ turn n (i + u) = ap (λ k. place_before n (turn n k)) (sym step) ∙ before_next n (i + u) wide in
    sym (unchanged E (turn n (i + suc u)) (stays (i + suc u) (omega arith) less))
    ∙ ap (λ k. (edge_at E k).code) before
    ∙ run_coded E i j there round stays u (omega (arith, less))

run_with : (E : List UnitEdge) (i j : ℕ) → AreNextKept E i j → IsRunWith E (edge_at E i).code i (j - i)
run_with E i j is =
    let n : ℕ = length E in
    let c : Code = (edge_at E i).code in
    let coded = run_coded E i j is.there is.round is.inner in
    let all : i + (j - i) ≡ j = omega (arith, is.later) in
    let k : ℕ = i + (j - i - 1) in
    let next : k + 1 ≡ j = omega (arith, is.later) in
    record {
      has = record {
        there = is.there;
        some = omega (arith, is.later);
        round = omega (arith, is.round);
        coded = λ u less. coded u (omega (arith, less));
      };
      begins = λ same. both_ways (does_change E i) (not_changed E i same) is.first;
      ends = λ same.
          let before : place_before n (turn n j) ≡ turn n k = ap (λ x. place_before n (turn n x)) (sym next) ∙ before_next n k (omega (arith, next, is.there, is.round)) in
          both_ways (does_change E (turn n j))
          (not_changed E (turn n j)
          (ap (λ x. (edge_at E x).code) before ∙ coded (j - i - 1) (omega (arith, is.later)) ∙ sym same ∙ ap (λ x. (edge_at E (turn n x)).code) all)) is.last;
    }

-- ---- what is kept

-- a corner where the code changes is kept
pub change_kept : (E : List UnitEdge) → 0 < length (changes E) → (error k : ℕ) → k < length E → does_change E k ≡ true → Contains (kept_corners error E) (edge_at E k).from
unfolding kept_corners
change_kept E some error k there changes' =
    let n : ℕ = length E in
    let w = index_of n (does_change E) k there changes' in
    let j : ℕ = next_of n (does_change E) w.0 in
    let next : AreNextKept E k j = subst (λ i. AreNext n (does_change E) i j) w.2 (next_is n (does_change E) w.0 w.1).next in
    let x : Point = (edge_at E k).from in
    let corner : corner_at E k ≡ x = ap (λ i. (edge_at E i).from) (turn_low n k there) in
    Contains-flat_map (left_of_run error (twice_round E)) (runs_between (kept_round E)) (k, j) x (run_listed E some k j next)
    (subst (λ ps. Contains ps x) (sym (left_is error E k j there next.round)) (0, omega arith, corner))

-- what is gathered comes from one of the parts
record ComesFrom {X Y : Type 0} (f : X → List Y) (xs : List X) (y : Y) : Type 0 where
  part : X
  listed : Contains xs part
  held : Contains (f part) y

comes_from : {X Y : Type 0} (f : X → List Y) (xs : List X) (y : Y) → Contains (flat_map f xs) y → ComesFrom f xs y
comes_from f [] y held = absurd (omega (arith, held.1))
comes_from f (x ∷ xs) y held = elim (Contains-append_cases (f x) (flat_map f xs) y held) [
  | inl here ↦ record { part = x; listed = (0, omega arith, refl); held = here }
  | inr later ↦
      let from = comes_from f xs y later in
      record { part = from.part; listed = Contains-append_right (x ∷ []) xs from.part from.listed; held = from.held }
]

-- a corner that is kept is one of a run, which keeps it
record IsOfRun (E : List UnitEdge) (i j : ℕ) (x : Point) : Type 0 where
  step : ℕ
  within : i + step < j
  corner : corner_at E (i + step) ≡ x

record IsKeptBy (error : ℕ) (E : List UnitEdge) (x : Point) : Type 0 where
  begin : ℕ
  end : ℕ
  next : AreNextKept E begin end
  left : Contains (left_of_run error (twice_round E) (begin, end)) x
  step : ℕ
  within : begin + step < end
  corner : corner_at E (begin + step) ≡ x

of_run : (error : ℕ) (E : List UnitEdge) (i j : ℕ) → i < j → i < length E → j ≤ i + length E → (x : Point)
    → Contains (left_of_run error (twice_round E) (i, j)) x → IsOfRun E i j x
of_run error E i j less there round x held =
    let most : j ≤ length E + length E = omega (arith, there, round) in
    let P : Point → Type 0 = IsOfRun E i j in
    let inner : List Point = inner_of E i j in
    let size = length-inner E i j less most in
    let each : All P inner = λ v e inside.
    let inside' : v < j - (i + 1) = omega (arith, inside, size) in
    record {
      step = v + 1;
      within = omega (arith, inside');
      corner = ap (corner_at E) {x = i + (v + 1)} {y = i + 1 + v} (omega arith) ∙ sym (inner_at E i j v inside' most) ∙ get_or_default inner v origin e inside;
    } in
    let all : All P (corner_at E i ∷ kept_inside error (corner_at E i) inner (corner_at E j)) =
    All-cons P (corner_at E i) (kept_inside error (corner_at E i) inner (corner_at E j))
    (record { step = 0; within = omega (arith, less); corner = ap (corner_at E) {x = i + 0} {y = i} (omega arith) })
    (inside_kept P error (corner_at E i) inner (corner_at E j) each) in
    All-contains P (corner_at E i ∷ kept_inside error (corner_at E i) inner (corner_at E j)) x all (subst (λ ps. Contains ps x) (left_is error E i j there round) held)

kept_from : (E : List UnitEdge) → 0 < length (changes E) → (error : ℕ) (x : Point) → Contains (kept_corners error E) x → IsKeptBy error E x
unfolding kept_corners
kept_from E some error x held =
    let from = comes_from (left_of_run error (twice_round E)) (runs_between (kept_round E)) x held in
    let P : ℕ × ℕ → Type 0 = λ run. AreNextKept E run.0 run.1 in
    let next = All-contains P (runs_between (kept_round E)) from.part (runs_are_next E some) from.listed in
    let of = of_run error E from.part.0 from.part.1 next.later next.there next.round x from.held in
    record { begin = from.part.0; end = from.part.1; next = next; left = from.held; step = of.step; within = of.within; corner = of.corner }

-- ---- two rings

module _ (E F : List UnitEdge) (c d : Code) (are : RunAlong E F c d) where
  -- a run, as the other ring has it
  record IsOther (i size : ℕ) : Type 0 where
    place : ℕ
    next : AreNextKept F place (place + size)
    back : IsBack (edge_at E (turn (length E) (i + (size - 1)))) (edge_at F place) d

  other_run : (i size : ℕ) → IsRunWith E c i size → IsOther i size
  other_run i size is =
      let n : ℕ = length E in
      let m : ℕ = length F in
      let has = is.has in
      let k : ℕ = i + (size - 1) in
      let wide : i + size < n + n = omega (arith, has.there, has.round) in
      let found = are.forth (turn n k) (turn_inside n k (omega (arith, has.some, wide))) (has.coded (size - 1) (omega (arith, has.some))) in
      let s : ℕ = found.0 in
      let begins = begins_back E F c d are i size s has found.1 found.2 wide is.ends in
      let small : size ≤ m = elim (cases_lt m size) [
        | inl less ↦
            let stays = stays_back E F c d are i size s has found.1 found.2 m (omega (arith, found.1)) less (omega (arith, found.1)) in
            let round : turn m (s + m) ≡ s = turn_high m (s + m) (omega arith) ∙ omega arith in
            absurd (both_ways (does_change F s) (ap (does_change F) (sym round) ∙ stays) begins)
        | inr most ↦ most
      ] in
      let within : s + size < m + m = omega (arith, found.1, small) in
      record {
        place = s;
        next = record {
          there = found.1;
          later = omega (arith, has.some);
          round = omega (arith, small);
          first = begins;
          last = ends_back E F c d are i size s has found.1 found.2 within is.begins;
          inner = λ k low high.
              let u : ℕ = k - s in
              let at : s + u ≡ k = omega (arith, low) in
              ap (λ x. does_change F (turn m x)) (sym at)
              ∙ stays_back E F c d are i size s has found.1 found.2 u (omega (arith, low)) (omega (arith, low, high)) (omega (arith, at, high, within));
        };
        back = found.2;
      }

  -- the inner corners of the one run are those of the other, from its last to its first
  inner_back : (i size : ℕ) (is : IsRunWith E c i size) → (other : IsOther i size)
      → inner_of F other.place (other.place + size) ≡ reverse (inner_of E i (i + size))
  inner_back i size is other =
      let n : ℕ = length E in
      let m : ℕ = length F in
      let s : ℕ = other.place in
      let has = is.has in
      let most : i + size ≤ n + n = omega (arith, has.there, has.round) in
      let most' : s + size ≤ m + m = omega (arith, other.next.there, other.next.round) in
      let own = length-inner E i (i + size) (omega (arith, has.some)) most in
      let others = length-inner F s (s + size) (omega (arith, has.some)) most' in
      ext_get_or origin (inner_of F s (s + size)) (reverse (inner_of E i (i + size))) (omega (arith, own, others, length-reverse (inner_of E i (i + size))))
      (λ v less.
      let v-in : v + 1 < size = omega (arith, less, others) in
      let w : ℕ = length (inner_of E i (i + size)) - 1 - v in
      let w-is : i + 1 + w ≡ i + (size - (v + 1)) = omega (arith, own, v-in) in
      inner_at F s (s + size) v (omega (arith, v-in)) most'
      ∙ ap (corner_at F) {x = s + 1 + v} {y = s + (v + 1)} (omega arith)
      ∙ corners_back E F c d are i size s has other.next.there other.back (v + 1) (omega (arith, v-in)) (omega (arith, v-in, most'))
      ∙ ap (corner_at E) (sym w-is)
      ∙ sym (inner_at E i (i + size) w (omega (arith, own, v-in)) most)
      ∙ sym (get_or-reverse (inner_of E i (i + size)) v origin (omega (arith, own, v-in))))

  -- what the one run keeps, the other ring keeps
  transfer : (error i j : ℕ) → 0 < length (changes F) → AreNextKept E i j → (edge_at E i).code ≡ c → (x : Point)
      → Contains (left_of_run error (twice_round E) (i, j)) x → Contains (kept_corners error F) x
  unfolding kept_corners
  transfer error i j some next coded x held =
      let n : ℕ = length E in
      let m : ℕ = length F in
      let size : ℕ = j - i in
      let all : i + size ≡ j = omega (arith, next.later) in
      let is = subst (λ code. IsRunWith E code i size) coded (run_with E i j next) in
      let other = other_run i size is in
      let s : ℕ = other.place in
      let has = is.has in
      let within : s + size < m + m = omega (arith, other.next.there, other.next.round, has.some) in
      let back = corners_back E F c d are i size s has other.next.there other.back in
      let first : corner_at F s ≡ corner_at E j =
      ap (corner_at F) {x = s} {y = s + 0} (omega arith) ∙ back 0 (omega arith) (omega (arith, other.next.there)) ∙ ap (corner_at E) {x = i + (size - 0)} {y = j} (omega (arith, all)) in
      let last : corner_at F (s + size) ≡ corner_at E i = back size (omega arith) within ∙ ap (corner_at E) {x = i + (size - size)} {y = i} (omega arith) in
      let own : List Point = kept_inside error (corner_at E i) (inner_of E i j) (corner_at E j) in
      let held' = subst (λ ps. Contains ps x) (left_is error E i j next.there next.round) held in
      elim (Contains-append_cases (corner_at E i ∷ []) own x held') [
        | inl (zero, there, same) ↦
            let kept = change_kept F some error (turn m (s + size)) (turn_inside m (s + size) within) other.next.last in
            subst (Contains (kept_corners error F)) (last ∙ same) kept
        | inl (suc k, there, same) ↦ absurd (omega (arith, there))
        | inr rest ↦
            let apart : AreApart (corner_at E i) (corner_at E j) = λ same.
            let place : turn n i ≡ turn n j =
            one_place E are.ring (turn n i) (turn n j) (turn_inside n i (omega (arith, next.there))) (turn_inside n j (omega (arith, next.there, next.round))) same in
            is.ends (ap (λ k. (edge_at E (turn n k)).code) all ∙ ap (λ k. (edge_at E k).code) (sym place ∙ turn_low n i next.there) ∙ coded) in
            let inner : inner_of F s (s + size) ≡ reverse (inner_of E i j) = inner_back i size is other ∙ ap (λ k. reverse (inner_of E i k)) all in
            let same : kept_inside error (corner_at F s) (inner_of F s (s + size)) (corner_at F (s + size)) ≡ reverse own =
            (λ y. kept_inside error (first y) (inner y) (last y)) ∙ mirrored error (corner_at E i) (inner_of E i j) (corner_at E j) apart in
            let inside : Contains (left_of_run error (twice_round F) (s, s + size)) x =
            subst (λ ps. Contains ps x) (sym (left_is error F s (s + size) other.next.there other.next.round))
            (Contains-append_right (corner_at F s ∷ []) (kept_inside error (corner_at F s) (inner_of F s (s + size)) (corner_at F (s + size))) x
            (subst (λ ps. Contains ps x) (sym same) (Contains-reverse own x rest))) in
            Contains-flat_map (left_of_run error (twice_round F)) (runs_between (kept_round F)) (s, s + size) x (run_listed F some s (s + size) other.next) inside
      ]

  -- so a corner where an edge of the one ring begins that is one of the other's is kept by both
  pub kept_other : (error k : ℕ) → 0 < length (changes E) → 0 < length (changes F) → k < length E → (edge_at E k).code ≡ c
      → Contains (kept_corners error E) (edge_at E k).from → Contains (kept_corners error F) (edge_at E k).from
  kept_other error k some some' there coded held =
      let from = kept_from E some error (edge_at E k).from held in
      let n : ℕ = length E in
      let wide : from.begin + from.step < n + n = omega (arith, from.within, from.next.there, from.next.round) in
      let place : turn n (from.begin + from.step) ≡ k =
      one_place E are.ring (turn n (from.begin + from.step)) k (turn_inside n (from.begin + from.step) wide) there from.corner in
      let code = sym (run_coded E from.begin from.end from.next.there from.next.round from.next.inner from.step from.within)
      ∙ ap (λ j. (edge_at E j).code) place ∙ coded in
      transfer error from.begin from.end some' from.next code (edge_at E k).from from.left
