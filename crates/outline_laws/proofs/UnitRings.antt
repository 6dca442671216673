-- Of a ring of unit steps three corners or more are kept at each error up to 49.
use Rattle.std.proofs.Common.{◌≡◌, ℕ, ◌+◌, ◌-◌, ◌<◌, ◌≤◌, ◌-ℤ◌, true, List, [], ◌∷◌, ◌++◌, length, get_or, refl, sym, subst, ap, ◌∙◌, inl, inr, arith}
use Rattle.std.specs.Prelude.{Contains, unsigned_abs, ◌==◌, if◌then◌else◌}
use Rattle.std.proofs.lemmas.Bool.{both_ways, cases_lt, cases_order, cond-false, ne_eqb}
use Rattle.std.proofs.lemmas.List.Elements.{Contains-append_left, Contains-append_right}
use Rattle.nav_base.specs.declared.point.Point.{Point}
use Rattle.mesh_types.specs.declared.region.UnitEdge.{UnitEdge}
use Rattle.mesh_types.specs.Rings.{AreApart, beginnings, place_before}
use Rattle.mesh_types.specs.Simplified.{changes, deviates_over, does_change, extremes, kept_corners, kept_edges, kept_places, left_of_run, simplified_of}
use Rattle.mesh_types.specs.Words.{twice_round}
use Rattle.contour_simplify.proofs.Outlines.{flat_if}
use Rattle.contour_simplify.proofs.Rising.{AreKept, places_kept}
use Rattle.contour_mesh.proofs.RingStops.{AreNextKept, below, next_is, next_last, next_of, passes}
use Rattle.contour_mesh.proofs.RingWalks.{edge_at, not_changed, one_place, turn, turn_high, turn_inside, turn_low}
use Rattle.contour_mesh.proofs.SharedCorners.{before_next, change_kept, corner_at, run_coded}
use Rattle.outline_laws.specs.UnitRings.{AreNotFlat, IsUnitRing, KeepThree}
use Rattle.outline_laws.proofs.HalfCells.{IsFar, deviating, far_in_column, far_in_row, far_turned}
use Rattle.outline_laws.proofs.UnitWalks.{in_column, in_row}
use Rattle.outline_laws.proofs.KeptCorners.{run_begins, run_keeps, three_kept, two_runs}

module _ (E : List UnitEdge) (is : IsUnitRing E) where
  -- corners at different places differ
  corners_apart : (i j : ℕ) → i < length E → j < length E → (i ≡ j → ⊥) → AreApart (edge_at E i).from (edge_at E j).from
  corners_apart i j i-in j-in differ same = differ (one_place E is.ring i j i-in j-in same)

  -- of two corners there is a third that is far from the segment between them
  record HasFar (p q : ℕ) : Type 0 where
    place : ℕ
    inside : place < length E
    not_first : place ≡ p → ⊥
    not_last : place ≡ q → ⊥
    far : IsFar (edge_at E p).from (edge_at E q).from (edge_at E place).from

  far_there : (p q : ℕ) → p < length E → q < length E → (p ≡ q → ⊥) → HasFar p q
  far_there p q p-in q-in differ = elim (cases_lt (unsigned_abs (b.x -ℤ a.x)) (unsigned_abs (b.z -ℤ a.z))) [
    | inl high ↦
        let o = in_row E is p p-in in
        let far = far_in_row a b (edge_at E o.place).from apart (omega (arith, high)) (corners_apart p o.place p-in o.inside (λ e. o.other (sym e))) o.level in
        made o.place o.inside o.other far
    | inr wide ↦
        let o = in_column E is p p-in in
        let far = far_in_column a b (edge_at E o.place).from apart wide (corners_apart p o.place p-in o.inside (λ e. o.other (sym e))) o.level in
        made o.place o.inside o.other far
  ]
    where
      a : Point
      a = (edge_at E p).from

      b : Point
      b = (edge_at E q).from

      apart : AreApart (edge_at E p).from (edge_at E q).from
      apart = corners_apart p q p-in q-in differ

      made : (k : ℕ) → k < length E → (k ≡ p → ⊥) → IsFar (edge_at E p).from (edge_at E q).from (edge_at E k).from → HasFar p q
      made k k-in other far = record {
        place = k;
        inside = k-in;
        not_first = other;
        not_last = λ same. far.last (ap (λ j. (edge_at E j).from) (sym same));
        far = far;
      }

  low_corner : (k : ℕ) → k < length E → corner_at E k ≡ (edge_at E k).from
  low_corner k less = ap (λ j. (edge_at E j).from) (turn_low (length E) k less)

  -- where two places are kept at first, a third is kept
  two_at_first : (error p q : ℕ) → error ≤ 49 → p < q → q < length E → kept_places E ≡ p ∷ q ∷ [] → 3 ≤ length (kept_edges error E)
  two_at_first error p q fine less q-in are =
      by_side f.place f.inside f.not_first f.not_last
      (deviating error a b (edge_at E f.place).from fine f.far)
      (deviating error b a (edge_at E f.place).from fine (far_turned a b (edge_at E f.place).from f.far))
    where
      n : ℕ
      n = length E

      p-in : p < length E
      p-in = omega (arith, less, q-in)

      a : Point
      a = (edge_at E p).from

      b : Point
      b = (edge_at E q).from

      f : HasFar p q
      f = far_there p q p-in q-in (λ e. omega (arith, e, less))

      left : List Point
      left = left_of_run error (twice_round E) (p, q)

      right : List Point
      right = left_of_run error (twice_round E) (q, p + length E)

      kept_left : (x : Point) → Contains (left_of_run error (twice_round E) (p, q)) x → Contains (kept_corners error E) x
      kept_left x held = subst (λ ps. Contains ps x) (sym (two_runs error E p q are)) (Contains-append_left left (right ++ []) x held)

      kept_right : (x : Point) → Contains (left_of_run error (twice_round E) (q, p + length E)) x → Contains (kept_corners error E) x
      kept_right x held =
          subst (λ ps. Contains ps x) (sym (two_runs error E p q are)) (Contains-append_right left (right ++ []) x (Contains-append_left right [] x held))

      first : Contains (kept_corners error E) (edge_at E p).from
      first = subst (Contains (kept_corners error E)) (low_corner p p-in) (kept_left (corner_at E p) (run_begins error E p q p-in (omega (arith, less, q-in))))

      second : Contains (kept_corners error E) (edge_at E q).from
      second = subst (Contains (kept_corners error E)) (low_corner q q-in) (kept_right (corner_at E q) (run_begins error E q (p + n) q-in (omega (arith, less))))

      with_third : (k : ℕ) → k < length E → (k ≡ p → ⊥) → (k ≡ q → ⊥) → Contains (kept_corners error E) (edge_at E k).from → 3 ≤ length (kept_edges error E)
      with_third k k-in not_p not_q held = three_kept error E p q k less q-in k-in not_p not_q first second held

      end : corner_at E (p + length E) ≡ (edge_at E p).from
      end = ap (λ j. (edge_at E j).from) {x = turn n (p + n)} {y = p} (turn_high n (p + n) (omega arith) ∙ omega arith)

      -- the far corner lies on the first run
      on_first : (k : ℕ) → p < k → k < q → deviates_over error (edge_at E p).from (edge_at E q).from (corner_at E k) ≡ true
          → deviates_over error (edge_at E q).from (edge_at E p).from (corner_at E k) ≡ true → 3 ≤ length (kept_edges error E)
      on_first k after before forth back =
          let one = run_keeps error E p q k p-in (omega (arith, q-in)) after before
          (rw (low_corner p p-in, low_corner q q-in) forth) (rw (low_corner p p-in, low_corner q q-in) back) in
          let inside : one.place < n = omega (arith, one.before, q-in) in
          with_third one.place inside (λ e. omega (arith, e, one.after)) (λ e. omega (arith, e, one.before))
          (subst (Contains (kept_corners error E)) (low_corner one.place inside) (kept_left (corner_at E one.place) one.held))

      -- or on the second
      on_second : (k : ℕ) → q < k → k < p + length E → deviates_over error (edge_at E p).from (edge_at E q).from (corner_at E k) ≡ true
          → deviates_over error (edge_at E q).from (edge_at E p).from (corner_at E k) ≡ true → 3 ≤ length (kept_edges error E)
      on_second k after before forth back =
          let one = run_keeps error E q (p + n) k q-in (omega (arith, less)) after before
          (rw (low_corner q q-in, end) back) (rw (low_corner q q-in, end) forth) in
          let place : ℕ = turn n one.place in
          let inside : place < n = turn_inside n one.place (omega (arith, one.before, p-in)) in
          let held : Contains (kept_corners error E) (edge_at E place).from = kept_right (corner_at E one.place) one.held in
          elim (cases_lt one.place n) [
            | inl low ↦
                let at : place ≡ one.place = turn_low n one.place low in
                with_third place inside (λ e. omega (arith, e, at, one.after, less)) (λ e. omega (arith, e, at, one.after)) held
            | inr high ↦
                let at : place ≡ one.place - n = turn_high n one.place high in
                with_third place inside (λ e. omega (arith, e, at, high, one.before)) (λ e. omega (arith, e, at, high, one.before, less)) held
          ]

      by_side : (k : ℕ) → k < length E → (k ≡ p → ⊥) → (k ≡ q → ⊥) → deviates_over error (edge_at E p).from (edge_at E q).from (edge_at E k).from ≡ true
          → deviates_over error (edge_at E q).from (edge_at E p).from (edge_at E k).from ≡ true → 3 ≤ length (kept_edges error E)
      by_side k k-in not_p not_q forth back =
          let at : corner_at E k ≡ (edge_at E k).from = low_corner k k-in in
          let forth' : deviates_over error a b (corner_at E k) ≡ true = ap (deviates_over error a b) at ∙ forth in
          let back' : deviates_over error b a (corner_at E k) ≡ true = ap (deviates_over error b a) at ∙ back in
          elim (cases_order k p) [
            | inl same ↦ absurd (not_p same)
            | inr (inl before) ↦
                let round : corner_at E (k + n) ≡ corner_at E k =
                ap (λ j. (edge_at E j).from) (turn_high n (k + n) (omega arith) ∙ omega arith ∙ sym (turn_low n k k-in)) in
                on_second (k + n) (omega (arith, q-in)) (omega (arith, before)) (ap (deviates_over error a b) round ∙ forth') (ap (deviates_over error b a) round ∙ back')
            | inr (inr after) ↦ elim (cases_order k q) [
              | inl same ↦ absurd (not_q same)
              | inr (inl between) ↦ on_first k after between forth' back'
              | inr (inr beyond) ↦ on_second k beyond (omega (arith, k-in)) forth' back'
            ]
          ]

  -- codes that change somewhere on a ring change back
  not_once : length (changes E) ≡ 1 → ⊥
  not_once once =
      let n : ℕ = length E in
      let q = does_change E in
      let k : ℕ = get_or (changes E) 0 0 in
      let some : 0 < length (changes E) = omega (arith, once) in
      let k-in : k < n = below n q 0 some in
      let last : next_of n q 0 ≡ k + n = next_last n q 0 (omega (arith, once)) in
      let next : AreNextKept E k (k + n) = subst (λ j. AreNextKept E k j) last (next_is n q 0 some).next in
      let step : k + (n - 1) + 1 ≡ k + n = omega (arith, k-in) in
      let back : turn n (k + n) ≡ k = turn_high n (k + n) (omega arith) ∙ omega arith in
      let before : place_before n k ≡ turn n (k + (n - 1)) =
      ap (place_before n) (sym (ap (turn n) step ∙ back)) ∙ before_next n (k + (n - 1)) (omega (arith, k-in, step)) in
      let coded = run_coded E k (k + n) k-in (omega arith) next.inner (n - 1) (omega (arith, k-in)) in
      both_ways (does_change E k) (not_changed E k (ap (λ j. (edge_at E j).code) before ∙ coded)) next.first

  some_edges : 0 < length E
  some_edges = omega (arith, is.enough)

  -- the two places rise
  rising_two : (p q : ℕ) → kept_places E ≡ p ∷ q ∷ [] → (p < q) × (q < length E)
  rising_two p q are =
      let kept : AreKept (length E) (kept_places E) = places_kept E is.ring some_edges in
      let two : length (kept_places E) ≡ 2 = ap length are in
      let first : get_or (kept_places E) 0 0 ≡ p = ap (λ ks. get_or ks 0 0) are in
      let second : get_or (kept_places E) 1 0 ≡ q = ap (λ ks. get_or ks 1 0) are in (
        omega (arith, first, second, kept.rising 0 1 0 (omega arith) (omega (arith, two))),
        omega (arith, second, kept.below 1 0 (omega (arith, two))),
      )

  changed : (error t : ℕ) → t < length (changes E) → Contains (kept_corners error E) (edge_at E (get_or (changes E) t 0)).from
  changed error t less =
      change_kept E (omega (arith, less)) error (get_or (changes E) t 0) (below (length E) (does_change E) t less) (passes (length E) (does_change E) t less)

  kept_extremes : changes E ≡ [] → kept_places E ≡ extremes (beginnings E)
  unfolding kept_places
  kept_extremes none = ap (λ (ks : List ℕ). if length ks == 0 then extremes (beginnings E) else ks) none

  kept_changes : (p : ℕ) (ps : List ℕ) → changes E ≡ p ∷ ps → kept_places E ≡ p ∷ ps
  unfolding kept_places
  kept_changes p ps are =
      ap (λ (ks : List ℕ). if length ks == 0 then extremes (beginnings E) else ks) are
      ∙ cond-false (length (p ∷ ps) == 0) (extremes (beginnings E)) (p ∷ ps) (ne_eqb (length (p ∷ ps)) 0 (λ e. omega (arith, e)))

  -- three places where the code changes
  three_changes : (error p q r : ℕ) (more : List ℕ) → changes E ≡ p ∷ q ∷ r ∷ more → 3 ≤ length (kept_edges error E)
  three_changes error p q r more are =
      let kept : AreKept (length E) (kept_places E) = places_kept E is.ring some_edges in
      let same : kept_places E ≡ p ∷ q ∷ r ∷ more = kept_changes p (q ∷ r ∷ more) are in
      let many : length (kept_places E) ≡ length (p ∷ q ∷ r ∷ more) = ap length same in
      let first : get_or (kept_places E) 0 0 ≡ p = ap (λ ks. get_or ks 0 0) same in
      let second : get_or (kept_places E) 1 0 ≡ q = ap (λ ks. get_or ks 1 0) same in
      let third : get_or (kept_places E) 2 0 ≡ r = ap (λ ks. get_or ks 2 0) same in
      let low : p < q = omega (arith, first, second, kept.rising 0 1 0 (omega arith) (omega (arith, many))) in
      let high : q < r = omega (arith, second, third, kept.rising 1 2 0 (omega arith) (omega (arith, many))) in
      let inside : r < length E = omega (arith, third, kept.below 2 0 (omega (arith, many))) in
      let count : length (changes E) ≡ length (p ∷ q ∷ r ∷ more) = ap length are in
      let P : ℕ → Type 0 = λ k. Contains (kept_corners error E) (edge_at E k).from in
      three_kept error E p q r low (omega (arith, high, inside)) inside (λ e. omega (arith, e, low, high)) (λ e. omega (arith, e, high))
      (subst P (ap (λ ks. get_or ks 0 0) are) (changed error 0 (omega (arith, count))))
      (subst P (ap (λ ks. get_or ks 1 0) are) (changed error 1 (omega (arith, count))))
      (subst P (ap (λ ks. get_or ks 2 0) are) (changed error 2 (omega (arith, count))))

  two_places : (error p q : ℕ) → error ≤ 49 → kept_places E ≡ p ∷ q ∷ [] → 3 ≤ length (kept_edges error E)
  two_places error p q fine are = let rises = rising_two p q are in two_at_first error p q fine rises.0 rises.1 are

  keeps_three : (error : ℕ) → error ≤ 49 → 3 ≤ length (kept_edges error E)
  keeps_three error fine = by_shape (changes E) refl
    where
      by_shape : (cs : List ℕ) → changes E ≡ cs → 3 ≤ length (kept_edges error E)
      by_shape [] are = two_places error _ _ fine (kept_extremes are)
      by_shape (p ∷ []) are = absurd (not_once (ap length are))
      by_shape (p ∷ q ∷ []) are = two_places error p q fine (kept_changes p (q ∷ []) are)
      by_shape (p ∷ q ∷ r ∷ more) are = three_changes error p q r more are

pub keep_three : KeepThree
keep_three error edges fine ring = keeps_three edges ring error (omega (arith, fine))

pub not_flat : AreNotFlat
not_flat error edges fine ring flat =
    omega (arith, keep_three error edges fine ring, (flat_if error edges (simplified_of error edges) refl).0 flat)
