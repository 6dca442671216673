-- Places of a ring that pass a test: from each to the next, round the ring; and so the runs between the places where its code changes.
use Rattle.std.proofs.Common.{◌≡◌, ℕ, ◌+◌, ◌-◌, ◌<◌, ◌≤◌, Bool, true, false, List, [], ◌∷◌, ◌++◌, length, get_or, take, drop, map, filter, ap, ◌∙◌, sym, refl, subst, arith, inl, inr}
use Rattle.std.specs.Prelude.{All, Contains, ◌==◌}
use Rattle.std.specs.List.{range_with_len}
use Rattle.std.proofs.lemmas.Bool.{both_ways, cases_lt, cases_order, cond-false, cond-true, eq-eqb, false_from_ne_true, ne_eqb}
use Rattle.std.proofs.lemmas.List.{get_or_append_left, get_or-append_right, get_or_default, get_or-drop, length-append, length-drop}
use Rattle.std.proofs.lemmas.List.Elements.{All-filter, filter_passes}
use Rattle.std.proofs.lemmas.List.FromFn.{get_or-range_with_len, length-range_with_len}
use Rattle.std.proofs.lemmas.List.Kept.{AllPairs-filter}
use Rattle.std.proofs.lemmas.Slice.Zip.{length-zip, get_or-zip}
use Rattle.nav_base.specs.Convex.{place_after}
use Rattle.mesh_types.specs.declared.region.UnitEdge.{UnitEdge}
use Rattle.mesh_types.specs.Rings.{beginnings}
use Rattle.mesh_types.specs.Simplified.{changes, does_change, extremes, kept_places, kept_round}
use Rattle.mesh_types.specs.Words.{runs_between}
use Rattle.mesh_types.proofs.Gathered.{Contains-filter}
use Rattle.contour_mesh.proofs.RingWalks.{turn, turn_low, turn_high}

-- a place that passes, and the next that does, which may be a round further on
pub record AreNext (n : ℕ) (q : ℕ → Bool) (i j : ℕ) : Type 0 where
  pub there : i < n
  pub later : i < j
  pub round : j ≤ i + n
  pub first : q i ≡ true
  pub last : q (turn n j) ≡ true
  pub inner : (k : ℕ) → i < k → k < j → q (turn n k) ≡ false

module _ (n : ℕ) (q : ℕ → Bool) where
  -- the places that pass, in order
  abbrev pub passing : List ℕ
  passing = filter q (range_with_len 0 n)

  abbrev pub at : ℕ → ℕ
  at t = get_or passing t 0

  rises : (t r : ℕ) → t < r → r < length passing → at t < at r
  rises t r less there =
      AllPairs-filter (λ x y. x < y) q (range_with_len 0 n)
      (λ i j d before inside.
      let inside' : j < n = omega (arith, inside, length-range_with_len 0 n) in
      omega (arith, before, get_or-range_with_len 0 n i d (omega (arith, before, inside')), get_or-range_with_len 0 n j d inside'))
      t r 0 less there

  pub below : (t : ℕ) → t < length passing → get_or passing t 0 < n
  below t less =
      All-filter q (λ k. k < n) (range_with_len 0 n)
      (λ i d inside.
      let inside' : i < n = omega (arith, inside, length-range_with_len 0 n) in
      omega (arith, inside', get_or-range_with_len 0 n i d inside'))
      t 0 less

  pub passes : (t : ℕ) → t < length passing → q (get_or passing t 0) ≡ true
  passes t less = filter_passes q (range_with_len 0 n) t 0 less

  pub index_of : (k : ℕ) → k < n → q k ≡ true → (t : ℕ) × (t < length passing) × (get_or passing t 0 ≡ k)
  index_of k less is =
      let held = Contains-filter q (range_with_len 0 n) k
      (k, omega (arith, less, length-range_with_len 0 n), get_or-range_with_len 0 n k k less ∙ omega arith) is in
      (held.0, held.1, get_or_default passing held.0 0 k held.1 ∙ held.2)

  -- none lies between two that are listed one after the other
  none_between : (t k : ℕ) → t + 1 < length passing → at t < k → k < at (t + 1) → q k ≡ true → ⊥
  none_between t k there after before is =
      let w = index_of k (omega (arith, before, below (t + 1) there)) is in
      elim (cases_order w.0 t) [
        | inl same ↦ omega (arith, after, w.2, ap at same)
        | inr (inl less) ↦ omega (arith, after, w.2, rises w.0 t less (omega (arith, there)))
        | inr (inr more) ↦ elim (cases_order w.0 (t + 1)) [
          | inl same ↦ omega (arith, before, w.2, ap at same)
          | inr (inl less) ↦ omega (arith, less, more)
          | inr (inr further) ↦ omega (arith, before, w.2, rises (t + 1) w.0 further w.1)
        ]
      ]

  none_after : (t k : ℕ) → t + 1 ≡ length passing → at t < k → k < n → q k ≡ true → ⊥
  none_after t k last after less is =
      let w = index_of k less is in
      elim (cases_order w.0 t) [
        | inl same ↦ omega (arith, after, w.2, ap at same)
        | inr (inl less') ↦ omega (arith, after, w.2, rises w.0 t less' (omega (arith, last)))
        | inr (inr more) ↦ omega (arith, more, last, w.1)
      ]

  none_before : (k : ℕ) → 0 < length passing → k < at 0 → q k ≡ true → ⊥
  none_before k some less is =
      let w = index_of k (omega (arith, less, below 0 some)) is in
      elim (cases_lt 0 w.0) [
        | inl more ↦ omega (arith, less, w.2, rises 0 w.0 more w.1)
        | inr first ↦ omega (arith, less, w.2, ap at {x = w.0} {y = 0} (omega (arith, first)))
      ]

  -- what follows a listed place: the next, or the first a round further on
  abbrev pub next_of : ℕ → ℕ
  next_of t = get_or (passing ++ (get_or passing 0 0 + n) ∷ []) (t + 1) 0

  next_inner : (t : ℕ) → t + 1 < length passing → next_of t ≡ at (t + 1)
  next_inner t inner = get_or_append_left passing ((at 0 + n) ∷ []) 0 (t + 1) inner

  pub next_last : (t : ℕ) → t + 1 ≡ length passing → next_of t ≡ at 0 + n
  next_last t last =
      get_or-append_right passing ((at 0 + n) ∷ []) (length passing) (t + 1) 0 refl (omega (arith, last))
      ∙ ap (λ k. get_or ((at 0 + n) ∷ []) k 0) {x = t + 1 - length passing} {y = 0} (omega (arith, last))

  -- it is the next that passes, and listed at the place after
  pub record IsNextOf (t : ℕ) : Type 0 where
    pub next : AreNext n q (get_or passing t 0) (next_of t)
    pub listed : get_or passing (place_after (length passing) t) 0 ≡ turn n (next_of t)

  pub next_is : (t : ℕ) → t < length passing → IsNextOf t
  next_is t less = elim (cases_lt (t + 1) (length passing)) [
    | inl inner ↦
        let is = next_inner t inner in
        let after = below (t + 1) inner in
        let low : turn n (next_of t) ≡ at (t + 1) = ap (turn n) is ∙ turn_low n (at (t + 1)) after in
        record {
          next = record {
            there = below t less;
            later = omega (arith, is, rises t (t + 1) (omega arith) inner);
            round = omega (arith, is, after);
            first = passes t less;
            last = ap q low ∙ passes (t + 1) inner;
            inner = λ k from to. false_from_ne_true (q (turn n k))
                (λ h. none_between t k inner from (omega (arith, to, is)) (ap q (sym (turn_low n k (omega (arith, to, is, after)))) ∙ h));
          };
          listed = ap at (cond-false (t + 1 == length passing) 0 (t + 1) (ne_eqb (t + 1) (length passing) (λ e. omega (arith, e, inner)))) ∙ sym low;
        }
    | inr past ↦
        let end : t + 1 ≡ length passing = omega (arith, past, less) in
        let some : 0 < length passing = omega (arith, less) in
        let is = next_last t end in
        let high : turn n (next_of t) ≡ at 0 = ap (turn n) is ∙ turn_high n (at 0 + n) (omega arith) ∙ omega arith in
        let first : at 0 ≤ at t = elim (cases_lt 0 t) [
          | inl more ↦ omega (arith, rises 0 t more less)
          | inr same ↦ omega (arith, ap at {x = t} {y = 0} (omega (arith, same)))
        ] in
        record {
          next = record {
            there = below t less;
            later = omega (arith, is, below t less);
            round = omega (arith, is, first);
            first = passes t less;
            last = ap q high ∙ passes 0 some;
            inner = λ k from to. false_from_ne_true (q (turn n k))
                (λ h. elim (cases_lt k n) [
                  | inl low ↦ none_after t k end from low (ap q (sym (turn_low n k low)) ∙ h)
                  | inr beyond ↦ none_before (k - n) some (omega (arith, to, is, beyond)) (ap q (sym (turn_high n k beyond)) ∙ h)
                ]);
          };
          listed = ap at (cond-true (t + 1 == length passing) 0 (t + 1) (eq-eqb (t + 1) (length passing) end)) ∙ sym high;
        }
  ]

  -- the next is one
  pub same_next : (i j k : ℕ) → AreNext n q i j → AreNext n q i k → j ≡ k
  same_next i j k a b = elim (cases_order j k) [
    | inl same ↦ same
    | inr (inl less) ↦ absurd (both_ways (q (turn n j)) (b.inner j a.later less) a.last)
    | inr (inr more) ↦ absurd (both_ways (q (turn n k)) (a.inner k b.later more) b.last)
  ]

  -- so two places of which the second is the next after the first are listed one after the other
  pub record IsListedNext (i j : ℕ) : Type 0 where
    pub place : ℕ
    pub there : place < length passing
    pub first : get_or passing place 0 ≡ i
    pub next : next_of place ≡ j
    pub listed : get_or passing (place_after (length passing) place) 0 ≡ turn n j

  pub listed_next : (i j : ℕ) → AreNext n q i j → IsListedNext i j
  listed_next i j is =
      let w = index_of i is.there is.first in
      let at_next = next_is w.0 w.1 in
      let next = subst (λ k. AreNext n q k (next_of w.0)) w.2 at_next.next in
      let same = same_next i (next_of w.0) j next is in
      record { place = w.0; there = w.1; first = w.2; next = same; listed = at_next.listed ∙ ap (turn n) same }

-- ---- the runs of a ring whose code changes

take_first : (xs : List ℕ) → 0 < length xs → take 1 xs ≡ get_or xs 0 0 ∷ []
take_first [] some = absurd (omega (arith, some))
take_first (x ∷ xs) some = refl

abbrev pub AreNextKept : List UnitEdge → ℕ → ℕ → Type 0
AreNextKept E i j = AreNext (length E) (does_change E) i j

module _ (E : List UnitEdge) (some : 0 < length (changes E)) where
  kept_round_are : kept_round E ≡ changes E ++ (get_or (changes E) 0 0 + length E) ∷ []
  unfolding kept_round kept_places
  kept_round_are =
      let kept : kept_places E ≡ changes E =
      cond-false (length (changes E) == 0) (extremes (beginnings E)) (changes E) (ne_eqb (length (changes E)) 0 (λ e. omega (arith, e, some))) in
      ap (λ (ks : List ℕ). ks ++ map (λ place. place + length E) (take 1 ks)) kept
      ∙ ap (λ (ks : List ℕ). changes E ++ map (λ place. place + length E) ks) (take_first (changes E) some)

  runs_count : length (runs_between (kept_round E)) ≡ length (changes E)
  runs_count =
      omega (
        arith,
        length-zip (kept_round E) (drop 1 (kept_round E)),
        length-drop 1 (kept_round E),
        ap length kept_round_are,
        length-append (changes E) ((get_or (changes E) 0 0 + length E) ∷ []),
      )

  run_at : (t : ℕ) (d : ℕ × ℕ) → t < length (changes E)
      → get_or (runs_between (kept_round E)) t d ≡ (get_or (changes E) t 0, next_of (length E) (does_change E) t)
  run_at t d less =
      let cs : List ℕ = changes E in
      let more : List ℕ = (get_or cs 0 0 + length E) ∷ [] in
      let many : length (kept_round E) ≡ length cs + 1 = ap length kept_round_are ∙ length-append cs more in
      let first : get_or (kept_round E) t 0 ≡ get_or cs t 0 = ap (λ (ks : List ℕ). get_or ks t 0) kept_round_are ∙ get_or_append_left cs more 0 t less in
      let second : get_or (drop 1 (kept_round E)) t 0 ≡ next_of (length E) (does_change E) t =
      get_or-drop 1 (kept_round E) t 0
      ∙ ap (λ (k : ℕ). get_or (kept_round E) k 0) {x = 1 + t} {y = t + 1} (omega arith)
      ∙ ap (λ (ks : List ℕ). get_or ks (t + 1) 0) kept_round_are in
      get_or_default (runs_between (kept_round E)) t d (0, 0) (omega (arith, less, runs_count))
      ∙ get_or-zip (kept_round E) (drop 1 (kept_round E)) t (0, 0) (omega (arith, less, many)) (omega (arith, less, many, length-drop 1 (kept_round E)))
      ∙ (λ x. (first x, second x))

  -- each run leads from a place where the code changes to the next
  pub runs_are_next : All (λ (run : ℕ × ℕ). AreNextKept E run.0 run.1) (runs_between (kept_round E))
  runs_are_next t d less =
      let less' : t < length (changes E) = omega (arith, less, runs_count) in
      let P : ℕ × ℕ → Type 0 = λ run. AreNextKept E run.0 run.1 in
      subst P (sym (run_at t d less')) (next_is (length E) (does_change E) t less').next

  -- and each such run is listed
  pub run_listed : (i j : ℕ) → AreNextKept E i j → Contains (runs_between (kept_round E)) (i, j)
  run_listed i j is =
      let at = listed_next (length E) (does_change E) i j is in
      (at.place, omega (arith, at.there, runs_count), run_at at.place (i, j) at.there ∙ (λ x. (at.first x, at.next x)))
