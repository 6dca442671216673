-- No corner begins two edges of the walk round a stack of strips.
use Rattle.std.proofs.Common.{◌≡◌, ℕ, ◌+◌, ◌-◌, ◌<◌, ◌≤◌, ◌⊎◌, Bool, true, false, cond, List, [], ◌∷◌, ◌++◌, ap, ◌∙◌, refl, arith, zero, suc, inl, inr}
use Rattle.std.specs.Prelude.{◌==◌, ◌&&◌}
use Rattle.std.specs.List.{sum_by}
use Rattle.std.proofs.lemmas.Bool.{cases_lt, ne_eqb, and_right}
use Rattle.std.proofs.lemmas.List.Sums.{sum_by-append}
use Rattle.nav_ground.proofs.Directions.{both_equal}
use Rattle.mesh_types.specs.declared.region.Strip.{Strip}
use Rattle.contour_walk.specs.Walk.{bottoms, tops, right_side, top_side, left_side, round}
use Rattle.contour_walk.proofs.Ranges.{over, over_more, over_none}
use Rattle.contour_walk.proofs.Sums.{AreRows, first_ordered, sides_sum, sides_more, sides_one, sum_tops, sum_bottoms}

-- so many are at most one, and if there is one then the number lies in a range
abbrev pub IsOnce : ℕ → ℕ → ℕ → ℕ → Type 0
IsOnce n first end v = (n ≡ 0) ⊎ ((n ≡ 1) × (first ≤ v) × (v < end))

-- one where a corner is the one asked for
abbrev pub spot : ℕ → ℕ → ℕ → ℕ → ℕ
spot vx vz x z = cond (x == vx && z == vz) 1 0

pub spot_once : (vx vz x z : ℕ) → IsOnce (spot vx vz x z) x (x + 1) vx
spot_once vx vz x z = by_case (x == vx && z == vz) refl
  where
    by_case : (b : Bool) → (x == vx && z == vz) ≡ b → IsOnce (cond b 1 0) x (x + 1) vx
    by_case false is = inl refl
    by_case true is = let e = both_equal x vx z vz is in inr (refl, omega (arith, e.0), omega (arith, e.0))

pub spot_none : (vx vz x z : ℕ) → (z ≡ vz → ⊥) → spot vx vz x z ≡ 0
spot_none vx vz x z apart = ap (λ b. cond (x == vx && b) 1 0) (ne_eqb z vz apart) ∙ ap (λ b. cond b 1 0) (and_right (x == vx) false refl)

-- a range of columns, each moved by so many, meets a number once at most
pub over_once : (f : ℕ → ℕ) (v shift first count : ℕ) → ((x : ℕ) → IsOnce (f x) (x + shift) (x + shift + 1) v)
    → IsOnce (over f first count) (first + shift) (first + count + shift) v
over_once f v shift first zero once = inl refl
over_once f v shift first (suc count) once =
    joined (over f first (suc count)) (f first) (over f (first + 1) count) (over_more f first count) (once first) (over_once f v shift (first + 1) count once)
  where
    joined : (whole one more : ℕ) → whole ≡ one + more → IsOnce one (first + shift) (first + shift + 1) v
        → IsOnce more (first + 1 + shift) (first + 1 + count + shift) v → IsOnce whole (first + shift) (first + suc count + shift) v
    joined whole one more is (inl none) (inl none') = inl (omega (arith, is, none, none'))
    joined whole one more is (inl none) (inr some) = inr (omega (arith, is, none, some.0), omega (arith, some.1), omega (arith, some.2))
    joined whole one more is (inr some) (inl none) = inr (omega (arith, is, none, some.0), omega (arith, some.1), omega (arith, some.2))
    joined whole one more is (inr some) (inr some') = absurd (omega (arith, some.2, some'.1))

-- at the height between two strips that overlap, what begins at the right and at the left does not meet
at_right : (a b c h h' v : ℕ) → IsOnce a (h' + 2) (h + 2) v → IsOnce b (h + 1) (h' + 1) v → IsOnce c (h' + 1) (h' + 2) v
    → (a + b + c ≡ 0) ⊎ ((a + b + c ≡ 1) × ((h < v) ⊎ (h' < v)))
at_right a b c h h' v (inl a0) (inl b0) (inl c0) = inl (omega (arith, a0, b0, c0))
at_right a b c h h' v (inl a0) (inl b0) (inr c1) = inr (omega (arith, a0, b0, c1.0), inr (omega (arith, c1.1)))
at_right a b c h h' v (inl a0) (inr b1) (inl c0) = inr (omega (arith, a0, b1.0, c0), inl (omega (arith, b1.1)))
at_right a b c h h' v (inl a0) (inr b1) (inr c1) = absurd (omega (arith, b1.2, c1.1))
at_right a b c h h' v (inr a1) (inl b0) (inl c0) = inr (omega (arith, a1.0, b0, c0), inr (omega (arith, a1.1)))
at_right a b c h h' v (inr a1) (inl b0) (inr c1) = absurd (omega (arith, a1.1, c1.2))
at_right a b c h h' v (inr a1) (inr b1) c1 = absurd (omega (arith, a1.1, b1.2))

at_left : (a b c l l' v : ℕ) → IsOnce a (l + 1) (l' + 1) v → IsOnce b l' l v → IsOnce c l (l + 1) v
    → (a + b + c ≡ 0) ⊎ ((a + b + c ≡ 1) × ((v ≤ l) ⊎ (v ≤ l')))
at_left a b c l l' v (inl a0) (inl b0) (inl c0) = inl (omega (arith, a0, b0, c0))
at_left a b c l l' v (inl a0) (inl b0) (inr c1) = inr (omega (arith, a0, b0, c1.0), inl (omega (arith, c1.2)))
at_left a b c l l' v (inl a0) (inr b1) (inl c0) = inr (omega (arith, a0, b1.0, c0), inl (omega (arith, b1.2)))
at_left a b c l l' v (inl a0) (inr b1) (inr c1) = absurd (omega (arith, b1.2, c1.1))
at_left a b c l l' v (inr a1) (inl b0) (inl c0) = inr (omega (arith, a1.0, b0, c0), inr (omega (arith, a1.2)))
at_left a b c l l' v (inr a1) (inl b0) (inr c1) = absurd (omega (arith, a1.1, c1.2))
at_left a b c l l' v (inr a1) (inr b1) c1 = absurd (omega (arith, a1.2, b1.2, b1.1, a1.1))

-- how often the edges of a stack's sides begin at a corner: never below its first strip, at that strip's height only where its right end begins,
-- and never twice
pub record IsBegunOnce (vx vz : ℕ) (strip : Strip) (n : ℕ) : Type 0 where
  pub below : vz < strip.z → n ≡ 0
  pub level : vz ≡ strip.z → IsOnce n (strip.x1 + 1) (strip.x1 + 2) vx
  pub most : n ≤ 1

module _
    {X : Type 0} (edge : ℕ → Strip → ℕ → X) (g : X → ℕ) (vx vz : ℕ)
    (left : (strip : Strip) (x : ℕ) → g (edge 0 strip x) ≡ spot vx vz x (strip.z + 1))
    (top : (strip : Strip) (x : ℕ) → g (edge 1 strip x) ≡ spot vx vz (x + 1) (strip.z + 1))
    (right : (strip : Strip) (x : ℕ) → g (edge 2 strip x) ≡ spot vx vz (x + 1) strip.z)
    (bottom : (strip : Strip) (x : ℕ) → g (edge 3 strip x) ≡ spot vx vz x strip.z) where
  once_is : (n m first end : ℕ) → n ≡ m → IsOnce m first end vx → IsOnce n first end vx
  once_is n m first end is (inl none) = inl (is ∙ none)
  once_is n m first end is (inr some) = inr (is ∙ some.0, some.1, some.2)

  tops_none : (strip : Strip) (first end : ℕ) → (strip.z + 1 ≡ vz → ⊥) → sum_by g (tops edge strip first end) ≡ 0
  tops_none strip first end apart =
      sum_tops g edge strip first end
      ∙ over_none (λ x. g (edge 1 strip x)) first (end - first) (λ x least below. top strip x ∙ spot_none vx vz (x + 1) (strip.z + 1) apart)

  tops_once : (strip : Strip) (first end : ℕ) → IsOnce (sum_by g (tops edge strip first end)) (first + 1) (first + (end - first) + 1) vx
  tops_once strip first end =
      once_is _ _ (first + 1) (first + (end - first) + 1) (sum_tops g edge strip first end)
      (over_once (λ x. g (edge 1 strip x)) vx 1 first (end - first)
      (λ x. once_is _ _ (x + 1) (x + 1 + 1) (top strip x) (spot_once vx vz (x + 1) (strip.z + 1))))

  bottoms_none : (strip : Strip) (first end : ℕ) → (strip.z ≡ vz → ⊥) → sum_by g (bottoms edge strip first end) ≡ 0
  bottoms_none strip first end apart =
      sum_bottoms g edge strip first end
      ∙ over_none (λ x. g (edge 3 strip x)) first (end - first) (λ x least below. bottom strip x ∙ spot_none vx vz x strip.z apart)

  moved : (n first end first' end' : ℕ) → first ≡ first' → end ≡ end' → IsOnce n first end vx → IsOnce n first' end' vx
  moved n first end first' end' same same' (inl none) = inl none
  moved n first end first' end' same same' (inr some) = inr (some.0, omega (arith, some.1, same), omega (arith, some.2, same'))

  bottoms_once : (strip : Strip) (first end : ℕ) → IsOnce (sum_by g (bottoms edge strip first end)) first (first + (end - first)) vx
  bottoms_once strip first end =
      once_is _ _ first (first + (end - first)) (sum_bottoms g edge strip first end)
      (moved _ (first + 0) (first + (end - first) + 0) first (first + (end - first)) (omega arith) (omega arith)
      (over_once (λ x. g (edge 3 strip x)) vx 0 first (end - first)
      (λ x. moved _ x (x + 1) (x + 0) (x + 0 + 1) (omega arith) (omega arith) (once_is _ _ x (x + 1) (bottom strip x) (spot_once vx vz x strip.z)))))

  right_none : (strip : Strip) → (strip.z ≡ vz → ⊥) → g (edge 2 strip strip.x1) ≡ 0
  right_none strip apart = right strip strip.x1 ∙ spot_none vx vz (strip.x1 + 1) strip.z apart

  right_once : (strip : Strip) → IsOnce (g (edge 2 strip strip.x1)) (strip.x1 + 1) (strip.x1 + 2) vx
  right_once strip =
      moved _ (strip.x1 + 1) (strip.x1 + 1 + 1) (strip.x1 + 1) (strip.x1 + 2) refl (omega arith)
      (once_is _ _ (strip.x1 + 1) (strip.x1 + 1 + 1) (right strip strip.x1) (spot_once vx vz (strip.x1 + 1) strip.z))

  left_none : (strip : Strip) → (strip.z + 1 ≡ vz → ⊥) → g (edge 0 strip strip.x0) ≡ 0
  left_none strip apart = left strip strip.x0 ∙ spot_none vx vz strip.x0 (strip.z + 1) apart

  left_once : (strip : Strip) → IsOnce (g (edge 0 strip strip.x0)) strip.x0 (strip.x0 + 1) vx
  left_once strip = once_is _ _ strip.x0 (strip.x0 + 1) (left strip strip.x0) (spot_once vx vz strip.x0 (strip.z + 1))

  -- the two ends of the top of a stack do not meet
  top_apart : (a b l h : ℕ) → l ≤ h → IsOnce a (l + 1) (h + 2) vx → IsOnce b l (l + 1) vx → a + b ≤ 1
  top_apart a b l h ordered (inl none) (inl none') = omega (arith, none, none')
  top_apart a b l h ordered (inl none) (inr some) = omega (arith, none, some.0)
  top_apart a b l h ordered (inr some) (inl none) = omega (arith, none, some.0)
  top_apart a b l h ordered (inr some) (inr some') = absurd (omega (arith, some.1, some'.2))

  last_begun : (strip : Strip) → strip.x0 ≤ strip.x1 → IsBegunOnce vx vz strip (sides_sum g edge (strip ∷ []))
  last_begun strip ordered =
      record {
        below = λ less. omega (arith, is, right_none strip (λ e. omega (arith, e, less)), tops_none strip strip.x0 (strip.x1 + 1) (λ e. omega (arith, e, less)), left_none strip (λ e. omega (arith, e, less)));
        level = λ same. once_is _ (g (edge 2 strip strip.x1)) (strip.x1 + 1) (strip.x1 + 2)
            (omega (arith, is, tops_none strip strip.x0 (strip.x1 + 1) (λ e. omega (arith, e, same)), left_none strip (λ e. omega (arith, e, same)))) (right_once strip);
        most = elim (cases_lt strip.z vz) [
          | inl above ↦ omega (
            arith,
            is,
            right_none strip (λ e. omega (arith, e, above)),
            top_apart (sum_by g (tops edge strip strip.x0 (strip.x1 + 1))) (g (edge 0 strip strip.x0)) strip.x0 strip.x1 ordered
                (moved _ (strip.x0 + 1) (strip.x0 + (strip.x1 + 1 - strip.x0) + 1) (strip.x0 + 1) (strip.x1 + 2) refl (omega (arith, ordered)) (tops_once strip strip.x0 (strip.x1 + 1)))
                (left_once strip),
          )
          | inr under ↦ omega (
            arith,
            is,
            at_most (right_once strip),
            tops_none strip strip.x0 (strip.x1 + 1) (λ e. omega (arith, e, under)),
            left_none strip (λ e. omega (arith, e, under)),
          )
        ];
      }
    where
      is : sides_sum g edge (strip ∷ []) ≡ g (edge 2 strip strip.x1) + sum_by g (tops edge strip strip.x0 (strip.x1 + 1)) + g (edge 0 strip strip.x0)
      is = omega (arith, sides_one g edge strip, sum_tops g edge strip strip.x0 (strip.x1 + 1))

      at_most : {n first end : ℕ} → IsOnce n first end vx → n ≤ 1
      at_most (inl none) = omega (arith, none)
      at_most (inr some) = omega (arith, some.0)

  narrowed : (n first end first' end' : ℕ) → (first ≤ vx → vx < end → (first' ≤ vx) × (vx < end')) → IsOnce n first end vx → IsOnce n first' end' vx
  narrowed n first end first' end' inside (inl none) = inl none
  narrowed n first end first' end' inside (inr some) = let i = inside some.1 some.2 in inr (some.0, i.0, i.1)

  -- at the height between two strips
  between_begun : (strip next : Strip) (n : ℕ) → strip.x0 ≤ strip.x1 → next.x0 ≤ next.x1 → strip.x0 ≤ next.x1 → next.x0 ≤ strip.x1
      → IsOnce n (next.x1 + 1) (next.x1 + 2) vx
      → sum_by g (tops edge strip (next.x1 + 1) (strip.x1 + 1)) + sum_by g (bottoms edge next (strip.x1 + 1) (next.x1 + 1)) + n
      + (sum_by g (tops edge strip strip.x0 next.x0) + sum_by g (bottoms edge next next.x0 strip.x0) + g (edge 0 strip strip.x0)) ≤ 1
  between_begun strip next n ordered ordered' lower upper at =
      let rights = at_right (sum_by g (tops edge strip (next.x1 + 1) (strip.x1 + 1))) (sum_by g (bottoms edge next (strip.x1 + 1) (next.x1 + 1))) n strip.x1 next.x1 vx
      (narrowed _ (next.x1 + 1 + 1) (next.x1 + 1 + (strip.x1 + 1 - (next.x1 + 1)) + 1) (next.x1 + 2) (strip.x1 + 2)
      (λ a b. (omega (arith, a), omega (arith, a, b))) (tops_once strip (next.x1 + 1) (strip.x1 + 1)))
      (narrowed _ (strip.x1 + 1) (strip.x1 + 1 + (next.x1 + 1 - (strip.x1 + 1))) (strip.x1 + 1) (next.x1 + 1)
      (λ a b. (a, omega (arith, a, b))) (bottoms_once next (strip.x1 + 1) (next.x1 + 1)))
      at in
      let lefts = at_left (sum_by g (tops edge strip strip.x0 next.x0)) (sum_by g (bottoms edge next next.x0 strip.x0)) (g (edge 0 strip strip.x0)) strip.x0 next.x0 vx
      (narrowed _ (strip.x0 + 1) (strip.x0 + (next.x0 - strip.x0) + 1) (strip.x0 + 1) (next.x0 + 1)
      (λ a b. (a, omega (arith, a, b))) (tops_once strip strip.x0 next.x0))
      (narrowed _ next.x0 (next.x0 + (strip.x0 - next.x0)) next.x0 strip.x0
      (λ a b. (a, omega (arith, a, b))) (bottoms_once next next.x0 strip.x0))
      (left_once strip) in
      apart _ _ rights lefts
    where
      apart : (r l : ℕ) → (r ≡ 0) ⊎ ((r ≡ 1) × ((strip.x1 < vx) ⊎ (next.x1 < vx))) → (l ≡ 0) ⊎ ((l ≡ 1) × ((vx ≤ strip.x0) ⊎ (vx ≤ next.x0))) → r + l ≤ 1
      apart r l (inl r0) (inl l0) = omega (arith, r0, l0)
      apart r l (inl r0) (inr l1) = omega (arith, r0, l1.0)
      apart r l (inr r1) (inl l0) = omega (arith, r1.0, l0)
      apart r l (inr (r1, inl h)) (inr (l1, inl v)) = absurd (omega (arith, h, v, ordered))
      apart r l (inr (r1, inl h)) (inr (l1, inr v)) = absurd (omega (arith, h, v, upper))
      apart r l (inr (r1, inr h)) (inr (l1, inl v)) = absurd (omega (arith, h, v, lower))
      apart r l (inr (r1, inr h)) (inr (l1, inr v)) = absurd (omega (arith, h, v, ordered'))

  more_begun : (strip next : Strip) (rest : List Strip) → AreRows (strip ∷ next ∷ rest) → next.x0 ≤ next.x1
      → IsBegunOnce vx vz next (sides_sum g edge (next ∷ rest)) → IsBegunOnce vx vz strip (sides_sum g edge (strip ∷ next ∷ rest))
  more_begun strip next rest rows ordered' begun =
      let e2 = g (edge 2 strip strip.x1) in
      let a = sum_by g (tops edge strip (next.x1 + 1) (strip.x1 + 1)) in
      let b = sum_by g (bottoms edge next (strip.x1 + 1) (next.x1 + 1)) in
      let n = sides_sum g edge (next ∷ rest) in
      let c = sum_by g (tops edge strip strip.x0 next.x0) in
      let d = sum_by g (bottoms edge next next.x0 strip.x0) in
      let e0 = g (edge 0 strip strip.x0) in
      let is : sides_sum g edge (strip ∷ next ∷ rest) ≡ e2 + (a + b + n + (c + d + e0)) =
      omega (
        arith,
        sides_more g edge strip next rest,
        sum_by-append g (tops edge strip (next.x1 + 1) (strip.x1 + 1)) (bottoms edge next (strip.x1 + 1) (next.x1 + 1)),
        sum_by-append g (tops edge strip strip.x0 next.x0) (bottoms edge next next.x0 strip.x0),
      ) in
      let others : (strip.z + 1 ≡ vz → ⊥) → a + b + (c + d + e0) ≡ 0 = λ apart.
      let apart' : next.z ≡ vz → ⊥ = λ e. apart (omega (arith, e, rows.1)) in
      omega (
        arith,
        tops_none strip (next.x1 + 1) (strip.x1 + 1) apart,
        bottoms_none next (strip.x1 + 1) (next.x1 + 1) apart',
        tops_none strip strip.x0 next.x0 apart,
        bottoms_none next next.x0 strip.x0 apart',
        left_none strip apart,
      ) in
      let under : vz ≤ strip.z → a + b + n + (c + d + e0) ≡ 0 = λ low.
      omega (arith, others (λ e. omega (arith, e, low)), begun.below (omega (arith, low, rows.1))) in
      record {
        below = λ less. omega (arith, is, under (omega (arith, less)), right_none strip (λ e. omega (arith, e, less)));
        level = λ same. once_is _ e2 (strip.x1 + 1) (strip.x1 + 2) (omega (arith, is, under (omega (arith, same)))) (right_once strip);
        most = elim (cases_lt strip.z vz) [
          | inl above ↦ elim (cases_lt (strip.z + 1) vz) [
            | inl higher ↦ omega (arith, is, right_none strip (λ e. omega (arith, e, above)), others (λ e. omega (arith, e, higher)), begun.most)
            | inr at ↦ omega (
              arith,
              is,
              right_none strip (λ e. omega (arith, e, above)),
              between_begun strip next n rows.0 ordered' rows.2 rows.3 (begun.level (omega (arith, above, at, rows.1))),
            )
          ]
          | inr low ↦ omega (arith, is, under low, at_most (right_once strip))
        ];
      }
    where
      at_most : {n first end : ℕ} → IsOnce n first end vx → n ≤ 1
      at_most (inl none) = omega (arith, none)
      at_most (inr some) = omega (arith, some.0)

  sides_begun : (strip : Strip) (rest : List Strip) → AreRows (strip ∷ rest) → IsBegunOnce vx vz strip (sides_sum g edge (strip ∷ rest))
  sides_begun strip [] rows = last_begun strip rows
  sides_begun strip (next ∷ rest) rows = more_begun strip next rest rows (first_ordered next rest rows.4) (sides_begun next rest rows.4)

  -- so no corner begins two edges of the walk round
  pub round_begun : (strips : List Strip) → AreRows strips → sum_by g (round edge strips) ≤ 1
  round_begun [] rows = omega arith
  round_begun (strip ∷ rest) rows =
      let below = sum_by g (bottoms edge strip strip.x0 (strip.x1 + 1)) in
      let n = sides_sum g edge (strip ∷ rest) in
      let is : sum_by g (round edge (strip ∷ rest)) ≡ below + n =
      omega (
        arith,
        sum_by-append g (bottoms edge strip strip.x0 (strip.x1 + 1)) (right_side edge (strip ∷ rest) ++ (top_side edge (strip ∷ rest) ++ left_side edge (strip ∷ rest))),
        sum_by-append g (right_side edge (strip ∷ rest)) (top_side edge (strip ∷ rest) ++ left_side edge (strip ∷ rest)),
        sum_by-append g (top_side edge (strip ∷ rest)) (left_side edge (strip ∷ rest)),
      ) in
      let begun = sides_begun strip rest rows in
      let ordered = first_ordered strip rest rows in
      elim (cases_lt vz strip.z) [
        | inl under ↦ omega (arith, is, begun.below under, bottoms_none strip strip.x0 (strip.x1 + 1) (λ e. omega (arith, e, under)))
        | inr not_under ↦ elim (cases_lt strip.z vz) [
          | inl above ↦ omega (arith, is, begun.most, bottoms_none strip strip.x0 (strip.x1 + 1) (λ e. omega (arith, e, above)))
          | inr at ↦ omega (
            arith,
            is,
            apart below n (bottoms_once strip strip.x0 (strip.x1 + 1)) (begun.level (omega (arith, not_under, at))) ordered,
          )
        ]
      ]
    where
      apart : (a b : ℕ) → IsOnce a strip.x0 (strip.x0 + (strip.x1 + 1 - strip.x0)) vx → IsOnce b (strip.x1 + 1) (strip.x1 + 2) vx → strip.x0 ≤ strip.x1 → a + b ≤ 1
      apart a b (inl a0) (inl b0) ordered = omega (arith, a0, b0)
      apart a b (inl a0) (inr b1) ordered = omega (arith, a0, b1.0)
      apart a b (inr a1) (inl b0) ordered = omega (arith, a1.0, b0)
      apart a b (inr a1) (inr b1) ordered = absurd (omega (arith, a1.2, b1.1, ordered))
