-- The walk round a stack of strips holds what lies at its rim, each once: whatever is summed over both gives the same.
use Rattle.std.proofs.Common.{◌≡◌, ℕ, ◌+◌, ◌-◌, ◌≤◌, Bool, false, cond, List, [], ◌∷◌, ◌++◌, refl, arith, Option, Some, None}
use Rattle.std.specs.List.{sum_by}
use Rattle.std.specs.Option.{option_map_or}
use Rattle.std.proofs.lemmas.List.Sums.{sum_by-cons, sum_by-append}
use Rattle.mesh_types.specs.declared.region.Strip.{Strip}
use Rattle.contour_walk.specs.Walk.{bottoms, tops, to_right_end, to_left_end, right_side, top_side, left_side, round}
use Rattle.contour_walk.proofs.Ranges.{over, over_outside, is_within, sum_right, sum_left}

-- each strip has a column, and lies on the one before
abbrev pub AreRows : List Strip → Type 0
AreRows [] = Unit {0}
AreRows (strip ∷ []) = strip.x0 ≤ strip.x1
AreRows (strip ∷ next ∷ rest) =
    (strip.x0 ≤ strip.x1) × (next.z ≡ strip.z + 1) × (strip.x0 ≤ next.x1) × (next.x0 ≤ strip.x1) × AreRows (next ∷ rest)

pub first_ordered : (strip : Strip) (rest : List Strip) → AreRows (strip ∷ rest) → strip.x0 ≤ strip.x1
first_ordered strip [] rows = rows
first_ordered strip (next ∷ rest) rows = rows.0

-- a strip, if there is one, has a column
abbrev pub covers : Option Strip → ℕ → Bool
covers strip x = option_map_or (λ (s : Strip). is_within s.x0 s.x1 x) strip false

abbrev pub head_of : List Strip → Option Strip
head_of [] = None
head_of (strip ∷ rest) = Some strip

-- the columns of a strip, summed
abbrev pub across : Strip → (ℕ → ℕ) → ℕ
across strip f = over f strip.x0 (strip.x1 + 1 - strip.x0)

-- what lies at the rim of a strip between two others: its bottom outside the one below, its top outside the one above, and its two ends
abbrev pub rim_sum : {X : Type 0} → (X → ℕ) → (ℕ → Strip → ℕ → X) → Option Strip → Strip → Option Strip → ℕ
rim_sum g edge below strip above =
    across strip (λ x. cond (covers below x) 0 (g (edge 3 strip x))) + across strip (λ x. cond (covers above x) 0 (g (edge 1 strip x)))
    + (g (edge 0 strip strip.x0) + g (edge 2 strip strip.x1))

abbrev pub rim_sums : {X : Type 0} → (X → ℕ) → (ℕ → Strip → ℕ → X) → Option Strip → List Strip → ℕ
rim_sums g edge below [] = 0
rim_sums g edge below (strip ∷ rest) = rim_sum g edge below strip (head_of rest) + rim_sums g edge (Some strip) rest

module _ {X : Type 0} (g : X → ℕ) (edge : ℕ → Strip → ℕ → X) where
  pub sum_bottoms : (strip : Strip) (first end : ℕ) → sum_by g (bottoms edge strip first end) ≡ over (λ x. g (edge 3 strip x)) first (end - first)
  sum_bottoms strip first end = sum_right g (edge 3 strip) first (end - first)

  pub sum_tops : (strip : Strip) (first end : ℕ) → sum_by g (tops edge strip first end) ≡ over (λ x. g (edge 1 strip x)) first (end - first)
  sum_tops strip first end = sum_left g (edge 1 strip) first (end - first)

  -- the three sides of a stack, summed
  abbrev pub sides_sum : List Strip → ℕ
  sides_sum strips = sum_by g (right_side edge strips) + sum_by g (top_side edge strips) + sum_by g (left_side edge strips)

  -- one strip more below
  pub sides_more : (strip next : Strip) (rest : List Strip)
      → sides_sum (strip ∷ next ∷ rest)
      ≡ g (edge 2 strip strip.x1) + sum_by g (to_right_end edge strip next) + sides_sum (next ∷ rest) + sum_by g (to_left_end edge strip next) + g (edge 0 strip strip.x0)
  sides_more strip next rest =
      omega (
        arith,
        sum_by-cons g (edge 2 strip strip.x1) (to_right_end edge strip next ++ right_side edge (next ∷ rest)),
        sum_by-append g (to_right_end edge strip next) (right_side edge (next ∷ rest)),
        sum_by-append g (left_side edge (next ∷ rest)) (to_left_end edge strip next ++ edge 0 strip strip.x0 ∷ []),
        sum_by-append g (to_left_end edge strip next) (edge 0 strip strip.x0 ∷ []),
        sum_by-cons g (edge 0 strip strip.x0) [],
      )

  pub sides_one : (strip : Strip)
      → sides_sum (strip ∷ []) ≡ g (edge 2 strip strip.x1) + across strip (λ x. g (edge 1 strip x)) + g (edge 0 strip strip.x0)
  sides_one strip =
      omega (arith, sum_by-cons g (edge 2 strip strip.x1) [], sum_by-cons g (edge 0 strip strip.x0) [], sum_tops strip strip.x0 (strip.x1 + 1))

  -- the sides of a stack and the bottom of its first strip outside the one below are all that lies at the rim
  pub sides_are_rims : (below : Option Strip) (strip : Strip) (rest : List Strip) → AreRows (strip ∷ rest)
      → sides_sum (strip ∷ rest) + across strip (λ x. cond (covers below x) 0 (g (edge 3 strip x))) ≡ rim_sums g edge below (strip ∷ rest)
  sides_are_rims below strip [] rows = omega (arith, sides_one strip)
  sides_are_rims below strip (next ∷ rest) rows =
      let ordered' : next.x0 ≤ next.x1 = first_ordered next rest rows.4 in
      omega (
        arith,
        sides_more strip next rest,
        sides_are_rims (Some strip) next rest rows.4,
        over_outside (λ x. g (edge 1 strip x)) strip.x0 strip.x1 next.x0 next.x1 rows.0 ordered' rows.2 rows.3,
        over_outside (λ x. g (edge 3 next x)) next.x0 next.x1 strip.x0 strip.x1 ordered' rows.0 rows.3 rows.2,
        sum_by-append g (tops edge strip (next.x1 + 1) (strip.x1 + 1)) (bottoms edge next (strip.x1 + 1) (next.x1 + 1)),
        sum_by-append g (tops edge strip strip.x0 next.x0) (bottoms edge next next.x0 strip.x0),
        sum_tops strip (next.x1 + 1) (strip.x1 + 1),
        sum_bottoms next (strip.x1 + 1) (next.x1 + 1),
        sum_tops strip strip.x0 next.x0,
        sum_bottoms next next.x0 strip.x0,
      )

  -- so the walk round the stack holds what lies at its rim
  pub round_is_rims : (strips : List Strip) → AreRows strips → sum_by g (round edge strips) ≡ rim_sums g edge None strips
  round_is_rims [] rows = refl
  round_is_rims (strip ∷ rest) rows =
      omega (
        arith,
        sides_are_rims None strip rest rows,
        sum_bottoms strip strip.x0 (strip.x1 + 1),
        sum_by-append g (bottoms edge strip strip.x0 (strip.x1 + 1)) (right_side edge (strip ∷ rest) ++ (top_side edge (strip ∷ rest) ++ left_side edge (strip ∷ rest))),
        sum_by-append g (right_side edge (strip ∷ rest)) (top_side edge (strip ∷ rest) ++ left_side edge (strip ∷ rest)),
        sum_by-append g (top_side edge (strip ∷ rest)) (left_side edge (strip ∷ rest)),
      )
