-- Rings of unit steps: each corner has another in its column, and another in its row.
use Rattle.std.proofs.Common.{◌≡◌, ℕ, zero, suc, ◌+◌, ◌-◌, ◌*◌, ◌<◌, ◌≤◌, ℤ, ◌-ℤ◌, List, length, sym, subst, ap, ◌∙◌, ◌⊎◌, inl, inr, arith}
use Rattle.std.specs.Prelude.{unsigned_abs, ◌<ℤ◌, ◌≤ℤ◌}
use Rattle.std.proofs.lemmas.Int.{ints, by_lt_z}
use Rattle.std.proofs.lemmas.Nat.{mul-le}
use Rattle.std.proofs.lemmas.Bool.{cases_lt}
use Rattle.nav_base.specs.declared.point.Point.{Point}
use Rattle.nav_base.specs.Point.{from_to}
use Rattle.mesh_types.specs.declared.region.UnitEdge.{UnitEdge}
use Rattle.contour_mesh.proofs.RingWalks.{edge_at, follows, one_place, some_edge, turn, turn_high, turn_inside, turn_low, turn_next}
use Rattle.contour_mesh.proofs.SharedCorners.{corner_at}
use Rattle.outline_laws.specs.UnitRings.{IsUnitRing}
use Rattle.outline_laws.proofs.HalfCells.{square_is}

-- ---- two numbers of which at each step one changes by one

-- how far two pairs of numbers lie apart, along one and then along the other
abbrev pub AreBeside : ℤ → ℤ → ℤ → ℤ → Type 0
AreBeside x z x' z' = unsigned_abs (x' -ℤ x) + unsigned_abs (z' -ℤ z) ≡ 1

order_z : (m n : ℤ) → (m ≡ n) ⊎ (m <ℤ n) ⊎ (n <ℤ m)
order_z m n = by_lt_z m n (λ less. inr (inl less)) (λ most. by_lt_z n m (λ more. inr (inr more)) (λ least. inl (level m n most least)))
  where
    level : (m n : ℤ) → n ≤ℤ m → m ≤ℤ n → m ≡ n
    level m n most least = omega (arith, ints)

module _ (u v : ℕ → ℤ) where
  -- the first number is met again, or stays above what it was, or below
  abbrev Meets : ℕ → Type 0
  Meets t = (s : ℕ) × (0 < s) × (s ≤ t) × (u s ≡ u 0)

  abbrev Sees : ℕ → Type 0
  Sees t = Meets t ⊎ ((u 0 <ℤ u 1) × (u 0 <ℤ u t)) ⊎ ((u 1 <ℤ u 0) × (u t <ℤ u 0))

  seen : (n : ℕ) → ((t : ℕ) → t < n → AreBeside (u t) (v t) (u (t + 1)) (v (t + 1))) → (t : ℕ) → t + 1 ≤ n → Sees (t + 1)
  seen n step zero less = elim (order_z (u 0) (u 1)) [
    | inl same ↦ inl (1, omega arith, omega arith, sym same)
    | inr (inl above) ↦ inr (inl (above, above))
    | inr (inr below) ↦ inr (inr (below, below))
  ]
  seen n step (suc t) less =
      let one = step (t + 1) (omega (arith, less)) in
      let next : t + 1 + 1 ≡ suc t + 1 = omega arith in
      subst Sees next (elim (seen n step t (omega (arith, less))) [
        | inl (s, later, early, same) ↦ inl (s, later, omega (arith, early), same)
        | inr (inl (first, above)) ↦ elim (order_z (u 0) (u (t + 1 + 1))) [
          | inl same ↦ inl (t + 1 + 1, omega arith, omega arith, sym same)
          | inr (inl above') ↦ inr (inl (first, above'))
          | inr (inr below') ↦ absurd (not_over (u 0) (u (t + 1)) (v (t + 1)) (u (t + 1 + 1)) (v (t + 1 + 1)) one above below')
        ]
        | inr (inr (first, below)) ↦ elim (order_z (u 0) (u (t + 1 + 1))) [
          | inl same ↦ inl (t + 1 + 1, omega arith, omega arith, sym same)
          | inr (inl above') ↦ absurd (not_under (u 0) (u (t + 1)) (v (t + 1)) (u (t + 1 + 1)) (v (t + 1 + 1)) one below above')
          | inr (inr below') ↦ inr (inr (first, below'))
        ]
      ])
    where
      not_over : (a x z x' z' : ℤ) → AreBeside x z x' z' → a <ℤ x → x' <ℤ a → ⊥
      not_over a x z x' z' one above below = omega (arith, ints)

      not_under : (a x z x' z' : ℤ) → AreBeside x z x' z' → x <ℤ a → a <ℤ x' → ⊥
      not_under a x z x' z' one below above = omega (arith, ints)

  -- (i) a round that comes back to where it began meets its first number on the way; or else its first step and its last are one way and back
  abbrev pub MeetsOrTurns : ℕ → Type 0
  MeetsOrTurns n = ((s : ℕ) × (0 < s) × (s < n) × (u s ≡ u 0)) ⊎ ((u 1 ≡ u (n - 1)) × (v 1 ≡ v (n - 1)))

  pub met_again : (n : ℕ) → 2 ≤ n → ((t : ℕ) → t < n → AreBeside (u t) (v t) (u (t + 1)) (v (t + 1))) → u n ≡ u 0 → v n ≡ v 0 → MeetsOrTurns n
  met_again n two step back back' =
      let t : ℕ = n - 2 in
      let end : t + 1 ≡ n - 1 = omega (arith, two) in
      let last : n - 1 + 1 ≡ n = omega (arith, two) in
      let first = step 0 (omega (arith, two)) in
      let final : AreBeside (u (n - 1)) (v (n - 1)) (u n) (v n) = subst (λ k. AreBeside (u (n - 1)) (v (n - 1)) (u k) (v k)) last (step (n - 1) (omega (arith, two))) in
      let sees : Sees (n - 1) = subst Sees end (seen n step t (omega (arith, two))) in
      elim sees [
        | inl (s, later, early, same) ↦ inl (s, later, omega (arith, early, two), same)
        | inr (inl (up, above)) ↦ inr (up_alike (u 0) (v 0) (u 1) (v 1) (u (n - 1)) (v (n - 1)) (u n) (v n) first final back back' up above)
        | inr (inr (down, below)) ↦ inr (down_alike (u 0) (v 0) (u 1) (v 1) (u (n - 1)) (v (n - 1)) (u n) (v n) first final back back' down below)
      ]
    where
      up_alike : (x z x' z' x'' z'' x0 z0 : ℤ) → AreBeside x z x' z' → AreBeside x'' z'' x0 z0 → x0 ≡ x → z0 ≡ z → x <ℤ x' → x <ℤ x'' → (x' ≡ x'') × (z' ≡ z'')
      up_alike x z x' z' x'' z'' x0 z0 one other back back' up above = (omega (arith, ints), omega (arith, ints))

      down_alike : (x z x' z' x'' z'' x0 z0 : ℤ) → AreBeside x z x' z' → AreBeside x'' z'' x0 z0 → x0 ≡ x → z0 ≡ z → x' <ℤ x → x'' <ℤ x → (x' ≡ x'') × (z' ≡ z'')
      down_alike x z x' z' x'' z'' x0 z0 one other back back' down below = (omega (arith, ints), omega (arith, ints))

-- ---- rings

-- squares that make one
beside : (m n : ℕ) → m * m + n * n ≡ 1 → m + n ≡ 1
beside zero zero is = absurd (omega (arith, is))
beside zero (suc zero) is = omega arith
beside (suc zero) zero is = omega arith
beside (suc m) (suc n) is = absurd (omega (arith, mul-le 1 1 (suc m) (suc m) (omega arith) (omega arith), mul-le 1 1 (suc n) (suc n) (omega arith) (omega arith), is))
beside zero (suc (suc n)) is = absurd (omega (arith, mul-le 2 2 (suc (suc n)) (suc (suc n)) (omega arith) (omega arith), is))
beside (suc (suc m)) zero is = absurd (omega (arith, mul-le 2 2 (suc (suc m)) (suc (suc m)) (omega arith) (omega arith), is))

module _ (E : List UnitEdge) (is : IsUnitRing E) (p : ℕ) (there : p < length E) where
  abbrev n : ℕ
  n = length E

  -- the corners of the round that begins at a place
  stepped : (t : ℕ) → t < length E
      → AreBeside (corner_at E (p + t)).x (corner_at E (p + t)).z (corner_at E (p + (t + 1))).x (corner_at E (p + (t + 1))).z
  stepped t less =
      let k : ℕ = turn n (p + t) in
      let k-in : k < n = turn_inside n (p + t) (omega (arith, less, there)) in
      let one = is.steps k some_edge k-in in
      let next : (edge_at E k).to ≡ corner_at E (p + (t + 1)) =
      follows E is.ring.closed k k-in
      ∙ ap (λ j. (edge_at E j).from) (turn_next n (p + t) (omega (arith, less, there)) ∙ ap (turn n) {x = p + t + 1} {y = p + (t + 1)} (omega arith)) in
      subst (λ (q : Point). AreBeside (corner_at E (p + t)).x (corner_at E (p + t)).z q.x q.z) next
      (beside (unsigned_abs ((edge_at E k).to.x -ℤ (edge_at E k).from.x)) (unsigned_abs ((edge_at E k).to.z -ℤ (edge_at E k).from.z))
      (sym (square_is (from_to (edge_at E k).from (edge_at E k).to)) ∙ one.one))

  again : corner_at E (p + length E) ≡ corner_at E (p + 0)
  again = ap (λ k. (edge_at E k).from)
      (turn_high n (p + n) (omega arith) ∙ omega (arith, there) ∙ sym (turn_low n (p + 0) (omega (arith, there))))

  here : corner_at E (p + 0) ≡ (edge_at E p).from
  here = ap (λ k. (edge_at E k).from) (turn_low n (p + 0) (omega (arith, there)) ∙ omega arith)

  -- places less than a round apart differ
  other_place : (i j : ℕ) → i < j → j < i + length E → j < length E + length E → turn (length E) i ≡ turn (length E) j → ⊥
  other_place i j less round within same = elim (cases_lt i n) [
    | inl low ↦ elim (cases_lt j n) [
      | inl low' ↦ omega (arith, less, same, turn_low n i low, turn_low n j low')
      | inr high' ↦ omega (arith, round, high', same, turn_low n i low, turn_high n j high')
    ]
    | inr high ↦ omega (arith, less, high, same, turn_high n i high, turn_high n j (omega (arith, high, less)))
  ]

  -- the first corner behind it is not the last before it
  no_turn : corner_at E (p + 1) ≡ corner_at E (p + (length E - 1)) → ⊥
  no_turn same =
      let wide : p + (n - 1) < n + n = omega (arith, there) in
      other_place (p + 1) (p + (n - 1)) (omega (arith, is.enough)) (omega (arith, is.enough)) wide
      (one_place E is.ring (turn n (p + 1)) (turn n (p + (n - 1))) (turn_inside n (p + 1) (omega (arith, there, is.enough))) (turn_inside n (p + (n - 1)) wide) same)

  other_here : (s : ℕ) → 0 < s → s < length E → turn (length E) (p + s) ≡ p → ⊥
  other_here s some less same =
      other_place p (p + s) (omega (arith, some)) (omega (arith, less)) (omega (arith, less, there)) (turn_low n p there ∙ sym same)

  -- some other corner stands in the column of a corner, and some in its row
  pub record HasOther (across : Point → ℤ) : Type 0 where
    pub place : ℕ
    pub inside : place < length E
    pub other : place ≡ p → ⊥
    pub level : across (edge_at E place).from ≡ across (edge_at E p).from

  pub in_column : HasOther (λ (q : Point). q.x)
  in_column =
      let u : ℕ → ℤ = λ t. (corner_at E (p + t)).x in
      let v : ℕ → ℤ = λ t. (corner_at E (p + t)).z in
      elim (met_again u v n (omega (arith, is.enough)) stepped (ap (λ (q : Point). q.x) again) (ap (λ (q : Point). q.z) again)) [
        | inl (s, some, less, same) ↦ record {
          place = turn n (p + s);
          inside = turn_inside n (p + s) (omega (arith, less, there));
          other = other_here s some less;
          level = same ∙ ap (λ (q : Point). q.x) here;
        }
        | inr (same, same') ↦ absurd (no_turn (λ i. record { x = same i; z = same' i }))
      ]

  pub in_row : HasOther (λ (q : Point). q.z)
  in_row =
      let u : ℕ → ℤ = λ t. (corner_at E (p + t)).z in
      let v : ℕ → ℤ = λ t. (corner_at E (p + t)).x in
      let turned : (t : ℕ) → t < n → AreBeside (u t) (v t) (u (t + 1)) (v (t + 1)) =
      λ t less. exchanged (v t) (u t) (v (t + 1)) (u (t + 1)) (stepped t less) in
      elim (met_again u v n (omega (arith, is.enough)) turned (ap (λ (q : Point). q.z) again) (ap (λ (q : Point). q.x) again)) [
        | inl (s, some, less, same) ↦ record {
          place = turn n (p + s);
          inside = turn_inside n (p + s) (omega (arith, less, there));
          other = other_here s some less;
          level = same ∙ ap (λ (q : Point). q.z) here;
        }
        | inr (same, same') ↦ absurd (no_turn (λ i. record { x = same' i; z = same i }))
      ]
    where
      exchanged : (x z x' z' : ℤ) → AreBeside x z x' z' → AreBeside z x z' x'
      exchanged x z x' z' one = omega (arith, one)
