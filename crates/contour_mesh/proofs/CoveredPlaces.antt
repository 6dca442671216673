-- Each place of a ring lies between two places next to each other that pass a test, and between no others. Steps of one along a line.
use Rattle.std.proofs.Common.{◌≡◌, ℕ, zero, suc, ◌+◌, ◌-◌, ◌<◌, ◌≤◌, Bool, true, false, length, get_or, ap, ◌∙◌, sym, arith, inl, inr}
use Rattle.std.specs.Prelude.{◌⊎◌, if◌then◌else◌}
use Rattle.std.proofs.lemmas.Bool.{both_ways, cases_Bool, cases_lt, cases_order}
use Rattle.contour_mesh.proofs.RingStops.{AreNext, below, index_of, next_is, next_last, next_of, passes, passing}
use Rattle.contour_mesh.proofs.RingWalks.{turn, turn_high, turn_low}

-- ---- the places that pass on both sides of a place

-- up to a place, the last that passes
record IsLastOf (q : ℕ → Bool) (k : ℕ) : Type 0 where
  place : ℕ
  most : place ≤ k
  is : q place ≡ true
  none : (m : ℕ) → place < m → m ≤ k → q m ≡ false

last_of : (q : ℕ → Bool) (k : ℕ) → IsLastOf q k ⊎ ((m : ℕ) → m ≤ k → q m ≡ false)
last_of q zero = elim (cases_Bool (q 0)) [
  | inl is ↦ inl (record { place = 0; most = omega arith; is = is; none = λ m more most. absurd (omega (arith, more, most)) })
  | inr not ↦ inr (λ m most. ap q {x = m} {y = 0} (omega (arith, most)) ∙ not)
]
last_of q (suc k) = elim (cases_Bool (q (suc k))) [
  | inl is ↦ inl (record { place = suc k; most = omega arith; is = is; none = λ m more most. absurd (omega (arith, more, most)) })
  | inr not ↦ elim (last_of q k) [
    | inl last ↦ inl (record {
      place = last.place;
      most = omega (arith, last.most);
      is = last.is;
      none = λ m more most. elim (cases_lt k m) [
        | inl beyond ↦ ap q {x = m} {y = suc k} (omega (arith, beyond, most)) ∙ not
        | inr before ↦ last.none m more before
      ];
    })
    | inr none ↦ inr (λ m most. elim (cases_lt k m) [
      | inl beyond ↦ ap q {x = m} {y = suc k} (omega (arith, beyond, most)) ∙ not
      | inr before ↦ none m before
    ])
  ]
]

-- a place lies so many steps after one that passes, before the next that does
pub record IsCovered (n : ℕ) (q : ℕ → Bool) (k : ℕ) : Type 0 where
  pub index : ℕ
  pub there : index < length (passing n q)
  pub step : ℕ
  pub within : get_or (passing n q) index 0 + step < next_of n q index
  pub is : turn n (get_or (passing n q) index 0 + step) ≡ k

pub covered : (n : ℕ) (q : ℕ → Bool) (k : ℕ) → k < n → 0 < length (passing n q) → IsCovered n q k
covered n q k inside some = elim (last_of q k) [
  | inl last ↦
      let i : ℕ = last.place in
      let w = index_of n q i (omega (arith, last.most, inside)) last.is in
      let t : ℕ = w.0 in
      let at : get_or (passing n q) t 0 ≡ i = w.2 in
      let j : ℕ = next_of n q t in
      let next = (next_is n q t w.1).next in
      record {
        index = t;
        there = w.1;
        step = k - i;
        within = elim (cases_lt k j) [
          | inl less ↦ omega (arith, at, last.most, less)
          | inr more ↦ absurd (both_ways (q j) (last.none j (omega (arith, at, next.later)) more) (ap q (sym (turn_low n j (omega (arith, more, inside)))) ∙ next.last))
        ];
        is = ap (turn n) {x = get_or (passing n q) t 0 + (k - i)} {y = k} (omega (arith, at, last.most)) ∙ turn_low n k inside;
      }
  | inr none ↦
      let t : ℕ = length (passing n q) - 1 in
      let t-in : t < length (passing n q) = omega (arith, some) in
      let first : k < get_or (passing n q) 0 0 = elim (cases_lt k (get_or (passing n q) 0 0)) [
        | inl less ↦ less
        | inr more ↦ absurd (both_ways (q (get_or (passing n q) 0 0)) (none (get_or (passing n q) 0 0) more) (passes n q 0 some))
      ] in
      let i : ℕ = get_or (passing n q) t 0 in
      let low : i < n = below n q t t-in in
      let end : next_of n q t ≡ get_or (passing n q) 0 0 + n = next_last n q t (omega (arith, some)) in
      let here : i + (k + n - i) ≡ k + n = omega (arith, low) in
      record {
        index = t;
        there = t-in;
        step = k + n - i;
        within = omega (arith, here, end, first);
        is = ap (turn n) here ∙ turn_high n (k + n) (omega arith) ∙ omega arith;
      }
]

-- and between no others
pub same_begin : (n : ℕ) (q : ℕ → Bool) (i j u i' j' u' : ℕ) → AreNext n q i j → AreNext n q i' j' → i + u < j → i' + u' < j' → turn n (i + u) ≡ turn n (i' + u') → i ≡ i'
same_begin n q i j u i' j' u' next next' within within' same = elim (cases_lt (i + u) n) [
  | inl low ↦ elim (cases_lt (i' + u') n) [
    | inl low' ↦ one (omega (arith, same, turn_low n (i + u) low, turn_low n (i' + u') low'))
    | inr high' ↦
        let is : i + u + n ≡ i' + u' = omega (arith, same, turn_low n (i + u) low, turn_high n (i' + u') high', high') in
        absurd (passed i i' j' next.there next'.there next.first next' (omega (arith, is, within', next'.round)) (omega (arith, is, within')))
  ]
  | inr high ↦ elim (cases_lt (i' + u') n) [
    | inl low' ↦
        let is : i' + u' + n ≡ i + u = omega (arith, same, turn_low n (i' + u') low', turn_high n (i + u) high, high) in
        absurd (passed i' i j next'.there next.there next'.first next (omega (arith, is, within, next.round)) (omega (arith, is, within)))
    | inr high' ↦ one (omega (arith, same, turn_high n (i + u) high, turn_high n (i' + u') high', high, high'))
  ]
]
  where
    -- no place that passes lies between, one round further on
    passed : (a b c : ℕ) → a < n → b < n → q a ≡ true → AreNext n q b c → a < b → a + n < c → ⊥
    passed a b c a-in b-in is after less within =
        both_ways (q (turn n (a + n))) (after.inner (a + n) (omega (arith, b-in)) within)
        (ap q {x = turn n (a + n)} {y = a} (turn_high n (a + n) (omega arith) ∙ omega arith) ∙ is)

    between : (a b c : ℕ) → AreNext n q a c → q b ≡ true → b < n → a < b → b < c → ⊥
    between a b c after is b-in less within = both_ways (q (turn n b)) (after.inner b less within) (ap q (turn_low n b b-in) ∙ is)

    one : i + u ≡ i' + u' → i ≡ i'
    one is = elim (cases_order i i') [
      | inl equal ↦ equal
      | inr (inl less) ↦ absurd (between i i' j next next'.first next'.there less (omega (arith, is, within)))
      | inr (inr more) ↦ absurd (between i' i j' next' next.first next.there more (omega (arith, is, within')))
    ]

-- ---- steps of one along a line, all down or all up

abbrev pub IsStep : Bool → ℕ → ℕ → Type 0
IsStep true from to = from ≡ to + 1
IsStep false from to = to ≡ from + 1

-- what lies at the lower end of a step, and at its upper end
abbrev pub lower : {X : Type 0} → Bool → X → X → X
lower down from to = if down then to else from

abbrev pub upper : {X : Type 0} → Bool → X → X → X
upper down from to = if down then from else to

module _ {X : Type 0} (at : X → ℕ) (corner : ℕ → X) where
  down_to : (size : ℕ) → ((u : ℕ) → u < size → IsStep true (at (corner u)) (at (corner (u + 1)))) → (u : ℕ) → u ≤ size → at (corner u) + u ≡ at (corner 0)
  down_to size steps zero most = omega arith
  down_to size steps (suc u) most =
      let next : at (corner (u + 1)) ≡ at (corner (suc u)) = ap (λ v. at (corner v)) {x = u + 1} {y = suc u} (omega arith) in
      omega (arith, next, steps u (omega (arith, most)), down_to size steps u (omega (arith, most)))

  up_to : (size : ℕ) → ((u : ℕ) → u < size → IsStep false (at (corner u)) (at (corner (u + 1)))) → (u : ℕ) → u ≤ size → at (corner u) ≡ at (corner 0) + u
  up_to size steps zero most = omega arith
  up_to size steps (suc u) most =
      let next : at (corner (u + 1)) ≡ at (corner (suc u)) = ap (λ v. at (corner v)) {x = u + 1} {y = suc u} (omega arith) in
      omega (arith, next, steps u (omega (arith, most)), up_to size steps u (omega (arith, most)))

  -- each step lies between the ends
  pub step_within : (down : Bool) (size : ℕ) → ((u : ℕ) → u < size → IsStep down (at (corner u)) (at (corner (u + 1)))) → (u : ℕ) → u < size
      → (at (lower down (corner 0) (corner size)) ≤ at (lower down (corner u) (corner (u + 1))))
      × (at (lower down (corner u) (corner (u + 1))) < at (upper down (corner 0) (corner size)))
  step_within true size steps u less =
      let here = down_to size steps u (omega (arith, less)) in
      let end = down_to size steps size (omega arith) in
      let step = steps u less in
      (omega (arith, here, end, step, less), omega (arith, here, end, step, less))
  step_within false size steps u less =
      let here = up_to size steps u (omega (arith, less)) in
      let end = up_to size steps size (omega arith) in
      (omega (arith, here, end, less), omega (arith, here, end, less))

  -- and each number between the ends is that of a step
  pub step_at : (down : Bool) (size : ℕ) → ((u : ℕ) → u < size → IsStep down (at (corner u)) (at (corner (u + 1)))) → (position : ℕ)
      → at (lower down (corner 0) (corner size)) ≤ position → position < at (upper down (corner 0) (corner size))
      → (u : ℕ) × (u < size) × (at (lower down (corner u) (corner (u + 1))) ≡ position)
  step_at true size steps position least most =
      let u : ℕ = at (corner 0) - position - 1 in
      let end = down_to size steps size (omega arith) in
      let less : u < size = omega (arith, end, least, most) in
      (u, less, omega (arith, down_to size steps u (omega (arith, less)), steps u less, least, most))
  step_at false size steps position least most =
      let u : ℕ = position - at (corner 0) in
      let end = up_to size steps size (omega arith) in
      let less : u < size = omega (arith, end, least, most) in
      (u, less, omega (arith, up_to size steps u (omega (arith, less)), least, most))
