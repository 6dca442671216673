-- Walks over a list of cells, by the indices in its neighbour table.
use Rattle.std.proofs.Common.{◌≡◌, ℕ, ◌+◌, ◌<◌, ◌⊎◌, Bool, true, false, length, List, [], ◌∷◌, get_or, ap, ◌∙◌, sym, refl, subst, arith, zero, suc, inl, inr}
use Rattle.std.specs.Prelude.{◌==◌, ◌&&◌, ◌||◌, ◌%◌}
use Rattle.std.specs.List.{list_any}
use Rattle.std.proofs.lemmas.Bool.{eqb-true, eq-eqb, both_ways, cases_lt, or_cases, or_left, or_right, and_parts, and_from}
use Rattle.std.proofs.lemmas.List.{get_or_default}
use Rattle.std.proofs.lemmas.List.Folds.{list_any_at, Any-from_list_any}
use Rattle.nav_ground.specs.declared.cell.Cell.{Cell}
use Rattle.nav_ground.specs.Cells.{IsCells, is_naming}
use Rattle.nav_ground.specs.Clearance.{is_axis_step, is_turn, is_diagonal_step, is_walk_end}
use Rattle.cell_table.specs.Table.{neighbour_table, neighbour}
use Rattle.agent_erode.specs.Reaching.{axis_ends, diagonal_ends, has_gap}
use Rattle.agent_erode.proofs.Stages.{is_among}
use Rattle.cell_table.proofs.Tables.{table_names, table_past}
use Rattle.agent_erode.proofs.Gaps.{table_boundary}

-- an element that passes a test, by its index
pub record IsHit {A : Type 0} (p : A → Bool) (xs : List A) (d : A) : Type 0 where
  pub index : ℕ
  pub there : index < length xs
  pub passes : p (get_or xs index d) ≡ true

pub hit_of : {A : Type 0} (p : A → Bool) (xs : List A) (d : A) → list_any p xs ≡ true → IsHit p xs d
hit_of p xs d h =
    let any = Any-from_list_any p xs h in
    record { index = any.0; there = any.2; passes = ap p (get_or_default xs any.0 d any.1 any.2 ∙ any.3) ∙ any.4 }

abbrev pub directions : List ℕ
directions = 0 ∷ 1 ∷ 2 ∷ 3 ∷ []

-- two tests that agree at each direction
any_direction_same : (p q : ℕ → Bool) → ((dir : ℕ) → dir < 4 → p dir ≡ q dir) → list_any p directions ≡ list_any q directions
any_direction_same p q same =
    let e0 = same 0 (omega arith) in
    let e1 = same 1 (omega arith) in
    let e2 = same 2 (omega arith) in
    let e3 = same 3 (omega arith) in
    cc

-- a direction that passes a test
pub any_direction : (p : ℕ → Bool) → list_any p directions ≡ true → (dir : ℕ) × (dir < 4) × (p dir ≡ true)
any_direction p h =
    elim (or_cases (p 0) _ h) [
      | inl h0 ↦ (0, omega arith, h0)
      | inr r0 ↦ elim (or_cases (p 1) _ r0) [
        | inl h1 ↦ (1, omega arith, h1)
        | inr r1 ↦ elim (or_cases (p 2) _ r1) [
          | inl h2 ↦ (2, omega arith, h2)
          | inr r2 ↦ elim (or_cases (p 3) false r2) [
            | inl h3 ↦ (3, omega arith, h3)
            | inr none ↦ absurd (both_ways false refl none)
          ]
        ]
      ]
    ]

pub direction_any : (p : ℕ → Bool) (dir : ℕ) → dir < 4 → p dir ≡ true → list_any p directions ≡ true
direction_any p zero small h = list_any_at p directions 0 0 (omega arith) h
direction_any p (suc zero) small h = list_any_at p directions 1 0 (omega arith) h
direction_any p (suc (suc zero)) small h = list_any_at p directions 2 0 (omega arith) h
direction_any p (suc (suc (suc zero))) small h = list_any_at p directions 3 0 (omega arith) h
direction_any p (suc (suc (suc (suc n)))) small h = absurd (omega (arith, small))

-- tests in pairs are tests one after the other
in_pairs : (a0 b0 a1 b1 a2 b2 a3 b3 : Bool) → ((a0 || b0) || ((a1 || b1) || ((a2 || b2) || ((a3 || b3) || false))))
    ≡ (a0 || (b0 || (a1 || (b1 || (a2 || (b2 || (a3 || (b3 || false))))))))
in_pairs true b0 a1 b1 a2 b2 a3 b3 = refl
in_pairs false true a1 b1 a2 b2 a3 b3 = refl
in_pairs false false true b1 a2 b2 a3 b3 = refl
in_pairs false false false true a2 b2 a3 b3 = refl
in_pairs false false false false true b2 a3 b3 = refl
in_pairs false false false false false true a3 b3 = refl
in_pairs false false false false false false true b3 = refl
in_pairs false false false false false false false true = refl
in_pairs false false false false false false false false = refl

abbrev is_turn_end : List (List ℕ) → ℕ → ℕ → ℕ → Bool
is_turn_end table from to dir =
    (neighbour table (neighbour table from dir) ((dir + 1) % 4) == to) || (neighbour table (neighbour table from dir) ((dir + 3) % 4) == to)

abbrev is_turn_by : List (List ℕ) → ℕ → ℕ → ℕ → ℕ → Bool
is_turn_by table from by to dir =
    (neighbour table from dir == by) && ((neighbour table by ((dir + 1) % 4) == to) || (neighbour table by ((dir + 3) % 4) == to))

-- what diagonal steps lead to, direction by direction
among_diagonal : (table : List (List ℕ)) (from to : ℕ) → list_any (is_turn_end table from to) directions ≡ is_among to (diagonal_ends table from)
among_diagonal table from to =
    let e = λ (dir turn : ℕ). neighbour table (neighbour table from dir) ((dir + turn) % 4) == to in
    in_pairs (e 0 1) (e 0 3) (e 1 1) (e 1 3) (e 2 1) (e 2 3) (e 3 1) (e 3 3)

module _ (cells : List Cell) (rules' : IsCells cells) (d : Cell) where
  -- the axis steps from a cell end where its row of the table says
  axis_test : (i j : ℕ) → i < length cells → j < length cells
      → is_axis_step (get_or cells i d) (get_or cells j d) ≡ is_among j (axis_ends (neighbour_table cells) i)
  axis_test i j here there =
      any_direction_same (λ dir. is_naming dir (get_or cells i d) (get_or cells j d).at) (λ dir. neighbour (neighbour_table cells) i dir == j)
      (λ dir small. table_names cells rules' i j dir d here there small)

  -- two connections that turn
  turn_test : (i m j : ℕ) → i < length cells → m < length cells → j < length cells
      → is_turn (get_or cells i d) (get_or cells m d) (get_or cells j d)
      ≡ list_any (is_turn_by (neighbour_table cells) i m j) directions
  turn_test i m j here by there =
      any_direction_same
      (λ dir. is_naming dir (get_or cells i d) (get_or cells m d).at
      && (is_naming ((dir + 1) % 4) (get_or cells m d) (get_or cells j d).at || is_naming ((dir + 3) % 4) (get_or cells m d) (get_or cells j d).at))
      (is_turn_by (neighbour_table cells) i m j)
      (λ dir small.
      let e = table_names cells rules' i m dir d here by small in
      let f = table_names cells rules' m j ((dir + 1) % 4) d by there (omega arith) in
      let g = table_names cells rules' m j ((dir + 3) % 4) d by there (omega arith) in
      cc)

  -- so do the diagonal steps
  diagonal_to : (i j : ℕ) → i < length cells → j < length cells
      → is_diagonal_step cells (get_or cells i d) (get_or cells j d) ≡ true → is_among j (diagonal_ends (neighbour_table cells) i) ≡ true
  diagonal_to i j here there h =
      let hit = hit_of (λ (by : Cell). is_turn (get_or cells i d) by (get_or cells j d)) cells d h in
      let m = hit.index in
      let found = any_direction (is_turn_by (neighbour_table cells) i m j) (sym (turn_test i m j here hit.there there) ∙ hit.passes) in
      let parts = and_parts (neighbour (neighbour_table cells) i found.0 == m) _ found.2 in
      let is : neighbour (neighbour_table cells) i found.0 ≡ m = eqb-true _ _ parts.0 in
      let P : ℕ → Type 0 = λ n. ((neighbour (neighbour_table cells) n ((found.0 + 1) % 4) == j)
      || (neighbour (neighbour_table cells) n ((found.0 + 3) % 4) == j)) ≡ true in
      sym (among_diagonal (neighbour_table cells) i j)
      ∙ direction_any (is_turn_end (neighbour_table cells) i j) found.0 found.1 (subst P (sym is) parts.1)

  -- no cell is named past the cells
  not_past : (m dir j : ℕ) → j < length cells → (neighbour (neighbour_table cells) m dir == j) ≡ true → m < length cells
  not_past m dir j there named =
      elim (cases_lt m (length cells)) [
        | inl inside ↦ inside
        | inr past ↦
            let none = table_past cells m dir past in
            let is : neighbour (neighbour_table cells) m dir ≡ j = eqb-true _ _ named in
            absurd (omega (arith, none, is, there, rules'.few))
      ]

  diagonal_from : (i j : ℕ) → i < length cells → j < length cells
      → is_among j (diagonal_ends (neighbour_table cells) i) ≡ true → is_diagonal_step cells (get_or cells i d) (get_or cells j d) ≡ true
  diagonal_from i j here there h =
      let found = any_direction (is_turn_end (neighbour_table cells) i j) (among_diagonal (neighbour_table cells) i j ∙ h) in
      let m = neighbour (neighbour_table cells) i found.0 in
      let by : m < length cells =
      elim (or_cases (neighbour (neighbour_table cells) m ((found.0 + 1) % 4) == j) (neighbour (neighbour_table cells) m ((found.0 + 3) % 4) == j) found.2) [
        | inl one ↦ not_past m ((found.0 + 1) % 4) j there one
        | inr other ↦ not_past m ((found.0 + 3) % 4) j there other
      ] in
      list_any_at (λ (by : Cell). is_turn (get_or cells i d) by (get_or cells j d)) cells m d by
      (turn_test i m j here by there
      ∙ direction_any (is_turn_by (neighbour_table cells) i m j)
      found.0 found.1 (and_from _ _ (eq-eqb m m refl) found.2))

  -- walks begin at boundary cells
  pub walk_begins : (i : ℕ) → i < length cells → is_walk_end cells 0 (get_or cells i d) ≡ has_gap (neighbour_table cells) (length cells) i
  unfolding is_walk_end
  walk_begins i here = table_boundary cells i d here

  -- a walk goes on by an axis step, and by a diagonal step
  pub walk_along : (i j cost : ℕ) → i < length cells → j < length cells → is_walk_end cells cost (get_or cells i d) ≡ true
      → is_among j (axis_ends (neighbour_table cells) i) ≡ true → is_walk_end cells (suc (suc cost)) (get_or cells j d) ≡ true
  unfolding is_walk_end
  walk_along i j zero here there ends step =
      list_any_at (λ (from : Cell). is_axis_step from (get_or cells j d) && is_walk_end cells zero from) cells i d here
      (and_from _ _ (axis_test i j here there ∙ step) ends)
  walk_along i j (suc cost) here there ends step =
      list_any_at (λ (from : Cell). is_axis_step from (get_or cells j d) && is_walk_end cells (suc cost) from
      || is_diagonal_step cells from (get_or cells j d) && is_walk_end cells cost from) cells i d here
      (or_left _ _ (and_from _ _ (axis_test i j here there ∙ step) ends))

  pub walk_across : (i j cost : ℕ) → i < length cells → j < length cells → is_walk_end cells cost (get_or cells i d) ≡ true
      → is_among j (diagonal_ends (neighbour_table cells) i) ≡ true → is_walk_end cells (suc (suc (suc cost))) (get_or cells j d) ≡ true
  unfolding is_walk_end
  walk_across i j cost here there ends step =
      list_any_at (λ (from : Cell). is_axis_step from (get_or cells j d) && is_walk_end cells (suc cost) from
      || is_diagonal_step cells from (get_or cells j d) && is_walk_end cells cost from) cells i d here
      (or_right _ _ (and_from _ _ (diagonal_from i j here there step) ends))

-- the cell before the last step of a walk, which costs so much
pub record IsLastStep (cells : List Cell) (cost j step : ℕ) (ends : ℕ → List ℕ) (d : Cell) : Type 0 where
  pub from : ℕ
  pub before : ℕ
  pub there : from < length cells
  pub adds : before + step ≡ cost
  pub ends_there : is_walk_end cells before (get_or cells from d) ≡ true
  pub leads : is_among j (ends from) ≡ true

module _ (cells : List Cell) (rules' : IsCells cells) (d : Cell) where
  -- a walk that costs something has a last step
  pub last_step : (j cost : ℕ) → j < length cells → 0 < cost → is_walk_end cells cost (get_or cells j d) ≡ true
      → IsLastStep cells cost j 2 (axis_ends (neighbour_table cells)) d ⊎ IsLastStep cells cost j 3 (diagonal_ends (neighbour_table cells)) d
  unfolding is_walk_end
  last_step j zero there some ends = absurd (omega (arith, some))
  last_step j (suc zero) there some ends = absurd (both_ways false refl ends)
  last_step j (suc (suc zero)) there some ends =
      let hit = hit_of (λ (from : Cell). is_axis_step from (get_or cells j d) && is_walk_end cells zero from) cells d ends in
      let parts = and_parts (is_axis_step (get_or cells hit.index d) (get_or cells j d)) _ hit.passes in
      inl (record {
        from = hit.index;
        before = 0;
        there = hit.there;
        adds = refl;
        ends_there = parts.1;
        leads = sym (axis_test cells rules' d hit.index j hit.there there) ∙ parts.0;
      })
  last_step j (suc (suc (suc cost))) there some ends =
      let hit = hit_of (λ (from : Cell). is_axis_step from (get_or cells j d) && is_walk_end cells (suc cost) from
      || is_diagonal_step cells from (get_or cells j d) && is_walk_end cells cost from) cells d ends in
      elim (or_cases (is_axis_step (get_or cells hit.index d) (get_or cells j d) && is_walk_end cells (suc cost) (get_or cells hit.index d)) _ hit.passes) [
        | inl along ↦
            let parts = and_parts (is_axis_step (get_or cells hit.index d) (get_or cells j d)) _ along in
            inl (record {
              from = hit.index;
              before = suc cost;
              there = hit.there;
              adds = omega arith;
              ends_there = parts.1;
              leads = sym (axis_test cells rules' d hit.index j hit.there there) ∙ parts.0;
            })
        | inr across ↦
            let parts = and_parts (is_diagonal_step cells (get_or cells hit.index d) (get_or cells j d)) _ across in
            inr (record {
              from = hit.index;
              before = cost;
              there = hit.there;
              adds = omega arith;
              ends_there = parts.1;
              leads = diagonal_to cells rules' d hit.index j hit.there there parts.0;
            })
      ]
