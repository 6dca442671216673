-- Fewer cells, less clearance: where some cells of a field are left out, each other cell ends a walk that costs no more than one among all.
use Rattle.std.proofs.Common.{◌≡◌, ℕ, ◌+◌, ◌<◌, ◌≤◌, Bool, true, false, List, filter, get_or, ap, ◌∙◌, sym, refl, arith, zero, suc, inl, inr}
use Rattle.std.specs.Prelude.{◌&&◌, ◌||◌, not, ◌*◌, ◌%◌, Contains}
use Rattle.std.specs.List.{list_any, range_with_len}
use Rattle.std.proofs.lemmas.Bool.{cases_Bool, or_cases, or_left, or_right, and_parts, and_from, both_ways, false_from_ne_true, not-true}
use Rattle.std.proofs.lemmas.List.Elements.{Contains-get_or}
use Rattle.std.proofs.lemmas.List.Folds.{list_any_none}
use Rattle.nav_ground.specs.declared.cell.Cell.{Cell}
use Rattle.nav_ground.specs.Cells.{IsCompact, is_naming, opposite}
use Rattle.nav_ground.specs.Clearance.{has_neighbour, is_boundary, is_axis_step, is_turn, is_diagonal_step, is_walk_end, is_kept}
use Rattle.nav_ground.proofs.FreeLayers.{same_at_place, names_one}
use Rattle.nav_ground.proofs.Selections.{found, any_of, list_any-filter, found_below, any_below}
use Rattle.agent_erode.proofs.Walks.{any_direction, direction_any}

-- four tests of which one fails, and four tests of which each holds only where another does
one_fails_0 : (b c d : Bool) → not (false && b && c && d) ≡ true
one_fails_0 b c d = refl

one_fails_1 : (a c d : Bool) → not (a && false && c && d) ≡ true
one_fails_1 true c d = refl
one_fails_1 false c d = refl

one_fails_2 : (a b d : Bool) → not (a && b && false && d) ≡ true
one_fails_2 true true d = refl
one_fails_2 true false d = refl
one_fails_2 false b d = refl

one_fails_3 : (a b c : Bool) → not (a && b && c && false) ≡ true
one_fails_3 true true true = refl
one_fails_3 true true false = refl
one_fails_3 true false c = refl
one_fails_3 false b c = refl

fewer_hold : (a b c d a' b' c' d' : Bool) → (a' ≡ true → a ≡ true) → (b' ≡ true → b ≡ true) → (c' ≡ true → c ≡ true) → (d' ≡ true → d ≡ true)
    → not (a && b && c && d) ≡ true → not (a' && b' && c' && d') ≡ true
fewer_hold a b c d true true true true e f g h some =
    let all : not (a && b && c && d) ≡ false = λ i. not (e refl i && f refl i && g refl i && h refl i) in
    absurd (both_ways (not (a && b && c && d)) all some)
fewer_hold a b c d false b' c' d' e f g h some = refl
fewer_hold a b c d true false c' d' e f g h some = refl
fewer_hold a b c d true true false d' e f g h some = refl
fewer_hold a b c d true true true false e f g h some = refl

-- a cell without a neighbour in a direction is a boundary cell
gap_boundary : (cells : List Cell) (cell : Cell) (dir : ℕ) → dir < 4 → has_neighbour cells cell dir ≡ false → is_boundary cells cell ≡ true
gap_boundary cells cell zero small none =
    let has = has_neighbour cells cell in
    ap (λ b. not (b && has 1 && has 2 && has 3)) none ∙ one_fails_0 (has 1) (has 2) (has 3)
gap_boundary cells cell (suc zero) small none =
    let has = has_neighbour cells cell in
    ap (λ b. not (has 0 && b && has 2 && has 3)) none ∙ one_fails_1 (has 0) (has 2) (has 3)
gap_boundary cells cell (suc (suc zero)) small none =
    let has = has_neighbour cells cell in
    ap (λ b. not (has 0 && has 1 && b && has 3)) none ∙ one_fails_2 (has 0) (has 1) (has 3)
gap_boundary cells cell (suc (suc (suc zero))) small none =
    let has = has_neighbour cells cell in
    ap (λ b. not (has 0 && has 1 && has 2 && b)) none ∙ one_fails_3 (has 0) (has 1) (has 2)
gap_boundary cells cell (suc (suc (suc (suc n)))) small none = absurd (omega (arith, small))

-- the two connections of a turn
turn_steps : (from by to : Cell) → is_turn from by to ≡ true → (is_axis_step from by ≡ true) × (is_axis_step by to ≡ true)
turn_steps from by to turn =
    let hit = any_direction (λ dir. is_naming dir from by.at && (is_naming ((dir + 1) % 4) by to.at || is_naming ((dir + 3) % 4) by to.at)) turn in
    let dir = hit.0 in
    let parts = and_parts (is_naming dir from by.at) _ hit.2 in (
      direction_any (λ d. is_naming d from by.at) dir hit.1 parts.0,
      elim (or_cases (is_naming ((dir + 1) % 4) by to.at) (is_naming ((dir + 3) % 4) by to.at) parts.1) [
        | inl one ↦ direction_any (λ d. is_naming d by to.at) ((dir + 1) % 4) (omega arith) one
        | inr other ↦ direction_any (λ d. is_naming d by to.at) ((dir + 3) % 4) (omega arith) other
      ],
    )

module _ (p : Cell → Bool) (cells : List Cell) (compact : IsCompact cells) where
  -- the cells that are left
  abbrev left : List Cell
  left = filter p cells

  any_left : (q : Cell → Bool) (cell : Cell) → Contains cells cell → p cell ≡ true → q cell ≡ true → list_any q left ≡ true
  any_left q cell has open' passes =
      list_any-filter p q cells ∙ any_of (λ (c : Cell). p c && q c) cells cell has (and_from (p cell) (q cell) open' passes)

  -- beside a cell that is left out stand boundary cells
  beside_left_out : (from to : Cell) → Contains cells from → Contains cells to → p from ≡ false → is_axis_step from to ≡ true
      → is_boundary left to ≡ true
  beside_left_out from to has_from has_to closed step =
      let hit = any_direction (λ dir. is_naming dir from to.at) step in
      let dir = hit.0 in
      let small : opposite dir < 4 = omega arith in
      let back = compact.named_back dir from to hit.1 has_from has_to hit.2 in
      gap_boundary left to (opposite dir) small
      (list_any-filter p (λ (other : Cell). is_naming (opposite dir) to other.at) cells
      ∙ list_any_none (λ (other : Cell). p other && is_naming (opposite dir) to other.at) cells
      (λ k d there.
      let other : Cell = get_or cells k d in
      false_from_ne_true (p other && is_naming (opposite dir) to other.at) (λ h.
      let parts = and_parts (p other) _ h in
      let same = same_at_place cells other from compact.rules (Contains-get_or cells k d there) has_from (names_one (opposite dir) to other.at from.at small parts.1 back) in
      both_ways (p from) closed (ap p (sym same) ∙ parts.0))))

  -- a boundary cell is one among fewer cells
  fewer_neighbours : (cell : Cell) (dir : ℕ) → has_neighbour left cell dir ≡ true → has_neighbour cells cell dir ≡ true
  fewer_neighbours cell dir has =
      let naming = λ (other : Cell). is_naming dir cell other.at in
      let hit = found (λ (other : Cell). p other && naming other) cells (sym (list_any-filter p naming cells) ∙ has) in
      any_of naming cells hit.0 hit.1 (and_parts (p hit.0) (naming hit.0) hit.2).1

  still_boundary : (cell : Cell) → is_boundary cells cell ≡ true → is_boundary left cell ≡ true
  still_boundary cell some =
      let all = has_neighbour cells cell in
      let few = has_neighbour left cell in
      fewer_hold (all 0) (all 1) (all 2) (all 3) (few 0) (few 1) (few 2) (few 3)
      (fewer_neighbours cell 0) (fewer_neighbours cell 1) (fewer_neighbours cell 2) (fewer_neighbours cell 3) some

  -- a walk goes on by an axis step, and by a diagonal step
  on_along : (cost : ℕ) (from to : Cell) → Contains cells from → p from ≡ true → is_walk_end left cost from ≡ true → is_axis_step from to ≡ true
      → is_walk_end left (suc (suc cost)) to ≡ true
  unfolding is_walk_end
  on_along zero from to has open' ends step =
      any_left (λ (c : Cell). is_axis_step c to && is_walk_end left zero c) from has open' (and_from _ _ step ends)
  on_along (suc cost) from to has open' ends step =
      any_left (λ (c : Cell). is_axis_step c to && is_walk_end left (suc cost) c || is_diagonal_step left c to && is_walk_end left cost c) from has open'
      (or_left _ _ (and_from _ _ step ends))

  on_across : (cost : ℕ) (from to : Cell) → Contains cells from → p from ≡ true → is_walk_end left cost from ≡ true
      → is_diagonal_step left from to ≡ true → is_walk_end left (suc (suc (suc cost))) to ≡ true
  unfolding is_walk_end
  on_across cost from to has open' ends step =
      any_left (λ (c : Cell). is_axis_step c to && is_walk_end left (suc cost) c || is_diagonal_step left c to && is_walk_end left cost c) from has open'
      (or_right _ _ (and_from _ _ step ends))

  -- a walk among the cells that are left ends at a cell and costs no more than so much
  pub record IsCheap (most : ℕ) (to : Cell) : Type 0 where
    pub cost : ℕ
    pub least : cost ≤ most
    pub ends : is_walk_end left cost to ≡ true

  at_boundary : (most : ℕ) (to : Cell) → is_boundary left to ≡ true → IsCheap most to
  unfolding is_walk_end
  at_boundary most to some = record { cost = zero; least = omega arith; ends = some }

  -- so it is after an axis step, and after a diagonal step
  after_along : (most : ℕ) (from to : Cell) → Contains cells from → Contains cells to → is_axis_step from to ≡ true
      → (p from ≡ true → IsCheap most from) → IsCheap (suc (suc most)) to
  after_along most from to has_from has_to step before =
      elim (cases_Bool (p from)) [
        | inl open' ↦
            let cheap = before open' in
            record {
              cost = suc (suc cheap.cost);
              least = omega (arith, cheap.least);
              ends = on_along cheap.cost from to has_from open' cheap.ends step;
            }
        | inr closed ↦ at_boundary (suc (suc most)) to (beside_left_out from to has_from has_to closed step)
      ]

  after_across : (most : ℕ) (from to : Cell) → Contains cells from → Contains cells to → is_diagonal_step cells from to ≡ true
      → (p from ≡ true → IsCheap most from) → IsCheap (suc (suc (suc most))) to
  after_across most from to has_from has_to step before =
      let hit = found (λ (by : Cell). is_turn from by to) cells step in
      let by = hit.0 in
      let steps = turn_steps from by to hit.2 in
      elim (cases_Bool (p by)) [
        | inr closed ↦ at_boundary (suc (suc (suc most))) to (beside_left_out by to hit.1 has_to closed steps.1)
        | inl over ↦ elim (cases_Bool (p from)) [
          | inr closed ↦
              let begins = at_boundary zero by (beside_left_out from by has_from hit.1 closed steps.0) in
              record {
                cost = suc (suc begins.cost);
                least = omega (arith, begins.least);
                ends = on_along begins.cost by to hit.1 over begins.ends steps.1;
              }
          | inl open' ↦
              let cheap = before open' in
              record {
                cost = suc (suc (suc cheap.cost));
                least = omega (arith, cheap.least);
                ends = on_across cheap.cost from to has_from open' cheap.ends (any_left (λ (c : Cell). is_turn from c to) by hit.1 over hit.2);
              }
        ]
      ]

  -- where a walk among all cells ends at a cell that is left, one that costs no more does among those that are left
  pub fewer_cells : (cost : ℕ) (to : Cell) → Contains cells to → is_walk_end cells cost to ≡ true → IsCheap cost to
  unfolding is_walk_end
  fewer_cells zero to has ends = at_boundary zero to (still_boundary to ends)
  fewer_cells (suc zero) to has ends = absurd (both_ways false refl ends)
  fewer_cells (suc (suc zero)) to has ends =
      let hit = found (λ (from : Cell). is_axis_step from to && is_walk_end cells zero from) cells ends in
      let parts = and_parts (is_axis_step hit.0 to) _ hit.2 in
      after_along zero hit.0 to hit.1 has parts.0 (λ open'. fewer_cells zero hit.0 hit.1 parts.1)
  fewer_cells (suc (suc (suc cost))) to has ends =
      let hit = found (λ (from : Cell). is_axis_step from to && is_walk_end cells (suc cost) from
      || is_diagonal_step cells from to && is_walk_end cells cost from) cells ends in
      elim (or_cases (is_axis_step hit.0 to && is_walk_end cells (suc cost) hit.0) _ hit.2) [
        | inl along ↦
            let parts = and_parts (is_axis_step hit.0 to) _ along in
            after_along (suc cost) hit.0 to hit.1 has parts.0 (λ open'. fewer_cells (suc cost) hit.0 hit.1 parts.1)
        | inr across ↦
            let parts = and_parts (is_diagonal_step cells hit.0 to) _ across in
            after_across cost hit.0 to hit.1 has parts.0 (λ open'. fewer_cells cost hit.0 hit.1 parts.1)
      ]

  -- so a cell that is kept among those that are left is kept among all
  pub kept_among_all : (radius : ℕ) (cell : Cell) → Contains cells cell → is_kept left radius cell ≡ true → is_kept cells radius cell ≡ true
  kept_among_all radius cell has kept =
      let among_all = λ (cost : ℕ). is_walk_end cells cost cell in
      let among_left = λ (cost : ℕ). is_walk_end left cost cell in
      ap not (false_from_ne_true (list_any among_all (range_with_len 0 (2 * radius))) (λ some.
      let hit = found_below among_all (2 * radius) some in
      let cheap = fewer_cells hit.0 cell has hit.2 in
      both_ways (list_any among_left (range_with_len 0 (2 * radius))) (not-true _ kept)
      (any_below among_left (2 * radius) cheap.cost (omega (arith, cheap.least, hit.1)) cheap.ends)))
