-- Rounds: what is reached at a cost, from what was reached at lesser costs.
use Rattle.std.proofs.Common.{◌≡◌, ℕ, ◌+◌, ◌<◌, ◌≤◌, Bool, true, false, length, List, [], ◌∷◌, ◌++◌, map, get_or, ap, ◌∙◌, sym, refl, subst, arith, zero, suc, inl, inr, ◌⊎◌}
use Rattle.std.specs.Prelude.{◌==◌, ◌&&◌, ◌||◌, not, fold, replicate}
use Rattle.std.specs.List.{list_any, flat_map, slice_range, range_with_len}
use Rattle.std.proofs.lemmas.Bool.{both_ways, cases_lt, cases_order, false_from_ne_true, not-true, not_from_false, or_cases, or_left, or_right, cases_Bool}
use Rattle.std.proofs.lemmas.List.{length-map, get_or-map, get_or_past, ext_get_or}
use Rattle.std.proofs.lemmas.List.Folds.{list_any_at, list_any-append}
use Rattle.std.proofs.lemmas.List.Sums.{fold-append}
use Rattle.std.proofs.lemmas.List.FromFn.{length-range_with_len, get_or-range_with_len}
use Rattle.nav_ground.specs.declared.cell.Cell.{Cell}
use Rattle.nav_ground.specs.Cells.{IsCells}
use Rattle.nav_ground.specs.Clearance.{is_walk_end}
use Rattle.nav_ground.proofs.Selections.{range-push}
use Rattle.cell_table.specs.Table.{neighbour_table}
use Rattle.agent_erode.specs.Reaching.{Progress, reached, axis_ends, diagonal_ends, axis_ends_from, diagonal_ends_from, after_axis_steps, after_round, has_gap, boundary}
use Rattle.agent_erode.specs.Clearances.{is_ended_below, is_beyond}
use Rattle.agent_erode.proofs.Stages.{is_among, IsLeast, IsLeastBelow, IsStage, IsSpread}
use Rattle.cell_table.proofs.Places.{same_test, no_cell}
use Rattle.cell_table.proofs.Tables.{table_length}
use Rattle.agent_erode.proofs.Walks.{hit_of, IsLastStep, last_step, walk_begins, walk_along, walk_across}
use Rattle.agent_erode.proofs.Reaches.{reach_all, IsFrom, among_flat, flat_among, among_filter, slice_same}

-- walks below a bound, and one more cost
ended_more : (cells : List Cell) (bound : ℕ) (cell : Cell)
    → is_ended_below cells (bound + 1) cell ≡ (is_ended_below cells bound cell || is_walk_end cells bound cell)
ended_more cells bound cell =
    ap (list_any (λ cost. is_walk_end cells cost cell)) (range-push 0 bound)
    ∙ list_any-append (λ cost. is_walk_end cells cost cell) (range_with_len 0 bound) ((0 + bound) ∷ [])
    ∙ ap (λ b. is_ended_below cells bound cell || b) (or_false (is_walk_end cells (0 + bound) cell) ∙ ap (λ n. is_walk_end cells n cell) (omega arith))
  where
    or_false : (x : Bool) → (x || false) ≡ x
    or_false true = refl
    or_false false = refl

pub ended_at : (cells : List Cell) (bound cost : ℕ) (cell : Cell) → cost < bound → is_walk_end cells cost cell ≡ true
    → is_ended_below cells bound cell ≡ true
ended_at cells bound cost cell below ends =
    let at : get_or (range_with_len 0 bound) cost 0 ≡ cost = get_or-range_with_len 0 bound cost 0 below ∙ omega arith in
    list_any_at (λ n. is_walk_end cells n cell) (range_with_len 0 bound) cost 0 (omega (arith, below, length-range_with_len 0 bound))
    (ap (λ n. is_walk_end cells n cell) at ∙ ends)

pub record IsCheaper (cells : List Cell) (bound : ℕ) (cell : Cell) : Type 0 where
  pub cost : ℕ
  pub below : cost < bound
  pub ends : is_walk_end cells cost cell ≡ true

pub ended_from : (cells : List Cell) (bound : ℕ) (cell : Cell) → is_ended_below cells bound cell ≡ true → IsCheaper cells bound cell
ended_from cells bound cell h =
    let hit = hit_of (λ n. is_walk_end cells n cell) (range_with_len 0 bound) 0 h in
    let below : hit.index < bound = omega (arith, hit.there, length-range_with_len 0 bound) in
    let at : get_or (range_with_len 0 bound) hit.index 0 ≡ hit.index = get_or-range_with_len 0 bound hit.index 0 below ∙ omega arith in
    record { cost = hit.index; below = below; ends = ap (λ n. is_walk_end cells n cell) (sym at) ∙ hit.passes }

-- of the walks to a cell one is cheapest
pub record IsCheapest (cells : List Cell) (bound : ℕ) (cell : Cell) : Type 0 where
  pub cost : ℕ
  pub below : cost < bound
  pub is : IsLeast cells cost cell

pub cheapest : (cells : List Cell) (bound : ℕ) (cell : Cell) → is_ended_below cells bound cell ≡ true → IsCheapest cells bound cell
cheapest cells zero cell h = absurd (both_ways false refl h)
cheapest cells (suc bound) cell h =
    elim (cases_Bool (is_ended_below cells bound cell)) [
      | inl less ↦
          let found = cheapest cells bound cell less in
          record { cost = found.cost; below = omega (arith, found.below); is = found.is }
      | inr none ↦
          let same : suc bound ≡ bound + 1 = omega arith in
          let more : (is_ended_below cells bound cell || is_walk_end cells bound cell) ≡ true =
          sym (ended_more cells bound cell) ∙ ap (λ n. is_ended_below cells n cell) (sym same) ∙ h in
          record {
            cost = bound;
            below = omega arith;
            is = record { ends = ap (λ b. b || is_walk_end cells bound cell) (sym none) ∙ more; least = none };
          }
    ]

module _ (cells : List Cell) (rules' : IsCells cells) (d : Cell) where
  -- the cell before the last step of a cheapest walk is reached by a cheapest walk
  pub least_before_axis : (j cost : ℕ) → j < length cells → IsLeast cells cost (get_or cells j d)
      → (step : IsLastStep cells cost j 2 (axis_ends (neighbour_table cells)) d) → IsLeast cells step.before (get_or cells step.from d)
  least_before_axis j cost there least step = record {
    ends = step.ends_there;
    least = false_from_ne_true (is_ended_below cells step.before (get_or cells step.from d)) (λ h.
        let c = ended_from cells step.before (get_or cells step.from d) h in
        let later = walk_along cells rules' d step.from j c.cost step.there there c.ends step.leads in
        both_ways (is_ended_below cells cost (get_or cells j d)) least.least
        (ended_at cells cost (suc (suc c.cost)) (get_or cells j d) (omega (arith, c.below, step.adds)) later));
  }

  pub least_before_diagonal : (j cost : ℕ) → j < length cells → IsLeast cells cost (get_or cells j d)
      → (step : IsLastStep cells cost j 3 (diagonal_ends (neighbour_table cells)) d) → IsLeast cells step.before (get_or cells step.from d)
  least_before_diagonal j cost there least step = record {
    ends = step.ends_there;
    least = false_from_ne_true (is_ended_below cells step.before (get_or cells step.from d)) (λ h.
        let c = ended_from cells step.before (get_or cells step.from d) h in
        let later = walk_across cells rules' d step.from j c.cost step.there there c.ends step.leads in
        both_ways (is_ended_below cells cost (get_or cells j d)) least.least
        (ended_at cells cost (suc (suc (suc c.cost))) (get_or cells j d) (omega (arith, c.below, step.adds)) later));
  }

-- the indices that are reached at a cost: walks of the cost end there, and those of the cells of that least cost are among them
pub record IsRound (cells : List Cell) (cost : ℕ) (indices : List ℕ) : Type 0 where
  pub ends : (i : ℕ) (d : Cell) → i < length cells → is_among i indices ≡ true → is_walk_end cells cost (get_or cells i d) ≡ true
  pub all : (i : ℕ) (d : Cell) → i < length cells → IsLeast cells cost (get_or cells i d) → is_among i indices ≡ true

-- after a round the cells that walks of its cost end at are kept no more
pub round_kept : (cells : List Cell) (cost : ℕ) (indices : List ℕ) (old : Progress) → IsRound cells cost indices
    → old.kept ≡ map (is_beyond cells cost) cells → (fold reached old indices).kept ≡ map (is_beyond cells (cost + 1)) cells
round_kept cells cost indices old round kept =
    let new = fold reached old indices in
    let reach = reach_all indices old in
    let long : length new.kept ≡ length cells = reach.long ∙ ap length kept ∙ length-map cells (is_beyond cells cost) in
    ext_get_or false new.kept (map (is_beyond cells (cost + 1)) cells)
    (long ∙ sym (length-map cells (is_beyond cells (cost + 1))))
    (λ i there.
    let inside : i < length cells = omega (arith, there, long) in
    let cell = get_or cells i no_cell in
    let was : get_or old.kept i false ≡ is_beyond cells cost cell =
    ap (λ (k : List Bool). get_or k i false) kept ∙ get_or-map (is_beyond cells cost) cells i no_cell false inside in
    reach.kept i ∙ ap (λ b. b && not (is_among i indices)) was
    ∙ both_tests (is_ended_below cells cost cell) (is_walk_end cells cost cell) (is_among i indices)
    (λ among. round.ends i no_cell inside among)
    (λ none ends. round.all i no_cell inside (record { ends = ends; least = none }))
    ∙ ap not (sym (ended_more cells cost cell))
    ∙ sym (get_or-map (is_beyond cells (cost + 1)) cells i no_cell false inside))
  where
    both_tests : (before ends among : Bool) → (among ≡ true → ends ≡ true) → (before ≡ false → ends ≡ true → among ≡ true)
        → (not before && not among) ≡ not (before || ends)
    both_tests true ends among there back = refl
    both_tests false true true there back = refl
    both_tests false true false there back = absurd (both_ways false refl (back refl refl))
    both_tests false false true there back = absurd (both_ways false refl (there refl))
    both_tests false false false there back = refl

-- and those of them that were kept stand at the end of the order
pub round_last : (cells : List Cell) (cost : ℕ) (indices : List ℕ) (old : Progress) → IsRound cells cost indices
    → old.kept ≡ map (is_beyond cells cost) cells
    → IsStage cells (fold reached old indices).order (length old.order) (length (fold reached old indices).order) 1 (cost + 1)
round_last cells cost indices old round kept =
    let new = fold reached old indices in
    let reach = reach_all indices old in
    let long : length old.kept ≡ length cells = ap length kept ∙ length-map cells (is_beyond cells cost) in
    let was = λ (i : ℕ) (d : Cell) (inside : i < length cells).
    ap (λ (k : List Bool). get_or k i false) kept ∙ get_or-map (is_beyond cells cost) cells i d false inside in
    record {
      rises = reach.grows;
      each = λ q least most.
          let i = get_or new.order q 0 in
          let found = reach.each q least most in
          let inside : i < length cells = inside_of i (cases_lt i (length old.kept)) long found.0 in (
            inside,
            λ d. record {
              own = cost;
              is = refl;
              least = record {
                ends = round.ends i d inside found.1;
                least = not-true (is_ended_below cells cost (get_or cells i d)) (sym (was i d inside) ∙ found.0);
              };
            },
          );
      all = λ i d inside below.
          let same : below.own ≡ cost = omega (arith, below.is) in
          let P : ℕ → Type 0 = λ n. IsLeast cells n (get_or cells i d) in
          let here : IsLeast cells cost (get_or cells i d) = subst P same below.least in
          let after = reach.all i (was i d inside ∙ not_from_false _ here.least) (round.all i d inside here) in
          (after.place, after.least, after.most, after.index);
    }
  where
    inside_of : (i : ℕ) → (i < length old.kept) ⊎ (length old.kept ≤ i) → length old.kept ≡ length cells → get_or old.kept i false ≡ true → i < length cells
    inside_of i (inl below) long is = omega (arith, below, long)
    inside_of i (inr past) long is = absurd (both_ways (get_or old.kept i false) (get_or_past old.kept i false past) is)

-- the stages before stand where they stood
pub round_before : (cells : List Cell) (cost first end less : ℕ) (indices : List ℕ) (old : Progress) → end ≤ length old.order
    → IsStage cells old.order first end less cost → IsStage cells (fold reached old indices).order first end (less + 1) (cost + 1)
round_before cells cost first end less indices old most stage =
    let new = fold reached old indices in
    let reach = reach_all indices old in
    record {
      rises = stage.rises;
      each = λ q least below.
          let same = reach.same q (omega (arith, below, most)) in
          let was = stage.each q least below in (
            omega (arith, same, was.0),
            λ d.
                let P : ℕ → Type 0 = λ n. IsLeastBelow cells (less + 1) (cost + 1) (get_or cells n d) in
                subst P (sym same) (later (was.1 d)),
          );
      all = λ i d inside below.
          let at = stage.all i d inside (earlier below) in
          (at.0, at.1, at.2, reach.same at.0 (omega (arith, at.2, most)) ∙ at.3);
    }
  where
    later : {cell : Cell} → IsLeastBelow cells less cost cell → IsLeastBelow cells (less + 1) (cost + 1) cell
    later below = record { own = below.own; is = omega (arith, below.is); least = below.least }

    earlier : {cell : Cell} → IsLeastBelow cells (less + 1) (cost + 1) cell → IsLeastBelow cells less cost cell
    earlier below = record { own = below.own; is = omega (arith, below.is); least = below.least }

-- walks of cost 0 end at the boundary cells
pub first_round : (cells : List Cell) → IsCells cells → IsRound cells 0 (boundary (neighbour_table cells) (length cells))
first_round cells rules' = record {
  ends = λ i d inside among.
      walk_begins cells rules' d i inside
      ∙ sym (among_filter (has_gap (neighbour_table cells) (length cells)) (length cells) i inside) ∙ among;
  all = λ i d inside least.
      among_filter (has_gap (neighbour_table cells) (length cells)) (length cells) i inside
      ∙ sym (walk_begins cells rules' d i inside) ∙ least.ends;
}

-- before it all cells are kept
pub kept_first : (cells : List Cell) → replicate (length cells) true ≡ map (is_beyond cells 0) cells
kept_first cells = all_true cells
  where
    all_true : (xs : List Cell) → replicate (length xs) true ≡ map (is_beyond cells 0) xs
    all_true [] = refl
    all_true (x ∷ xs) = ap (λ ys. true ∷ ys) (all_true xs)

-- the cells that steps of a cost from the cells so much below it lead to
steps_from : (cells : List Cell) (order : List ℕ) (first end less cost i : ℕ) (ends : ℕ → List ℕ) (d : Cell) → end ≤ length order
    → IsStage cells order first end less cost → IsFrom ends order first end i → IsLastStep cells cost i less ends d
steps_from cells order first end less cost i ends d most stage from =
    let at = stage.each from.place from.least from.most in
    let below = at.1 d in
    record {
      from = get_or order from.place 0;
      before = below.own;
      there = at.0;
      adds = below.is;
      ends_there = below.least.ends;
      leads = from.among;
    }

-- and a last step from a cell of that least cost is among them
among_steps : (cells : List Cell) (order : List ℕ) (first end less cost i : ℕ) (ends : ℕ → List ℕ) (d : Cell) → end ≤ length order
    → IsStage cells order first end less cost → (step : IsLastStep cells cost i less ends d) → IsLeast cells step.before (get_or cells step.from d)
    → IsFrom ends order first end i
among_steps cells order first end less cost i ends d most stage step least =
    let at = stage.all step.from d step.there (record { own = step.before; is = step.adds; least = least }) in
    record { place = at.0; least = at.1; most = at.2; among = ap (λ n. is_among i (ends n)) at.3 ∙ step.leads }

-- walks of a later cost end where axis steps from the cells two below it and diagonal steps from those three below it lead
pub next_round : (cells : List Cell) → IsCells cells → (cost third second first : ℕ) (order : List ℕ) → 1 ≤ cost → first ≤ length order
    → IsStage cells order second first 2 cost → IsStage cells order third second 3 cost
    → IsRound cells cost (axis_ends_from (neighbour_table cells) order second first ++ diagonal_ends_from (neighbour_table cells) order third second)
next_round cells rules' cost third second first order some most two three =
    let t = neighbour_table cells in
    let along = axis_ends_from t order second first in
    let across = diagonal_ends_from t order third second in
    let second_most : second ≤ length order = omega (arith, most, two.rises) in
    let both = λ (i : ℕ). list_any-append (λ index. index == i) along across in
    record {
      ends = λ i d inside among. elim (or_cases (is_among i along) (is_among i across) (sym (both i) ∙ among)) [
        | inl axis ↦
            let step = steps_from cells order second first 2 cost i (axis_ends t) d most two (among_flat (axis_ends t) order second first i axis most) in
            let is : suc (suc step.before) ≡ cost = omega (arith, step.adds) in
            let P : ℕ → Type 0 = λ n. is_walk_end cells n (get_or cells i d) ≡ true in
            subst P is (walk_along cells rules' d step.from i step.before step.there inside step.ends_there step.leads)
        | inr diagonal ↦
            let step = steps_from cells order third second 3 cost i (diagonal_ends t) d second_most three
            (among_flat (diagonal_ends t) order third second i diagonal second_most) in
            let is : suc (suc (suc step.before)) ≡ cost = omega (arith, step.adds) in
            let P : ℕ → Type 0 = λ n. is_walk_end cells n (get_or cells i d) ≡ true in
            subst P is (walk_across cells rules' d step.from i step.before step.there inside step.ends_there step.leads)
      ];
      all = λ i d inside least. both i ∙ elim (last_step cells rules' d i cost inside (omega (arith, some)) least.ends) [
        | inl step ↦ or_left _ _ (flat_among (axis_ends t) order second first i most
            (among_steps cells order second first 2 cost i (axis_ends t) d most two step (least_before_axis cells rules' d i cost inside least step)))
        | inr step ↦ or_right _ _ (flat_among (diagonal_ends t) order third second i second_most
            (among_steps cells order third second 3 cost i (diagonal_ends t) d second_most three step (least_before_diagonal cells rules' d i cost inside least step)))
      ];
    }

-- an empty stage
none_there : (cells : List Cell) (order : List ℕ) (first end less cost own i : ℕ) (d : Cell) → end ≤ first → IsStage cells order first end less cost
    → i < length cells → own + less ≡ cost → IsLeast cells own (get_or cells i d) → ⊥
none_there cells order first end less cost own i d empty stage inside is least =
    let at = stage.all i d inside (record { own = own; is = is; least = least }) in
    omega (arith, at.1, at.2, empty)

-- where no cell has one of the last three costs as its least, no cell has a later one
pub none_later : (cells : List Cell) → IsCells cells → (cost third second first end : ℕ) (order : List ℕ) → 1 ≤ cost → end ≤ third
    → IsStage cells order first end 1 cost → IsStage cells order second first 2 cost → IsStage cells order third second 3 cost
    → (i later : ℕ) (d : Cell) → i < length cells → cost ≤ later → IsLeast cells later (get_or cells i d) → ⊥
none_later cells rules' cost third second first end order some empty one two three i later d there past least =
    within later i later d there past (omega arith) least
  where
    early : (own i : ℕ) (d : Cell) → i < length cells → own < cost → cost ≤ own + 3 → IsLeast cells own (get_or cells i d) → ⊥
    early own i d there before near least = elim (cases_order (own + 1) cost) [
      | inl is ↦ none_there cells order first end 1 cost own i d (omega (arith, empty, two.rises, three.rises)) one there is least
      | inr (inr over) ↦ omega (arith, over, before)
      | inr (inl below) ↦ elim (cases_order (own + 2) cost) [
        | inl is ↦ none_there cells order second first 2 cost own i d (omega (arith, empty, one.rises, three.rises)) two there is least
        | inr (inr over) ↦ omega (arith, over, below)
        | inr (inl below') ↦
            none_there cells order third second 3 cost own i d (omega (arith, empty, one.rises, two.rises)) three there (omega (arith, below', near)) least
      ]
    ]

    within : (fuel i later : ℕ) (d : Cell) → i < length cells → cost ≤ later → later ≤ fuel → IsLeast cells later (get_or cells i d) → ⊥
    within zero i later d there past less least = omega (arith, some, past, less)
    within (suc fuel) i later d there past less least =
        elim (last_step cells rules' d i later there (omega (arith, some, past)) least.ends) [
          | inl step ↦
              let before = least_before_axis cells rules' d i later there least step in
              elim (cases_lt step.before cost) [
                | inl own ↦ early step.before step.from d step.there own (omega (arith, past, step.adds)) before
                | inr rest ↦ within fuel step.from step.before d step.there rest (omega (arith, less, step.adds)) before
              ]
          | inr step ↦
              let before = least_before_diagonal cells rules' d i later there least step in
              elim (cases_lt step.before cost) [
                | inl own ↦ early step.before step.from d step.there own (omega (arith, past, step.adds)) before
                | inr rest ↦ within fuel step.from step.before d step.there rest (omega (arith, less, step.adds)) before
              ]
        ]

-- so that the same cells are kept for each later bound
pub kept_later : (cells : List Cell) (cost bound : ℕ) → cost ≤ bound
    → ((i later : ℕ) (d : Cell) → i < length cells → cost ≤ later → IsLeast cells later (get_or cells i d) → ⊥)
    → map (is_beyond cells cost) cells ≡ map (is_beyond cells bound) cells
kept_later cells cost bound less none =
    ext_get_or false (map (is_beyond cells cost) cells) (map (is_beyond cells bound) cells)
    (length-map cells (is_beyond cells cost) ∙ sym (length-map cells (is_beyond cells bound)))
    (λ i there.
    let inside : i < length cells = omega (arith, there, length-map cells (is_beyond cells cost)) in
    let cell = get_or cells i no_cell in
    get_or-map (is_beyond cells cost) cells i no_cell false inside
    ∙ ap not (same_test (is_ended_below cells cost cell) (is_ended_below cells bound cell)
    (λ h. let found = ended_from cells cost cell h in ended_at cells bound found.cost cell (omega (arith, found.below, less)) found.ends)
    (λ h.
    let found = cheapest cells bound cell h in
    elim (cases_lt found.cost cost) [
      | inl below ↦ ended_at cells cost found.cost cell below found.is.ends
      | inr past ↦ absurd (none i found.cost no_cell inside past found.is)
    ]))
    ∙ sym (get_or-map (is_beyond cells bound) cells i no_cell false inside))

-- no cell costs less than nothing
empty_stage : (cells : List Cell) (order : List ℕ) (less cost : ℕ) → cost < less → IsStage cells order 0 0 less cost
empty_stage cells order less cost below = record {
  rises = omega arith;
  each = λ q least most. absurd (omega (arith, least, most));
  all = λ i d inside own. absurd (omega (arith, own.is, below));
}

-- walks begin at the boundary
pub spread_begins : (cells : List Cell) → IsCells cells → (table : List (List ℕ)) (begun now : Progress) → table ≡ neighbour_table cells
    → begun ≡ record { kept = replicate (length cells) true; order = [] } → now ≡ fold reached begun (boundary table (length table))
    → IsSpread cells now 0 0 0 1
spread_begins cells rules' table begun now is none one =
    let start : Progress = record { kept = replicate (length cells) true; order = [] } in
    let same : boundary table (length table) ≡ boundary (neighbour_table cells) (length cells) =
    ap (λ (t : List (List ℕ)). boundary t (length t)) is ∙ ap (boundary (neighbour_table cells)) (table_length cells) in
    let all : now ≡ fold reached start (boundary (neighbour_table cells) (length cells)) =
    one ∙ ap (λ (p : Progress). fold reached p (boundary table (length table))) none ∙ ap (fold reached start) same in
    let P : Progress → Type 0 = λ p. IsSpread cells p 0 0 0 1 in
    let after = fold reached start (boundary (neighbour_table cells) (length cells)) in
    let zero_one : 0 + 1 ≡ 1 = refl in
    subst P (sym all) (record {
      kept = round_kept cells 0 (boundary (neighbour_table cells) (length cells)) start (first_round cells rules') (kept_first cells);
      last = round_last cells 0 (boundary (neighbour_table cells) (length cells)) start (first_round cells rules') (kept_first cells);
      before_last = empty_stage cells after.order 2 1 (omega arith);
      before_both = empty_stage cells after.order 3 1 (omega arith);
    })

-- and go on from the cells of the last costs
pub spread_goes_on : (cells : List Cell) → IsCells cells → (table : List (List ℕ)) (old now : Progress) (first second third cost : ℕ)
    → table ≡ neighbour_table cells → 1 ≤ cost → IsSpread cells old first second third cost
    → now ≡ after_round table old third second first → IsSpread cells now (length old.order) first second (cost + 1)
spread_goes_on cells rules' table old now first second third cost is some spread across =
    let mid = after_axis_steps table old second first in
    let t = neighbour_table cells in
    let first_most : first ≤ length old.order = spread.last.rises in
    let second_most : second ≤ length old.order = omega (arith, spread.before_last.rises, first_most) in
    let axis = axis_ends_from t old.order second first in
    let diagonal = diagonal_ends_from t old.order third second in
    let reach = reach_all (axis_ends_from table old.order second first) old in
    let begins : slice_range mid.order third second ≡ slice_range old.order third second =
    slice_same old.order mid.order third second second_most reach.grows reach.same in
    let all : now ≡ fold reached old (axis ++ diagonal) =
    across
    ∙ ap (λ (part : List ℕ). fold reached mid (flat_map (diagonal_ends table) part)) begins
    ∙ ap (λ (rows : List (List ℕ)). fold reached (after_axis_steps rows old second first) (diagonal_ends_from rows old.order third second)) is
    ∙ sym (fold-append reached old axis diagonal) in
    let round = next_round cells rules' cost third second first old.order some first_most spread.before_last spread.before_both in
    let P : Progress → Type 0 = λ p. IsSpread cells p (length old.order) first second (cost + 1) in
    subst P (sym all) (record {
      kept = round_kept cells cost (axis ++ diagonal) old round spread.kept;
      last = round_last cells cost (axis ++ diagonal) old round spread.kept;
      before_last = round_before cells cost first (length old.order) 1 (axis ++ diagonal) old (omega arith) spread.last;
      before_both = round_before cells cost second first 2 (axis ++ diagonal) old first_most spread.before_last;
    })

-- where none of the last three costs has a cell, the cells kept are those kept for every later cost
pub spread_ends : (cells : List Cell) → IsCells cells → (now : Progress) (first second third cost bound : ℕ) → 1 ≤ cost → cost ≤ bound
    → length now.order ≤ third → IsSpread cells now first second third cost → now.kept ≡ map (is_beyond cells bound) cells
spread_ends cells rules' now first second third cost bound some most empty spread =
    spread.kept ∙ kept_later cells cost bound most
    (none_later cells rules' cost third second first (length now.order) now.order some empty spread.last spread.before_last spread.before_both)
