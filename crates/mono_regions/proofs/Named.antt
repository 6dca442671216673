-- The strip that holds the cell that a cell names.
use Rattle.std.proofs.Common.{◌≡◌, ℕ, ◌<◌, ◌≤◌, true, false, length, List, [], ◌∷◌, map, get_or, ap, ◌∙◌, sym, refl, subst, arith, inl, inr}
use Rattle.std.specs.Prelude.{◌==◌, ◌||◌, nat_lt, All, Some, None, slice_get}
use Rattle.std.specs.List.{position, position_or_len, range_with_len}
use Rattle.std.proofs.lemmas.Bool.{cases_lt, lt-ltb, le-ltb, cond-true, cond-false, eq-eqb, eqb-true}
use Rattle.std.proofs.lemmas.List.{length-map}
use Rattle.std.proofs.lemmas.List.Elements.{All-head, All-tail}
use Rattle.std.proofs.lemmas.List.FromFn.{get_or-map-range_with_len, length-map-range_with_len}
use Rattle.std.proofs.lemmas.List.Sums.{passes_at_first, fails_before_first}
use Rattle.std.proofs.lemmas.Option.{slice_get-get_or, slice_get_past}
use Rattle.nav_ground.specs.declared.cell.Cell.{Cell}
use Rattle.nav_ground.specs.Cells.{IsCells, IsCut, is_naming}
use Rattle.nav_ground.proofs.FreeLayers.{names_one}
use Rattle.cell_table.specs.Table.{index_named}
use Rattle.cell_table.proofs.Places.{same_test}
use Rattle.cell_table.proofs.Tables.{one_index}
use Rattle.mesh_types.specs.StripPolygons.{some_cell, strip_runs}
use Rattle.mesh_types.specs.StripLinks.{holds_named}
use Rattle.mono_regions.specs.Indices.{cell_at, index_runs, has_index, owner_of}
use Rattle.mono_regions.proofs.Found.{position_none}
use Rattle.mono_regions.proofs.Owners.{owner_there, position_map}
use Rattle.mono_regions.proofs.RunLaws.{runs_indices, runs_are}

-- the cell that is named is the one with the index named
named_is : (cells : List Cell) → IsCells cells → (i dir j : ℕ) → dir < 4 → j < length cells → index_named cells (cell_at cells i) dir < length cells
    → is_naming dir (cell_at cells i) (cell_at cells j).at ≡ (j == index_named cells (cell_at cells i) dir)
named_is cells rules' i dir j small there inside =
    let n : ℕ = index_named cells (cell_at cells i) dir in
    let named = passes_at_first (λ (other : Cell). is_naming dir (cell_at cells i) other.at) cells some_cell inside in
    let P : ℕ → Type 0 = λ k. is_naming dir (cell_at cells i) (cell_at cells k).at ≡ true in
    same_test _ _
    (λ h. eq-eqb j n (one_index cells rules' j n some_cell there inside (names_one dir (cell_at cells i) _ _ small h named)))
    (λ h. subst P (sym (eqb-true j n h)) named)

-- so the cells at indices hold it where the index named is among them
pub held_is : (cells : List Cell) → IsCells cells → (i dir : ℕ) → dir < 4 → index_named cells (cell_at cells i) dir < length cells
    → (run : List ℕ) → All (λ j. j < length cells) run
    → holds_named dir (cell_at cells i) (map (cell_at cells) run) ≡ has_index (index_named cells (cell_at cells i) dir) run
held_is cells rules' i dir small inside [] each = refl
held_is cells rules' i dir small inside (j ∷ run) each =
    let here = named_is cells rules' i dir j small (All-head (λ j. j < length cells) j run each) inside in
    let rest = held_is cells rules' i dir small inside run (All-tail (λ j. j < length cells) j run each) in
    ap (λ b. b || holds_named dir (cell_at cells i) (map (cell_at cells) run)) here
    ∙ ap (λ b. (j == index_named cells (cell_at cells i) dir) || b) rest

pub held_not : (cells : List Cell) (i dir : ℕ) → length cells ≤ index_named cells (cell_at cells i) dir
    → (run : List ℕ) → All (λ j. j < length cells) run
    → holds_named dir (cell_at cells i) (map (cell_at cells) run) ≡ false
held_not cells i dir past [] each = refl
held_not cells i dir past (j ∷ run) each =
    let there = All-head (λ j. j < length cells) j run each in
    let here = fails_before_first (λ (other : Cell). is_naming dir (cell_at cells i) other.at) cells j some_cell (omega (arith, past, there)) in
    let rest = held_not cells i dir past run (All-tail (λ j. j < length cells) j run each) in
    ap (λ b. b || holds_named dir (cell_at cells i) (map (cell_at cells) run)) here ∙ rest

-- the strip that holds the cell that a cell names in a direction is the one of the index named
pub position_of_named : (cells : List Cell) → IsCut cells → (i dir : ℕ) → dir < 4
    → position (holds_named dir (cell_at cells i)) (strip_runs cells)
    ≡ slice_get (map (owner_of cells) (range_with_len 0 (length cells))) (index_named cells (cell_at cells i) dir)
position_of_named cells cut i dir small =
    let n : ℕ = index_named cells (cell_at cells i) dir in
    let runs : List (List ℕ) = index_runs cells in
    let owners : List ℕ = map (owner_of cells) (range_with_len 0 (length cells)) in
    let many : length owners ≡ length cells = length-map-range_with_len (owner_of cells) 0 (length cells) in
    let count : length (strip_runs cells) ≡ length runs = ap length (runs_are cells) ∙ length-map runs (map (cell_at cells)) in
    let indices = runs_indices cells cut.rules in
    elim (cases_lt n (length cells)) [
      | inl inside ↦
          let at : position_or_len (holds_named dir (cell_at cells i)) (strip_runs cells) ≡ owner_of cells n =
          ap (position_or_len (holds_named dir (cell_at cells i))) (runs_are cells)
          ∙ position_map (holds_named dir (cell_at cells i)) (has_index n) (map (cell_at cells)) runs
          (λ k d there. held_is cells cut.rules i dir small inside (get_or runs k d) (indices k d there).each) in
          let less : position_or_len (holds_named dir (cell_at cells i)) (strip_runs cells) < length (strip_runs cells) =
          omega (arith, at, count, owner_there cells cut n inside) in
          cond-true (nat_lt (position_or_len (holds_named dir (cell_at cells i)) (strip_runs cells)) (length (strip_runs cells))) (Some (position_or_len (holds_named dir (cell_at cells i)) (strip_runs cells))) None (lt-ltb _ _ less)
          ∙ ap (λ (s : ℕ). Some s) (at ∙ sym (get_or-map-range_with_len (owner_of cells) 0 (length cells) n n 0 inside (omega arith)))
          ∙ sym (slice_get-get_or owners n 0 (omega (arith, inside, many)))
      | inr past ↦
          let at : position_or_len (holds_named dir (cell_at cells i)) (strip_runs cells) ≡ length (strip_runs cells) =
          ap (position_or_len (holds_named dir (cell_at cells i))) (runs_are cells)
          ∙ position_map (holds_named dir (cell_at cells i)) (λ run. false) (map (cell_at cells)) runs
          (λ k d there. held_not cells i dir past (get_or runs k d) (indices k d there).each)
          ∙ position_none (λ run. false) runs [] (λ k there. refl) ∙ sym count in
          cond-false (nat_lt (position_or_len (holds_named dir (cell_at cells i)) (strip_runs cells)) (length (strip_runs cells))) (Some (position_or_len (holds_named dir (cell_at cells i)) (strip_runs cells))) None (le-ltb _ _ (omega (arith, at)))
          ∙ sym (slice_get_past owners n (omega (arith, past, many)))
    ]
