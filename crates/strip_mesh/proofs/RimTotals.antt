-- What the rim of a tile has along a side: no more positions than there are free cells, and each position and level at most once.
use Rattle.std.proofs.Common.{◌≡◌, ℕ, zero, suc, ◌+◌, ◌-◌, ◌<◌, ◌≤◌, Bool, true, false, cond, List, [], map, length, get_or, ap, ◌∙◌, sym, subst, arith, Option, refl}
use Rattle.std.specs.Prelude.{All, ◌==◌}
use Rattle.std.specs.List.{sum_by, range_with_len, flat_map, between}
use Rattle.std.proofs.lemmas.Bool.{and_from, eq-eqb, eqb-true}
use Rattle.std.proofs.lemmas.List.{get_or-map, length-map, get_or-take, get_or-drop}
use Rattle.std.proofs.lemmas.List.Sums.{get_or-le-sum_by}
use Rattle.nav_ground.specs.declared.setting.Setting.{Setting}
use Rattle.nav_ground.specs.declared.cell.Cell.{Cell}
use Rattle.nav_ground.specs.declared.cell.FreeLayer.{FreeLayer}
use Rattle.nav_ground.specs.declared.cell.Window.{Window}
use Rattle.nav_ground.specs.Cells.{IsCut, IsInTile}
use Rattle.nav_ground.specs.Tiling.{tile_window, IsInWindow}
use Rattle.mesh_types.specs.declared.region.LabelRun.{LabelRun}
use Rattle.mesh_types.specs.declared.mesh.LevelPair.{LevelPair}
use Rattle.mesh_types.specs.declared.mesh.RimEdge.{RimEdge}
use Rattle.mesh_types.specs.Runs.{runs_of, label_if}
use Rattle.mesh_types.specs.BorderLinks.{along_side}
use Rattle.mesh_types.specs.StripPolygons.{some_cell, strip_runs}
use Rattle.mesh_types.specs.StripRim.{strip_rim, strip_rim_over, rim_edge}
use Rattle.mesh_types.specs.Crossings.{level_pair, is_crossing, is_at_side, position_of}
use Rattle.mesh_types.specs.StripLinks.{outside_of}
use Rattle.mesh_types.proofs.LinkTotals.{is_named, named_pair}
use Rattle.mesh_types.proofs.RunLaws.{IsRunOf, runs_are_runs, part_length}
use Rattle.mesh_types.proofs.RunTotals.{runs_within}
use Rattle.mesh_types.proofs.SidePlaces.{at_most, squeezed, is_placed, placed_once}
use Rattle.mesh_types.proofs.Totals.{sum_by-map, sum_by-flat_map, sum_by-filter, sum_by-one, sum_by-zero, sum_by-no_more, sum_by-range_no_more, sum_by-numbers, once_in_range}
use Rattle.strip_mesh.proofs.CellTotals.{strips_within}
use Rattle.strip_mesh.proofs.RimLaws.{part_at_side}
use Rattle.strip_mesh.proofs.RowLaws.{IsRow, row_is, own_all}

-- the labels of a strip's cells for an edge of it along a side
abbrev pub crossings : Window → ℕ → List Cell → List (Option ℕ)
crossings window edge own = map (λ (cell : Cell). label_if (is_crossing window (outside_of edge) cell)) own

-- an entry for a part of a strip has no more than the part's cells
abbrev IsWithin : Window → List Cell → ℕ → (RimEdge → ℕ) → (Cell → ℕ) → Type 0
IsWithin window cells side w g =
    (s edge : ℕ) (part : LabelRun) → s < length (strip_runs cells) → edge < 4 → outside_of edge ≡ side
    → IsRunOf (crossings window edge (get_or (strip_runs cells) s [])) part
    → w (rim_edge s edge (get_or (strip_runs cells) s []) part) ≤ sum_by g (between part.first (part.last + 1) (get_or (strip_runs cells) s []))

-- so the entries along a side have together no more than all cells: along each of its edges,
edge_within : (window : Window) (cells : List Cell) (side s edge : ℕ) (w : RimEdge → ℕ) (g : Cell → ℕ) → IsWithin window cells side w g
    → s < length (strip_runs cells) → edge < 4
    → sum_by (λ (entry : RimEdge). cond (entry.side == side) (w entry) 0) (strip_rim_over window (strip_runs cells) s edge)
    ≤ cond (outside_of edge == side) (sum_by g (get_or (strip_runs cells) s [])) 0
edge_within window cells side s edge w g within there small =
    let made = sum_by-map (λ (entry : RimEdge). cond (entry.side == side) (w entry) 0) (rim_edge s edge own) parts in
    omega (arith, made, by_case (outside_of edge == side) refl)
  where
    own : List Cell
    own = get_or (strip_runs cells) s []

    parts : List LabelRun
    parts = runs_of (crossings window edge own)

    by_case : (b : Bool) → (outside_of edge == side) ≡ b → sum_by (λ (part : LabelRun). cond b (w (rim_edge s edge own part)) 0) parts ≤ cond b (sum_by g own) 0
    by_case true is =
        let each = sum_by-no_more (λ (part : LabelRun). w (rim_edge s edge own part)) (λ (part : LabelRun). sum_by g (between part.first (part.last + 1) own)) parts
        (λ k d inside. within s edge (get_or parts k d) there small (eqb-true _ side is) (runs_are_runs (crossings window edge own) k d inside)) in
        omega (arith, each, runs_within g own (crossings window edge own))
    by_case false is = omega (arith, sum_by-zero parts)

-- along the one edge of a strip on the side,
strip_within : (window : Window) (cells : List Cell) (side s : ℕ) (w : RimEdge → ℕ) (g : Cell → ℕ) → IsWithin window cells side w g
    → s < length (strip_runs cells)
    → sum_by (λ (entry : RimEdge). cond (entry.side == side) (w entry) 0) (flat_map (strip_rim_over window (strip_runs cells) s) (range_with_len 0 4))
    ≤ sum_by g (get_or (strip_runs cells) s [])
strip_within window cells side s w g within there =
    let v : RimEdge → ℕ = λ (entry : RimEdge). cond (entry.side == side) (w entry) 0 in
    let whole : ℕ = sum_by g (get_or (strip_runs cells) s []) in
    let parts = sum_by-flat_map v (strip_rim_over window (strip_runs cells) s) (range_with_len 0 4) in
    let each = sum_by-range_no_more (λ edge. sum_by v (strip_rim_over window (strip_runs cells) s edge)) (λ edge. cond (outside_of edge == side) whole 0) 0 4
    (λ edge least most. edge_within window cells side s edge w g within there (omega (arith, most))) in
    let one = once_in_range (λ edge. outside_of edge == side) whole 0 4
    (λ i j less below is_i is_j. omega (arith, less, below, eqb-true (outside_of i) side is_i, eqb-true (outside_of j) side is_j)) in
    omega (arith, parts, each, one)

-- and in all strips
rim_within : (window : Window) (cells : List Cell) (side : ℕ) (w : RimEdge → ℕ) (g : Cell → ℕ) → IsCut cells → IsWithin window cells side w g
    → sum_by w (along_side side (strip_rim window (strip_runs cells))) ≤ sum_by g cells
rim_within window cells side w g cut within =
    let runs : List (List Cell) = strip_runs cells in
    let v : RimEdge → ℕ = λ (entry : RimEdge). cond (entry.side == side) (w entry) 0 in
    let over : ℕ → List RimEdge = λ s. flat_map (strip_rim_over window runs s) (range_with_len 0 4) in
    omega (
      arith,
      sum_by-filter w (λ (entry : RimEdge). entry.side == side) (strip_rim window runs),
      sum_by-flat_map v over (range_with_len 0 (length runs)),
      sum_by-range_no_more (λ s. sum_by v (over s)) (λ s. sum_by g (get_or runs s [])) 0 (length runs)
          (λ s least most. strip_within window cells side s w g within (omega (arith, most))),
      sum_by-numbers (λ own. sum_by g own) runs [],
      strips_within cells cut g,
    )

-- the entries along a side have together no more positions than there are cells
pub few_positions : (window : Window) (cells : List Cell) (side : ℕ) → IsCut cells
    → sum_by (λ (entry : RimEdge). length entry.pairs) (along_side side (strip_rim window (strip_runs cells))) ≤ length cells
few_positions window cells side cut =
    let within = rim_within window cells side (λ (entry : RimEdge). length entry.pairs) (λ cell. 1) cut
    (λ s edge part there small on run.
    let own : List Cell = get_or (strip_runs cells) s [] in
    let cells_of_part : List Cell = between part.first (part.last + 1) own in
    omega (arith, length-map cells_of_part (level_pair (outside_of edge)), sum_by-one cells_of_part)) in
    omega (arith, within, sum_by-one cells)

-- positions rise by one along a part of a strip beside a side
pub positions_rise : (edge : ℕ) (window : Window) (own : List Cell) (first k : ℕ) → edge < 4 → IsRow own
    → All (λ (cell : Cell). IsInWindow window cell.at.x cell.at.z) own → first + k < length own
    → is_at_side window (outside_of edge) (get_or own first some_cell).at ≡ true → is_at_side window (outside_of edge) (get_or own (first + k) some_cell).at ≡ true
    → position_of (outside_of edge) (get_or own (first + k) some_cell).at ≡ position_of (outside_of edge) (get_or own first some_cell).at + k
positions_rise zero window own first k small row each inside f l =
    omega (arith, row.x first some_cell (omega (arith, inside)), row.x (first + k) some_cell inside)
positions_rise (suc zero) window own first k small row each inside f l =
    let first-in : first < length own = omega (arith, inside) in
    let close = squeezed window.x1 (get_or own first some_cell).at.x (get_or own (first + k) some_cell).at.x (at_most _ _ f) (each (first + k) some_cell inside).x_most in
    omega (arith, close, row.x first some_cell first-in, row.x (first + k) some_cell inside, row.z first some_cell first-in, row.z (first + k) some_cell inside)
positions_rise (suc (suc zero)) window own first k small row each inside f l =
    omega (arith, row.x first some_cell (omega (arith, inside)), row.x (first + k) some_cell inside)
positions_rise (suc (suc (suc zero))) window own first k small row each inside f l =
    let first-in : first < length own = omega (arith, inside) in
    let close = squeezed window.x0 (get_or own first some_cell).at.x (get_or own (first + k) some_cell).at.x (each first some_cell first-in).x_least (at_most _ _ l) in
    omega (arith, close, row.x first some_cell first-in, row.x (first + k) some_cell inside, row.z first some_cell first-in, row.z (first + k) some_cell inside)
positions_rise (suc (suc (suc (suc edge)))) window own first k small row each inside f l = absurd (omega (arith, small))

-- a position and level that an entry has is that of a cell of its part
placed_in_part : (window : Window) (own : List Cell) (s edge position level : ℕ) (part : LabelRun) → edge < 4 → IsRow own
    → All (λ (cell : Cell). IsInWindow window cell.at.x cell.at.z) own → IsRunOf (crossings window edge own) part
    → cond (is_named (rim_edge s edge own part) position level) 1 0
    ≤ sum_by (λ (cell : Cell). cond (is_placed window (outside_of edge) position level cell) 1 0) (between part.first (part.last + 1) own)
placed_in_part window own s edge position level part small row each run = by_case (is_named entry position level) refl
  where
    side : ℕ
    side = outside_of edge

    entry : RimEdge
    entry = rim_edge s edge own part

    cells : List Cell
    cells = between part.first (part.last + 1) own

    g : Cell → ℕ
    g cell = cond (is_placed window side position level cell) 1 0

    ends : part.last < length own
    ends = omega (arith, run.inside, length-map own (λ (cell : Cell). label_if (is_crossing window side cell)))

    by_case : (b : Bool) → is_named entry position level ≡ b → cond b 1 0 ≤ sum_by g cells
    by_case false is = omega arith
    by_case true is =
        let pair = named_pair entry position level is in
        let k : ℕ = position - entry.first in
        let k-in : k < length cells = omega (arith, pair.inside, length-map cells (level_pair side)) in
        let inside : part.first + k ≤ part.last = omega (arith, k-in, part_length own part.first part.last run.order ends) in
        let cell : Cell = get_or cells k some_cell in
        let at : cell ≡ get_or own (part.first + k) some_cell =
        get_or-take (part.last + 1 - part.first) _ k some_cell (omega (arith, inside)) ∙ get_or-drop part.first own k some_cell in
        let level_is : cell.at.level ≡ level =
        ap (λ (p : LevelPair). p.own) (sym (get_or-map (level_pair side) cells k some_cell (level_pair side some_cell) k-in)) ∙ pair.own (level_pair side some_cell) in
        let beside = part_at_side window side own part run part.first (omega arith) run.order (omega (arith, run.order, ends)) in
        let beside' = part_at_side window side own part run (part.first + k) (omega arith) inside (omega (arith, inside, ends)) in
        let rises = positions_rise edge window own part.first k small row each (omega (arith, inside, ends)) beside beside' in
        let position_is : position_of side cell.at ≡ position =
        ap (λ (c : Cell). position_of side c.at) at ∙ rises ∙ omega (arith, pair.begins) in
        let placed : is_placed window side position level cell ≡ true =
        and_from _ _ (ap (λ (c : Cell). is_at_side window side c.at) at ∙ beside') (and_from _ _ (eq-eqb _ position position_is) (eq-eqb _ level level_is)) in
        let one : g cell ≡ 1 = ap (λ b. cond b 1 0) placed in
        omega (arith, one, get_or-le-sum_by g cells k some_cell k-in)

-- so at most one entry along a side has a level of its own at a position
pub named_once : (setting : Setting) (free : FreeLayer) (side position level : ℕ) → side < 4 → IsCut free.cells → IsInTile setting free.tile free.cells
    → sum_by (λ (entry : RimEdge). cond (is_named entry position level) 1 0)
    (along_side side (strip_rim (tile_window setting free.tile) (strip_runs free.cells))) ≤ 1
named_once setting free side position level small cut in_tile =
    let window : Window = tile_window setting free.tile in
    let P : Cell → Type 0 = λ cell. IsInWindow window cell.at.x cell.at.z in
    let within = rim_within window free.cells side (λ (entry : RimEdge). cond (is_named entry position level) 1 0)
    (λ (cell : Cell). cond (is_placed window side position level cell) 1 0) cut
    (λ s edge part there small' on run.
    let own : List Cell = get_or (strip_runs free.cells) s [] in
    let Q : ℕ → Type 0 = λ n. cond (is_named (rim_edge s edge own part) position level) 1 0
    ≤ sum_by (λ (cell : Cell). cond (is_placed window n position level cell) 1 0) (between part.first (part.last + 1) own) in
    subst Q on (placed_in_part window own s edge position level part small' (row_is free.cells cut s there) (own_all free.cells P cut.rules in_tile.inside s there) run)) in
    omega (arith, within, placed_once window free.cells side position level small cut in_tile.inside)
