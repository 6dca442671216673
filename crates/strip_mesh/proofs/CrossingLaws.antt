-- Each free cell with a kept neighbour across a side of the tile is listed once by the rim.
use Rattle.std.proofs.Common.{◌≡◌, ℕ, ◌+◌, ◌-◌, ◌<◌, ◌≤◌, true, List, [], map, length, get_or, ap, ◌∙◌, sym, refl, subst, arith, Option}
use Rattle.std.specs.Prelude.{All, Some, None, Contains, slice_get}
use Rattle.std.specs.List.{between, flat_map, range_with_len}
use Rattle.std.proofs.lemmas.List.{get_or_default, get_or-map, length-map}
use Rattle.std.proofs.lemmas.List.Elements.{All-contains}
use Rattle.std.proofs.lemmas.Option.{slice_get-get_or}
use Rattle.nav_ground.specs.declared.setting.Setting.{Setting}
use Rattle.nav_ground.specs.declared.cell.Cell.{Cell}
use Rattle.nav_ground.specs.declared.cell.FreeLayer.{FreeLayer}
use Rattle.nav_ground.specs.declared.cell.Window.{Window}
use Rattle.nav_ground.specs.Cells.{IsCut, IsInTile}
use Rattle.nav_ground.specs.Tiling.{tile_window, IsInWindow}
use Rattle.mesh_types.specs.declared.region.LabelRun.{LabelRun}
use Rattle.mesh_types.specs.declared.mesh.LevelPair.{LevelPair}
use Rattle.mesh_types.specs.declared.mesh.RimEdge.{RimEdge}
use Rattle.mesh_types.specs.Passages.{ListsCrossings, is_listing}
use Rattle.mesh_types.specs.Runs.{label_if, runs_of}
use Rattle.mesh_types.specs.StripPolygons.{some_cell, strip_runs}
use Rattle.mesh_types.specs.StripRim.{strip_rim, strip_rim_over, rim_edge}
use Rattle.mesh_types.specs.StripMeshes.{strip_mesh_of}
use Rattle.mesh_types.specs.Crossings.{level_pair, is_crossing, position_of}
use Rattle.mesh_types.specs.StripLinks.{outside_of}
use Rattle.mesh_types.proofs.Gathered.{gathered_held, Contains-map}
use Rattle.mesh_types.proofs.Listings.{entry_lists, listed_once}
use Rattle.mesh_types.proofs.MaximalRuns.{run_found}
use Rattle.mesh_types.proofs.RunLaws.{IsRunOf, runs_are_runs, in_run, part_length}
use Rattle.mono_regions.specs.Indices.{owner_of}
use Rattle.strip_mesh.proofs.CoverLaws.{stands_in}
use Rattle.strip_mesh.proofs.RimLaws.{part_at_side}
use Rattle.strip_mesh.proofs.RimTotals.{crossings, positions_rise, named_once}
use Rattle.strip_mesh.proofs.RowLaws.{IsRow, row_is, own_all}

-- the entry for a part of a strip lists each cell of the part
part_lists : (window : Window) (own : List Cell) (s edge k : ℕ) (part : LabelRun) → edge < 4 → IsRow own
    → All (λ (cell : Cell). IsInWindow window cell.at.x cell.at.z) own → IsRunOf (crossings window edge own) part → part.first ≤ k → k ≤ part.last
    → is_listing (outside_of edge) (get_or own k some_cell) (rim_edge s edge own part) ≡ true
part_lists window own s edge k part small row each run low high =
    let side : ℕ = outside_of edge in
    let n : ℕ = k - part.first in
    let cells : List Cell = between part.first (part.last + 1) own in
    let ends : part.last < length own = omega (arith, run.inside, length-map own (λ (cell : Cell). label_if (is_crossing window side cell))) in
    let step : part.first + n ≡ k = omega (arith, low) in
    let beside = part_at_side window side own part run part.first (omega arith) run.order (omega (arith, run.order, ends)) in
    let beside' = part_at_side window side own part run (part.first + n) (omega arith) (omega (arith, step, high)) (omega (arith, step, high, ends)) in
    let rises : position_of side (get_or own k some_cell).at ≡ position_of side (get_or own part.first some_cell).at + n =
    ap (λ m. position_of side (get_or own m some_cell).at) (sym step)
    ∙ positions_rise edge window own part.first n small row each (omega (arith, step, high, ends)) beside beside' in
    let n-in : n < length cells = omega (arith, step, high, part_length own part.first part.last run.order ends) in
    let pairs : List LevelPair = map (level_pair side) cells in
    let pair : get_or pairs n (level_pair side some_cell) ≡ level_pair side (get_or own k some_cell) =
    get_or-map (level_pair side) cells n some_cell (level_pair side some_cell) n-in
    ∙ ap (level_pair side) (in_run own part.first part.last n some_cell (omega (arith, step, high)) ∙ ap (λ m. get_or own m some_cell) step) in
    entry_lists side (get_or own k some_cell) (rim_edge s edge own part) refl (omega (arith, rises))
    (ap (slice_get pairs) (omega (arith, rises)) ∙ slice_get-get_or pairs n (level_pair side some_cell) (omega (arith, n-in, length-map cells (level_pair side)))
    ∙ ap (λ (p : LevelPair). Some p) pair)

pub strips_list : (setting : Setting) (free : FreeLayer) → IsCut free.cells → IsInTile setting free.tile free.cells
    → ListsCrossings setting (strip_mesh_of setting free)
unfolding strip_mesh_of
strips_list setting free cut in_tile side small i d inside crossing =
    let window : Window = tile_window setting free.tile in
    let runs : List (List Cell) = strip_runs free.cells in
    let cell : Cell = get_or free.cells i d in
    let at = stands_in free.cells cut i inside in
    let s : ℕ = owner_of free.cells i in
    let own : List Cell = get_or runs s [] in
    let k : ℕ = at.place in
    let cell_is : get_or own k some_cell ≡ cell = at.is some_cell ∙ get_or_default free.cells i some_cell d inside in
    let edge : ℕ = outside_of side in
    let outside : outside_of edge ≡ side = omega (arith, small) in
    let edge-in : edge < 4 = omega arith in
    let f : Cell → Option ℕ = λ (cell : Cell). label_if (is_crossing window (outside_of edge) cell) in
    let crosses : is_crossing window (outside_of edge) (get_or own k some_cell) ≡ true =
    ap (λ (c : Cell). is_crossing window (outside_of edge) c) cell_is ∙ ap (λ d. is_crossing window d cell) outside ∙ crossing in
    let label : get_or (crossings window edge own) k None ≡ Some 0 = get_or-map f own k some_cell None at.inside ∙ ap label_if crosses in
    let found = run_found (crossings window edge own) k 0 (omega (arith, at.inside, length-map own f)) label in
    let P : Cell → Type 0 = λ cell. IsInWindow window cell.at.x cell.at.z in
    let run = All-contains (IsRunOf (crossings window edge own)) (runs_of (crossings window edge own)) found.run (runs_are_runs (crossings window edge own)) found.listed in
    let lists = part_lists window own s edge k found.run edge-in (row_is free.cells cut s at.there) (own_all free.cells P cut.rules in_tile.inside s at.there) run
    found.first found.last in
    let entry : RimEdge = rim_edge s edge own found.run in
    let Q : ℕ → Cell → Type 0 = λ n c. is_listing n c entry ≡ true in
    let over : ℕ → List RimEdge = λ s. flat_map (strip_rim_over window runs s) (range_with_len 0 4) in
    let held : Contains (strip_rim window runs) entry =
    gathered_held over entry 0 (length runs) s (omega arith) (omega (arith, at.there))
    (gathered_held (strip_rim_over window runs s) entry 0 4 edge (omega arith) (omega (arith, edge-in))
    (Contains-map (rim_edge s edge own) (runs_of (crossings window edge own)) found.run found.listed)) in
    listed_once (strip_rim window runs) side cell (named_once setting free side (position_of side cell.at) cell.at.level small cut in_tile) entry held
    (subst (λ n. Q n cell) outside (subst (Q (outside_of edge)) cell_is lists))
