-- The strips of a tile by the indices of their cells, and as their cells.
use Rattle.std.proofs.Common.{◌≡◌, ℕ, ◌+◌, ◌-◌, ◌<◌, ◌≤◌, length, List, [], map, take, drop, get_or, ap, ◌∙◌, sym, subst, arith, Option}
use Rattle.std.specs.Prelude.{All, slice_get, slice_range, None, Some, option_and_then, ◌==◌, if◌then◌else◌}
use Rattle.std.specs.List.{range_with_len}
use Rattle.std.proofs.lemmas.List.{length-map, get_or-map, get_or_default, drop-map, take-map, get_or-take, get_or-drop, length-take, length-drop}
use Rattle.std.proofs.lemmas.List.Elements.{All-take, All-drop}
use Rattle.nav_ground.specs.declared.cell.Cell.{Cell}
use Rattle.cell_table.specs.Table.{neighbour}
use Rattle.cell_table.proofs.Tables.{table_at}
use Rattle.mesh_types.specs.declared.region.LabelRun.{LabelRun}
use Rattle.mesh_types.specs.declared.mesh.LevelPair.{LevelPair}
use Rattle.mesh_types.specs.declared.mesh.RimEdge.{RimEdge}
use Rattle.mesh_types.specs.StripPolygons.{some_cell, first_of}
use Rattle.mesh_types.specs.StripLinks.{strip_beyond}
use Rattle.mesh_types.specs.Crossings.{position_of, level_pair}
use Rattle.mesh_types.specs.StripRim.{rim_edge}
use Rattle.mono_regions.specs.Indices.{cell_at, index_runs, AreIndices, owner_of}
use Rattle.mono_regions.proofs.Owners.{run_count, few_firsts}
use Rattle.mono_regions.proofs.RunLaws.{map-map, runs_are, runs_indices}
use Rattle.mono_regions.proofs.Named.{position_of_named}
use Rattle.strip_mesh.specs.declared.tile_strips.TileStrips.{TileStrips}
use Rattle.strip_mesh.specs.Indexed.{AreIndexed, runs_in, run_in}
use Rattle.strip_mesh.specs.Strips.{pair_at}

pub count_is : (strips : TileStrips) → AreIndexed strips → length strips.index.runs ≡ length (runs_in strips)
count_is strips rules' =
    ap length rules'.runs
    ∙ sym (length-map (index_runs strips.free.cells) (map (cell_at strips.free.cells)))
    ∙ ap length (sym (runs_are strips.free.cells))

pub count_few : (strips : TileStrips) → AreIndexed strips → length (runs_in strips) ≤ 2000000
count_few strips rules' =
    omega (arith, count_is strips rules', ap length rules'.runs, run_count strips.free.cells, few_firsts strips.free.cells (length strips.free.cells), rules'.cut.rules.few)

-- the indices of a strip
pub run_cells : (strips : TileStrips) → AreIndexed strips → (s : ℕ) (run : List ℕ) → s < length (runs_in strips) → run ≡ get_or strips.index.runs s []
    → map (cell_at strips.free.cells) run ≡ run_in strips s
run_cells strips rules' s run there is =
    let there' : s < length (index_runs strips.free.cells) = omega (arith, there, count_is strips rules', ap length rules'.runs) in
    ap (map (cell_at strips.free.cells)) (is ∙ ap (λ rs. get_or rs s []) rules'.runs)
    ∙ sym (get_or-map (map (cell_at strips.free.cells)) (index_runs strips.free.cells) s [] [] there')
    ∙ ap (λ rs. get_or rs s []) (sym (runs_are strips.free.cells))

pub run_indices : (strips : TileStrips) → AreIndexed strips → (s : ℕ) (run : List ℕ) → s < length (runs_in strips) → run ≡ get_or strips.index.runs s []
    → AreIndices strips.free.cells run
run_indices strips rules' s run there is =
    let there' : s < length (index_runs strips.free.cells) = omega (arith, there, count_is strips rules', ap length rules'.runs) in
    let same : run ≡ get_or (index_runs strips.free.cells) s [] = is ∙ ap (λ rs. get_or rs s []) rules'.runs in
    subst (AreIndices strips.free.cells) (sym same) (runs_indices strips.free.cells rules'.cut.rules s [] there')

-- the first cell of cells with indices
pub first_is : (cells : List Cell) (run : List ℕ) (own : List Cell) → 0 < length run → map (cell_at cells) run ≡ own → cell_at cells (get_or run 0 0) ≡ first_of own
first_is cells run own some is = sym (get_or-map (cell_at cells) run 0 0 some_cell some) ∙ ap first_of is

-- the strip beyond, by the owners
pub beyond_is : (strips : TileStrips) → AreIndexed strips → (s dir at : ℕ) → dir < 4 → at < length strips.free.cells
    → option_and_then (λ t. if t == s then None else Some t) (slice_get strips.index.owners (neighbour strips.table at dir))
    ≡ strip_beyond (runs_in strips) s dir (cell_at strips.free.cells at)
beyond_is strips rules' s dir at small there =
    ap (λ (o : Option ℕ). option_and_then (λ t. if t == s then None else Some t) o)
    (ap (λ os. slice_get os (neighbour strips.table at dir)) rules'.owners
    ∙ ap (slice_get (map (owner_of strips.free.cells) (range_with_len 0 (length strips.free.cells))))
    (ap (λ t. neighbour t at dir) rules'.table ∙ table_at strips.free.cells at dir some_cell there small)
    ∙ sym (position_of_named strips.free.cells rules'.cut at dir small))

-- a part of a strip
pub part_cells : (cells : List Cell) (run part : List ℕ) (own : List Cell) (first end : ℕ) → map (cell_at cells) run ≡ own → part ≡ slice_range run first end
    → map (cell_at cells) part ≡ slice_range own first end
part_cells cells run part own first end are is =
    ap (map (cell_at cells)) is
    ∙ sym (take-map (cell_at cells) (end - first) (drop first run))
    ∙ ap (take (end - first)) (sym (drop-map (cell_at cells) first run))
    ∙ ap (λ xs. slice_range xs first end) are

pub part_first : (cells : List Cell) (run part : List ℕ) (own : List Cell) (first end : ℕ) → map (cell_at cells) run ≡ own → part ≡ slice_range run first end
    → first < end → end ≤ length run → cell_at cells (get_or part 0 0) ≡ get_or own first some_cell
part_first cells run part own first end are is less there =
    ap (λ p. cell_at cells (get_or p 0 0)) is
    ∙ ap (cell_at cells) (get_or-take (end - first) (drop first run) 0 0 (omega (arith, less)) ∙ get_or-drop first run 0 0 ∙ ap (λ n. get_or run n 0) {x = first + 0} {y = first} (omega arith))
    ∙ sym (get_or-map (cell_at cells) run first 0 some_cell (omega (arith, less, there)))
    ∙ ap (λ xs. get_or xs first some_cell) are

pub part_indices : (cells : List Cell) (run part : List ℕ) (first end : ℕ) → AreIndices cells run → part ≡ slice_range run first end
    → first < end → end ≤ length run → AreIndices cells part
part_indices cells run part first end indices is less there =
    let many : length part ≡ end - first = ap length is ∙ length-take (end - first) (drop first run) ∙ omega (arith, length-drop first run, there) in
    let P : List ℕ → Type 0 = All (λ i. i < length cells) in
    record {
      some = omega (arith, many, less);
      few = omega (arith, many, there, indices.few);
      each = subst P (sym is) (All-take (λ i. i < length cells) (end - first) (drop first run) (All-drop (λ i. i < length cells) first run indices.each));
    }

pub run_length : (cells : List Cell) (run : List ℕ) (own : List Cell) → map (cell_at cells) run ≡ own → length run ≡ length own
run_length cells run own are = sym (length-map run (cell_at cells)) ∙ ap length are

-- an entry of the rim from its position and its pairs
pub entry_is : (strip edge : ℕ) (cells : List Cell) (part_indices : List ℕ) (own : List Cell) (part : LabelRun) (d : Cell) (first : ℕ) (pairs : List LevelPair)
    → 0 < length part_indices → All (λ i. i < length cells) part_indices
    → first ≡ position_of (3 - edge) (get_or cells (get_or part_indices 0 0) d).at
    → cell_at cells (get_or part_indices 0 0) ≡ get_or own part.first some_cell
    → pairs ≡ map (pair_at cells (3 - edge)) part_indices
    → map (cell_at cells) part_indices ≡ slice_range own part.first (part.last + 1)
    → ◌≡◌ {A = RimEdge} (record { poly = strip; edge = edge; side = 3 - edge; first = first; pairs = pairs }) (rim_edge strip edge own part)
entry_is strip edge cells part_indices own part d first pairs some each first_at first_cell pairs_are part_are =
    ap (λ (n : ℕ). entry n pairs)
    (first_at ∙ ap (λ (c : Cell). position_of (3 - edge) c.at) (get_or_default cells (get_or part_indices 0 0) d some_cell (each 0 0 some) ∙ first_cell))
    ∙ ap (λ (ps : List LevelPair). entry (position_of (3 - edge) (get_or own part.first some_cell).at) ps)
    (pairs_are ∙ sym (map-map (level_pair (3 - edge)) (cell_at cells) part_indices) ∙ ap (map (level_pair (3 - edge))) part_are)
  where
    entry : ℕ → List LevelPair → RimEdge
    entry n ps = record { poly = strip; edge = edge; side = 3 - edge; first = n; pairs = ps }
