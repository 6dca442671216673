-- Strips by the indices of their cells.
use Rattle.std.specs.Prelude.{◌≡◌, ℕ, zero, suc, ◌+◌, ◌-◌, ◌<◌, ◌≤◌, nat_lt, ◌==◌, ◌&&◌, Bool, if◌then◌else◌, List, [], ◌∷◌, length, map, filter, slice_index, slice_index_or, All}
use Rattle.std.specs.List.{position_or_len, range_with_len, list_any}
use Rattle.nav_ground.specs.declared.cell.Cell.{Cell}
use Rattle.nav_ground.specs.Cells.{is_naming}
use Rattle.mesh_types.specs.declared.region.Strip.{Strip}
use Rattle.mesh_types.specs.Strips.{begins_strip}
use Rattle.mesh_types.specs.StripPolygons.{some_cell}

-- the cell at an index
abbrev pub cell_at : List Cell → ℕ → Cell
cell_at cells i = slice_index_or cells i some_cell

-- the index of the cell of the same area that a cell names in a direction, or how many cells there are
abbrev pub along : List Cell → ℕ → ℕ → ℕ
along cells dir i = position_or_len (λ (other : Cell). is_naming dir (cell_at cells i) other.at && other.area == (cell_at cells i).area) cells

-- the index of a cell and of those that follow it one after the other, at most so many
unfoldable pub indices_from : List Cell → ℕ → ℕ → List ℕ
indices_from cells zero i = i ∷ []
indices_from cells (suc most) i = i ∷ (if nat_lt (along cells 2 i) (length cells) then indices_from cells most (along cells 2 i) else [])

-- the indices of the cells of the strip that begins at a cell
abbrev pub run_at : List Cell → ℕ → List ℕ
run_at cells i = indices_from cells (length cells) i

-- a strip begins at the cell with an index
abbrev pub begins_at : List Cell → ℕ → Bool
begins_at cells i = begins_strip cells (cell_at cells i)

-- the indices of the first cells of strips, among the first so many cells
abbrev pub firsts_below : List Cell → ℕ → List ℕ
firsts_below cells n = filter (begins_at cells) (range_with_len 0 n)

-- the strips by the indices of their cells, in order
unfoldable pub index_runs : List Cell → List (List ℕ)
index_runs cells = map (run_at cells) (firsts_below cells (length cells))

-- an index stands among indices
abbrev pub has_index : ℕ → List ℕ → Bool
has_index i run = list_any (λ j. j == i) run

-- the number of the strip that holds the cell with an index
abbrev pub owner_of : List Cell → ℕ → ℕ
owner_of cells i = position_or_len (has_index i) (index_runs cells)

-- a number is written at some indices, and elsewhere nothing changes
pub record IsMarkedWith (run : List ℕ) (number : ℕ) (old new : List ℕ) : Type 0 where
  pub same : length new ≡ length old
  pub each : (k : ℕ) → k < length old → slice_index_or new k 0 ≡ (if has_index k run then number else slice_index_or old k 0)

-- indices of cells, at least one
pub record AreIndices (cells : List Cell) (run : List ℕ) : Type 0 where
  pub some : 0 < length run
  pub few : length run ≤ 2000001
  pub each : All (λ i. i < length cells) run

abbrev pub level_at : List Cell → ℕ → ℕ
level_at cells i = (cell_at cells i).at.level

-- the strip of cells with indices
abbrev pub strip_at : List Cell → List ℕ → Strip
strip_at cells run = record {
  z = (cell_at cells (slice_index run 0)).at.z;
  x0 = (cell_at cells (slice_index run 0)).at.x;
  x1 = (cell_at cells (slice_index run 0)).at.x + length run - 1;
  levels = map (level_at cells) run;
  area = (cell_at cells (slice_index run 0)).area;
}
