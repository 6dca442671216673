-- Polygons and level pairs by the indices of cells, where strips meet, and which of a strip's cells lie along a side of its tile.
use Rattle.std.specs.Prelude.{◌≡◌, ℕ, ◌+◌, ◌-◌, ◌<◌, List, [], length, map, drop, get_or, Option, None, Some, false}
use Rattle.std.specs.List.{prefix_len}
use Rattle.nav_ground.specs.declared.cell.Cell.{Cell}
use Rattle.nav_ground.specs.declared.cell.Window.{Window}
use Rattle.mesh_types.specs.declared.polygon.Polygon.{Polygon}
use Rattle.mesh_types.specs.declared.mesh.LevelPair.{LevelPair}
use Rattle.mesh_types.specs.declared.region.LabelRun.{LabelRun}
use Rattle.mesh_types.specs.Runs.{has_label}
use Rattle.mesh_types.specs.StripPolygons.{strip_polygon, some_cell}
use Rattle.mesh_types.specs.StripLinks.{strip_beyond, outside_of}
use Rattle.mesh_types.specs.Crossings.{level_pair, is_at_side}
use Rattle.mono_regions.specs.Indices.{cell_at}

-- the rectangle of the cells with indices
abbrev pub polygon_at : List Cell → List ℕ → Polygon
polygon_at cells run = strip_polygon (map (cell_at cells) run)

-- the levels of the cell with an index and of its neighbour across
abbrev pub pair_at : List Cell → ℕ → ℕ → LevelPair
pair_at cells side i = level_pair side (cell_at cells i)

-- the last cell of a strip
abbrev pub last_of : List Cell → Cell
last_of run = get_or run (length run - 1) some_cell

-- no cell of the strip s but the one at a place is connected to another strip in a direction
abbrev pub MeetsOthersAt : List (List Cell) → ℕ → ℕ → ℕ → Type 0
MeetsOthersAt runs s dir place =
    (k : ℕ) → k < length (get_or runs s []) → (k ≡ place → ⊥) → strip_beyond runs s dir (get_or (get_or runs s []) k some_cell) ≡ None

-- no cell of a strip lies along a side of the tile, but the one at a place may
pub record IsAloneAtSide (window : Window) (own : List Cell) (dir place : ℕ) : Type 0 where
  pub there : place < length own
  pub others : (k : ℕ) → k < length own → (k ≡ place → ⊥) → is_at_side window dir (get_or own k some_cell).at ≡ false

-- the strips that lie beyond an edge of the strip s, cell by cell
abbrev pub strips_over : List (List Cell) → ℕ → ℕ → List (Option ℕ)
strips_over runs s edge = map (strip_beyond runs s (outside_of edge)) (get_or runs s [])

-- the place behind that of a label, and behind those that follow it and have the same
abbrev pub behind : List (Option ℕ) → ℕ → Option ℕ → ℕ
behind labels place None = place + 1
behind labels place (Some label) = place + 1 + prefix_len (has_label label) (drop (place + 1) labels)

-- the run from one place to before another, where there is a label
abbrev pub part_with : ℕ → ℕ → Option ℕ → Option LabelRun
part_with first end None = None
part_with first end (Some label) = Some (record { first = first; last = end - 1; label = label })
