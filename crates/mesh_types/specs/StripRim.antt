-- StripRim: what the rim of a tile lists for its strips.
use Rattle.std.specs.Prelude.{ℕ, ◌+◌, List, [], length, map, get_or}
use Rattle.std.specs.List.{flat_map, range_with_len, between}
use Rattle.nav_ground.specs.declared.cell.Cell.{Cell}
use Rattle.nav_ground.specs.declared.cell.Window.{Window}
use Rattle.mesh_types.specs.declared.mesh.RimEdge.{RimEdge}
use Rattle.mesh_types.specs.declared.region.LabelRun.{LabelRun}
use Rattle.mesh_types.specs.Runs.{runs_of, label_if}
use Rattle.mesh_types.specs.StripPolygons.{some_cell}
use Rattle.mesh_types.specs.StripLinks.{outside_of}
use Rattle.mesh_types.specs.Crossings.{is_crossing, position_of, level_pair}

-- what the rim lists for an edge of a strip along a run of its cells that have a kept neighbour across
abbrev pub rim_edge : ℕ → ℕ → List Cell → LabelRun → RimEdge
rim_edge poly edge run part = record {
  poly = poly;
  edge = edge;
  side = outside_of edge;
  first = position_of (outside_of edge) (get_or run part.first some_cell).at;
  pairs = map (level_pair (outside_of edge)) (between part.first (part.last + 1) run);
}

-- what the rim lists for an edge of a strip: one entry for each run of cells with a kept neighbour across
abbrev pub strip_rim_over : Window → List (List Cell) → ℕ → ℕ → List RimEdge
strip_rim_over window runs s edge =
    map (rim_edge s edge (get_or runs s [])) (runs_of (map (λ (cell : Cell). label_if (is_crossing window (outside_of edge) cell)) (get_or runs s [])))

-- the rim of a tile: strip by strip, edge by edge, run by run
abbrev pub strip_rim : Window → List (List Cell) → List RimEdge
strip_rim window runs =
    flat_map (λ s. flat_map (strip_rim_over window runs s) (range_with_len 0 4)) (range_with_len 0 (length runs))
