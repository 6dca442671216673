-- RimTables: the rim of a tile by tables of what stands at the positions of its sides.
use Rattle.std.specs.Prelude.{ℕ, ◌+◌, ◌-◌, ◌^◌, ◌<◌, ◌≤◌, Bool, false, ◌&&◌, List, [], map, Option, is_some, unwrap_or}
use Rattle.std.specs.Option.{option_map_or}
use Rattle.std.specs.List.{flat_map, range_with_len}
use Rattle.std.specs.List.Sorted.{IsSortedBy}
use Rattle.nav_ground.specs.declared.cell.Cell.{Cell}
use Rattle.nav_ground.specs.declared.cell.Window.{Window}
use Rattle.mesh_types.specs.declared.region.PortalEdge.{PortalEdge}
use Rattle.mesh_types.specs.declared.region.LabelRun.{LabelRun}
use Rattle.mesh_types.specs.declared.region.Regions.{Regions}
use Rattle.mesh_types.specs.declared.mesh.LevelPair.{LevelPair}
use Rattle.mesh_types.specs.declared.mesh.RimEdge.{RimEdge}
use Rattle.mesh_types.specs.Runs.{runs_of, label_if}
use Rattle.mesh_types.specs.StripPolygons.{some_cell}
use Rattle.mesh_types.specs.Crossings.{level_pair}
use Rattle.mesh_types.specs.DoorRim.{first_position, is_same_door, positions_of, side_of}
use Rattle.contour_mesh.specs.declared.crossings.SidePosition.{SidePosition}
use Rattle.contour_mesh.specs.declared.rim.SideTables.{SideTables}
use Rattle.contour_mesh.specs.Orders.{IsSortOf}
use Rattle.contour_mesh.specs.SidePlaces.{first_at, stands_before, placed_doors, placed_cells}

-- the tables are the doors and the cells of a tile by their places, in order
pub record AreSideTables (window : Window) (cells : List Cell) (regions : Regions) (doors : List PortalEdge) (tables : SideTables) : Type 0 where
  pub doors_are : IsSortOf stands_before (placed_doors window doors) tables.doors
  pub cells_are : IsSortOf stands_before (placed_cells window regions cells) tables.cells

-- what stands in the tables stands in the order of the places
pub record AreInOrder (tables : SideTables) : Type 0 where
  pub doors : IsSortedBy stands_before tables.doors
  pub cells : IsSortedBy stands_before tables.cells

-- the region of a door has a place at a position of a side
abbrev pub door_place : PortalEdge → ℕ → ℕ → SidePosition
door_place door side position = record { region = door.region; side = side; position = position }

-- the first door that stands there is this one, and a cell stands there
abbrev pub is_listed_in : SideTables → PortalEdge → ℕ → ℕ → Bool
is_listed_in tables door side position =
    option_map_or (is_same_door door) (first_at tables.doors (door_place door side position)) false
    && is_some (first_at tables.cells (door_place door side position))

-- the levels of the first cell that stands there
abbrev pub pair_in : SideTables → PortalEdge → ℕ → ℕ → LevelPair
pair_in tables door side position = level_pair side (unwrap_or (first_at tables.cells (door_place door side position)) some_cell)

-- a run of positions of a door on a side, counted from its first, whose positions are 32-bit numbers
pub record IsRunAlong (side : ℕ) (door : PortalEdge) (run : LabelRun) : Type 0 where
  pub order : run.first ≤ run.last
  pub inside : first_position side door + run.last + 1 < 2 ^ 32

-- what the rim lists for a door on a side, by the tables
abbrev pub entry_in : SideTables → PortalEdge → ℕ → LabelRun → RimEdge
entry_in tables door side run = record {
  poly = door.polygon;
  edge = door.edge;
  side = side;
  first = first_position side door + run.first;
  pairs = map (pair_in tables door side) (range_with_len (first_position side door + run.first) (run.last + 1 - run.first));
}

abbrev pub labels_in : SideTables → PortalEdge → ℕ → List (Option ℕ)
labels_in tables door side = map (λ position. label_if (is_listed_in tables door side position)) (positions_of side door)

abbrev pub entries_on : SideTables → PortalEdge → ℕ → List RimEdge
entries_on tables door side = map (entry_in tables door side) (runs_of (labels_in tables door side))

abbrev pub entries_in : Window → SideTables → PortalEdge → List RimEdge
entries_in window tables door = option_map_or (entries_on tables door) (side_of window door) []

abbrev pub rim_in : Window → SideTables → List PortalEdge → List RimEdge
rim_in window tables doors = flat_map (entries_in window tables) doors
