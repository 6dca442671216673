-- DoorRim: what the rim of a tile lists for its doors.
use Rattle.std.specs.Prelude.{ℕ, ◌+◌, ◌-◌, ◌%◌, pos, ◌+ℤ◌, unsigned_abs, Bool, false, ◌==◌, ◌&&◌, nat_le, nat_lt, if◌then◌else◌, List, [], map, Option, Some, is_some, unwrap_or}
use Rattle.std.specs.Ordering.{int_eq}
use Rattle.std.specs.Option.{option_map_or}
use Rattle.std.specs.List.{find, flat_map, range_with_len}
use Rattle.nav_base.specs.declared.point.Point.{Point}
use Rattle.nav_ground.specs.declared.cell.Cell.{Cell}
use Rattle.nav_ground.specs.declared.cell.Window.{Window}
use Rattle.mesh_types.specs.declared.region.Regions.{Regions}
use Rattle.mesh_types.specs.declared.region.Code.{Code}
use Rattle.mesh_types.specs.declared.region.Code.TheVariants.{Side}
use Rattle.mesh_types.specs.declared.region.PortalEdge.{PortalEdge}
use Rattle.mesh_types.specs.declared.region.LabelRun.{LabelRun}
use Rattle.mesh_types.specs.declared.mesh.LevelPair.{LevelPair}
use Rattle.mesh_types.specs.declared.mesh.RimEdge.{RimEdge}
use Rattle.mesh_types.specs.Runs.{runs_of, label_if}
use Rattle.mesh_types.specs.StripPolygons.{some_cell}
use Rattle.mesh_types.specs.Crossings.{is_crossing, position_of, level_pair}
use Rattle.mesh_types.specs.Facets.{cells_of}

-- a code names a side of the tile
abbrev pub names_side : Option Code → ℕ → Bool
names_side (Some (Side own)) side = own == side
names_side _ side = false

-- a point lies on the line of a side of the tile
abbrev pub is_on_line : Window → ℕ → Point → Bool
is_on_line window side p =
    if side == 0 then int_eq p.x window.x0
    else (if side == 1 then int_eq p.z (window.z1 +ℤ pos 1)
    else (if side == 2 then int_eq p.x (window.x1 +ℤ pos 1)
    else int_eq p.z window.z0))

-- a door lies on a side of the tile, and its code names that side
abbrev pub lies_on : Window → PortalEdge → ℕ → Bool
lies_on window door side = names_side door.code side && is_on_line window side door.begin && is_on_line window side door.end

-- the side of the tile on which a door lies, if it lies on one
abbrev pub side_of : Window → PortalEdge → Option ℕ
side_of window door = find (lies_on window door) (range_with_len 0 4)

-- the position of a point along a side: z on the sides 0 and 2, x on the sides 1 and 3
abbrev pub point_position : ℕ → Point → ℕ
point_position side p = unsigned_abs (if side % 2 == 0 then p.z else p.x)

-- the positions over which a door on a side runs, from the first up to before the last; with the tile on its left it runs backward on the
-- sides 0 and 1
abbrev pub first_position : ℕ → PortalEdge → ℕ
first_position side door = point_position side (if nat_lt side 2 then door.end else door.begin)

-- the position behind the last one over which a door runs
abbrev pub end_position : ℕ → PortalEdge → ℕ
end_position side door = point_position side (if nat_lt side 2 then door.begin else door.end)

-- the positions over which a door runs
abbrev pub positions_of : ℕ → PortalEdge → List ℕ
positions_of side door = range_with_len (first_position side door) (end_position side door - first_position side door)

-- a door of a region lies on a side and runs over a position there
abbrev pub runs_over : Window → ℕ → ℕ → ℕ → PortalEdge → Bool
runs_over window region side position door =
    door.region == region && lies_on window door side && nat_le (first_position side door) position && nat_lt position (end_position side door)

-- a position belongs to a door, which is the first of its region that runs over it; in a tile's outlines there is one at most
abbrev pub is_same_door : PortalEdge → PortalEdge → Bool
is_same_door a b = a.polygon == b.polygon && a.edge == b.edge

-- the first door of the region that runs over a position is this one
abbrev pub belongs_to : Window → List PortalEdge → ℕ → PortalEdge → ℕ → Bool
belongs_to window doors side door position = option_map_or (is_same_door door) (find (runs_over window door.region side position) doors) false

module _ (window : Window) (cells : List Cell) (regions : Regions) where
  -- the cell of a region at a position of a side that has a kept neighbour across
  abbrev pub crossing_cell : ℕ → ℕ → ℕ → Option Cell
  crossing_cell region side position =
      find (λ (cell : Cell). is_crossing window side cell && position_of side cell.at == position) (cells_of cells regions region)

  -- what the rim lists for a door along a run of its positions
  abbrev pub crossing_pair : ℕ → ℕ → ℕ → LevelPair
  crossing_pair region side position = level_pair side (unwrap_or (crossing_cell region side position) some_cell)

  -- what the rim lists for a door along a run of its positions: the edge, and the cells on both sides of the border
  abbrev pub door_entry : PortalEdge → ℕ → LabelRun → RimEdge
  door_entry door side run = record {
    poly = door.polygon;
    edge = door.edge;
    side = side;
    first = first_position side door + run.first;
    pairs = map (crossing_pair door.region side) (range_with_len (first_position side door + run.first) (run.last + 1 - run.first));
  }

  module _ (doors : List PortalEdge) where
    -- for each position of a door a label where it belongs to the door and has a cell with a kept neighbour across
    abbrev pub is_listed : PortalEdge → ℕ → ℕ → Bool
    is_listed door side position = belongs_to window doors side door position && is_some (crossing_cell door.region side position)

    -- the entries of a door on a side: one for each maximal run of positions that have a label
    abbrev pub side_entries : PortalEdge → ℕ → List RimEdge
    side_entries door side =
        map (door_entry door side) (runs_of (map (λ position. label_if (is_listed door side position)) (positions_of side door)))

    -- what the rim lists for a door: nothing where it lies on no side of the tile
    abbrev pub door_entries : PortalEdge → List RimEdge
    door_entries door = option_map_or (side_entries door) (side_of window door) []

    -- the rim of a tile: door by door, run by run
    abbrev pub door_rim : List RimEdge
    door_rim = flat_map door_entries doors
