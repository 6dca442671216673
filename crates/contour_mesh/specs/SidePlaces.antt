-- SidePlaces: what stands at the positions of a tile's sides, region by region.
use Rattle.std.specs.Prelude.{◌≡◌, ◌<◌, ◌≤◌, true, false, length, get_or, ℕ, Bool, ◌==◌, ◌&&◌, List, [], map, filter, Option}
use Rattle.std.specs.Option.{option_map, option_map_or}
use Rattle.std.specs.List.{find, flat_map, range_with_len}
use Rattle.std.specs.Ordering.{is_lt, nat_cmp, ordering_then}
use Rattle.std.specs.declared.cmp.Ordering.{Ordering}
use Rattle.nav_ground.specs.declared.cell.Cell.{Cell}
use Rattle.nav_ground.specs.declared.cell.Window.{Window}
use Rattle.mesh_types.specs.declared.region.PortalEdge.{PortalEdge}
use Rattle.mesh_types.specs.declared.region.Regions.{Regions}
use Rattle.mesh_types.specs.Crossings.{is_crossing, position_of}
use Rattle.mesh_types.specs.Contours.{region_at}
use Rattle.mesh_types.specs.DoorRim.{positions_of, side_of}
use Rattle.contour_mesh.specs.declared.crossings.SidePosition.{SidePosition}
use Rattle.contour_mesh.specs.declared.crossings.AtPosition.{AtPosition}

-- places by region, then side, then position
abbrev pub side_place_cmp : SidePosition → SidePosition → Ordering
side_place_cmp a b = ordering_then (nat_cmp a.region b.region) (ordering_then (nat_cmp a.side b.side) (nat_cmp a.position b.position))

abbrev pub is_place_before : SidePosition → SidePosition → Bool
is_place_before a b = is_lt (side_place_cmp a b)

abbrev pub stands_before : {T : Type 0} → AtPosition T → AtPosition T → Bool
stands_before a b = is_place_before a.place b.place

abbrev pub is_same_place : SidePosition → SidePosition → Bool
is_same_place a b = a.region == b.region && a.side == b.side && a.position == b.position

abbrev pub stands_at : {T : Type 0} → SidePosition → AtPosition T → Bool
stands_at place placed = is_same_place placed.place place

-- so many of a list come before a place, and no others do
pub record IsCountBefore {T : Type 0} (place : SidePosition) (placed : List (AtPosition T)) (count : ℕ) : Type 0 where
  pub ahead : (k : ℕ) (d : AtPosition T) → k < count → is_place_before (get_or placed k d).place place ≡ true
  pub late : (k : ℕ) (d : AtPosition T) → count ≤ k → k < length placed → is_place_before (get_or placed k d).place place ≡ false

-- what stands first at a place
abbrev pub first_at : {T : Type 0} → List (AtPosition T) → SidePosition → Option T
first_at {T} placed place = option_map (λ (p : AtPosition T). p.item) (find (stands_at place) placed)

-- a door at each of the positions over which it runs
abbrev pub door_at : PortalEdge → ℕ → ℕ → AtPosition PortalEdge
door_at door side position = record { place = record { region = door.region; side = side; position = position }; item = door }

abbrev pub door_places : Window → PortalEdge → List (AtPosition PortalEdge)
door_places window door = option_map_or (λ side. map (door_at door side) (positions_of side door)) (side_of window door) []

abbrev pub placed_doors : Window → List PortalEdge → List (AtPosition PortalEdge)
placed_doors window doors = flat_map (door_places window) doors

-- a cell of a region at its position on each side across which it has a kept neighbour
abbrev pub cell_at_side : ℕ → Cell → ℕ → AtPosition Cell
cell_at_side region cell side = record { place = record { region = region; side = side; position = position_of side cell.at }; item = cell }

abbrev pub crossings_in : Window → Cell → ℕ → List (AtPosition Cell)
crossings_in window cell region = map (cell_at_side region cell) (filter (λ side. is_crossing window side cell) (range_with_len 0 4))

abbrev pub cell_places : Window → Regions → Cell → List (AtPosition Cell)
cell_places window regions cell = option_map_or (crossings_in window cell) (region_at regions cell.at) []

abbrev pub placed_cells : Window → Regions → List Cell → List (AtPosition Cell)
placed_cells window regions cells = flat_map (cell_places window regions) cells
