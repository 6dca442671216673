-- Repairs over the border: which question is asked, and what is told of its answer.
use Rattle.std.specs.Prelude.{ℕ, ◌≤◌, Bool, ◌&&◌, ◌==◌, if◌then◌else◌, List, length, map, nat_le, take}
use Rattle.mesh_types.specs.declared.answers.Corner.{Corner}
use Rattle.mesh_types.specs.declared.links.Link.{Link}
use Rattle.kept_paths.specs.Repairs.{CanRepair}
use Rattle.kept_paths.specs.declared.repairs.Repair.{Repair}
use Rattle.kept_paths.specs.declared.repairs.RepairAnswer.{RepairAnswer}
use Rattle.kept_paths.specs.declared.repairs.RepairAnswer.TheVariants.{Repaired, Limit, NoStart, NoGoal, NoPath}
use Rattle.path_queries.specs.declared.filters.Filter.{Filter}
use Rattle.nav_handle.specs.declared.wire.NavdLink.{NavdLink}
use Rattle.nav_handle.specs.declared.wire.NavdTurn.{NavdTurn}
use Rattle.nav_handle.specs.Statuses as status
use Rattle.nav_handle.specs.Wire.{laid, link_told, point_of, polygon_told, turn_told}
use Rattle.way_handle.specs.declared.repairs.NavdRepair.{NavdRepair}
use Rattle.way_handle.specs.Filtering.{filter_asked}
use Rattle.way_handle.specs.Reading.{links_of, polygon_of}

-- the question: the path whose links are the first ones of the host's array, so many as it says; how many are kept at most, whether the way may
-- join the last ones, and how many polygons the search may meet
abbrev pub repair_of : NavdRepair → Filter → List NavdLink → Repair
repair_of repair filter links = record {
  path = record {
    from = point_of repair.way.from;
    from_y = repair.way.from_y;
    goal = point_of repair.way.to;
    goal_y = repair.way.to_y;
    filter = filter;
    first = polygon_of repair.first;
    links = links_of (take repair.count links);
  };
  keep = repair.keep;
  join = repair.join == 1;
  most_polygons = repair.most_polygons;
}

abbrev pub repair_asked : NavdRepair → List ℕ → List NavdLink → Repair
repair_asked repair costs links = repair_of repair (filter_asked repair.areas costs) links

-- the host's array has so many links as it says, it says whether to join by 0 or 1, and the question may be asked
pub record CanAskRepair (repair : NavdRepair) (costs : List ℕ) (links : List NavdLink) : Type 0 where
  pub count : repair.count ≤ length links
  pub join : repair.join ≤ 1
  pub rules : CanRepair (repair_asked repair costs links)

-- there is room for all links and all turns
abbrev pub has_room : List Link → List Corner → List NavdLink → List NavdTurn → Bool
has_room links turns links_room turns_room = nat_le (length links) (length links_room) && nat_le (length turns) (length turns_room)

-- the host's places: for the path, for its links, and room for its turns
abbrev pub RepairRoom : Type 0
RepairRoom = NavdRepair × List NavdLink × List NavdTurn

-- how the question ends with an answer
abbrev pub repair_ends : List NavdLink → List NavdTurn → RepairAnswer → ℕ
repair_ends links_room turns_room (Repaired first cost links turns kept bridge) =
    if has_room links turns links_room turns_room then status.ok else status.no_room
repair_ends links_room turns_room (Limit seen) = status.limit
repair_ends links_room turns_room NoStart = status.no_start
repair_ends links_room turns_room NoGoal = status.no_goal
repair_ends links_room turns_room NoPath = status.no_path

-- a repaired path is told over the kept one where there is room for all of it; else how many links and turns it has, and no more; where a limit
-- ended the search, how far was seen; of another answer nothing is told
abbrev pub told_repair : RepairAnswer → RepairRoom → RepairRoom
told_repair (Repaired first cost links turns kept bridge) room =
    if has_room links turns room.1 room.2
    then (
      record room.0 {
        first = polygon_told first;
        cost = cost;
        kept = kept;
        bridge = bridge;
        links = length links;
        turns = length turns;
      },
      laid (map link_told links) room.1,
      laid (map turn_told turns) room.2,
    )
    else (record room.0 { links = length links; turns = length turns }, room.1, room.2)
told_repair (Limit seen) room = (record room.0 { seen = seen }, room.1, room.2)
told_repair NoStart room = room
told_repair NoGoal room = room
told_repair NoPath room = room
