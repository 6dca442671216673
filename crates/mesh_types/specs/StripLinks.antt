-- StripLinks: the links between the strips of a tile.
use Rattle.std.specs.Prelude.{ℕ, ◌+◌, ◌-◌, Bool, ◌==◌, if◌then◌else◌, List, [], length, map, get_or, Option, Some, None, option_and_then}
use Rattle.std.specs.List.{list_any, flat_map, range_with_len, position}
use Rattle.nav_ground.specs.declared.cell.Cell.{Cell}
use Rattle.nav_ground.specs.Cells.{is_naming}
use Rattle.mesh_types.specs.declared.links.Portal.{Portal}
use Rattle.mesh_types.specs.declared.links.Link.{Link}
use Rattle.mesh_types.specs.declared.region.LabelRun.{LabelRun}
use Rattle.mesh_types.specs.Runs.{runs_of}
use Rattle.mesh_types.specs.LinkOrder.{ordered_links}
use Rattle.mesh_types.specs.StripPolygons.{sixteenths, first_of}

-- the direction that lies outside an edge of a rectangle: edge 0 is the one toward z - 1, 1 toward x + 1, 2 toward z + 1, 3 toward x - 1
abbrev pub outside_of : ℕ → ℕ
outside_of edge = 3 - edge

-- the portal over an edge of a row z along the columns x0 to x1
abbrev pub edge_portal : ℕ → ℕ → ℕ → ℕ → Portal
edge_portal edge x0 x1 z =
    if edge == 0 then record { left = sixteenths (x1 + 1) z; right = sixteenths x0 z }
    else (if edge == 1 then record { left = sixteenths (x1 + 1) (z + 1); right = sixteenths (x1 + 1) z }
    else (if edge == 2 then record { left = sixteenths x0 (z + 1); right = sixteenths (x1 + 1) (z + 1) }
    else record { left = sixteenths x0 z; right = sixteenths x0 (z + 1) }))

-- a strip holds a cell that a cell names in a direction
abbrev pub holds_named : ℕ → Cell → List Cell → Bool
holds_named dir cell run = list_any (λ (to : Cell). is_naming dir cell to.at) run

-- the place of the strip, other than its own, with the cell to which a cell is connected in a direction
abbrev pub strip_beyond : List (List Cell) → ℕ → ℕ → Cell → Option ℕ
strip_beyond runs s dir cell =
    option_and_then (λ t. if t == s then None else Some t) (position (holds_named dir cell) runs)

-- the link over an edge of the strip s along a run of its cells that are connected to cells of one other strip
abbrev pub strip_link : ℕ → List Cell → ℕ → ℕ → LabelRun → Link
strip_link tile own s edge run = record {
  from = record { tile = tile; index = s };
  edge = edge;
  to = record { tile = tile; index = run.label };
  portal = edge_portal edge ((first_of own).at.x + run.first) ((first_of own).at.x + run.last) (first_of own).at.z;
}

-- the links over an edge of the strip s: one for each maximal run of its cells that are connected to cells of one other strip
abbrev pub strip_links_over : ℕ → List (List Cell) → ℕ → ℕ → List Link
strip_links_over tile runs s edge =
    map (strip_link tile (get_or runs s []) s edge) (runs_of (map (strip_beyond runs s (outside_of edge)) (get_or runs s [])))

-- the links between strips, in order
abbrev pub strip_links : ℕ → List (List Cell) → List Link
strip_links tile runs = ordered_links
    (flat_map (λ s. flat_map (strip_links_over tile runs s) (range_with_len 0 4)) (range_with_len 0 (length runs)))
