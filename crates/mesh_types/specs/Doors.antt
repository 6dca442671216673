-- Doors: the edges of polygons as what may lead out of them, which doors face each other, and the links through them.
use Rattle.std.specs.Prelude.{ℕ, Bool, false, ◌==◌, ◌&&◌, ◌||◌, if◌then◌else◌, List, [], length, map, get_or, slice_get, slice_index, Option, Some, None}
use Rattle.std.specs.Option.{option_map}
use Rattle.std.specs.List.{find, filter_map, flat_map, range_with_len}
use Rattle.nav_base.specs.Convex.{corner_at, place_after}
use Rattle.mesh_types.specs.declared.region.Code.{Code}
use Rattle.mesh_types.specs.declared.region.Code.TheVariants.{Region}
use Rattle.mesh_types.specs.declared.region.Outline as outlines
use Rattle.mesh_types.specs.declared.region.PortalEdge.{PortalEdge}
use Rattle.mesh_types.specs.declared.links.Link.{Link}
use Rattle.mesh_types.specs.LinkOrder.{ordered_links}
use Rattle.mesh_types.specs.BorderLinks.{scaled}
use Rattle.mesh_types.specs.Ears.{is_same_point}
use Rattle.mesh_types.specs.Merging.{edge_end}
use Rattle.mesh_types.specs.Facets.{Facet}

-- the code of an outline's edge from one place to another, where the other is the next
abbrev pub code_between : outlines.Outline → ℕ → ℕ → Option Code
code_between outline from to = if to == place_after (length outline.corners) from then slice_get outline.codes from else None

-- the door over an edge of the polygon with a number
abbrev pub door_over : ℕ → Facet → ℕ → PortalEdge
door_over polygon facet edge =
    let from = slice_index facet.places edge in
    let to = edge_end facet.places edge in
    record {
      polygon = polygon;
      edge = edge;
      region = facet.region;
      from = from;
      to = to;
      begin = corner_at facet.outline.corners from;
      end = corner_at facet.outline.corners to;
      code = code_between facet.outline from to;
    }

-- the doors over all edges of a polygon
abbrev pub facet_doors : ℕ → Facet → List PortalEdge
facet_doors polygon facet = map (door_over polygon facet) (range_with_len 0 (length facet.places))

-- the doors: polygon by polygon, edge by edge
unfoldable pub doors_of : List Facet → List PortalEdge
doors_of facets =
    flat_map (λ polygon. facet_doors polygon
    (get_or facets polygon (record { region = 0; outline = record { corners = []; codes = [] }; places = [] })))
    (range_with_len 0 (length facets))

-- two doors join the same two places of one outline in opposite directions
abbrev pub share_places : PortalEdge → PortalEdge → Bool
share_places a b = a.region == b.region && a.from == b.to && a.to == b.from

-- a code names a region
abbrev pub names_region : Option Code → ℕ → Bool
names_region (Some (Region id)) region = id == region
names_region _ region = false

-- two doors join the same two corners in opposite directions, and their codes name each other's regions
abbrev pub share_corners : PortalEdge → PortalEdge → Bool
share_corners a b =
    names_region a.code b.region && names_region b.code a.region && is_same_point a.begin b.end && is_same_point a.end b.begin

-- two doors face each other; a door of a tile's outlines faces one other at most
abbrev pub are_facing : PortalEdge → PortalEdge → Bool
are_facing a b = share_places a b || share_corners a b

-- the link from a door to one that it faces; its portal is the whole edge
abbrev pub door_link : ℕ → PortalEdge → PortalEdge → Link
door_link tile a b = record {
  from = record { tile = tile; index = a.polygon };
  edge = a.edge;
  to = record { tile = tile; index = b.polygon };
  portal = record { left = scaled a.end.x a.end.z; right = scaled a.begin.x a.begin.z };
}

-- the link through a door, to the first door that it faces, if it faces one
abbrev pub link_through : ℕ → List PortalEdge → PortalEdge → Option Link
link_through tile doors door = option_map (door_link tile door) (find (are_facing door) doors)

-- the links through all doors, in order
abbrev pub door_links : ℕ → List PortalEdge → List Link
door_links tile doors = ordered_links (filter_map (link_through tile doors) doors)
