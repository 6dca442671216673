-- Links and turns that a host hands back as they were told.
use Rattle.std.specs.Prelude.{ℕ, List, map, ◌==◌, if◌then◌else◌}
use Rattle.mesh_types.specs.declared.answers.Corner.{Corner}
use Rattle.mesh_types.specs.declared.answers.Side.{Side}
use Rattle.mesh_types.specs.declared.answers.Side.TheVariants.{L, R}
use Rattle.mesh_types.specs.declared.links.Link.{Link}
use Rattle.mesh_types.specs.declared.links.PolyRef.{PolyRef}
use Rattle.nav_handle.specs.declared.wire.NavdLink.{NavdLink}
use Rattle.nav_handle.specs.declared.wire.NavdPolygon.{NavdPolygon}
use Rattle.nav_handle.specs.declared.wire.NavdTurn.{NavdTurn}
use Rattle.nav_handle.specs.Wire.{point_of}

abbrev pub polygon_of : NavdPolygon → PolyRef
polygon_of at = record { tile = at.tile; index = at.index }

abbrev pub link_of : NavdLink → Link
link_of link = record {
  from = polygon_of link.from;
  edge = link.edge;
  to = polygon_of link.to;
  portal = record { left = point_of link.left; right = point_of link.right };
}

abbrev pub links_of : List NavdLink → List Link
links_of links = map link_of links

-- 0 is the left hand
abbrev pub side_of : ℕ → Side
side_of side = if side == 0 then L else R

abbrev pub turn_of : NavdTurn → Corner
turn_of turn = record { at = point_of turn.at; side = side_of turn.side; portal = turn.link }

abbrev pub turns_of : List NavdTurn → List Corner
turns_of turns = map turn_of turns
