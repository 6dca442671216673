-- What is told over the border: the parts of requests, questions and answers as structs of plain numbers.
use Rattle.std.specs.Prelude.{ℕ, zero, suc, List, ◌++◌, length, take, drop}
use Rattle.nav_base.specs.declared.point.FloorAt.{FloorAt}
use Rattle.nav_base.specs.declared.point.Question.{Question}
use Rattle.nav_base.specs.declared.point.Question.TheVariants as questions
use Rattle.nav_base.specs.declared.point.Point.{Point}
use Rattle.nav_ground.specs.declared.shape.Shape.{Shape}
use Rattle.nav_ground.specs.declared.shape.Shape.TheVariants.{Block, Cylinder, AreaBlock, AreaCylinder}
use Rattle.mesh_types.specs.declared.answers.PathFound.{PathFound}
use Rattle.mesh_types.specs.declared.answers.Corner.{Corner}
use Rattle.mesh_types.specs.declared.answers.Side.{Side}
use Rattle.mesh_types.specs.declared.answers.Side.TheVariants.{L, R}
use Rattle.mesh_types.specs.declared.links.Link.{Link}
use Rattle.mesh_types.specs.declared.links.PolyRef.{PolyRef}
use Rattle.nav_handle.specs.declared.wire.NavdBlock.{NavdBlock}
use Rattle.nav_handle.specs.declared.wire.NavdCylinder.{NavdCylinder}
use Rattle.nav_handle.specs.declared.wire.NavdFloor.{NavdFloor}
use Rattle.nav_handle.specs.declared.wire.NavdLink.{NavdLink}
use Rattle.nav_handle.specs.declared.wire.NavdPath.{NavdPath}
use Rattle.nav_handle.specs.declared.wire.NavdPoint.{NavdPoint}
use Rattle.nav_handle.specs.declared.wire.NavdPolygon.{NavdPolygon}
use Rattle.nav_handle.specs.declared.wire.NavdTurn.{NavdTurn}
use Rattle.nav_handle.specs.declared.wire.NavdWay.{NavdWay}

-- a block and a cylinder as shapes: with the area 0 they stop agents, with another they set it
abbrev pub block_of : ℕ → NavdBlock → Shape
block_of zero block = Block block.x0 block.x1 block.y0 block.y1 block.z0 block.z1
block_of (suc area) block = AreaBlock (suc area) block.x0 block.x1 block.y0 block.y1 block.z0 block.z1

abbrev pub cylinder_of : ℕ → NavdCylinder → Shape
cylinder_of zero round = Cylinder round.cx round.cz round.r round.y0 round.y1
cylinder_of (suc area) round = AreaCylinder (suc area) round.cx round.cz round.r round.y0 round.y1

-- points, there and back
abbrev pub point_of : NavdPoint → Point
point_of at = record { x = at.x; z = at.z }

abbrev pub point_told : Point → NavdPoint
point_told p = record { x = p.x; z = p.z }

-- the questions of a way
abbrev pub path_asked : NavdWay → Question
path_asked way = questions.Path (point_of way.from) way.from_y (point_of way.to) way.to_y

abbrev pub ray_asked : NavdWay → Question
ray_asked way = questions.Ray (point_of way.from) way.from_y (point_of way.to)

-- what is told of a polygon, a link, a turn and a floor
abbrev pub polygon_told : PolyRef → NavdPolygon
polygon_told at = record { tile = at.tile; index = at.index }

abbrev pub link_told : Link → NavdLink
link_told link = record {
  from = polygon_told link.from;
  edge = link.edge;
  to = polygon_told link.to;
  left = point_told link.portal.left;
  right = point_told link.portal.right;
}

abbrev pub side_told : Side → ℕ
side_told L = 0
side_told R = 1

abbrev pub turn_told : Corner → NavdTurn
turn_told turn = record { at = point_told turn.at; side = side_told turn.side; link = turn.portal }

abbrev pub floor_told : FloorAt → NavdFloor
floor_told floor = record { y = floor.y; area = floor.area }

-- of a path its cost, its first polygon, and how many links and turns it has, whatever room there is for them
abbrev pub path_told : PathFound → NavdPath
path_told found = record {
  cost = found.cost;
  first = polygon_told found.first;
  links = length found.links;
  turns = length found.turns;
}

-- a list laid into a room: as much of it as there is room for, and behind it the room as it was
abbrev pub laid : {A : Type 0} → List A → List A → List A
laid list room = take (length room) list ++ drop (length list) room
