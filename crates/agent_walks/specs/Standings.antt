-- Standings: what the walk along a line keeps.
use Rattle.std.specs.Prelude.{ℕ, ◌<◌, ◌≤◌, List, length, drop, get_or}
use Rattle.nav_base.specs.declared.point.Point.{Point}
use Rattle.nav_base.specs.Point.{HasCoordinates}
use Rattle.mesh_types.specs.declared.answers.Corner.{Corner}
use Rattle.mesh_types.specs.declared.links.Link.{Link}
use Rattle.mesh_types.specs.declared.links.PolyRef.{PolyRef}
use Rattle.mesh_types.specs.declared.mesh.Mesh.{Mesh}
use Rattle.mesh_types.specs.Corridors.{WalksTo}
use Rattle.mesh_types.specs.Rays.{IsHeldAt}
use Rattle.mesh_types.specs.Right.{portals_of}
use Rattle.mesh_types.specs.Taut.{IsTaut}
use Rattle.mesh_types.specs.Bends.{some_corner}
use Rattle.surface_move.specs.Moves.{leg_of, nth_polygon, AreThere}
use Rattle.agent_walks.specs.declared.walkers.Standing.{Standing}
use Rattle.agent_walks.specs.declared.walkers.MarchEnd.{MarchEnd}
use Rattle.agent_walks.specs.Marches.{EndsFrom, Stand, over_corners, polygons_of}

-- where the code says that a walker stands before corners, as the definition sees it
abbrev pub stand_of : List Corner → Standing → Stand
stand_of corners standing = record { point = standing.point; place = standing.place; budget = standing.budget; left = drop standing.passed corners }

-- the portal that a corner names has a place after it that fits
pub record HasNextPlace (corner : Corner) : Type 0 where
  pub few : corner.portal < 4294967295

-- a line through the portals of a walk, taut from a point that the first polygon holds to a goal that the last one holds
pub record IsLine (mesh : Mesh) (first last : PolyRef) (links : List Link) (point goal : Point) (corners : List Corner) : Type 0 where
  pub walks : WalksTo mesh first links last
  pub few : length links < 4294967295
  pub start : IsHeldAt mesh point first
  pub reaches : IsHeldAt mesh goal last
  pub taut : IsTaut point (portals_of links) goal corners

-- the polygons of a list are there, some and not too many
pub record ArePolygons (mesh : Mesh) (polys : List PolyRef) : Type 0 where
  pub there : AreThere mesh polys
  pub few : length polys ≤ 4294967295

-- the next corner from a point: it names a portal between two of the polygons, and is farther than one may go
pub record IsBeyond (polys : List PolyRef) (point : Point) (budget : ℕ) (corner : Corner) : Type 0 where
  pub there : corner.portal < length polys
  pub at : HasCoordinates corner.at
  pub beyond : budget < leg_of point corner.at

-- a walker stands in a polygon that holds its point, before a corner that it does not reach, or past all corners
pub record StandsAt (mesh : Mesh) (polys : List PolyRef) (corners : List Corner) (standing : Standing) : Type 0 where
  pub held : IsHeldAt mesh standing.point (nth_polygon polys standing.place)
  pub within : standing.place < length polys
  pub next : standing.passed < length corners → IsBeyond polys standing.point standing.budget (get_or corners standing.passed some_corner)

-- a stop is held by the polygon at its place
pub record IsStop (mesh : Mesh) (polys : List PolyRef) (stop : MarchEnd) : Type 0 where
  pub held : IsHeldAt mesh stop.point (nth_polygon polys stop.place)
  pub within : stop.place < length polys

-- a march along a line ends at a stop
pub record EndsAt (mesh : Mesh) (first : PolyRef) (links : List Link) (point goal : Point) (far : ℕ) (corners : List Corner) (stop : MarchEnd) : Type 0 where
  pub ends : EndsFrom mesh (polygons_of first links) goal (over_corners point 0 far corners) (over_corners point 0 far corners).left stop.place stop.point
  pub stops : IsStop mesh (polygons_of first links) stop
