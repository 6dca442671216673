-- Portals: where on the edges of two polygons the portal of a link lies.
use Rattle.std.specs.Prelude.{◌≡◌, ℕ, ◌<◌, ℤ, pos, ◌≤ℤ◌, ◌<ℤ◌, length, Option, Some}
use Rattle.nav_base.specs.declared.point.Point.{Point}
use Rattle.nav_base.specs.Point.{orient_of, dot_of, from_to}
use Rattle.nav_base.specs.Convex.{corner_at, place_after}
use Rattle.mesh_types.specs.declared.polygon.Polygon.{Polygon}
use Rattle.mesh_types.specs.declared.links.Portal.{Portal}
use Rattle.mesh_types.specs.declared.links.Link.{Link}
use Rattle.mesh_types.specs.BorderLinks.{scaled}

-- the beginning and the end of an edge, in sixteenths
abbrev pub edge_begin : Polygon → ℕ → Point
edge_begin polygon edge = scaled (corner_at polygon.corners edge).x (corner_at polygon.corners edge).z

-- the end of an edge, where the next edge begins
abbrev pub edge_end : Polygon → ℕ → Point
edge_end polygon edge = edge_begin polygon (place_after (length polygon.corners) edge)

-- how far a point is along a way from u to v, as a product
abbrev pub along : Point → Point → Point → ℤ
along u v p = dot_of (from_to u v) (from_to u p)

-- the points of a way from u to v: `from` comes before `to`, and both lie on it
pub record LiesAlong (u v from to : Point) : Type 0 where
  pub begins : orient_of u v from ≡ pos 0
  pub ends : orient_of u v to ≡ pos 0
  pub after : pos 0 ≤ℤ along u v from
  pub forward : along u v from <ℤ along u v to
  pub before : along u v to ≤ℤ along u v v

-- a portal lies on an edge of a polygon, in the edge's direction
pub record IsPortalOut (polygon : Polygon) (edge : ℕ) (portal : Portal) : Type 0 where
  pub there : edge < length polygon.corners
  pub lies : LiesAlong (edge_begin polygon edge) (edge_end polygon edge) portal.right portal.left

-- a portal lies on some edge of a polygon, in the opposite direction
pub record IsPortalIn (polygon : Polygon) (portal : Portal) : Type 0 where
  pub edge : ℕ
  pub there : edge < length polygon.corners
  pub lies : LiesAlong (edge_begin polygon edge) (edge_end polygon edge) portal.left portal.right

-- a link's portal leads out of the one polygon and into the other
pub record LeadsThrough (from to : Option Polygon) (link : Link) : Type 0 where
  pub leaves : Polygon
  pub is_left : from ≡ Some leaves
  pub out : IsPortalOut leaves link.edge link.portal
  pub enters : Polygon
  pub is_entered : to ≡ Some enters
  pub into : IsPortalIn enters link.portal
