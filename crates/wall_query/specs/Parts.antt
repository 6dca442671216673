-- Parts: the parts of an edge over which no open link leads, and the portals between them.
use Rattle.std.specs.Prelude.{◌≡◌, ℕ, ◌<◌, ◌⊎◌, ℤ, ◌<ℤ◌, ◌≤ℤ◌, length, Option, Some, None}
use Rattle.nav_base.specs.declared.point.Point.{Point}
use Rattle.mesh_types.specs.declared.links.Link.{Link}
use Rattle.mesh_types.specs.declared.links.PolyRef.{PolyRef}
use Rattle.mesh_types.specs.declared.links.Portal.{Portal}
use Rattle.mesh_types.specs.declared.mesh.Mesh.{Mesh}
use Rattle.mesh_types.specs.declared.polygon.Polygon.{Polygon}
use Rattle.mesh_types.specs.Corridors.{IsLinkOf}
use Rattle.mesh_types.specs.Portals.{LiesAlong, along, edge_begin, edge_end}
use Rattle.mesh_types.specs.WholeMesh.{poly_at}
use Rattle.path_queries.specs.Filters.{Enters}
use Rattle.wall_query.specs.declared.parts.PolygonEdge.{PolygonEdge}

-- a link leads over an edge of a polygon into an open area
pub record LeadsOver (mesh : Mesh) (areas : ℕ) (at : PolyRef) (edge : ℕ) (link : Link) : Type 0 where
  pub listed : IsLinkOf mesh link
  pub enters : Enters mesh areas link
  pub leaves : link.from ≡ at
  pub over : link.edge ≡ edge

-- how far a point is along an edge, as a product
abbrev pub far_along : Polygon → ℕ → Point → ℤ
far_along polygon edge p = along (edge_begin polygon edge) (edge_end polygon edge) p

-- a part of a polygon's edge, from a to b, that is a wall: the portal of no open link covers any of it, and it is as long as it can be
pub record IsEdgePart (mesh : Mesh) (areas : ℕ) (at : PolyRef) (polygon : Polygon) (edge : ℕ) (a b : Point) : Type 0 where
  pub lies : LiesAlong (edge_begin polygon edge) (edge_end polygon edge) a b
  pub closed : (link : Link) → LeadsOver mesh areas at edge link → far_along polygon edge link.portal.right <ℤ far_along polygon edge b
      → far_along polygon edge a <ℤ far_along polygon edge link.portal.left → ⊥
  pub begins : (a ≡ edge_begin polygon edge) ⊎ ((link : Link) × LeadsOver mesh areas at edge link × (link.portal.left ≡ a))
  pub ends : (b ≡ edge_end polygon edge) ⊎ ((link : Link) × LeadsOver mesh areas at edge link × (link.portal.right ≡ b))

pub record IsWallPart (mesh : Mesh) (areas : ℕ) (at : PolyRef) (edge : ℕ) (a b : Point) : Type 0 where
  pub polygon : Polygon
  pub there : poly_at mesh at ≡ Some polygon
  pub is_edge : edge < length polygon.corners
  pub part : IsEdgePart mesh areas at polygon edge a b

-- an edge with its ends is that of a polygon of the mesh
pub record IsEdgeOf (mesh : Mesh) (edge : PolygonEdge) : Type 0 where
  pub polygon : Polygon
  pub there : poly_at mesh edge.polygon ≡ Some polygon
  pub is_edge : edge.edge < length polygon.corners
  pub begins : edge.begin ≡ edge_begin polygon edge.edge
  pub ends : edge.end ≡ edge_end polygon edge.edge

-- how far a point is along an edge with its ends
abbrev pub far_on : PolygonEdge → Point → ℤ
far_on edge p = along edge.begin edge.end p

-- an open link leads over the edge whose left end lies beyond a point
pub record IsBeyond (mesh : Mesh) (areas : ℕ) (edge : PolygonEdge) (from : Point) (link : Link) : Type 0 where
  pub enters : Enters mesh areas link
  pub over : link.edge ≡ edge.edge
  pub beyond : far_on edge from <ℤ far_on edge link.portal.left

-- of two portals the one whose right end comes first
abbrev pub IsSooner : PolygonEdge → Option Portal → Portal → Portal → Type 0
IsSooner edge None other result = result ≡ other
IsSooner edge (Some first) other result =
    ((result ≡ first) × (far_on edge first.right ≤ℤ far_on edge other.right)) ⊎ ((result ≡ other) × (far_on edge other.right ≤ℤ far_on edge first.right))

-- the portal of one of some links whose right end comes first
pub record IsFirst (P : Link → Type 0) (edge : PolygonEdge) (portal : Portal) : Type 0 where
  pub link : Link
  pub one : P link
  pub is : link.portal ≡ portal
  pub first : (other : Link) → P other → far_on edge portal.right ≤ℤ far_on edge other.portal.right

-- that portal, if there is such a link
abbrev pub IsFirstAmong : (Link → Type 0) → PolygonEdge → Option Portal → Type 0
IsFirstAmong P edge None = (link : Link) → P link → ⊥
IsFirstAmong P edge (Some portal) = IsFirst P edge portal

-- the first portal of those of the open links over the edge whose left ends lie beyond a point
abbrev pub IsFirstPortal : Mesh → ℕ → PolygonEdge → Point → Option Portal → Type 0
IsFirstPortal mesh areas edge from result =
    IsFirstAmong (λ link. LeadsOver mesh areas edge.polygon edge.edge link × (far_on edge from <ℤ far_on edge link.portal.left)) edge result
