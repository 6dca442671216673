-- Around: the polygons around a place.
use Rattle.std.specs.Prelude.{ℕ, List}
use Rattle.nav_base.specs.declared.deviation.Deviation.{Deviation}
use Rattle.nav_base.specs.declared.point.Point.{Point}
use Rattle.nav_base.specs.Deviation.{deviation_of}
use Rattle.mesh_types.specs.declared.links.Link.{Link}
use Rattle.mesh_types.specs.declared.links.PolyRef.{PolyRef}
use Rattle.mesh_types.specs.declared.links.Portal.{Portal}
use Rattle.mesh_types.specs.declared.mesh.Mesh.{Mesh}
use Rattle.mesh_types.specs.declared.storeys.MeshPlace.{MeshPlace}
use Rattle.mesh_types.specs.Rays.{IsHeldAt}
use Rattle.path_queries.specs.Filters.{Enters}
use Rattle.wall_slide.specs.Around.{WalksBy}
use Rattle.wall_slide.specs.Slides.{IsNoFarther}
use Rattle.wall_query.specs.declared.around.Around.{Around}

-- a portal is no farther from a point than a distance, which is given by its square
abbrev pub IsPortalNear : Point → Deviation → Portal → Type 0
IsPortalNear p far portal = IsNoFarther (deviation_of portal.right portal.left p) far

-- a link is passed: it enters a polygon of an open area, through a portal that is near
abbrev pub PassesNear : Mesh → ℕ → Point → Deviation → Link → Type 0
PassesNear mesh areas p far link = Enters mesh areas link × IsPortalNear p far link.portal

-- the polygons around a place: those to which such links lead from its polygon
abbrev pub IsAround : Mesh → ℕ → MeshPlace → Deviation → PolyRef → Type 0
IsAround mesh areas from far at = (links : List Link) × WalksBy (PassesNear mesh areas from.point far) mesh from.polygon links at

-- the same of what is looked at
abbrev pub IsNear : Around → Portal → Type 0
IsNear around portal = IsPortalNear around.from.point around.far portal

abbrev pub IsPassed : Mesh → Around → Link → Type 0
IsPassed mesh around link = PassesNear mesh around.areas around.from.point around.far link

abbrev pub IsListed : Mesh → Around → PolyRef → Type 0
IsListed mesh around at = IsAround mesh around.areas around.from around.far at

-- the polygon of the place that it begins at holds the place's point
abbrev pub StandsIn : Mesh → Around → Type 0
StandsIn mesh around = IsHeldAt mesh around.from.point around.from.polygon
