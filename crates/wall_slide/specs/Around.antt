-- Around: walks over links of a kind, and links into open areas.
use Rattle.std.specs.Prelude.{◌≡◌, ℕ, IsTrue, List, [], ◌∷◌, Some}
use Rattle.mesh_types.specs.declared.links.Link.{Link}
use Rattle.mesh_types.specs.declared.links.PolyRef.{PolyRef}
use Rattle.mesh_types.specs.declared.mesh.Mesh.{Mesh}
use Rattle.mesh_types.specs.declared.polygon.Polygon.{Polygon}
use Rattle.mesh_types.specs.Corridors.{IsLinkOf}
use Rattle.mesh_types.specs.WholeMesh.{poly_at}
use Rattle.mesh_place.specs.Nearest.{is_open}

-- a walk from one polygon to another over links of a kind
abbrev pub WalksBy : (Link → Type 0) → Mesh → PolyRef → List Link → PolyRef → Type 0
WalksBy passes mesh from [] to = from ≡ to
WalksBy passes mesh from (link ∷ links) to = IsLinkOf mesh link × passes link × (link.from ≡ from) × WalksBy passes mesh link.to links to

-- a polygon to which links of a kind lead from another
abbrev pub IsReached : (Link → Type 0) → Mesh → PolyRef → PolyRef → Type 0
IsReached passes mesh from at = (links : List Link) × WalksBy passes mesh from links at

-- a link is open where it enters a polygon of an open area
pub record IsOpen (mesh : Mesh) (areas : ℕ) (link : Link) : Type 0 where
  pub polygon : Polygon
  pub there : poly_at mesh link.to ≡ Some polygon
  pub area : IsTrue (is_open areas polygon.area)
