-- Stays: what a straight way means. Each of its places lies in a polygon of the mesh, and it passes from one to the next through a portal.
use Rattle.std.specs.Prelude.{◌≡◌, ℕ, ◌*◌, ◌<◌, ◌≤◌, ℤ, pos, ◌+ℤ◌, ◌-ℤ◌, ◌*ℤ◌, ◌≤ℤ◌, List, [], ◌∷◌, length, Some}
use Rattle.nav_base.specs.declared.point.Point.{Point}
use Rattle.nav_base.specs.Point.{orient_of}
use Rattle.mesh_types.specs.declared.links.Link.{Link}
use Rattle.mesh_types.specs.declared.links.PolyRef.{PolyRef}
use Rattle.mesh_types.specs.declared.links.Portal.{Portal}
use Rattle.mesh_types.specs.declared.mesh.Mesh.{Mesh}
use Rattle.mesh_types.specs.declared.polygon.Polygon.{Polygon}
use Rattle.mesh_types.specs.Corridors.{IsLinkOf}
use Rattle.mesh_types.specs.WholeMesh.{poly_at}
use Rattle.fine_walk.specs.FineRays.{fine_of, fine_side, FineMeets}

-- a number that is m where a way begins and n where it ends, and changes evenly: at the fraction num / den of the way, times den
abbrev pub along_way : ℤ → ℤ → ℕ → ℕ → ℤ
along_way m n num den = pos den *ℤ m +ℤ pos num *ℤ (n -ℤ m)

-- the polygon that a reference names holds the place of a way at a fraction: it lies on no edge's right
pub record IsHeldAlong (mesh : Mesh) (at : PolyRef) (from to : Point) (num den : ℕ) : Type 0 where
  pub polygon : Polygon
  pub there : poly_at mesh at ≡ Some polygon
  pub holds : (edge : ℕ) → edge < length polygon.corners → pos 0 ≤ℤ along_way (fine_side polygon edge from) (fine_side polygon edge to) num den

-- the place of a way at a fraction lies on a portal: on its line, and the way does not pass beside either end
pub record IsOnPortal (portal : Portal) (from to : Point) (num den : ℕ) : Type 0 where
  pub on_line : along_way (orient_of (fine_of portal.right) (fine_of portal.left) from) (orient_of (fine_of portal.right) (fine_of portal.left) to) num den ≡ pos 0
  pub meets : FineMeets from to portal

-- a way passes in a polygon from a fraction up to a later one, and there through a link's portal
pub record Passes (mesh : Mesh) (from to : Point) (at : PolyRef) (num den : ℕ) (link : Link) (next below : ℕ) : Type 0 where
  pub some : 0 < below
  pub within : next ≤ below
  pub later : num * below ≤ next * den
  pub begins : IsHeldAlong mesh at from to num den
  pub ends : IsHeldAlong mesh at from to next below
  pub listed : IsLinkOf mesh link
  pub leaves : link.from ≡ at
  pub through : IsOnPortal link.portal from to next below

-- from a fraction of it on, a straight way stays on the mesh: in a polygon up to a later fraction, there through a link's portal into the next,
-- and in the last up to its end. A polygon that holds two places of a way holds all between, so every place of the way is held
abbrev pub StaysFrom : Mesh → Point → Point → PolyRef → ℕ → ℕ → List Link → PolyRef → Type 0
StaysFrom mesh from to at num den [] last = (at ≡ last) × IsHeldAlong mesh at from to num den × IsHeldAlong mesh at from to 1 1
StaysFrom mesh from to at num den (link ∷ links) last =
    (next : ℕ) × (below : ℕ) × Passes mesh from to at num den link next below × StaysFrom mesh from to link.to next below links last

-- from its begin on
abbrev pub StaysOn : Mesh → PolyRef → Point → Point → List Link → PolyRef → Type 0
StaysOn mesh first from to links last = StaysFrom mesh from to first 0 1 links last
