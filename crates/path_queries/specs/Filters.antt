-- Filters: which areas may be entered and what they cost; the walks that keep to them, and the cheapest of those.
use Rattle.std.specs.Prelude.{◌≡◌, ℕ, ◌≤◌, Bool, true, ◌==◌, IsTrue, List, length, Some, IfSome, All}
use Rattle.std.specs.Int.{bit_at}
use Rattle.std.specs.List.{list_all}
use Rattle.std.specs.Option.{unwrap_or}
use Rattle.nav_ground.specs.Limits.{IsArea, is_cost}
use Rattle.mesh_types.specs.declared.answers.Corridor.{Corridor}
use Rattle.mesh_types.specs.declared.links.Link.{Link}
use Rattle.mesh_types.specs.declared.links.PolyRef.{PolyRef}
use Rattle.mesh_types.specs.declared.mesh.Mesh.{Mesh}
use Rattle.mesh_types.specs.declared.polygon.Polygon.{Polygon}
use Rattle.mesh_types.specs.Corridors.{WalksTo, cost_of}
use Rattle.mesh_types.specs.WholeMesh.{poly_at}
use Rattle.path_queries.specs.declared.filters.Filter.{Filter}

-- an area is open where its bit is set
abbrev pub is_open : ℕ → ℕ → Bool
is_open areas area = bit_at areas area == 1

-- every area that can be walked on is open
abbrev pub AreAllOpen : ℕ → Type 0
AreAllOpen areas = (area : ℕ) → IsArea area → is_open areas area ≡ true

-- a table of costs: one an area, each from 1 to 1000
pub record AreCosts (costs : List ℕ) : Type 0 where
  pub areas : length costs ≡ 64
  pub each : IsTrue (list_all is_cost costs)

-- a filter's own costs are costs, where it has some
abbrev pub IsFilter : Filter → Type 0
IsFilter filter = IfSome filter.costs AreCosts

-- a mesh with other costs of areas; its tiles and links are the same
abbrev pub with_costs : List ℕ → Mesh → Mesh
with_costs costs mesh = record mesh { setting = record mesh.setting { costs = costs } }

-- what areas cost: what the filter says, and what the mesh says where the filter has no costs of its own
abbrev pub costs_in : Mesh → Filter → List ℕ
costs_in mesh filter = unwrap_or filter.costs mesh.setting.costs

-- a mesh as a filter prices it
abbrev pub priced : Mesh → Filter → Mesh
priced mesh filter = with_costs (costs_in mesh filter) mesh

-- a link enters a polygon of an open area
pub record Enters (mesh : Mesh) (areas : ℕ) (link : Link) : Type 0 where
  pub polygon : Polygon
  pub there : poly_at mesh link.to ≡ Some polygon
  pub area_open : is_open areas polygon.area ≡ true

-- an allowed walk enters polygons of open areas alone; the polygon in which it begins is not entered
pub record AllowedTo (mesh : Mesh) (areas : ℕ) (from : PolyRef) (links : List Link) (to : PolyRef) : Type 0 where
  pub walks : WalksTo mesh from links to
  pub enters : All (Enters mesh areas) links

-- an allowed walk than which no other from the one polygon to the other costs less, with its cost, as the filter prices the mesh
pub record IsCheapestAllowed (mesh : Mesh) (filter : Filter) (from to : PolyRef) (corridor : Corridor) : Type 0 where
  pub allowed : AllowedTo mesh filter.areas from corridor.links to
  pub cost : corridor.cost ≡ cost_of (priced mesh filter) corridor.links
  pub least : (links : List Link) → AllowedTo mesh filter.areas from links to → corridor.cost ≤ cost_of (priced mesh filter) links
