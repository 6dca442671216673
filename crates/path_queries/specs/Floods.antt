-- Floods: which questions for the polygons within a cost may be asked, and which answers are right. Which polygons a right answer has is
-- determined, and so are their costs.
use Rattle.std.specs.Prelude.{◌≡◌, ℕ, ◌+◌, ◌<◌, ◌≤◌, List, slice_get, Some}
use Rattle.nav_base.specs.Point.{HasCoordinates}
use Rattle.mesh_types.specs.declared.links.Link.{Link}
use Rattle.mesh_types.specs.declared.links.PolyRef.{PolyRef}
use Rattle.mesh_types.specs.declared.mesh.Mesh.{Mesh}
use Rattle.mesh_types.specs.Corridors.{IsLinkOf, cost_of, weight_of}
use Rattle.mesh_types.specs.Located.{IsLocated}
use Rattle.mesh_types.specs.Right.{IsNowhere}
use Rattle.path_queries.specs.declared.filters.Filter.{Filter}
use Rattle.path_queries.specs.declared.floods.FloodQuery.{FloodQuery}
use Rattle.path_queries.specs.declared.floods.Flooded.{Flooded}
use Rattle.path_queries.specs.declared.floods.FloodAnswer.{FloodAnswer}
use Rattle.path_queries.specs.declared.floods.FloodAnswer.TheVariants as floods
use Rattle.path_queries.specs.Filters.{AllowedTo, Enters, IsFilter, priced}

-- the point has coordinates, and the filter's own costs are costs
pub record CanFlood (query : FloodQuery) : Type 0 where
  pub at : HasCoordinates query.at
  pub filter : IsFilter query.filter

-- a link into a polygon of an open area leads to a polygon from an earlier one of the list, and their costs differ by its weight
pub record IsFloodStep (mesh : Mesh) (filter : Filter) (list : List Flooded) (place : ℕ) (entry : Flooded) : Type 0 where
  pub before : Flooded
  pub there : slice_get list entry.via ≡ Some before
  pub earlier : entry.via < place
  pub link : Link
  pub listed : IsLinkOf mesh link
  pub leaves : link.from ≡ before.at
  pub enters : Enters mesh filter.areas link
  pub reaches : link.to ≡ entry.at
  pub adds_up : entry.cost ≡ before.cost + weight_of (priced mesh filter) link

-- a polygon is in the list
pub record IsFlooded (list : List Flooded) (polygon : PolyRef) : Type 0 where
  pub place : ℕ
  pub entry : Flooded
  pub there : slice_get list place ≡ Some entry
  pub is : entry.at ≡ polygon

-- a flood from a polygon: each polygon to which an allowed walk leads that costs no more than a number, and no other, once each, by rising
-- costs; each with the cost of its cheapest allowed walk, and the place of the polygon before it on such a walk
pub record IsFlood (mesh : Mesh) (filter : Filter) (first : PolyRef) (most : ℕ) (list : List Flooded) : Type 0 where
  pub begins : slice_get list 0 ≡ Some (record { at = first; cost = 0; via = 0 })
  pub once : (j k : ℕ) (a b : Flooded) → slice_get list j ≡ Some a → slice_get list k ≡ Some b → a.at ≡ b.at → j ≡ k
  pub rising : (j k : ℕ) (a b : Flooded) → j ≤ k → slice_get list j ≡ Some a → slice_get list k ≡ Some b → a.cost ≤ b.cost
  pub each : (k : ℕ) (entry : Flooded) → slice_get list k ≡ Some entry → entry.cost ≤ most
  pub least : (k : ℕ) (entry : Flooded) (links : List Link) → slice_get list k ≡ Some entry → AllowedTo mesh filter.areas first links entry.at
      → entry.cost ≤ cost_of (priced mesh filter) links
  pub steps : (k : ℕ) (entry : Flooded) → 0 < k → slice_get list k ≡ Some entry → IsFloodStep mesh filter list k entry
  pub all : (polygon : PolyRef) (links : List Link) → AllowedTo mesh filter.areas first links polygon → cost_of (priced mesh filter) links ≤ most
      → IsFlooded list polygon

-- the polygon that locates the place, and a flood from there
pub record IsFloodFrom (mesh : Mesh) (query : FloodQuery) (list : List Flooded) : Type 0 where
  pub first : PolyRef
  pub start : IsLocated mesh query.at query.y first
  pub flood : IsFlood mesh query.filter first query.most_cost list

-- an answer to a question for a flood is right in a mesh
abbrev pub IsRightFlood : FloodQuery → Mesh → FloodAnswer → Type 0
IsRightFlood query mesh (floods.Flooded list) = IsFloodFrom mesh query list
IsRightFlood query mesh floods.NoStart = IsNowhere mesh query.at query.y
