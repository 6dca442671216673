-- FloodsBack: which answers to a question for the polygons from which a place is reached within a cost are right. Which polygons a right
-- answer has is determined, and so are their costs.
use Rattle.std.specs.Prelude.{◌≡◌, ℕ, ◌+◌, ◌<◌, ◌≤◌, ◌^◌, List, length, slice_get, Some}
use Rattle.mesh_types.specs.declared.links.Link.{Link}
use Rattle.mesh_types.specs.declared.links.PolyRef.{PolyRef}
use Rattle.mesh_types.specs.declared.mesh.Mesh.{Mesh}
use Rattle.mesh_types.specs.Corridors.{IsLinkOf, cost_of, weight_of}
use Rattle.mesh_types.specs.Located.{IsLocated}
use Rattle.mesh_types.specs.Right.{IsNowhere}
use Rattle.path_queries.specs.declared.filters.Filter.{Filter}
use Rattle.path_queries.specs.declared.floods.FloodQuery.{FloodQuery}
use Rattle.path_queries.specs.declared.floods.Flooded.{Flooded}
use Rattle.path_queries.specs.declared.floods.FloodAnswer.{FloodAnswer}
use Rattle.path_queries.specs.declared.floods.FloodAnswer.TheVariants as floods
use Rattle.path_queries.specs.Filters.{AllowedTo, Enters, priced}
use Rattle.path_queries.specs.Floods.{IsFlooded}

-- a link leads from a polygon into one of an open area that is earlier in the list, and their costs differ by its weight
pub record IsStepBack (mesh : Mesh) (filter : Filter) (list : List Flooded) (place : ℕ) (entry : Flooded) : Type 0 where
  pub next : Flooded
  pub there : slice_get list entry.via ≡ Some next
  pub earlier : entry.via < place
  pub link : Link
  pub listed : IsLinkOf mesh link
  pub leaves : link.from ≡ entry.at
  pub enters : Enters mesh filter.areas link
  pub reaches : link.to ≡ next.at
  pub adds_up : entry.cost ≡ weight_of (priced mesh filter) link + next.cost

-- a flood back from a polygon: each polygon from which an allowed walk leads there that costs no more than a number, and no other, once
-- each, by rising costs; each with the cost of its cheapest allowed walk, and the place of the polygon behind it on such a walk
pub record IsFloodBack (mesh : Mesh) (filter : Filter) (last : PolyRef) (most : ℕ) (list : List Flooded) : Type 0 where
  pub begins : slice_get list 0 ≡ Some (record { at = last; cost = 0; via = 0 })
  pub once : (j k : ℕ) (a b : Flooded) → slice_get list j ≡ Some a → slice_get list k ≡ Some b → a.at ≡ b.at → j ≡ k
  pub rising : (j k : ℕ) (a b : Flooded) → j ≤ k → slice_get list j ≡ Some a → slice_get list k ≡ Some b → a.cost ≤ b.cost
  pub each : (k : ℕ) (entry : Flooded) → slice_get list k ≡ Some entry → entry.cost ≤ most
  pub least : (k : ℕ) (entry : Flooded) (links : List Link) → slice_get list k ≡ Some entry → AllowedTo mesh filter.areas entry.at links last
      → entry.cost ≤ cost_of (priced mesh filter) links
  pub steps : (k : ℕ) (entry : Flooded) → 0 < k → slice_get list k ≡ Some entry → IsStepBack mesh filter list k entry
  pub all : (polygon : PolyRef) (links : List Link) → AllowedTo mesh filter.areas polygon links last → cost_of (priced mesh filter) links ≤ most
      → IsFlooded list polygon

-- what a search back makes of it: it has no more polygons than a mesh may have, its costs are less than 2 ^ 45, and where the number is the
-- greatest, it has each polygon from which an allowed walk leads there, whatever that costs
pub record IsWholeFloodBack (mesh : Mesh) (filter : Filter) (last : PolyRef) (most : ℕ) (list : List Flooded) : Type 0 where
  pub flood : IsFloodBack mesh filter last most list
  pub few : length list ≤ 8000000
  pub low : (k : ℕ) (entry : Flooded) → slice_get list k ≡ Some entry → entry.cost < 2 ^ 45
  pub whole : most ≡ 18446744073709551615 → (polygon : PolyRef) (links : List Link) → AllowedTo mesh filter.areas polygon links last
      → IsFlooded list polygon

-- the polygon that locates the place, and a flood back from there
pub record IsFloodTo (mesh : Mesh) (query : FloodQuery) (list : List Flooded) : Type 0 where
  pub last : PolyRef
  pub goal : IsLocated mesh query.at query.y last
  pub flood : IsFloodBack mesh query.filter last query.most_cost list

-- an answer to a question for a flood back is right in a mesh
abbrev pub IsRightFloodBack : FloodQuery → Mesh → FloodAnswer → Type 0
IsRightFloodBack query mesh (floods.Flooded list) = IsFloodTo mesh query list
IsRightFloodBack query mesh floods.NoStart = IsNowhere mesh query.at query.y
