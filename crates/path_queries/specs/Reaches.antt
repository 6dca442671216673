-- What a search within limits says of some goals: the nearest of them that it reached, or how far it has seen.
use Rattle.std.specs.Prelude.{◌≡◌, ℕ, ◌<◌, ◌≤◌, ◌^◌, ◌⊎◌, List, length, slice_get, Some, Contains}
use Rattle.mesh_types.specs.declared.answers.Corridor.{Corridor}
use Rattle.mesh_types.specs.declared.links.Link.{Link}
use Rattle.mesh_types.specs.declared.links.PolyRef.{PolyRef}
use Rattle.mesh_types.specs.declared.mesh.Mesh.{Mesh}
use Rattle.mesh_types.specs.Corridors.{IsLinkOf, cost_of}
use Rattle.graph_search.specs.declared.exploring.Limits.{Limits}
use Rattle.path_queries.specs.declared.filters.Filter.{Filter}
use Rattle.path_queries.specs.declared.reach.Reach.{Reach}
use Rattle.path_queries.specs.declared.reach.Reach.TheVariants.{Found, Limit, Apart}
use Rattle.path_queries.specs.Filters.{AllowedTo, IsCheapestAllowed, priced}

-- a polygon is entered by a link from one to which an allowed walk leads
pub record IsMet (mesh : Mesh) (areas : ℕ) (first at : PolyRef) : Type 0 where
  pub before : PolyRef
  pub links : List Link
  pub allowed : AllowedTo mesh areas first links before
  pub link : Link
  pub listed : IsLinkOf mesh link
  pub leaves : link.from ≡ before
  pub reaches : link.to ≡ at

-- polygons that a search meets: they differ, and each is the first, or is entered from one to which an allowed walk leads
pub record AreMet (mesh : Mesh) (areas : ℕ) (first : PolyRef) (polygons : List PolyRef) : Type 0 where
  pub once : (j k : ℕ) (at : PolyRef) → slice_get polygons j ≡ Some at → slice_get polygons k ≡ Some at → j ≡ k
  pub each : (k : ℕ) (at : PolyRef) → slice_get polygons k ≡ Some at → (at ≡ first) ⊎ IsMet mesh areas first at

-- a search was cut no sooner than its limits say: it has seen beyond the greatest cost, or met as many polygons as it may
abbrev pub IsDeep : Mesh → ℕ → PolyRef → ℕ → ℕ → ℕ → Type 0
IsDeep mesh areas first most_cost most_polygons seen =
    (most_cost < seen) ⊎ ((polygons : List PolyRef) × AreMet mesh areas first polygons × (most_polygons ≤ length polygons))

-- limits that may end a search: a cost that is less than the greatest number, or no more polygons than a mesh may have
abbrev pub ArePlanLimits : ℕ → ℕ → Type 0
ArePlanLimits most_cost most_polygons = (most_cost < 18446744073709551615) ⊎ (most_polygons ≤ 8000000)

-- one of the goals was reached by a cheapest allowed walk within the limits, and no allowed walk to another of them costs less
pub record IsNearest (mesh : Mesh) (filter : Filter) (first : PolyRef) (goals : List PolyRef) (limits : Limits) (at : PolyRef)
    (corridor : Corridor) : Type 0 where
  pub is_goal : Contains goals at
  pub cheapest : IsCheapestAllowed mesh filter first at corridor
  pub none_less : (other : PolyRef) (links : List Link) → Contains goals other → AllowedTo mesh filter.areas first links other
      → corridor.cost ≤ cost_of (priced mesh filter) links
  pub within_cost : corridor.cost ≤ limits.key
  pub within_count : length corridor.links ≤ limits.count
  pub low : corridor.cost < 2 ^ 45
  pub few : length corridor.links < 8000000

-- each allowed walk to one of the goals costs at least a number, up to which the search has seen
pub record IsBeyondSeen (mesh : Mesh) (filter : Filter) (first : PolyRef) (goals : List PolyRef) (limits : Limits) (seen : ℕ) : Type 0 where
  pub beyond : (goal : PolyRef) (links : List Link) → Contains goals goal → AllowedTo mesh filter.areas first links goal
      → seen ≤ cost_of (priced mesh filter) links
  pub deep : IsDeep mesh filter.areas first limits.key limits.count seen
  pub limited : ArePlanLimits limits.key limits.count
  -- where the polygons are not limited, the cost is what it has passed
  pub past : 8000000 < limits.count → limits.key < seen

-- what is said of goals
abbrev pub IsReach : Mesh → Filter → PolyRef → List PolyRef → Limits → Reach → Type 0
IsReach mesh filter first goals limits (Found at corridor) = IsNearest mesh filter first goals limits at corridor
IsReach mesh filter first goals limits (Limit seen) = IsBeyondSeen mesh filter first goals limits seen
IsReach mesh filter first goals limits Apart =
    (goal : PolyRef) (links : List Link) → Contains goals goal → AllowedTo mesh filter.areas first links goal → ⊥
