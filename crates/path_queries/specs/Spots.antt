-- Spots: of the polygons that a search reached, the points nearest to a goal.
use Rattle.std.specs.Prelude.{◌≡◌, ℕ, ◌<◌, ◌≤◌, ◌⊎◌, true, List, length, slice_get, Some, All}
use Rattle.nav_base.specs.declared.point.Point.{Point}
use Rattle.nav_base.specs.Point.{HasCoordinates}
use Rattle.mesh_types.specs.declared.links.PolyRef.{PolyRef}
use Rattle.mesh_types.specs.declared.mesh.Mesh.{Mesh}
use Rattle.mesh_types.specs.declared.polygon.Polygon.{Polygon}
use Rattle.mesh_types.specs.Located.{Holds}
use Rattle.mesh_types.specs.WholeMesh.{poly_at}
use Rattle.graph_search.specs.declared.exploring.ReachedVertex.{ReachedVertex}
use Rattle.mesh_place.specs.HeldPoints.{IsNearestHeld}
use Rattle.corridor_search.specs.MeshGraphs.{IsThere, polygon_of}
use Rattle.path_queries.specs.declared.spots.Spot.{Spot}
use Rattle.path_queries.specs.declared.spots.Toward.{Toward}
use Rattle.path_queries.specs.PartialWays.{IsNoWorse, nearness_of}
use Rattle.path_queries.specs.Searches.{is_kept}

-- the goal has coordinates, and height and rise are within their limits
pub record IsToward (toward : Toward) : Type 0 where
  pub point : HasCoordinates toward.goal
  pub height : toward.y ≤ 65535
  pub most : toward.rise ≤ 1024

-- all polygons that were reached are there
abbrev pub AreThere : Mesh → List ReachedVertex → Type 0
AreThere mesh list = All (λ (entry : ReachedVertex). IsThere mesh (polygon_of entry.vertex)) list

-- walks may lead on from the polygon at a place of the list
pub record IsKeptAt (mesh : Mesh) (areas : ℕ) (first : PolyRef) (list : List ReachedVertex) (place : ℕ) : Type 0 where
  pub entry : ReachedVertex
  pub there : slice_get list place ≡ Some entry
  pub leads : is_kept mesh areas first entry ≡ true

-- how near a point of a polygon is to a goal
abbrev pub near_of : Toward → Polygon → Point → ℕ
near_of toward polygon p = nearness_of toward.rise toward.goal toward.y polygon p

-- the spot of a polygon that was reached: its point nearest to the goal, with its least floor, its cost, and how near it is
pub record IsSpotNear (mesh : Mesh) (toward : Toward) (list : List ReachedVertex) (spot : Spot) : Type 0 where
  pub entry : ReachedVertex
  pub there : slice_get list spot.place ≡ Some entry
  pub at : spot.end.polygon ≡ polygon_of entry.vertex
  pub cost_is : spot.cost ≡ entry.cost
  pub polygon : Polygon
  pub is : poly_at mesh spot.end.polygon ≡ Some polygon
  pub nearest_held : IsNearestHeld polygon toward.goal spot.end.point
  pub floor : spot.end.y ≡ polygon.low
  pub near_is : spot.near ≡ near_of toward polygon spot.end.point

-- no point of the polygon at a place is better than an end
abbrev pub IsNoneBetter : Mesh → Toward → List ReachedVertex → ℕ → ℕ → ℕ → Type 0
IsNoneBetter mesh toward list near cost place =
    (entry : ReachedVertex) (polygon : Polygon) (p : Point) → slice_get list place ≡ Some entry → poly_at mesh (polygon_of entry.vertex) ≡ Some polygon
    → Holds polygon p → IsNoWorse near cost (near_of toward polygon p) entry.cost

-- what is found once the polygon at a place was looked at
pub record IsNearerSpot (mesh : Mesh) (toward : Toward) (list : List ReachedVertex) (place : ℕ) (old new : Spot) : Type 0 where
  pub spot : IsSpotNear mesh toward list new
  pub one_of : (new.place ≡ old.place) ⊎ (new.place ≡ place)
  pub kept : (near cost : ℕ) → IsNoWorse old.near old.cost near cost → IsNoWorse new.near new.cost near cost
  pub none : IsNoneBetter mesh toward list new.near new.cost place

-- the best spot of the polygons before a place from which walks may lead on
pub record IsNearestBefore (mesh : Mesh) (areas : ℕ) (first : PolyRef) (toward : Toward) (list : List ReachedVertex) (end : ℕ) (spot : Spot) : Type 0 where
  pub is : IsSpotNear mesh toward list spot
  pub kept : IsKeptAt mesh areas first list spot.place
  pub none : (place : ℕ) → place < end → IsKeptAt mesh areas first list place → IsNoneBetter mesh toward list spot.near spot.cost place

-- and of all
abbrev pub IsNearestSpot : Mesh → ℕ → PolyRef → Toward → List ReachedVertex → Spot → Type 0
IsNearestSpot mesh areas first toward list spot = IsNearestBefore mesh areas first toward list (length list) spot
