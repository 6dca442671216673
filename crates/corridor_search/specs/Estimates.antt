-- What a step into a polygon costs from a point, and the estimate of what is left to go, by the extents of polygons.
use Rattle.std.specs.Prelude.{ℕ, ◌*◌, ◌≤◌, max, pos, ◌+ℤ◌, ◌*ℤ◌, map, slice_get, slice_index, slice_index_or}
use Rattle.std.specs.Option.{option_map_or}
use Rattle.nav_base.specs.declared.point.Point.{Point}
use Rattle.nav_base.specs.Point.{IsCellCorner}
use Rattle.nav_base.specs.Distance.{distance_of}
use Rattle.nav_ground.specs.Limits.{IsArea}
use Rattle.mesh_types.specs.declared.links.PolyRef.{PolyRef}
use Rattle.mesh_types.specs.declared.polygon.Polygon.{Polygon}
use Rattle.mesh_types.specs.declared.mesh.TileMesh.{TileMesh}
use Rattle.mesh_types.specs.declared.mesh.Mesh.{Mesh}
use Rattle.mesh_types.specs.declared.extent.Extent.{Extent}
use Rattle.mesh_types.specs.Extents.{extent_of}
use Rattle.mesh_types.specs.WholeMesh.{poly_at}
use Rattle.mesh_types.specs.Corridors.{centre_of}
use Rattle.graph_search.specs.declared.graph.Vertex.{Vertex}
use Rattle.corridor_search.specs.MeshGraphs.{polygon_of}

-- what a step into a polygon costs from a point: the distance to its middle, rounded up and at least 1, times the cost of its area
abbrev pub weight_from : Mesh → Point → PolyRef → ℕ
weight_from mesh centre at =
    option_map_or (λ (to : Polygon). max 1 (distance_of centre (centre_of to.corners)) * slice_index mesh.setting.costs to.area) (poly_at mesh at) 0

-- how far it is from a polygon's middle to the goal, rounded up
abbrev pub estimate_from : Mesh → Point → PolyRef → ℕ
estimate_from mesh goal at = option_map_or (λ (polygon : Polygon). distance_of (centre_of polygon.corners) goal) (poly_at mesh at) 0

-- the extent of a polygon, and the middle of its box in sixteenths of a cell
abbrev pub nowhere : Extent
nowhere =
    let origin : Point = record { x = pos 0; z = pos 0 } in
    record { low = origin; high = origin; area = 0 }

abbrev pub extent_at : Mesh → PolyRef → Extent
extent_at mesh at = option_map_or (λ (tile : TileMesh). slice_index_or (map extent_of tile.polys) at.index nowhere) (slice_get mesh.tiles at.tile) nowhere

abbrev pub middle_of : Extent → Point
middle_of extent = record { x = pos 8 *ℤ (extent.low.x +ℤ extent.high.x); z = pos 8 *ℤ (extent.low.z +ℤ extent.high.z) }

-- both corners of the box lie in the largest field
pub record IsBox (extent : Extent) : Type 0 where
  pub low : IsCellCorner extent.low
  pub high : IsCellCorner extent.high

-- a number from 1 on than which no area costs less
pub record CostsAtLeast (mesh : Mesh) (least : ℕ) : Type 0 where
  pub some : 1 ≤ least
  pub each : (area : ℕ) → IsArea area → least ≤ slice_index mesh.setting.costs area

-- the estimates of all vertices: the distance to the goal, each sixteenth of it at the least cost
abbrev pub estimates_of : Mesh → Point → ℕ → Vertex → ℕ
estimates_of mesh goal least v = estimate_from mesh goal (polygon_of v) * least
