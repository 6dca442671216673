-- Landmarks: for each polygon its heights over a few of them; those of two polygons never differ by more than a walk from one to the other
-- costs, and no walk joins two polygons of which a landmark reaches one alone.
use Rattle.std.specs.Prelude.{◌≡◌, ℕ, zero, suc, ◌≤◌, ◌==◌, max, min, Bool, true, ◌&&◌, List, [], ◌∷◌, slice_index_or, Option, Some, None, IfSome}
use Rattle.std.specs.Bool.{beq}
use Rattle.std.specs.Int.{abs_diff}
use Rattle.nav_base.specs.declared.point.Point.{Point}
use Rattle.mesh_types.specs.declared.links.PolyRef.{PolyRef}
use Rattle.mesh_types.specs.declared.links.Link.{Link}
use Rattle.mesh_types.specs.declared.mesh.Mesh.{Mesh}
use Rattle.mesh_types.specs.Corridors.{IsLinkOf, weight_of}
use Rattle.graph_search.specs.declared.graph.Vertex.{Vertex}
use Rattle.corridor_search.specs.MeshGraphs.{polygon_of, IsSearched}
use Rattle.corridor_search.specs.Estimates.{CostsAtLeast, estimates_of}

-- heights by tile, and by place there: for each polygon one over each of eight landmarks
abbrev pub Heights : Type 0
Heights = List (List (List ℕ))

-- the heights of a polygon that has none
abbrev pub flat : List ℕ
flat = 0 ∷ 0 ∷ 0 ∷ 0 ∷ 0 ∷ 0 ∷ 0 ∷ 0 ∷ []

-- the heights of a polygon
abbrev pub heights_at : Heights → PolyRef → List ℕ
heights_at marks at = slice_index_or (slice_index_or marks at.tile []) at.index flat

-- the greatest difference of the heights of two polygons over the first landmarks, so many of them
unfoldable pub gap_of : ℕ → List ℕ → List ℕ → ℕ
gap_of zero heights others = 0
gap_of (suc k) heights others = max (gap_of k heights others) (abs_diff (slice_index_or heights k 0) (slice_index_or others k 0))

-- whether a height is that of a polygon which the landmark does not reach: the greatest that 32 bits hold
abbrev pub is_unreached : ℕ → Bool
is_unreached height = height == 4294967295

-- whether each of the first landmarks, so many of them, reaches both of two polygons or neither
unfoldable pub are_alike : ℕ → List ℕ → List ℕ → Bool
are_alike zero heights others = true
are_alike (suc k) heights others = are_alike k heights others && beq (is_unreached (slice_index_or heights k 0)) (is_unreached (slice_index_or others k 0))

-- along a link no height rises or falls by more than the link weighs, and no landmark reaches one of its ends alone
pub record IsGentle (mesh : Mesh) (marks : Heights) (link : Link) : Type 0 where
  pub gap : gap_of 8 (heights_at marks link.from) (heights_at marks link.to) ≤ weight_of mesh link
  pub alike : are_alike 8 (heights_at marks link.from) (heights_at marks link.to) ≡ true

-- so it is along each link of the mesh
pub record AreLandmarks (mesh : Mesh) (marks : Heights) : Type 0 where
  pub each : (link : Link) → IsLinkOf mesh link → IsGentle mesh marks link

-- the estimate of what is left to go from a vertex to a polygon with given heights: the distance to the goal at the least cost, or the gap
-- between the heights where that is greater. A gap counts as no more than 32 bits hold, so that costs and estimates add up in 64.
abbrev pub estimates_by : Mesh → Point → ℕ → Option Heights → List ℕ → Vertex → ℕ
estimates_by mesh goal least None heights v = estimates_of mesh goal least v
estimates_by mesh goal least (Some marks) heights v = max (estimates_of mesh goal least v) (min (gap_of 8 (heights_at marks (polygon_of v)) heights) 4294967295)

-- a mesh that is searched by the least cost of its areas, and by landmarks, where there are some
pub record IsSearchedBy (mesh : Mesh) (goal : Point) (least : ℕ) (marks : Option Heights) : Type 0 where
  pub searched : IsSearched mesh goal
  pub cost : CostsAtLeast mesh least
  pub landmarks : IfSome marks (AreLandmarks mesh)
