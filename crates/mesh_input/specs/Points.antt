-- Points of a mesh on the axes of a field, and those that are listed by vertex.
use Rattle.std.specs.Prelude.{◌≡◌, ℕ, List, slice_index_or, Option, Some, None, IfSome, pos, ◌+ℤ◌}
use Rattle.std.specs.Float.{Float}
use Rattle.world_grid.specs.declared.frame.WorldPoint.{WorldPoint}
use Rattle.tri_raster.specs.declared.triangle.Corner3.{Corner3}
use Rattle.mesh_input.specs.declared.grid.MeshGrid.{MeshGrid}
use Rattle.mesh_input.specs.declared.mesh.WorldTriangle.{WorldTriangle}
use Rattle.mesh_input.specs.declared.grid.GridPoint.{GridPoint}
use Rattle.mesh_input.specs.declared.grid.GridTriangle.{GridTriangle}
use Rattle.mesh_input.specs.declared.slope.Edge.{Edge}
use Rattle.mesh_input.specs.Axes.{IsPlaceOn}
use Rattle.mesh_input.specs.Meshes.{vertex_of, facet_of}

-- a point of the game lies at these places of the axes
pub record IsPointOn (grid : MeshGrid) (at : WorldPoint) (point : GridPoint) : Type 0 where
  pub x : IsPlaceOn at.x grid.x point.x
  pub y : IsPlaceOn at.y grid.y point.y
  pub z : IsPlaceOn at.z grid.z point.z

-- a triangle of the game has these corners on the axes
pub record IsTriangleOn (grid : MeshGrid) (facet : WorldTriangle) (on : GridTriangle) : Type 0 where
  pub a : IsPointOn grid facet.a on.a
  pub b : IsPointOn grid facet.b on.b
  pub c : IsPointOn grid facet.c on.c

-- a point on the axes as a corner of the field
abbrev pub corner_of : GridPoint → Corner3
corner_of point = record { x = point.x.number; y = point.y.number; z = point.z.number }

-- an edge leads from one point to another on the fine grid
pub record IsFromTo (from to : GridPoint) (edge : Edge) : Type 0 where
  pub x : pos to.x.fine ≡ pos from.x.fine +ℤ edge.x
  pub y : pos to.y.fine ≡ pos from.y.fine +ℤ edge.y
  pub z : pos to.z.fine ≡ pos from.z.fine +ℤ edge.z

-- the vertex at a place of the array is there, and this is its point on the axes
pub record IsListed (grid : MeshGrid) (vertices : List Float) (index : ℕ) (point : GridPoint) : Type 0 where
  pub at : WorldPoint
  pub there : vertex_of vertices index ≡ Some at
  pub is : IsPointOn grid at point

-- points that are listed stand where their vertices do
pub record AreVertexPoints (grid : MeshGrid) (vertices : List Float) (points : List (Option GridPoint)) : Type 0 where
  pub each : (index : ℕ) → IfSome (slice_index_or points index None) (IsListed grid vertices index)

-- the triangle at a place has all its vertices, and these are its corners on the axes
pub record IsListedTriangle (grid : MeshGrid) (vertices : List Float) (corners : List ℕ) (place : ℕ) (on : GridTriangle) : Type 0 where
  pub facet : WorldTriangle
  pub there : facet_of vertices corners place ≡ Some facet
  pub is : IsTriangleOn grid facet on
