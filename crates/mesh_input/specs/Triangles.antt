-- The triangles of a field that those of a mesh are, and what is wrong with one that is none.
use Rattle.std.specs.Prelude.{◌≡◌, ◌⊎◌, ℕ, ◌+◌, ◌%◌, ◌≤◌, ◌<◌, Bool, true, false, min, ◌==◌, ◌&&◌, if◌then◌else◌, Result, Ok, Err}
use Rattle.world_grid.specs.declared.frame.WorldPoint.{WorldPoint}
use Rattle.tri_raster.specs.declared.triangle.Corner3.{Corner3}
use Rattle.tri_raster.specs.declared.triangle.Tri.{Tri}
use Rattle.mesh_input.specs.declared.fault.MeshFault.{MeshFault}
use Rattle.mesh_input.specs.declared.fault.MeshFault.TheVariants as faults
use Rattle.mesh_input.specs.declared.grid.MeshGrid.{MeshGrid}
use Rattle.mesh_input.specs.declared.mesh.WorldTriangle.{WorldTriangle}
use Rattle.mesh_input.specs.declared.slope.Edge.{Edge}
use Rattle.mesh_input.specs.declared.slope.Slope.{Slope}
use Rattle.mesh_input.specs.Axes.{IsOnAxis, LiesOnAxis, IsFineChange}
use Rattle.mesh_input.specs.Meshes.{is_finite}
use Rattle.mesh_input.specs.Slopes.{IsGentle}

-- a corner of the field is a point's: it has the numbers of the point on all axes
pub record IsCornerAt (grid : MeshGrid) (at : WorldPoint) (corner : Corner3) : Type 0 where
  pub x : IsOnAxis at.x grid.x corner.x
  pub y : IsOnAxis at.y grid.y corner.y
  pub z : IsOnAxis at.z grid.z corner.z

-- a point lies in the field: it is some corner of it
pub record LiesInField (grid : MeshGrid) (at : WorldPoint) : Type 0 where
  pub x : LiesOnAxis at.x grid.x
  pub y : LiesOnAxis at.y grid.y
  pub z : LiesOnAxis at.z grid.z

-- a triangle lies in the field with all its corners
pub record IsInField (grid : MeshGrid) (facet : WorldTriangle) : Type 0 where
  pub a : LiesInField grid facet.a
  pub b : LiesInField grid facet.b
  pub c : LiesInField grid facet.c

-- a triangle of the field has the corners of one of the game
pub record HasCorners (grid : MeshGrid) (facet : WorldTriangle) (tri : Tri) : Type 0 where
  pub a : IsCornerAt grid facet.a tri.a
  pub b : IsCornerAt grid facet.b tri.b
  pub c : IsCornerAt grid facet.c tri.c

-- from one point to another it is so far on the fine grid
pub record IsEdge (grid : MeshGrid) (from to : WorldPoint) (edge : Edge) : Type 0 where
  pub x : IsFineChange from.x to.x grid.x edge.x
  pub y : IsFineChange from.y to.y grid.y edge.y
  pub z : IsFineChange from.z to.z grid.z edge.z

-- two edges have the same numbers
pub record IsSameEdge (one other : Edge) : Type 0 where
  pub x : other.x ≡ one.x
  pub y : other.y ≡ one.y
  pub z : other.z ≡ one.z

-- somebody can walk on a triangle: it is gentle, by its edges on the fine grid
pub record IsWalkable (grid : MeshGrid) (slope : Slope) (facet : WorldTriangle) : Type 0 where
  pub first : Edge
  pub is_first : IsEdge grid facet.a facet.b first
  pub second : Edge
  pub is_second : IsEdge grid facet.a facet.c second
  pub gentle : IsGentle slope first second

-- a triangle's area is the one that was given where somebody can walk on it, and 0 elsewhere
abbrev pub IsAreaOf : MeshGrid → Slope → WorldTriangle → ℕ → ℕ → Type 0
IsAreaOf grid slope facet given area = (IsWalkable grid slope facet × (area ≡ given)) ⊎ ((¬ IsWalkable grid slope facet) × (area ≡ 0))

-- three numbers of corners are all the same line between columns
abbrev pub is_on_line : ℕ → ℕ → ℕ → Bool
is_on_line a b c = (a == b) && (b == c) && (a % 16 == 0)

-- how far what stands on a line is moved
abbrev pub step_behind : Bool → ℕ
step_behind on = if on then 1 else 0

-- a corner, moved by so many sixteenths along x and z, but not beyond the largest field
abbrev pub moved : Corner3 → ℕ → ℕ → Corner3
moved corner x z = record { x = min (corner.x + x) 16384; y = corner.y; z = min (corner.z + z) 16384 }

abbrev pub moved_tri : Tri → ℕ → ℕ → Tri
moved_tri tri x z = record { a = moved tri.a x z; b = moved tri.b x z; c = moved tri.c x z; area = tri.area }

-- What stands upright on a line between columns lies inside no column, so that it would leave nothing in any. It counts for the column behind
-- the line: it is moved there by a sixteenth of a cell, at its heights.
abbrev pub off_lines : Tri → Tri
off_lines tri = moved_tri tri (step_behind (is_on_line tri.a.x tri.b.x tri.c.x)) (step_behind (is_on_line tri.a.z tri.b.z tri.c.z))

-- a triangle of the field is that of one of the game, to which an area is given
pub record IsTriOf (grid : MeshGrid) (slope : Slope) (facet : WorldTriangle) (given : ℕ) (tri : Tri) : Type 0 where
  pub corners : Tri
  pub has : HasCorners grid facet corners
  pub area : IsAreaOf grid slope facet given corners.area
  pub is : tri ≡ off_lines corners
  pub allowed : given ≤ 63
  pub finite : is_finite facet ≡ true

-- what a triangle of the game becomes, to which an area is given: a triangle of the field, or what is wrong with it, first of all
abbrev pub IsMade : MeshGrid → Slope → WorldTriangle → ℕ → Result Tri MeshFault → Type 0
IsMade grid slope facet given (Ok tri) = IsTriOf grid slope facet given tri
IsMade grid slope facet given (Err faults.NoVertex) = ⊥
IsMade grid slope facet given (Err faults.NoNumber) = is_finite facet ≡ false
IsMade grid slope facet given (Err faults.Outside) = (is_finite facet ≡ true) × (¬ IsInField grid facet)
IsMade grid slope facet given (Err faults.BadArea) = (is_finite facet ≡ true) × IsInField grid facet × (63 < given)
