-- Triangles, their points, and what lies in a column of the field. Everything is a natural number.
use Rattle.std.specs.Prelude.{ℕ, ◌+◌, ◌*◌, ◌<◌, ◌≤◌}
use Rattle.tri_raster.specs.declared.triangle.Corner3.{Corner3}
use Rattle.tri_raster.specs.declared.triangle.Tri.{Tri}

-- a corner lies on the grid over the largest field, and at least one height unit below its highest top
pub record IsCorner (corner : Corner3) : Type 0 where
  pub x : corner.x ≤ 16384
  pub y : corner.y ≤ 8190
  pub z : corner.z ≤ 16384

-- a triangle within its limits
pub record IsTriangle (tri : Tri) : Type 0 where
  pub a : IsCorner tri.a
  pub b : IsCorner tri.b
  pub c : IsCorner tri.c
  pub area : tri.area ≤ 63

-- weights of the three corners of a triangle: the point that they stand for has these sums as its coordinates, each divided by the sum of the weights
pub record Weights : Type 0 where
  pub u : ℕ
  pub v : ℕ
  pub w : ℕ

-- the sum of the weights
abbrev pub count_of : Weights → ℕ
count_of p = p.u + p.v + p.w

-- the sum along x
abbrev pub x_of : Tri → Weights → ℕ
x_of tri p = p.u * tri.a.x + p.v * tri.b.x + p.w * tri.c.x

-- the sum of heights
abbrev pub y_of : Tri → Weights → ℕ
y_of tri p = p.u * tri.a.y + p.v * tri.b.y + p.w * tri.c.y

-- the sum along z
abbrev pub z_of : Tri → Weights → ℕ
z_of tri p = p.u * tri.a.z + p.v * tri.b.z + p.w * tri.c.z

-- a point of a triangle lies in a column of the field, its border included
pub record IsOver (tri : Tri) (x z : ℕ) (p : Weights) : Type 0 where
  pub some : 1 ≤ count_of p
  pub left : 16 * x * count_of p ≤ x_of tri p
  pub right : x_of tri p ≤ (16 * x + 16) * count_of p
  pub front : 16 * z * count_of p ≤ z_of tri p
  pub back : z_of tri p ≤ (16 * z + 16) * count_of p

-- a point of a triangle lies inside a column of the field
pub record IsInside (tri : Tri) (x z : ℕ) (p : Weights) : Type 0 where
  pub some : 1 ≤ count_of p
  pub left : 16 * x * count_of p < x_of tri p
  pub right : x_of tri p < (16 * x + 16) * count_of p
  pub front : 16 * z * count_of p < z_of tri p
  pub back : z_of tri p < (16 * z + 16) * count_of p
