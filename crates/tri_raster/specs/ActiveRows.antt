-- Which rows of columns a triangle may meet, and the lists of triangles that are kept by that.
use Rattle.std.specs.Prelude.{◌≡◌, ℕ, ◌+◌, ◌/◌, ◌<◌, ◌≤◌, Bool, nat_lt, min, max, List, ◌++◌, filter, length, slice_index_or, [], All, Contains}
use Rattle.std.specs.Int.{div_ceil}
use Rattle.tri_raster.specs.declared.triangle.Tri.{Tri}
use Rattle.tri_raster.specs.Triangles.{IsTriangle}

-- the first row that a triangle may meet, and the one behind the last
abbrev pub first_row : Tri → ℕ
first_row tri = min (min tri.a.z tri.b.z) tri.c.z / 16

abbrev pub end_row : Tri → ℕ
end_row tri = div_ceil (max (max tri.a.z tri.b.z) tri.c.z) 16

-- of some triangles those that begin in a row and meet it
pub record BeginIn (tris : List Tri) (z : ℕ) (list : List Tri) : Type 0 where
  pub are : All (λ (tri : Tri). Contains tris tri × (first_row tri ≡ z) × (z < end_row tri)) list
  pub all : (tri : Tri) → Contains tris tri → first_row tri ≡ z → first_row tri < end_row tri → Contains list tri

-- for each of so many rows the triangles that begin there
pub record AreByRow (tris : List Tri) (depth : ℕ) (lists : List (List Tri)) : Type 0 where
  pub rows : length lists ≡ depth
  pub each : (z : ℕ) → z < depth → BeginIn tris z (slice_index_or lists z [])

-- of some triangles those that begin before a row and meet it, beside others that begin before it
pub record MayReach (tris : List Tri) (z : ℕ) (list : List Tri) : Type 0 where
  pub are : All (λ (tri : Tri). Contains tris tri × (first_row tri < z)) list
  pub all : (tri : Tri) → Contains tris tri → first_row tri < z → z < end_row tri → Contains list tri

-- of some triangles those that meet a row
pub record DoReach (tris : List Tri) (z : ℕ) (list : List Tri) : Type 0 where
  pub are : All (λ (tri : Tri). Contains tris tri × (first_row tri ≤ z) × (z < end_row tri)) list
  pub all : (tri : Tri) → Contains tris tri → first_row tri ≤ z → z < end_row tri → Contains list tri

-- a triangle reaches a row or one behind it
abbrev pub reaches_row : ℕ → Tri → Bool
reaches_row z tri = nat_lt z (end_row tri)

-- triangles that may meet a row and begin before it, and those that begin there
pub record CanEnter (z : ℕ) (active entering : List Tri) : Type 0 where
  pub old : All (λ (tri : Tri). IsTriangle tri × (first_row tri < z)) active
  pub new : All (λ (tri : Tri). IsTriangle tri × (first_row tri ≡ z) × (z < end_row tri)) entering
