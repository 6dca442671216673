-- Spots: points of a triangle times a whole number, and those that its part in a row of columns is spanned by.
use Rattle.std.specs.Prelude.{◌≡◌, ℕ, ◌+◌, ◌-◌, ◌*◌, ◌/◌, ◌≤◌, ◌&&◌, nat_lt, nat_le, cond, List, [], ◌∷◌, ◌++◌}
use Rattle.std.specs.Int.{div_ceil}
use Rattle.tri_raster.specs.declared.triangle.Corner3.{Corner3}
use Rattle.tri_raster.specs.declared.triangle.Tri.{Tri}
use Rattle.tri_raster.specs.declared.triangle.Spot.{Spot}
use Rattle.tri_raster.specs.declared.triangle.Mark.{Mark}
use Rattle.tri_raster.specs.Triangles.{Weights, count_of, x_of, y_of, z_of}

-- a spot that some weights of a triangle's corners stand for, in a row of columns, its border included
pub record IsSpotOf (tri : Tri) (z : ℕ) (spot : Spot) : Type 0 where
  pub point : Weights
  pub some : 1 ≤ spot.n
  pub count : count_of point ≡ spot.n
  pub x : x_of tri point ≡ spot.x
  pub y : y_of tri point ≡ spot.y
  pub front : 16 * z * spot.n ≤ z_of tri point
  pub back : z_of tri point ≤ (16 * z + 16) * spot.n

-- a spot's numbers are within their limits
pub record IsSized (spot : Spot) : Type 0 where
  pub some : 1 ≤ spot.n
  pub few : spot.n ≤ 16384
  pub x : spot.x ≤ 16384 * spot.n
  pub y : spot.y ≤ 8190 * spot.n

-- where a spot lies
abbrev pub mark_of : Spot → Mark
mark_of spot = record {
  spot = spot;
  column = spot.x / (16 * spot.n);
  end = div_ceil spot.x (16 * spot.n);
  low = spot.y / spot.n;
  high = div_ceil spot.y spot.n;
}

-- a corner
abbrev pub spot_of : Corner3 → Spot
spot_of corner = record { n = 1; x = corner.x; y = corner.y }

-- where an edge crosses a line of constant z between its ends
abbrev pub crossing : Corner3 → Corner3 → ℕ → Spot
crossing from to line = record {
  n = to.z - from.z;
  x = (to.z - line) * from.x + (line - from.z) * to.x;
  y = (to.z - line) * from.y + (line - from.z) * to.y;
}

-- a corner that lies in a row, its border included
abbrev pub corner_spots : Corner3 → ℕ → List Spot
corner_spots corner z = cond (nat_le (16 * z) corner.z && nat_le corner.z (16 * z + 16)) (spot_of corner ∷ []) []

-- where an edge crosses a line, if its ends lie on both sides of it
abbrev pub edge_spots : Corner3 → Corner3 → ℕ → List Spot
edge_spots a b line = cond (nat_lt a.z line && nat_lt line b.z) (crossing a b line ∷ []) (cond (nat_lt b.z line && nat_lt line a.z) (crossing b a line ∷ []) [])

-- the corners of a triangle in a row, and where its edges cross the row's two lines
unfoldable pub row_spots : Tri → ℕ → List Spot
row_spots tri z =
    ((((((((corner_spots tri.a z ++ corner_spots tri.b z) ++ corner_spots tri.c z)
    ++ edge_spots tri.a tri.b (16 * z)) ++ edge_spots tri.b tri.c (16 * z)) ++ edge_spots tri.c tri.a (16 * z))
    ++ edge_spots tri.a tri.b (16 * z + 16)) ++ edge_spots tri.b tri.c (16 * z + 16)) ++ edge_spots tri.c tri.a (16 * z + 16))
