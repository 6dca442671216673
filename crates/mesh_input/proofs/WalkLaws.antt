-- What the points of a triangle on the axes say of it.
use Rattle.std.proofs.Common.{◌≡◌, ℕ, ◌≤◌, Bool, true, false, refl, sym, subst, ap, ap₂, ◌-ℤ◌, ◌*ℤ◌}
use Rattle.std.specs.Prelude.{MatchBool, ◌&&◌}
use Rattle.std.specs.Float.{Float, float_is_finite}
use Rattle.std.specs.Int.RustNames.{unsigned_abs}
use Rattle.world_grid.proofs.ValueLaws.{finite_value}
use Rattle.world_grid.specs.declared.frame.WorldPoint.{WorldPoint}
use Rattle.tri_raster.specs.declared.triangle.Corner3.{Corner3}
use Rattle.tri_raster.specs.declared.triangle.Tri.{Tri}
use Rattle.mesh_input.specs.declared.grid.MeshAxis.{MeshAxis}
use Rattle.mesh_input.specs.declared.grid.MeshGrid.{MeshGrid}
use Rattle.mesh_input.specs.declared.grid.GridPoint.{GridPoint}
use Rattle.mesh_input.specs.declared.grid.GridTriangle.{GridTriangle}
use Rattle.mesh_input.specs.declared.mesh.WorldTriangle.{WorldTriangle}
use Rattle.mesh_input.specs.declared.slope.Slope.{Slope}
use Rattle.mesh_input.specs.declared.slope.Edge.{Edge}
use Rattle.mesh_input.specs.Axes.{IsOnAxis}
use Rattle.mesh_input.specs.Meshes.{is_finite, is_finite_point}
use Rattle.mesh_input.specs.Points.{IsPointOn, IsTriangleOn, IsFromTo, corner_of}
use Rattle.mesh_input.specs.Slopes.{IsGentle, IsUpper, shadow_x, shadow_y, shadow_z}
use Rattle.mesh_input.specs.Triangles.{IsCornerAt, LiesInField, IsInField, IsEdge, IsSameEdge, IsWalkable, IsAreaOf, IsTriOf, off_lines}
use Rattle.mesh_input.proofs.AxisLaws.{change_is, change_only}
use Rattle.mesh_input.proofs.GentleLaws.{flat_at}

-- edges with the same numbers are as gentle
same_gentle : (slope : Slope) (p q p' q' : Edge) → IsSameEdge p p' → IsSameEdge q q' → IsGentle slope p' q' → IsGentle slope p q
same_gentle slope p q p' q' s t gentle =
    let x : shadow_x p' q' ≡ shadow_x p q = ap₂ ◌-ℤ◌ (ap₂ ◌*ℤ◌ s.y t.z) (ap₂ ◌*ℤ◌ s.z t.y) in
    let y : shadow_y p' q' ≡ shadow_y p q = ap₂ ◌-ℤ◌ (ap₂ ◌*ℤ◌ s.z t.x) (ap₂ ◌*ℤ◌ s.x t.z) in
    let z : shadow_z p' q' ≡ shadow_z p q = ap₂ ◌-ℤ◌ (ap₂ ◌*ℤ◌ s.x t.y) (ap₂ ◌*ℤ◌ s.y t.x) in
    record {
      upper = subst (IsUpper slope) y gentle.upper;
      flat_enough = flat_at slope _ _ _ _ _ _ (ap unsigned_abs x) (ap unsigned_abs y) (ap unsigned_abs z) gentle.flat_enough;
    }

module _ (grid : MeshGrid) (slope : Slope) (facet : WorldTriangle) where
  by_gentle : (result : Bool) (p q : Edge) → IsEdge grid facet.a facet.b p → IsEdge grid facet.a facet.c q
      → ((other : Edge) → IsEdge grid facet.a facet.b other → IsSameEdge p other) → ((other : Edge) → IsEdge grid facet.a facet.c other → IsSameEdge q other)
      → MatchBool result (IsGentle slope p q) (¬ IsGentle slope p q) → MatchBool result (IsWalkable grid slope facet) (¬ IsWalkable grid slope facet)
  by_gentle true p q is also one two gentle = record { first = p; is_first = is; second = q; is_second = also; gentle = gentle }
  by_gentle false p q is also one two steep = λ w. steep (same_gentle slope p q w.first w.second (one w.first w.is_first) (two w.second w.is_second) w.gentle)

-- the edges between points on the axes are those of the triangle
module _ (grid : MeshGrid) (from to : WorldPoint) (a b : GridPoint) (edge : Edge) (starts : IsPointOn grid from a) (ends : IsPointOn grid to b) (is : IsFromTo a b edge) where
  edge_is : IsEdge grid from to edge
  edge_is = record {
    x = change_is from.x to.x grid.x a.x.fine b.x.fine edge.x starts.x.fine ends.x.fine is.x;
    y = change_is from.y to.y grid.y a.y.fine b.y.fine edge.y starts.y.fine ends.y.fine is.y;
    z = change_is from.z to.z grid.z a.z.fine b.z.fine edge.z starts.z.fine ends.z.fine is.z;
  }

  edge_only : (other : Edge) → IsEdge grid from to other → IsSameEdge edge other
  edge_only other h = record {
    x = change_only from.x to.x grid.x a.x.fine b.x.fine edge.x starts.x.fine ends.x.fine is.x other.x h.x;
    y = change_only from.y to.y grid.y a.y.fine b.y.fine edge.y starts.y.fine ends.y.fine is.y other.y h.y;
    z = change_only from.z to.z grid.z a.z.fine b.z.fine edge.z starts.z.fine ends.z.fine is.z other.z h.z;
  }

pub walkable : (grid : MeshGrid) (slope : Slope) (facet : WorldTriangle) (on : GridTriangle) (result : Bool) (p q : Edge) → IsTriangleOn grid facet on → IsFromTo on.a on.b p → IsFromTo on.a on.c q
    → MatchBool result (IsGentle slope p q) (¬ IsGentle slope p q) → MatchBool result (IsWalkable grid slope facet) (¬ IsWalkable grid slope facet)
walkable grid slope facet on result p q is first second gentle =
    by_gentle grid slope facet result p q (edge_is grid facet.a facet.b on.a on.b p is.a is.b first) (edge_is grid facet.a facet.c on.a on.c q is.a is.c second)
    (edge_only grid facet.a facet.b on.a on.b p is.a is.b first) (edge_only grid facet.a facet.c on.a on.c q is.a is.c second) gentle

-- a triangle on the axes lies in the field, and its numbers are finite
all_three : (a b c : Bool) → a ≡ true → b ≡ true → c ≡ true → (a && b && c) ≡ true
all_three true true true p q r = refl
all_three true true false p q r = r
all_three true false c p q r = q
all_three false b c p q r = p

finite_on : (x : Float) (axis : MeshAxis) (n : ℕ) → IsOnAxis x axis n → float_is_finite x ≡ true
finite_on x axis n h = finite_value x h.steps.negative h.steps.size _ h.steps.value

finite_point : (grid : MeshGrid) (at : WorldPoint) (point : GridPoint) → IsPointOn grid at point → is_finite_point at ≡ true
finite_point grid at point is =
    all_three (float_is_finite at.x) (float_is_finite at.y) (float_is_finite at.z)
    (finite_on at.x grid.x point.x.number is.x.number) (finite_on at.y grid.y point.y.number is.y.number) (finite_on at.z grid.z point.z.number is.z.number)

pub finite_triangle : (grid : MeshGrid) (facet : WorldTriangle) (on : GridTriangle) → IsTriangleOn grid facet on → is_finite facet ≡ true
finite_triangle grid facet on is =
    all_three (is_finite_point facet.a) (is_finite_point facet.b) (is_finite_point facet.c) (finite_point grid facet.a on.a is.a) (finite_point grid facet.b on.b is.b) (finite_point grid facet.c on.c is.c)

lies : (grid : MeshGrid) (at : WorldPoint) (point : GridPoint) → IsPointOn grid at point → LiesInField grid at
lies grid at point is = record {
  x = record { at = point.x.number; is = is.x.number };
  y = record { at = point.y.number; is = is.y.number };
  z = record { at = point.z.number; is = is.z.number };
}

pub lies_in_field : (grid : MeshGrid) (facet : WorldTriangle) (on : GridTriangle) → IsTriangleOn grid facet on → IsInField grid facet
lies_in_field grid facet on is = record { a = lies grid facet.a on.a is.a; b = lies grid facet.b on.b is.b; c = lies grid facet.c on.c is.c }

corner_at : (grid : MeshGrid) (at : WorldPoint) (point : GridPoint) → IsPointOn grid at point → IsCornerAt grid at (corner_of point)
corner_at grid at point is = record { x = is.x.number; y = is.y.number; z = is.z.number }

pub tri_of : (grid : MeshGrid) (slope : Slope) (facet : WorldTriangle) (on : GridTriangle) (given area : ℕ) (p q r : Corner3) (tri : Tri) → IsTriangleOn grid facet on → given ≤ 63 → IsAreaOf grid slope facet given area
    → p ≡ corner_of on.a → q ≡ corner_of on.b → r ≡ corner_of on.c → tri ≡ off_lines (record { a = p; b = q; c = r; area = area }) → IsTriOf grid slope facet given tri
tri_of grid slope facet on given area p q r tri is few has f g h e = record {
  corners = record { a = p; b = q; c = r; area = area };
  has = record {
    a = subst (IsCornerAt grid facet.a) (sym f) (corner_at grid facet.a on.a is.a);
    b = subst (IsCornerAt grid facet.b) (sym g) (corner_at grid facet.b on.b is.b);
    c = subst (IsCornerAt grid facet.c) (sym h) (corner_at grid facet.c on.c is.c);
  };
  area = has;
  is = e;
  allowed = few;
  finite = finite_triangle grid facet on is;
}
