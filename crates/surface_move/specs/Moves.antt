-- Moves: how far a straight way leads through polygons, in whole points. A way of n steps, as many as it is long on its longer axis, reaches
-- after g of them the place g / n of the way from its beginning to its end.
use Rattle.std.specs.Prelude.{◌≡◌, ℕ, ◌<◌, ◌≤◌, max, pos, ◌+ℤ◌, ◌-ℤ◌, ◌*ℤ◌, ℤ, false, List, length, get_or, All, Option, Some, None}
use Rattle.std.specs.Int.RustNames.{unsigned_abs}
use Rattle.nav_base.specs.declared.point.Point.{Point}
use Rattle.mesh_types.specs.declared.links.PolyRef.{PolyRef}
use Rattle.mesh_types.specs.declared.mesh.Mesh.{Mesh}
use Rattle.mesh_types.specs.declared.polygon.Polygon.{Polygon}
use Rattle.mesh_types.specs.LinkOrder.{is_point_before}
use Rattle.mesh_types.specs.Rays.{IsHeldAt}
use Rattle.mesh_types.specs.WholeMesh.{poly_at}
use Rattle.surface_move.specs.declared.parts.PartEnd.{PartEnd}

-- how far it is from one point to another along the longer axis
abbrev pub leg_of : Point → Point → ℕ
leg_of a b = max (unsigned_abs (b.x -ℤ a.x)) (unsigned_abs (b.z -ℤ a.z))

-- a whole coordinate is less than 1 away from the place that lies g / n of the way from one coordinate to another
abbrev pub IsNearAlong : (n g : ℕ) → (from to at : ℤ) → Type 0
IsNearAlong n g from to at = unsigned_abs (pos n *ℤ at -ℤ (pos n *ℤ from +ℤ pos g *ℤ (to -ℤ from))) < n

-- a whole point is near the way from one point to another after g steps
pub record IsNear (from to : Point) (g : ℕ) (q : Point) : Type 0 where
  pub across : IsNearAlong (leg_of from to) g from.x to.x q.x
  pub along : IsNearAlong (leg_of from to) g from.z to.z q.z

-- the polygons of a list are there
pub record IsThere (mesh : Mesh) (at : PolyRef) : Type 0 where
  pub polygon : Polygon
  pub is : poly_at mesh at ≡ Some polygon

abbrev pub AreThere : Mesh → List PolyRef → Type 0
AreThere mesh polys = All (IsThere mesh) polys

-- stands for no polygon; the polygon at a place of a list
abbrev pub no_polygon : PolyRef
no_polygon = record { tile = 0; index = 0 }

-- the polygon at a place of a list
abbrev pub nth_polygon : List PolyRef → ℕ → PolyRef
nth_polygon polys place = get_or polys place no_polygon

-- after g steps a near point lies in the polygon at a place of a list
pub record IsMet (mesh : Mesh) (polys : List PolyRef) (from to : Point) (g place : ℕ) (q : Point) : Type 0 where
  pub near : IsNear from to g q
  pub there : place < length polys
  pub held : IsHeldAt mesh q (nth_polygon polys place)

-- the part of a way that leads through polygons: the greatest number of steps, from 1 up to a limit, after which some near point lies in one of
-- them; the least such point, by x and then z; and the first of the polygons that hold it
pub record IsPartEnd (mesh : Mesh) (polys : List PolyRef) (from to : Point) (rest : ℕ) (end : PartEnd) : Type 0 where
  pub some : 1 ≤ end.gone
  pub within : end.gone ≤ rest
  pub met : IsMet mesh polys from to end.gone end.place end.at
  pub greatest : (g place : ℕ) (q : Point) → IsMet mesh polys from to g place q → g ≤ rest → g ≤ end.gone
  pub least : (place : ℕ) (q : Point) → IsMet mesh polys from to end.gone place q → is_point_before q end.at ≡ false
  pub first : (place : ℕ) → IsMet mesh polys from to end.gone place end.at → end.place ≤ place

-- there is none exactly where no near point lies in any of them after any such number of steps
abbrev pub IsPart : Mesh → List PolyRef → Point → Point → ℕ → Option PartEnd → Type 0
IsPart mesh polys from to rest (Some end) = IsPartEnd mesh polys from to rest end
IsPart mesh polys from to rest None = (g place : ℕ) (q : Point) → IsMet mesh polys from to g place q → 1 ≤ g → g ≤ rest → ⊥
