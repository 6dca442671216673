-- Ends: where a slide can end, and what is found in some of the polygons that it looks at.
use Rattle.std.specs.Prelude.{◌≡◌, ◌≤◌, Some}
use Rattle.nav_base.specs.declared.point.Point.{Point}
use Rattle.nav_base.specs.Deviation.{square_of}
use Rattle.nav_base.specs.Point.{from_to}
use Rattle.mesh_types.specs.declared.links.PolyRef.{PolyRef}
use Rattle.mesh_types.specs.declared.mesh.Mesh.{Mesh}
use Rattle.mesh_types.specs.declared.polygon.Polygon.{Polygon}
use Rattle.mesh_types.specs.Rays.{IsHeldAt}
use Rattle.mesh_types.specs.WholeMesh.{poly_at}
use Rattle.wall_slide.specs.declared.questions.Slide.{Slide}
use Rattle.wall_slide.specs.declared.slides.SlideEnd.{SlideEnd}
use Rattle.wall_slide.specs.Slides.{IsInReach, LooksAt}

-- the mesh has the polygon that a reference names
pub record IsThere (mesh : Mesh) (at : PolyRef) : Type 0 where
  pub polygon : Polygon
  pub is : poly_at mesh at ≡ Some polygon

-- where a slide can end: at a point in reach of a polygon that it looks at
pub record IsEnd (mesh : Mesh) (asked : Slide) (end : SlideEnd) : Type 0 where
  pub looks : LooksAt mesh asked end.polygon
  pub held : IsHeldAt mesh end.point end.polygon
  pub within : IsInReach asked end.point

-- no point in reach that a polygon holds is nearer to the target
abbrev pub IsNearestIn : Mesh → Slide → SlideEnd → PolyRef → Type 0
IsNearestIn mesh asked end at =
    (q : Point) → IsHeldAt mesh q at → IsInReach asked q → square_of (from_to asked.to end.point) ≤ square_of (from_to asked.to q)

-- the nearest end of those in some polygons
pub record IsNearestEnd (mesh : Mesh) (asked : Slide) (among : PolyRef → Type 0) (end : SlideEnd) : Type 0 where
  pub is : IsEnd mesh asked end
  pub nearest : (at : PolyRef) → among at → IsNearestIn mesh asked end at

-- an end, or a nearer one
pub record IsNearerEnd (mesh : Mesh) (asked : Slide) (at : PolyRef) (old new : SlideEnd) : Type 0 where
  pub is : IsEnd mesh asked new
  pub kept : square_of (from_to asked.to new.point) ≤ square_of (from_to asked.to old.point)
  pub nearest : IsNearestIn mesh asked new at
