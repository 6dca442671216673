-- Slides: which polygons a slide looks at, and where it ends.
use Rattle.std.specs.Prelude.{◌≡◌, ℕ, ◌*◌, ◌≤◌, pos, ◌*ℤ◌, ◌+ℤ◌, List}
use Rattle.nav_base.specs.declared.deviation.Deviation.{Deviation}
use Rattle.nav_base.specs.declared.point.Point.{Point}
use Rattle.nav_base.specs.Deviation.{deviation_of, square_of}
use Rattle.nav_base.specs.Point.{HasCoordinates, IsInField, from_to}
use Rattle.mesh_types.specs.declared.links.Link.{Link}
use Rattle.mesh_types.specs.declared.links.PolyRef.{PolyRef}
use Rattle.mesh_types.specs.declared.links.Portal.{Portal}
use Rattle.mesh_types.specs.declared.mesh.Mesh.{Mesh}
use Rattle.mesh_types.specs.declared.storeys.MeshPlace.{MeshPlace}
use Rattle.mesh_types.specs.Places.{IsPlace}
use Rattle.mesh_types.specs.Rays.{IsHeldAt}
use Rattle.mesh_place.specs.declared.heights.HeightAnswer.{HeightAnswer}
use Rattle.mesh_place.specs.declared.heights.HeightAnswer.TheVariants.{Height, NoPlace}
use Rattle.mesh_place.specs.Heights.{IsRightHeight}
use Rattle.wall_slide.specs.declared.discs.Motion.{Motion}
use Rattle.wall_slide.specs.declared.questions.Slide.{Slide}
use Rattle.wall_slide.specs.declared.questions.SlideAnswer.{SlideAnswer}
use Rattle.wall_slide.specs.declared.questions.SlideAnswer.TheVariants.{Slid, NoStart}
use Rattle.wall_slide.specs.Around.{IsOpen, WalksBy}

-- what may be asked: two points with coordinates
pub record CanSlide (asked : Slide) : Type 0 where
  pub from : HasCoordinates asked.from.point
  pub to : HasCoordinates asked.to

-- twice a point, and the sum of two: the sum of the ends of a way is twice its middle
abbrev pub doubled : Point → Point
doubled p = record { x = pos 2 *ℤ p.x; z = pos 2 *ℤ p.z }

abbrev pub added : Point → Point → Point
added a b = record { x = a.x +ℤ b.x; z = a.z +ℤ b.z }

-- one squared distance is at most another
abbrev pub IsNoFarther : Deviation → Deviation → Type 0
IsNoFarther a b = a.num * b.den ≤ b.num * a.den

abbrev pub whole : ℕ → Deviation
whole n = record { num = n; den = 1 }

-- a portal touches the disc that has the way from a to b as its diameter; all doubled, to stay whole
abbrev pub TouchesDisc : Point → Point → Portal → Type 0
TouchesDisc a b portal =
    IsNoFarther (deviation_of (doubled portal.right) (doubled portal.left) (added a b)) (whole (square_of (from_to a b)))

-- a slide passes an open link whose portal touches the disc between its start and its target
abbrev pub IsPassed : Mesh → Slide → Link → Type 0
IsPassed mesh asked link = IsOpen mesh asked.areas link × TouchesDisc asked.from.point asked.to link.portal

-- the polygons that a slide looks at: over links that it passes
abbrev pub LooksAt : Mesh → Slide → PolyRef → Type 0
LooksAt mesh asked at = (links : List Link) × WalksBy (IsPassed mesh asked) mesh asked.from.polygon links at

-- a point is no farther from the start of a slide than its target is
abbrev pub IsInReach : Slide → Point → Type 0
IsInReach asked p = square_of (from_to asked.from.point p) ≤ square_of (from_to asked.from.point asked.to)

-- the height that is told at a point of a polygon; 0 where there is none
abbrev pub told_height : HeightAnswer → ℕ
told_height (Height y aside) = y
told_height NoPlace = 0

abbrev pub IsFloorTold : Mesh → MeshPlace → Type 0
IsFloorTold mesh place =
    (answer : HeightAnswer) × IsRightHeight mesh place.polygon place.point answer × (place.y ≡ told_height answer)

-- the end of a slide: in a polygon that it looks at, no farther from the start than the target is; no point so near the start that one of
-- those polygons holds is nearer to the target
pub record IsSlide (mesh : Mesh) (asked : Slide) (end : MeshPlace) : Type 0 where
  pub start : IsPlace mesh asked.from
  pub looks : LooksAt mesh asked end.polygon
  pub held : IsHeldAt mesh end.point end.polygon
  pub floor : IsFloorTold mesh end
  pub within : IsInReach asked end.point
  pub nearest : (at : PolyRef) (q : Point) → LooksAt mesh asked at → IsHeldAt mesh q at → IsInReach asked q
      → square_of (from_to asked.to end.point) ≤ square_of (from_to asked.to q)

-- right answers: where the slide ends, and that there is no start where the start is no place
abbrev pub IsRightSlide : Mesh → Slide → SlideAnswer → Type 0
IsRightSlide mesh asked (Slid end) = IsSlide mesh asked end
IsRightSlide mesh asked NoStart = IsPlace mesh asked.from → ⊥

-- it ends no farther from the target than it begins
abbrev pub EndsNoFarther : Slide → SlideAnswer → Type 0
EndsNoFarther asked (Slid end) = square_of (from_to asked.to end.point) ≤ square_of (from_to asked.to asked.from.point)
EndsNoFarther asked NoStart = Unit {0}

-- a slide begins at a point that its polygon holds, and makes for a point with coordinates
pub record StartsIn (mesh : Mesh) (asked : Slide) : Type 0 where
  pub held : IsHeldAt mesh asked.from.point asked.from.polygon
  pub to : HasCoordinates asked.to

-- a motion from a point of the field to one with coordinates
pub record IsMotion (motion : Motion) : Type 0 where
  pub from : IsInField motion.from
  pub to : HasCoordinates motion.to
