-- Slides over the border: which question is asked, and what is told of its answer.
use Rattle.std.specs.Prelude.{ℕ}
use Rattle.mesh_types.specs.declared.mesh.Mesh.{Mesh}
use Rattle.nav_handle.specs.declared.wire.NavdPoint.{NavdPoint}
use Rattle.nav_handle.specs.Statuses as status
use Rattle.nav_handle.specs.Wire.{point_of}
use Rattle.place_handle.specs.declared.places.NavdPlace.{NavdPlace}
use Rattle.place_handle.specs.Places.{place_of, place_told}
use Rattle.wall_slide.specs.declared.questions.Slide.{Slide}
use Rattle.wall_slide.specs.declared.questions.SlideAnswer.{SlideAnswer}
use Rattle.wall_slide.specs.declared.questions.SlideAnswer.TheVariants.{Slid, NoStart}
use Rattle.wall_slide.specs.Slides.{IsRightSlide}

-- the question: from which place, toward which point, and into polygons of which areas
abbrev pub slide_asked : NavdPlace → NavdPoint → ℕ → Slide
slide_asked from to areas = record { from = place_of from; to = point_of to; areas = areas }

-- its right answers in a mesh
abbrev pub IsSlidBy : Slide → Mesh → SlideAnswer → Type 0
IsSlidBy asked mesh answer = IsRightSlide mesh asked answer

-- how it ends with an answer
abbrev pub slide_ends : SlideAnswer → ℕ
slide_ends (Slid end) = status.ok
slide_ends NoStart = status.no_start

-- the place where the slide ends is told; where it has no start, the host's place stays as it is
abbrev pub told_slide : SlideAnswer → NavdPlace → NavdPlace
told_slide (Slid end) room = place_told end
told_slide NoStart room = room
