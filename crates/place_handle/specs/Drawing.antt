-- The place that a number draws over the border: which question is asked, and what is told of its answer.
use Rattle.std.specs.Prelude.{ℕ}
use Rattle.mesh_types.specs.declared.mesh.Mesh.{Mesh}
use Rattle.nav_handle.specs.Statuses as status
use Rattle.place_handle.specs.declared.places.NavdPlace.{NavdPlace}
use Rattle.place_handle.specs.Places.{place_told}
use Rattle.place_handle.specs.Statuses.{no_place}
use Rattle.random_place.specs.declared.draws.DrawPlace.{DrawPlace}
use Rattle.random_place.specs.declared.draws.DrawAnswer.{DrawAnswer}
use Rattle.random_place.specs.declared.draws.DrawAnswer.TheVariants.{Drawn, Cut, Nowhere}
use Rattle.random_place.specs.Draws.{IsRightDraw}

-- the question: of which areas, and by which number
abbrev pub draw_asked : ℕ → ℕ → DrawPlace
draw_asked areas draw = record { areas = areas; draw = draw }

-- its right answers in a mesh
abbrev pub IsDrawnBy : DrawPlace → Mesh → DrawAnswer → Type 0
IsDrawnBy asked mesh answer = IsRightDraw mesh asked answer

-- how it ends with an answer
abbrev pub draw_ends : DrawAnswer → ℕ
draw_ends (Drawn place) = status.ok
draw_ends Cut = status.cut
draw_ends Nowhere = no_place

-- the place drawn is told; where none is, the host's place stays as it is
abbrev pub told_draw : DrawAnswer → NavdPlace → NavdPlace
told_draw (Drawn place) room = place_told place
told_draw Cut room = room
told_draw Nowhere room = room
