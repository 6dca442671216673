-- PlacesTold: that what answers tell are places, from which to ask on.
use Rattle.std.specs.Prelude.{◌≡◌, List, All}
use Rattle.nav_base.specs.declared.point.Point.{Point}
use Rattle.nav_ground.specs.declared.setting.MeshKind.TheVariants.{Strips}
use Rattle.mesh_types.specs.declared.answers.PathFound.{PathFound}
use Rattle.mesh_types.specs.declared.links.PolyRef.{PolyRef}
use Rattle.mesh_types.specs.declared.mesh.Mesh.{Mesh}
use Rattle.mesh_types.specs.declared.storeys.MeshPlace.{MeshPlace}
use Rattle.mesh_types.specs.Places.{IsPlace}
use Rattle.mesh_types.specs.Rays.{IsHeldAt}
use Rattle.mesh_place.specs.declared.heights.HeightAnswer.TheVariants.{NoPlace}
use Rattle.mesh_place.specs.Heights.{IsRightHeight}
use Rattle.wall_slide.specs.declared.questions.Slide.{Slide}
use Rattle.wall_slide.specs.Slides.{IsSlide}
use Rattle.random_place.specs.declared.draws.DrawAnswer.TheVariants.{Cut}
use Rattle.random_place.specs.declared.draws.DrawPlace.{DrawPlace}
use Rattle.random_place.specs.Draws.{IsRightDraw}
use Rattle.place_ways.specs.declared.ways.PlaceWayQuery.{PlaceWayQuery}
use Rattle.place_ways.specs.Ways.{IsWayBetween}

-- where a polygon of a mesh holds a point, no right answer for the height there tells that there is no place
abbrev pub HeightsAreTold : Mesh → Type 0
HeightsAreTold mesh = (at : PolyRef) (p : Point) → IsHeldAt mesh p at → IsRightHeight mesh at p NoPlace → ⊥

-- each slide on a mesh ends at a place
abbrev pub SlidesEndAtPlaces : Mesh → Type 0
SlidesEndAtPlaces mesh = (asked : Slide) (end : MeshPlace) → IsSlide mesh asked end → IsPlace mesh end

-- the corners of each way between places of a mesh are places
abbrev pub WaysTurnAtPlaces : Mesh → Type 0
WaysTurnAtPlaces mesh = (query : PlaceWayQuery) (way : PathFound) (corners : List MeshPlace) → IsWayBetween mesh query way corners
    → All (IsPlace mesh) corners

-- where the setting asks for strips, no right answer to a draw on a mesh tells that it is cut
abbrev pub StripDrawsAreWhole : Mesh → Type 0
StripDrawsAreWhole mesh = mesh.setting.mesh ≡ Strips → (asked : DrawPlace) → IsRightDraw mesh asked Cut → ⊥
