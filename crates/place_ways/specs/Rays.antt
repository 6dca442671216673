-- Rays: which questions for a straight walk from a place may be asked, and which answer is right.
use Rattle.nav_base.specs.Point.{HasCoordinates}
use Rattle.mesh_types.specs.declared.mesh.Mesh.{Mesh}
use Rattle.mesh_types.specs.Places.{IsPlace}
use Rattle.mesh_types.specs.Rays.{IsRayWalk}
use Rattle.place_ways.specs.declared.rays.PlaceRayAnswer.{PlaceRayAnswer}
use Rattle.place_ways.specs.declared.rays.PlaceRayAnswer.TheVariants.{Ray, NoStart}
use Rattle.place_ways.specs.declared.rays.PlaceRayQuery.{PlaceRayQuery}

-- both points have coordinates
pub record CanAskRay (query : PlaceRayQuery) : Type 0 where
  pub from : HasCoordinates query.from.point
  pub to : HasCoordinates query.to

-- a right answer: how the straight walk ends that begins in the polygon of a place of the mesh; that it is none where it is none
abbrev pub IsPlaceRay : PlaceRayQuery → Mesh → PlaceRayAnswer → Type 0
IsPlaceRay query mesh (Ray end) = IsPlace mesh query.from × IsRayWalk mesh query.from.polygon query.from.point query.to end
IsPlaceRay query mesh NoStart = IsPlace mesh query.from → ⊥
