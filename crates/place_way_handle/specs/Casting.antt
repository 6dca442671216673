-- Straight walks from a place over the border: which question is asked, and what is told of its answer.
use Rattle.std.specs.Prelude.{ℕ}
use Rattle.mesh_types.specs.declared.answers.RayAnswer.{RayAnswer}
use Rattle.mesh_types.specs.declared.answers.RayAnswer.TheVariants.{Reached, Wall}
use Rattle.mesh_types.specs.declared.mesh.Mesh.{Mesh}
use Rattle.nav_handle.specs.declared.wire.NavdPoint.{NavdPoint}
use Rattle.nav_handle.specs.declared.wire.NavdRay.{NavdRay}
use Rattle.nav_handle.specs.Statuses as status
use Rattle.nav_handle.specs.Wire.{point_of, point_told, polygon_told}
use Rattle.place_handle.specs.declared.places.NavdPlace.{NavdPlace}
use Rattle.place_handle.specs.Places.{place_of}
use Rattle.place_ways.specs.declared.rays.PlaceRayAnswer.{PlaceRayAnswer}
use Rattle.place_ways.specs.declared.rays.PlaceRayAnswer.TheVariants.{Ray, NoStart}
use Rattle.place_ways.specs.declared.rays.PlaceRayQuery.{PlaceRayQuery}
use Rattle.place_ways.specs.Rays.{IsPlaceRay}

-- the question: from which place, toward which point
abbrev pub ray_asked : NavdPlace → NavdPoint → PlaceRayQuery
ray_asked from to = record { from = place_of from; to = point_of to }

-- its right answers in a mesh
abbrev pub IsCastBy : PlaceRayQuery → Mesh → PlaceRayAnswer → Type 0
IsCastBy query mesh answer = IsPlaceRay query mesh answer

-- how a straight walk ends, and with it the question
abbrev pub end_status : RayAnswer → ℕ
end_status (Reached at) = status.ok
end_status (Wall a b num den) = status.wall

abbrev pub ray_ends : PlaceRayAnswer → ℕ
ray_ends (Ray end) = end_status end
ray_ends NoStart = status.no_start

-- it is told in which polygon, or at which edge the walk ends; where it has no start, nothing is told
abbrev pub told_end : RayAnswer → NavdRay → NavdRay
told_end (Reached at) ray = record ray { last = polygon_told at }
told_end (Wall a b num den) ray = record ray { a = point_told a; b = point_told b; num = num; den = den }

abbrev pub told_ray : PlaceRayAnswer → NavdRay → NavdRay
told_ray (Ray end) ray = told_end end ray
told_ray NoStart ray = ray
