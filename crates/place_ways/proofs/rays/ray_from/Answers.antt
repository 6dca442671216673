use Rattle.std.proofs.Common.{◌≡◌, ap}
use Rattle.mesh_types.specs.declared.answers.RayAnswer.{RayAnswer}
use Rattle.mesh_types.specs.declared.mesh.Mesh.{Mesh}
use Rattle.mesh_types.specs.Places.{IsPlace}
use Rattle.mesh_types.specs.Rays.{IsRayWalk}
use Rattle.place_ways.specs.declared.rays.PlaceRayAnswer.{PlaceRayAnswer}
use Rattle.place_ways.specs.declared.rays.PlaceRayAnswer.TheVariants.{Ray, NoStart}
use Rattle.place_ways.specs.declared.rays.PlaceRayQuery.{PlaceRayQuery}
use Rattle.place_ways.specs.Rays.{IsPlaceRay}
use Rattle.place_ways.proofs.rays.ray_from.Goals as goal

-- where the straight walk ends in one way alone, one answer alone is right
one_ray : (query : PlaceRayQuery) (mesh : Mesh) (end : RayAnswer) → IsPlace mesh query.from
    → ((other : RayAnswer) → IsRayWalk mesh query.from.polygon query.from.point query.to other → end ≡ other)
    → (answer : PlaceRayAnswer) → IsPlaceRay query mesh answer → Ray end ≡ answer
one_ray query mesh end place only (Ray other) is = ap Ray (only other is.1)
one_ray query mesh end place only NoStart is = absurd (is place)

pub returns-clause-only : goal.returns-clause-only
returns-clause-only c =
    one_ray c.args.query.now c.args.mesh.now c.in_ok-end.end (c.is_place.ensures.0 c.if-not-is_place.false) c.in_ok-end.ensures.only
