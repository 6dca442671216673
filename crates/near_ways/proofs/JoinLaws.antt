-- Ways between nearest places: what is right between them is right for their points, and their points have coordinates.
use Rattle.std.proofs.Common.{◌≡◌, ap, subst, IfOk, Result, Ok, Err}
use Rattle.nav_base.specs.Point.{HasCoordinates}
use Rattle.mesh_place.specs.declared.near.Near.{Near}
use Rattle.mesh_place.specs.declared.near.NearAnswer.{NearAnswer}
use Rattle.mesh_place.specs.declared.near.NearAnswer.TheVariants.{Nearest, NoneInReach}
use Rattle.mesh_place.specs.Nearest.{IsNearest, IsRightNear}
use Rattle.mesh_types.specs.declared.mesh.Mesh.{Mesh}
use Rattle.mesh_types.specs.declared.storeys.MeshPlace.{MeshPlace}
use Rattle.mesh_types.specs.Places.{IsPlace}
use Rattle.mesh_types.specs.Soundness.{IsSound}
use Rattle.mesh_types.proofs.WalkChains.{held_in_coordinates}
use Rattle.near_ways.specs.declared.snapped.NearWayQuery.{NearWayQuery}
use Rattle.near_ways.specs.NearWays.{CanAskNearWay, IsJoining, IsNearUnlimited, IsNearWay, joining}
use Rattle.place_ways.specs.declared.ways.PlaceWayAnswer.{PlaceWayAnswer}
use Rattle.place_ways.specs.declared.ways.PlaceWayAnswer.TheVariants.{Way, Limit, NoStart, NoGoal, NoPath}
use Rattle.place_ways.specs.Ways.{AreAlikeWays, CanAskWay, IsPlaceWay, IsUnlimited}

-- what follows of a value follows where a result is one
pub on_ok : {A E : Type 0} {P Q : A → Type 0} → ((a : A) → P a → Q a) → (r : Result A E) → IfOk r P → IfOk r Q
on_ok follows (Ok a) is = follows a is
on_ok follows (Err e) is = tt

place_coordinates : (mesh : Mesh) (place : MeshPlace) → IsSound mesh → IsPlace mesh place → HasCoordinates place.point
place_coordinates mesh place sound is =
    held_in_coordinates mesh place.polygon place.point sound (record { polygon = is.held.polygon; there = is.held.there; holds = is.held.holds })

module _ (mesh : Mesh) (query : NearWayQuery) (from goal : MeshPlace) where
  pub can_join : IsSound mesh → CanAskNearWay query → IsPlace mesh from → IsPlace mesh goal → CanAskWay (joining query from goal)
  can_join sound can start end = record {
    from = place_coordinates mesh from sound start;
    goal = place_coordinates mesh goal sound end;
    filter = can.filter;
  }

  module _ (start : IsNearest mesh query.from from) (end : IsNearest mesh query.goal goal) (start_place : IsPlace mesh from) (end_place : IsPlace mesh goal) where
    joined : (answer : PlaceWayAnswer) → IsPlaceWay (joining query from goal) mesh answer → IsJoining query mesh answer
    joined answer is = record { from = from; start = start; goal = goal; end = end; right = is }

    pub near_way : (answer : PlaceWayAnswer) → IsPlaceWay (joining query from goal) mesh answer → IsNearWay query mesh answer
    near_way (Way way corners) is = joined (Way way corners) is
    near_way (Limit seen) is = joined (Limit seen) is
    near_way NoStart is = absurd (is start_place)
    near_way NoGoal is = absurd (is.1 end_place)
    near_way NoPath is = joined NoPath is

-- where none is in reach, none is nearest
lacks : (mesh : Mesh) (asked : Near) (place : MeshPlace) → IsRightNear mesh asked NoneInReach → IsNearest mesh asked place → ⊥
lacks mesh asked place none is = none place is.stands is.reach

-- the place that is told is the only nearest one
abbrev the_place : NearAnswer → MeshPlace → MeshPlace
the_place (Nearest place) other = place
the_place NoneInReach other = other

pub one_nearest : (mesh : Mesh) (asked : Near) (place : MeshPlace) → ((other : NearAnswer) → IsRightNear mesh asked other → other ≡ Nearest place)
    → (other : MeshPlace) → IsNearest mesh asked other → other ≡ place
one_nearest mesh asked place only other is = ap (λ (answer : NearAnswer). the_place answer other) (only (Nearest other) is)

module _ (mesh : Mesh) (query : NearWayQuery) where
  -- where none is in reach of where the way begins, that alone is right
  pub alike_startless : IsRightNear mesh query.from NoneInReach → (other : PlaceWayAnswer) → IsNearWay query mesh other → AreAlikeWays NoStart other
  alike_startless none (Way way corners) is = absurd (lacks mesh query.from is.from none is.start)
  alike_startless none (Limit seen) is = absurd (lacks mesh query.from is.from none is.start)
  alike_startless none NoStart is = tt
  alike_startless none NoGoal is = absurd (lacks mesh query.from is.from none is.start)
  alike_startless none NoPath is = absurd (lacks mesh query.from is.from none is.start)

  -- where one is, and none is in reach of where it ends, that alone is right
  pub alike_goalless : (from : MeshPlace) → IsNearest mesh query.from from → IsRightNear mesh query.goal NoneInReach
      → (other : PlaceWayAnswer) → IsNearWay query mesh other → AreAlikeWays NoGoal other
  alike_goalless from start none (Way way corners) is = absurd (lacks mesh query.goal is.goal none is.end)
  alike_goalless from start none (Limit seen) is = absurd (lacks mesh query.goal is.goal none is.end)
  alike_goalless from start none NoStart is = absurd (lacks mesh query.from from is start)
  alike_goalless from start none NoGoal is = tt
  alike_goalless from start none NoPath is = absurd (lacks mesh query.goal is.goal none is.end)

-- what is right between the only nearest places is all that is right
module _ (mesh : Mesh) (query : NearWayQuery) (from goal : MeshPlace) (start : IsNearest mesh query.from from) (end : IsNearest mesh query.goal goal)
    (one_start : (other : MeshPlace) → IsNearest mesh query.from other → other ≡ from)
    (one_end : (other : MeshPlace) → IsNearest mesh query.goal other → other ≡ goal) where
  between_these : (answer : PlaceWayAnswer) → IsJoining query mesh answer → IsPlaceWay (joining query from goal) mesh answer
  between_these answer is =
      subst (λ (b : MeshPlace). IsPlaceWay (joining query from b) mesh answer) (one_end is.goal is.end)
      (subst (λ (a : MeshPlace). IsPlaceWay (joining query a is.goal) mesh answer) (one_start is.from is.start) is.right)

  unlimited : IsNearUnlimited query → IsUnlimited (joining query from goal)
  unlimited is = record { cost = is.cost; polygons = is.polygons }

  pub alike_joined : (answer : PlaceWayAnswer)
      → (IsUnlimited (joining query from goal) → (other : PlaceWayAnswer) → IsPlaceWay (joining query from goal) mesh other → AreAlikeWays answer other)
      → IsNearUnlimited query → (other : PlaceWayAnswer) → IsNearWay query mesh other → AreAlikeWays answer other
  alike_joined answer only all (Way way corners) is = only (unlimited all) (Way way corners) (between_these (Way way corners) is)
  alike_joined answer only all (Limit seen) is = only (unlimited all) (Limit seen) (between_these (Limit seen) is)
  alike_joined answer only all NoStart is = absurd (lacks mesh query.from from is start)
  alike_joined answer only all NoGoal is = absurd (lacks mesh query.goal goal is.none end)
  alike_joined answer only all NoPath is = only (unlimited all) NoPath (between_these NoPath is)
