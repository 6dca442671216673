-- The portals of a walk that joins two places can be pulled to a line from the one to the other.
use Rattle.std.proofs.lemmas.List.Elements.{All-weaker}
use Rattle.mesh_types.specs.declared.answers.Corridor.{Corridor}
use Rattle.mesh_types.specs.declared.mesh.Mesh.{Mesh}
use Rattle.mesh_types.specs.declared.storeys.MeshPlace.{MeshPlace}
use Rattle.mesh_types.specs.Chains.{IsChain}
use Rattle.mesh_types.specs.Places.{IsPlace}
use Rattle.mesh_types.specs.Right.{portals_of}
use Rattle.mesh_types.specs.Soundness.{IsSound}
use Rattle.mesh_types.proofs.MeshLinks.{IsHeldIn}
use Rattle.mesh_types.proofs.WalkChains.{HasEnds, walk_ends, walk_is_chain}
use Rattle.funnel_path.specs.Coordinates.{HasChainCoordinates, HasEndCoordinates}
use Rattle.place_ways.specs.declared.ways.PlaceWayQuery.{PlaceWayQuery}
use Rattle.place_ways.specs.Ways.{ArePlaces, CanAskWay, IsCorridorOf}

held_in : (mesh : Mesh) (place : MeshPlace) → IsPlace mesh place → IsHeldIn mesh place.polygon place.point
held_in mesh place is = record { polygon = is.held.polygon; there = is.held.there; holds = is.held.holds }

module _ (mesh : Mesh) (query : PlaceWayQuery) (corridor : Corridor) (sound : IsSound mesh) (places : ArePlaces mesh query)
    (is : IsCorridorOf mesh query corridor) where
  pub chain_of : IsChain query.from.point (portals_of corridor.links) query.goal.point
  chain_of =
      walk_is_chain mesh query.from.polygon corridor.links query.goal.polygon query.from.point query.goal.point sound
      is.cheapest.allowed.walks (held_in mesh query.from places.start) (held_in mesh query.goal places.goal)

  pub coordinates_of : CanAskWay query → HasChainCoordinates query.from.point (portals_of corridor.links) query.goal.point
  coordinates_of can = record {
    at_start = can.from;
    at_ends = All-weaker HasEnds HasEndCoordinates (λ portal ends. record { left = ends.left; right = ends.right }) (portals_of corridor.links)
        (walk_ends mesh query.from.polygon corridor.links query.goal.polygon sound is.cheapest.allowed.walks);
    at_goal = can.goal;
  }
