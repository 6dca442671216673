-- What a plan answers, from what a search within its limits says of its one goal.
use Rattle.std.proofs.Common.{◌≡◌, refl, ℕ, ◌<◌, List, [], ◌∷◌, length, arith}
use Rattle.std.specs.Prelude.{None, Some}
use Rattle.std.proofs.lemmas.List.{length-map}
use Rattle.mesh_types.specs.declared.answers.Corner.{Corner}
use Rattle.mesh_types.specs.declared.answers.Corridor.{Corridor}
use Rattle.mesh_types.specs.declared.links.Link.{Link}
use Rattle.mesh_types.specs.declared.links.PolyRef.{PolyRef}
use Rattle.mesh_types.specs.declared.mesh.Mesh.{Mesh}
use Rattle.mesh_types.specs.declared.polygon.Polygon.{Polygon}
use Rattle.mesh_types.specs.WholeMesh.{poly_at}
use Rattle.mesh_types.specs.Located.{IsLocated}
use Rattle.mesh_types.specs.Right.{portals_of}
use Rattle.mesh_types.specs.Soundness.{IsSound}
use Rattle.mesh_types.specs.Taut.{IsTaut}
use Rattle.graph_search.specs.declared.exploring.Limits.{Limits}
use Rattle.path_queries.specs.declared.plans.PathQuery.{PathQuery}
use Rattle.path_queries.specs.Plans.{CanPlan, HasNoWay, IsLimited, IsWay}
use Rattle.path_queries.specs.declared.reach.Reach.TheVariants as reaches
use Rattle.path_queries.specs.Reaches.{IsBeyondSeen, IsNearest, IsReach}
use Rattle.path_queries.proofs.ReachLaws.{has-one, nearest-one}
use Rattle.path_queries.proofs.WayParts.{ArePulled, pulled}

module _ (mesh : Mesh) (query : PathQuery) (first last : PolyRef) (start : IsLocated mesh query.from query.from_y first)
    (goal : IsLocated mesh query.goal query.goal_y last) (whole : query.partial ≡ None) where
  abbrev limits : Limits
  limits = record { key = query.most_cost; count = query.most_polygons }

  -- the portals of a way can be pulled
  pub way-pulled : (at : PolyRef) (corridor : Corridor) → IsSound mesh → CanPlan query → IsNearest mesh query.filter first (last ∷ []) limits at corridor
      → ArePulled query.from (portals_of corridor.links) query.goal
  way-pulled at corridor sound can is =
      pulled mesh query.from query.from_y query.goal query.goal_y first last corridor.links sound can.from can.goal start goal
      (nearest-one mesh query.filter first last limits at corridor is).allowed.walks

  pub portals-few : (at : PolyRef) (corridor : Corridor) → IsNearest mesh query.filter first (last ∷ []) limits at corridor
      → length (portals_of corridor.links) < 4294967295
  portals-few at corridor is = omega (arith, is.few, length-map corridor.links (λ (link : Link). link.portal))

  -- a way
  pub way-of : (at : PolyRef) (corridor : Corridor) (turns : List Corner) (y : ℕ) → IsNearest mesh query.filter first (last ∷ []) limits at corridor
      → IsTaut query.from (portals_of corridor.links) query.goal turns
      → ((polygon : Polygon) → poly_at mesh last ≡ Some polygon → y ≡ polygon.low)
      → IsWay mesh query (record { first = first; cost = corridor.cost; links = corridor.links; turns = turns }) (record { polygon = last; point = query.goal; y = y })
  way-of at corridor turns y is taut floor = record {
    start = start;
    goal = goal;
    at_goal = refl;
    last = goal.holding.polygon;
    there = goal.holding.there;
    floor = floor goal.holding.polygon goal.holding.there;
    cheapest = nearest-one mesh query.filter first last limits at corridor is;
    taut = taut;
    within_cost = is.within_cost;
    within_count = is.within_count;
  }

  -- an end at a limit
  pub limited-of : (seen : ℕ) → IsBeyondSeen mesh query.filter first (last ∷ []) limits seen → IsLimited mesh query seen
  limited-of seen is = record {
    whole = whole;
    first = first;
    start = start;
    last = last;
    goal = goal;
    beyond = λ links allowed. is.beyond last links (has-one last) allowed;
    deep = is.deep;
    limited = is.limited;
  }

  -- no way
  pub no-way-of : IsReach mesh query.filter first (last ∷ []) limits reaches.Apart → HasNoWay mesh query
  no-way-of apart = record {
    whole = whole;
    first = first;
    start = start;
    last = last;
    goal = goal;
    no_walk = λ links allowed. apart last links (has-one last) allowed;
  }
