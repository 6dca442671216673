-- Where a march along a path that was found ends, and what it leaves.
use Rattle.std.proofs.Common.{◌≡◌, ℕ, ◌-◌, ◌≤◌, List, length, take, drop, sym, ap, subst, ◌∙◌, arith}
use Rattle.std.specs.Prelude.{All, Some}
use Rattle.std.proofs.lemmas.List.Elements.{All-take}
use Rattle.nav_base.specs.declared.point.Point.{Point}
use Rattle.nav_ground.specs.Limits.{IsSetting}
use Rattle.mesh_types.specs.declared.answers.PathFound.{PathFound}
use Rattle.mesh_types.specs.declared.answers.Corner.{Corner}
use Rattle.mesh_types.specs.declared.answers.Corridor.{Corridor}
use Rattle.mesh_types.specs.declared.links.Link.{Link}
use Rattle.mesh_types.specs.declared.links.PolyRef.{PolyRef}
use Rattle.mesh_types.specs.declared.mesh.Mesh.{Mesh}
use Rattle.mesh_types.specs.declared.polygon.Polygon.{Polygon}
use Rattle.mesh_types.specs.Corridors.{IsCheapest, IsLinkOf, cost_of}
use Rattle.mesh_types.specs.Right.{IsPath}
use Rattle.mesh_types.specs.Soundness.{IsSound}
use Rattle.mesh_types.specs.WholeMesh.{poly_at}
use Rattle.mesh_types.proofs.WalkChains.{held_in_coordinates}
use Rattle.surface_move.specs.Moves.{nth_polygon, IsThere}
use Rattle.nav_query.proofs.FewLinks.{few_links}
use Rattle.agent_walks.specs.declared.walkers.MarchEnd.{MarchEnd}
use Rattle.agent_walks.specs.Marches.{polygons_of, IsMarch}
use Rattle.agent_walks.specs.Standings.{EndsAt, IsLine}
use Rattle.agent_walks.specs.Walkers.{IsOnWay}
use Rattle.agent_walks.proofs.CorridorParts.{cheapest_left, cost_left, count_polygons, walk_links}

module _ (mesh : Mesh) (from : Point) (from_y : ℕ) (goal : Point) (goal_y : ℕ) (found : PathFound) (path : IsPath mesh from from_y goal goal_y found)
    (sound : IsSound mesh) (setting : IsSetting mesh.setting) (links : List Link) (corners : List Corner) (same : links ≡ found.links) (same' : corners ≡ found.turns) where
  abbrev pub corridor : Corridor
  corridor = record { cost = found.cost; links = found.links }

  -- its line
  pub line : IsLine mesh found.first path.last links from goal corners
  line =
      subst (λ (ls : List Link). IsLine mesh found.first path.last ls from goal corners) (sym same)
      (subst (λ (cs : List Corner). IsLine mesh found.first path.last found.links from goal cs) (sym same') (record {
        walks = path.cheapest.walks;
        few = omega (arith, few_links mesh found.first path.last corridor sound setting path.cheapest);
        start = record { polygon = path.start.holding.polygon; there = path.start.holding.there; holds = path.start.holding.holds };
        reaches = record { polygon = path.goal.holding.polygon; there = path.goal.holding.there; holds = path.goal.holding.holds };
        taut = path.taut;
      }))

  module _ (far : ℕ) (stop : MarchEnd) (ends : EndsAt mesh found.first links from goal far corners stop) where
    -- it ends at one of the corridor's polygons
    pub within : stop.place ≤ length links
    within = omega (arith, ends.stops.within, count_polygons found.first links)

    pub there : (at : PolyRef) → at ≡ nth_polygon (polygons_of found.first links) stop.place → IsThere mesh at
    there at is = subst (IsThere mesh) (sym is) (record { polygon = ends.stops.held.polygon; is = ends.stops.held.there })

    -- the links that are passed
    pub passed_links : All (IsLinkOf mesh) (take stop.place links)
    passed_links = All-take (IsLinkOf mesh) stop.place links (walk_links mesh found.first links path.last line.walks)

    all_cost : cost_of mesh links ≡ found.cost
    all_cost = ap (cost_of mesh) same ∙ sym path.cheapest.cost

    pub passed_cost : cost_of mesh (take stop.place links) ≤ found.cost
    passed_cost = omega (arith, cost_left mesh links stop.place, all_cost)

    module _ (at : PolyRef) (y cost : ℕ) (left : List Link) (is : at ≡ nth_polygon (polygons_of found.first links) stop.place)
        (floor : (polygon : Polygon) → poly_at mesh at ≡ Some polygon → y ≡ polygon.low) (rest : left ≡ drop stop.place found.links)
        (costs : cost ≡ found.cost - cost_of mesh (take stop.place links)) where
      at_place : at ≡ nth_polygon (polygons_of found.first found.links) stop.place
      at_place = is ∙ ap (λ (ls : List Link). nth_polygon (polygons_of found.first ls) stop.place) same

      is_there : poly_at mesh at ≡ Some ends.stops.held.polygon
      is_there = ap (poly_at mesh) is ∙ ends.stops.held.there

      left_cost : cost ≡ cost_of mesh (drop stop.place found.links)
      left_cost =
          omega (arith, costs, cost_left mesh links stop.place, all_cost) ∙ ap (λ (ls : List Link). cost_of mesh (drop stop.place ls)) same

      ends' : EndsAt mesh found.first found.links from goal far found.turns stop
      ends' =
          subst (λ (ls : List Link). EndsAt mesh found.first ls from goal far found.turns stop) same
          (subst (λ (cs : List Corner). EndsAt mesh found.first links from goal far cs stop) same' ends)

      pub is_march : IsMarch mesh from from_y goal goal_y far at stop.point y cost left
      is_march = record {
        first = found.first;
        start = path.start;
        last = path.last;
        reaches = path.goal;
        corridor = corridor;
        cheapest = path.cheapest;
        corners = found.turns;
        taut = path.taut;
        place = stop.place;
        ends = ends'.ends;
        comes_to = at_place;
        polygon = ends.stops.held.polygon;
        there = is_there;
        floor = floor ends.stops.held.polygon is_there;
        rest = rest;
        adds_up = left_cost ∙ ap (cost_of mesh) (sym rest);
      }

      pub is_on_way : IsOnWay mesh goal goal_y at stop.point y cost left
      is_on_way = record {
        polygon = ends.stops.held.polygon;
        there = is_there;
        within = held_in_coordinates mesh _ stop.point sound (record { polygon = ends.stops.held.polygon; there = ends.stops.held.there; holds = ends.stops.held.holds });
        holds = ends.stops.held.holds;
        floor = floor ends.stops.held.polygon is_there;
        last = path.last;
        reaches = path.goal;
        cheapest =
            subst (λ (p : PolyRef). IsCheapest mesh p path.last (record { cost = cost; links = left })) (sym at_place)
            (subst (λ (ls : List Link). IsCheapest mesh (nth_polygon (polygons_of found.first found.links) stop.place) path.last (record { cost = cost; links = ls })) (sym rest)
            (cheapest_left mesh found.first path.last corridor stop.place cost path.cheapest (subst (λ (ls : List Link). stop.place ≤ length ls) same within) left_cost));
      }
