-- A sound mesh is a graph that may be searched through a filter.
use Rattle.std.proofs.Common.{inl, inr, ◌⊎◌, ◌≡◌, ℕ, ◌+◌, ◌*◌, ◌≤◌, max, List, length, sym, subst, ap, arith}
use Rattle.std.specs.Prelude.{All, Contains, Err, IfOk, Ok, Option, Result, slice_index}
use Rattle.std.specs.Option.{option_map_or}
use Rattle.std.proofs.Math.Nat.{add-mul}
use Rattle.std.proofs.lemmas.Nat.{mul-le}
use Rattle.std.proofs.lemmas.List.Elements.{All-map, Contains-get_or}
use Rattle.std.specs.Prelude.{slice_index_or}
use Rattle.nav_base.specs.declared.point.Point.{Point}
use Rattle.nav_base.specs.Point.{IsInField}
use Rattle.nav_base.specs.Distance.{distance_of}
use Rattle.nav_base.proofs.LengthLaws.{ceil_sqrt_of-from_to}
use Rattle.nav_ground.specs.Limits.{IsSetting}
use Rattle.mesh_types.specs.declared.links.Link.{Link}
use Rattle.mesh_types.specs.declared.links.PolyRef.{PolyRef}
use Rattle.mesh_types.specs.declared.mesh.Mesh.{Mesh}
use Rattle.mesh_types.specs.declared.polygon.Polygon.{Polygon}
use Rattle.mesh_types.specs.Corridors.{centre_of, weight_of}
use Rattle.mesh_types.specs.Portals.{LeadsThrough}
use Rattle.mesh_types.specs.Soundness.{IsSound}
use Rattle.mesh_types.specs.WholeMesh.{poly_at}
use Rattle.graph_search.specs.declared.graph.Arc.{Arc}
use Rattle.graph_search.specs.declared.graph.Vertex.{Vertex}
use Rattle.graph_search.specs.declared.exploring.Explored.{Explored}
use Rattle.graph_search.specs.declared.exploring.Limits.{Limits}
use Rattle.graph_search.specs.Explored.{AreInOrder, AreLeast, AreLimited, AreReachedFrom, AreReachedOnce, CostAtMost, HasAllBelow, HasEnded, StopsAt}
use Rattle.graph_search.specs.Exploring.{IsExplored}
use Rattle.graph_search.specs.Walks.{IsSearchable}
use Rattle.corridor_search.specs.MeshGraphs.{arc_over, links_from, polygon_of, vertices_of}
use Rattle.corridor_search.specs.Estimates.{estimate_from}
use Rattle.corridor_search.proofs.LinkWeights.{distance-most, weight-is, weight-most}
use Rattle.corridor_search.proofs.Searchable.{enters-there, vertices-few}
use Rattle.corridor_search.proofs.Sound.{leads, polygon-rules}
use Rattle.corridor_search.proofs.Vertices.{there-contains}
use Rattle.path_queries.specs.declared.filters.Filter.{Filter}
use Rattle.path_queries.specs.Filters.{AreCosts, IsFilter, costs_in, with_costs}
use Rattle.path_queries.specs.FilteredGraphs.{AreSearchCosts, IsFiltered, IsLeastCost, filtered_arcs, filtered_estimates, filtered_links}
use Rattle.path_queries.proofs.CostLaws.{priced-costs, setting-with, sound-with}
use Rattle.path_queries.proofs.SearchCosts.{least-below, search-costs}
use Rattle.path_queries.proofs.FilteredLinks.{held-link}

-- what holds of each link that leaves a polygon holds of each arc that leaves its vertex
each-arc : (mesh : Mesh) (areas : ℕ) (costs : List ℕ) (start : PolyRef) (v : Vertex) (P : Arc → Type 0)
    → ((link : Link) → Contains (links_from mesh (polygon_of v)) link → P (arc_over (with_costs costs mesh) link))
    → All P (filtered_arcs mesh areas costs start v)
each-arc mesh areas costs start v P each =
    All-map P (arc_over (with_costs costs mesh)) (filtered_links mesh areas start v) (λ k d there.
    each (slice_index_or (filtered_links mesh areas start v) k d)
    (held-link mesh areas start v _ (Contains-get_or (filtered_links mesh areas start v) k d there)))

-- the estimate falls along a link by no more than it weighs, where no area costs less than the least
estimate-falls : (mesh : Mesh) (costs : List ℕ) (aim : Point) (least : ℕ) (link : Link) → IsFiltered mesh costs aim least
    → LeadsThrough (poly_at mesh link.from) (poly_at mesh link.to) link
    → estimate_from mesh aim link.from * least ≤ weight_of (with_costs costs mesh) link + estimate_from mesh aim link.to * least
estimate-falls mesh costs aim least link rules through =
    let left = centre_of through.leaves.corners in
    let entered = centre_of through.enters.corners in
    let from : estimate_from mesh aim link.from ≡ distance_of left aim =
    ap (λ (o : Option Polygon). option_map_or (λ (p : Polygon). distance_of (centre_of p.corners) aim) o 0) through.is_left in
    let to : estimate_from mesh aim link.to ≡ distance_of entered aim =
    ap (λ (o : Option Polygon). option_map_or (λ (p : Polygon). distance_of (centre_of p.corners) aim) o 0) through.is_entered in
    let way : distance_of left aim ≤ distance_of left entered + distance_of entered aim = ceil_sqrt_of-from_to left entered aim in
    let cost = rules.below through.enters.area (polygon-rules mesh link.to through.enters rules.sound through.is_entered).area in
    let weight : weight_of (with_costs costs mesh) link ≡ max 1 (distance_of left entered) * slice_index costs through.enters.area =
    weight-is (with_costs costs mesh) link through.leaves through.enters through.is_left through.is_entered in
    falls _ _ _ _ _ _ least _ from to way cost weight
  where
    falls : (e f a b l w least cost : ℕ) → e ≡ a → f ≡ b → a ≤ l + b → least ≤ cost → w ≡ max 1 l * cost → e * least ≤ w + f * least
    falls e f a b l w least cost from to way below weight =
        let scaled = mul-le e least (max 1 l + f) least (omega (arith, from, to, way)) (omega arith) in
        let split = add-mul (max 1 l) f least in
        let length = mul-le (max 1 l) least (max 1 l) cost (omega arith) below in
        omega (arith, scaled, split, length, weight)

pub filtered-searchable : (mesh : Mesh) (areas : ℕ) (costs : List ℕ) (start : PolyRef) (aim : Point) (least : ℕ)
    → IsFiltered mesh costs aim least
    → IsSearchable (vertices_of mesh) (filtered_arcs mesh areas costs start) (filtered_estimates mesh aim least) 2897000
filtered-searchable mesh areas costs start aim least rules = record {
  enters = λ v member. each-arc mesh areas costs start v (λ arc. Contains (vertices_of mesh) arc.to) (λ link held.
      there-contains mesh link.to (enters-there mesh (polygon_of v) link rules.sound held));
  weights = λ v member. each-arc mesh areas costs start v (λ arc. arc.weight ≤ 2897000) (λ link held.
      weight-most (with_costs costs mesh) link (sound-with mesh costs rules.sound)
      (setting-with mesh.setting costs rules.setting rules.costs_are)
      (leads mesh (polygon_of v) link rules.sound held).through);
  consistent = λ v member. each-arc mesh areas costs start v
      (λ arc. filtered_estimates mesh aim least v ≤ arc.weight + filtered_estimates mesh aim least arc.to) (λ link held.
      let leading = leads mesh (polygon_of v) link rules.sound held in
      subst (λ (at : PolyRef). estimate_from mesh aim at * least ≤ weight_of (with_costs costs mesh) link + estimate_from mesh aim link.to
      * least) leading.leaves
      (estimate-falls mesh costs aim least link rules leading.through));
  few = omega (arith, vertices-few mesh rules.sound);
  small = λ v member.
      omega (
        arith,
        mul-le (length (vertices_of mesh)) 2897000 8000000 2897000 (vertices-few mesh rules.sound) (omega arith),
        mul-le (estimate_from mesh aim (polygon_of v)) least 23171 1000 (distance-most mesh aim (polygon_of v) rules.sound rules.in_field) rules.most,
      );
}

-- what is searched with costs that a filter gives
pub filtered-rules : (mesh : Mesh) (filter : Filter) (costs search : List ℕ) (aim : Point) (least : ℕ) → IsSound mesh
    → IsSetting mesh.setting → IsFilter filter
    → costs ≡ costs_in mesh filter → AreSearchCosts filter.areas costs search → IsLeastCost filter.areas costs least → IsInField aim
    → IsFiltered mesh search aim least
filtered-rules mesh filter costs search aim least sound setting rules same are is in_field =
    let costs_are = subst AreCosts (sym same) (priced-costs mesh filter setting rules) in
    record {
      sound = sound;
      setting = setting;
      costs_are = search-costs filter.areas costs search are costs_are;
      in_field = in_field;
      most = is.most;
      below = least-below filter.areas costs search are least is;
    }

-- what is searched with a heading, whose least cost is that of open areas or 0
pub heading-rules : (mesh : Mesh) (filter : Filter) (costs search : List ℕ) (aim : Point) (least : ℕ) → IsSound mesh
    → IsSetting mesh.setting → IsFilter filter
    → costs ≡ costs_in mesh filter → AreSearchCosts filter.areas costs search → (least ≡ 0) ⊎ IsLeastCost filter.areas costs least → IsInField aim
    → IsFiltered mesh search aim least
heading-rules mesh filter costs search aim least sound setting rules same are (inr is) in_field =
    filtered-rules mesh filter costs search aim least sound setting rules same are is in_field
heading-rules mesh filter costs search aim least sound setting rules same are (inl none) in_field = record {
  sound = sound;
  setting = setting;
  costs_are = search-costs filter.areas costs search are (subst AreCosts (sym same) (priced-costs mesh filter setting rules));
  in_field = in_field;
  most = omega (arith, none);
  below = λ area is. omega (arith, none);
}

-- the clauses of a search, together
pub explored-if : {E : Type 0} (arcs : Vertex → List Arc) (estimate : Vertex → ℕ) (from : Vertex) (stops : List Vertex) (limits : Limits) (count most : ℕ)
    (r : Result Explored E)
    → IfOk r (λ (f : Explored). AreReachedFrom arcs from f.reached.items) → IfOk r (λ (f : Explored). AreReachedOnce f.reached.items)
    → IfOk r (λ (f : Explored). AreLeast arcs from f.reached.items) → IfOk r (λ (f : Explored). AreInOrder estimate f.reached.items)
    → IfOk r (λ (f : Explored). AreLimited estimate limits f.reached.items)
    → IfOk r (λ (f : Explored). HasAllBelow arcs estimate from f.seen f.reached.items)
    → IfOk r (λ (f : Explored). StopsAt estimate stops f.reached.items f.seen) → IfOk r (λ (f : Explored). HasEnded stops limits f.reached.items f.seen)
    → IfOk r (λ (f : Explored). CostAtMost most f.reached.items) → IfOk r (λ (f : Explored). length f.reached.items ≤ count)
    → IfOk r (λ (f : Explored). IsExplored arcs estimate from stops limits count most f.reached.items f.seen)
explored-if arcs estimate from stops limits count most (Err e) tree once least order limited within stopped ended few short = tt
explored-if arcs estimate from stops limits count most (Ok f) tree once least order limited within stopped ended few short = record {
  tree = tree;
  once = once;
  least = least;
  order = order;
  limited = limited;
  within = within;
  stopped = stopped;
  ended = ended;
  few = few;
  short = short;
}
