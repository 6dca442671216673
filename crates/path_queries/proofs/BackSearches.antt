-- A sound mesh whose links lead there and back is a graph that may be searched back.
use Rattle.std.proofs.Common.{ℕ, ◌+◌, ◌≤◌, List, length, arith}
use Rattle.std.specs.Prelude.{All, Contains, slice_index_or}
use Rattle.std.proofs.lemmas.Nat.{mul-le}
use Rattle.std.proofs.lemmas.List.Elements.{All-map, Contains-get_or}
use Rattle.mesh_types.specs.declared.links.Link.{Link}
use Rattle.mesh_types.specs.declared.mesh.Mesh.{Mesh}
use Rattle.mesh_types.specs.Passages.{reverse_of}
use Rattle.graph_search.specs.declared.graph.Arc.{Arc}
use Rattle.graph_search.specs.declared.graph.Vertex.{Vertex}
use Rattle.graph_search.specs.Walks.{IsSearchable}
use Rattle.corridor_search.specs.MeshGraphs.{links_from, polygon_of, vertices_of}
use Rattle.corridor_search.proofs.LinkWeights.{weight-most}
use Rattle.corridor_search.proofs.Searchable.{enters-there, vertices-few}
use Rattle.corridor_search.proofs.Sound.{leads, leaves-listed}
use Rattle.corridor_search.proofs.Vertices.{there-contains}
use Rattle.path_queries.specs.BackGraphs.{IsSearchedBack, arc_back, arcs_back, links_back, no_estimate}
use Rattle.path_queries.specs.Filters.{with_costs}
use Rattle.path_queries.proofs.BackLinks.{held-link}
use Rattle.path_queries.proofs.CostLaws.{setting-with, sound-with}

-- what holds of each link that leaves a polygon holds of each arc that leaves its vertex
each-arc : (mesh : Mesh) (areas : ℕ) (costs : List ℕ) (v : Vertex) (P : Arc → Type 0)
    → ((link : Link) → Contains (links_from mesh (polygon_of v)) link → P (arc_back (with_costs costs mesh) link))
    → All P (arcs_back mesh areas costs v)
each-arc mesh areas costs v P each =
    All-map P (arc_back (with_costs costs mesh)) (links_back mesh areas v) (λ k d there.
    each (slice_index_or (links_back mesh areas v) k d)
    (held-link mesh areas v _ (Contains-get_or (links_back mesh areas v) k d there)))

pub searchable-back : (mesh : Mesh) (areas : ℕ) (costs : List ℕ) → IsSearchedBack mesh costs
    → IsSearchable (vertices_of mesh) (arcs_back mesh areas costs) no_estimate 2897000
searchable-back mesh areas costs rules = record {
  enters = λ v member. each-arc mesh areas costs v (λ arc. Contains (vertices_of mesh) arc.to) (λ link held.
      there-contains mesh link.to (enters-there mesh (polygon_of v) link rules.sound held));
  weights = λ v member. each-arc mesh areas costs v (λ arc. arc.weight ≤ 2897000) (λ link held.
      let reverse = rules.two_way link (leads mesh (polygon_of v) link rules.sound held).listed in
      let back : Link = reverse_of reverse.edge link in
      weight-most (with_costs costs mesh) back (sound-with mesh costs rules.sound)
      (setting-with mesh.setting costs rules.setting rules.costs_are)
      (leads mesh back.from back rules.sound (leaves-listed mesh back reverse.back)).through);
  consistent = λ v member. each-arc mesh areas costs v (λ arc. no_estimate v ≤ arc.weight + no_estimate arc.to) (λ link held. omega arith);
  few = omega (arith, vertices-few mesh rules.sound);
  small = λ v member.
      omega (arith, mul-le (length (vertices_of mesh)) 2897000 8000000 2897000 (vertices-few mesh rules.sound) (omega arith));
}
