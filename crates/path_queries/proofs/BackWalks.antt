-- An allowed walk to a polygon is a walk in the graph that is searched back from there, and each arc of that is the reverse of a link by which
-- an allowed walk comes.
use Rattle.std.proofs.Common.{◌≡◌, ℕ, suc, ◌+◌, List, [], ◌∷◌, ◌++◌, refl, sym, subst, ap, ◌∙◌, arith}
use Rattle.std.specs.Prelude.{All, Contains}
use Rattle.std.proofs.lemmas.List.Elements.{Contains-get_or}
use Rattle.std.proofs.lemmas.List.Sums.{sum_by-cons}
use Rattle.mesh_types.specs.declared.extent.Extent.{Extent}
use Rattle.mesh_types.specs.declared.links.Link.{Link}
use Rattle.mesh_types.specs.declared.links.PolyRef.{PolyRef}
use Rattle.mesh_types.specs.declared.mesh.Mesh.{Mesh}
use Rattle.mesh_types.specs.Corridors.{IsLinkOf, WalksTo, cost_of, weight_of}
use Rattle.mesh_types.specs.Passages.{IsTwoWay, reverse_of}
use Rattle.mesh_types.specs.Soundness.{IsSound}
use Rattle.graph_search.specs.declared.exploring.ReachedVertex.{ReachedVertex}
use Rattle.graph_search.specs.declared.graph.Arc.{Arc}
use Rattle.graph_search.specs.declared.graph.Step.{Step}
use Rattle.graph_search.specs.declared.graph.Vertex.{Vertex}
use Rattle.graph_search.specs.Explored.{IsReachedBy, step_from}
use Rattle.graph_search.specs.Walks as graph
use Rattle.graph_search.proofs.Moves.{MovesTo, arc-of-move, move-there, move_of, moves-step, weight_by}
use Rattle.corridor_search.specs.MeshGraphs.{no_link, polygon_of, vertex_of}
use Rattle.corridor_search.specs.Estimates.{extent_at}
use Rattle.corridor_search.proofs.Extents.{extent-is}
use Rattle.corridor_search.proofs.Sound.{leads, leaves-listed}
use Rattle.path_queries.specs.BackGraphs.{arc_back, arcs_back, links_back}
use Rattle.path_queries.specs.Filters.{Enters, is_open, with_costs}
use Rattle.path_queries.proofs.BackLinks.{entered-open, held-link, held-open, links-all}

-- moves, and one more
moves-more : {X : Type 0} (moves : Vertex → List X) (arc : X → Arc) (xs : List X) (x : X) (v u : Vertex) → MovesTo moves arc v xs u
    → Contains (moves u) x → MovesTo moves arc v (xs ++ x ∷ []) (arc x).to
moves-more moves arc [] x v u walk held = (subst (λ (t : Vertex). Contains (moves t) x) (sym walk) held, refl)
moves-more moves arc (y ∷ xs) x v u walk held = (walk.0, moves-more moves arc xs x (arc y).to u walk.1 held)

weight-more : {X : Type 0} (arc : X → Arc) (xs : List X) (x : X) → weight_by arc (xs ++ x ∷ []) ≡ weight_by arc xs + (arc x).weight
weight-more arc [] x = omega (arith, sum_by-cons (λ y. (arc y).weight) x [])
weight-more arc (y ∷ xs) x =
    omega (
      arith,
      weight-more arc xs x,
      sum_by-cons (λ z. (arc z).weight) y xs,
      sum_by-cons (λ z. (arc z).weight) y (xs ++ x ∷ []),
    )

module _ (mesh : Mesh) (areas : ℕ) (costs : List ℕ) (sound : IsSound mesh) (two_way : IsTwoWay mesh) where
  -- the links of a walk back from a polygon to the one in which an allowed walk begins
  record IsWalkedBack (links : List Link) (at last : PolyRef) : Type 0 where
    back : List Link
    walks : MovesTo (links_back mesh areas) (arc_back (with_costs costs mesh)) (vertex_of last) back (vertex_of at)
    cost : weight_by (arc_back (with_costs costs mesh)) back ≡ cost_of (with_costs costs mesh) links

  walked-back : (links : List Link) (at last : PolyRef) → WalksTo mesh at links last → All (Enters mesh areas) links → IsWalkedBack links at last
  walked-back [] at last walk enters = record { back = []; walks = ap vertex_of (sym walk); cost = refl }
  walked-back (link ∷ links) at last walk enters =
      let rest = walked-back links link.to last walk.2 (λ k d there. enters (suc k) d (omega (arith, there))) in
      let reverse = two_way link walk.0 in
      let back : Link = reverse_of reverse.edge link in
      let on = entered-open mesh areas link (enters 0 link (omega arith)) in
      let held = subst (λ (ls : List Link). Contains ls back) (sym (links-all mesh areas (vertex_of link.to) on))
      (leaves-listed mesh back reverse.back) in
      let walks = moves-more (links_back mesh areas) (arc_back (with_costs costs mesh)) rest.back back (vertex_of last) (vertex_of link.to)
      rest.walks held in
      record {
        back = rest.back ++ back ∷ [];
        walks = subst (λ (p : PolyRef). MovesTo (links_back mesh areas) (arc_back (with_costs costs mesh)) (vertex_of last)
            (rest.back ++ back ∷ []) (vertex_of p)) walk.1 walks;
        cost = omega (
          arith,
          rest.cost,
          weight-more (arc_back (with_costs costs mesh)) rest.back back,
          sum_by-cons (weight_of (with_costs costs mesh)) link links,
        );
      }

  -- the steps of that walk
  pub record AreStepsBack (links : List Link) (at last : PolyRef) : Type 0 where
    pub steps : List Step
    pub walks : graph.Walks (arcs_back mesh areas costs) (vertex_of last) steps (vertex_of at)
    pub cost : graph.cost_of (arcs_back mesh areas costs) steps ≡ cost_of (with_costs costs mesh) links

  pub steps-back : (links : List Link) (at last : PolyRef) → WalksTo mesh at links last → All (Enters mesh areas) links
      → AreStepsBack links at last
  steps-back links at last walk enters =
      let walked = walked-back links at last walk enters in
      let made = moves-step (links_back mesh areas) (arc_back (with_costs costs mesh)) no_link walked.back (vertex_of last) (vertex_of at)
      walked.walks in
      record { steps = made.0; walks = made.1; cost = made.2 ∙ walked.cost }

  -- a link by which an allowed walk comes from a polygon that was reached to the one from which it was
  pub record IsLinkToward (entry before : ReachedVertex) : Type 0 where
    pub link : Link
    pub listed : IsLinkOf mesh link
    pub leaves : link.from ≡ polygon_of entry.vertex
    pub enters : Enters mesh areas link
    pub reaches : link.to ≡ polygon_of before.vertex
    pub adds_up : entry.cost ≡ weight_of (with_costs costs mesh) link + before.cost

  pub link-toward : (list : List ReachedVertex) (k : ℕ) (entry : ReachedVertex)
      → (reached : IsReachedBy (arcs_back mesh areas costs) list k entry) → IsLinkToward entry reached.before
  link-toward list k entry reached =
      let step : Step = step_from reached.before entry in
      let arc = arc_back (with_costs costs mesh) in
      let taken : Link = move_of (links_back mesh areas) no_link step in
      let is : graph.arc_of (arcs_back mesh areas costs) step ≡ arc taken =
      arc-of-move (links_back mesh areas) arc no_link step reached.leaves in
      let held : Contains (links_back mesh areas step.from) taken =
      Contains-get_or (links_back mesh areas step.from) step.place no_link (move-there (links_back mesh areas) arc step reached.leaves) in
      let leading = leads mesh (polygon_of step.from) taken sound (held-link mesh areas step.from taken held) in
      let through = leading.through in
      let reverse = two_way taken leading.listed in
      let there = extent-is mesh taken.from through.leaves through.is_left in
      let on = ap (λ (p : PolyRef). is_open areas (extent_at mesh p).area) leading.leaves ∙ held-open mesh areas step.from taken held in
      let weight : (graph.arc_of (arcs_back mesh areas costs) step).weight ≡ weight_of (with_costs costs mesh) (reverse_of 0 taken) =
      ap (λ (a : Arc). a.weight) is in
      record {
        link = reverse_of reverse.edge taken;
        listed = reverse.back;
        leaves = ap polygon_of (sym (ap (λ (a : Arc). a.to) is) ∙ reached.enters);
        enters = record {
          polygon = through.leaves;
          there = through.is_left;
          area_open = sym (ap (λ (extent : Extent). is_open areas extent.area) there) ∙ on;
        };
        reaches = leading.leaves;
        adds_up = omega (arith, reached.adds_up, weight);
      }
