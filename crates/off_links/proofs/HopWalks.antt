-- Walks over the arcs of a mesh with off-mesh links are hop walks.
use Rattle.std.proofs.Common.{◌≡◌, ℕ, ◌<◌, ◌≤◌, List, [], ◌∷◌, length, map, sym, subst, ap, ◌∙◌, inl, inr, arith}
use Rattle.std.specs.Prelude.{All, Contains}
use Rattle.std.proofs.lemmas.List.{length-map}
use Rattle.std.proofs.lemmas.Option.{get_or_from_slice_get, slice_get-get_or, slice_get_within}
use Rattle.std.proofs.lemmas.List.Elements.{All-contains, Contains-append_cases, Contains-append_left, Contains-append_right}
use Rattle.mesh_types.specs.declared.links.Link.{Link}
use Rattle.mesh_types.specs.declared.links.PolyRef.{PolyRef}
use Rattle.mesh_types.specs.declared.mesh.Mesh.{Mesh}
use Rattle.mesh_types.specs.declared.answers.Jump.{Jump}
use Rattle.mesh_types.specs.declared.answers.HopStep.{HopStep}
use Rattle.mesh_types.specs.declared.answers.HopStep.TheVariants as hops
use Rattle.mesh_types.specs.Hops.{IsJoined, IsJumpFrom, IsStepFrom, HopsTo, entered, hop_cost}
use Rattle.mesh_types.specs.Stretches.{some_jump, jump_at}
use Rattle.graph_search.specs.declared.graph.Vertex.{Vertex}
use Rattle.graph_search.specs.declared.graph.Step.{Step}
use Rattle.graph_search.specs.declared.graph.Walk.{Walk}
use Rattle.graph_search.specs.Walks.{IsCheapest, IsApart, Walks}
use Rattle.graph_search.proofs.Members.{contains_cases, contains_first, contains_later, contains_none}
use Rattle.graph_search.proofs.Moves.{MovesTo, cheapest-moves, none-move, steps-made}
use Rattle.corridor_search.specs.MeshGraphs.{vertex_of, polygon_of, vertices_of, links_from}
use Rattle.corridor_search.proofs.Lists.{kept_element, kept_passes, kept_if_passes}
use Rattle.corridor_search.proofs.Sound.{leads, leaves-listed}
use Rattle.corridor_search.proofs.Vertices.{vertices-count}
use Rattle.off_links.specs.declared.off_mesh_links.OffMeshLink.{OffMeshLink}
use Rattle.off_links.specs.declared.hops.HopPath.{HopPath}
use Rattle.off_links.specs.OffMeshLinks.{IsOffMeshLink, leaves}
use Rattle.off_links.specs.HopGraphs.{IsHopped, IsHopStep, IsCheapestHops, HasNoHops, link_step, off_mesh_link_step, no_step, off_mesh_links_from, steps_from, hop_arc, hop_arcs, hop_step}
use Rattle.off_links.proofs.Gathering.{off_mesh_link_of}
use Rattle.off_links.proofs.Tests.{place_is, place_same}

-- the elements of a mapped list are those of the list, mapped
contains_map : {X Y : Type 0} (f : X → Y) (xs : List X) (y : Y) → Contains (map f xs) y → (x : X) × Contains xs x × (f x ≡ y)
contains_map f [] y held = absurd (contains_none y held)
contains_map {X = X} {Y = Y} f (x ∷ xs) y held =
    elim (contains_cases (f x) y (map f xs) held) [
      | inl is ↦ (x, contains_first x xs, is)
      | inr later ↦ let rest = contains_map f xs y later in (rest.0, contains_later x rest.0 xs rest.1, rest.2)
    ]

map_contains : {X Y : Type 0} (f : X → Y) (xs : List X) (x : X) → Contains xs x → Contains (map f xs) (f x)
map_contains f [] x held = absurd (contains_none x held)
map_contains {X = X} {Y = Y} f (first ∷ xs) x held =
    elim (contains_cases first x xs held) [
      | inl is ↦ subst (λ (y : X). Contains (f first ∷ map f xs) (f y)) is (contains_first (f first) (map f xs))
      | inr later ↦ contains_later (f first) (f x) (map f xs) (map_contains f xs x later)
    ]

module _ (mesh : Mesh) (jumps : List Jump) (off_mesh_links : List OffMeshLink) (rules : IsHopped mesh jumps off_mesh_links) where
  -- a step that leads from a vertex leaves its polygon
  step_leaves : (from : PolyRef) (step : HopStep) → Contains (steps_from mesh off_mesh_links (vertex_of from)) step → IsStepFrom mesh jumps from step
  step_leaves from step held =
      elim (Contains-append_cases (map link_step (links_from mesh from)) (map off_mesh_link_step (off_mesh_links_from off_mesh_links from)) step held) [
        | inl is_link ↦
            let own = contains_map link_step (links_from mesh from) step is_link in
            let leading = leads mesh from own.0 rules.sound own.1 in
            subst (IsStepFrom mesh jumps from) own.2 (leading.listed, leading.leaves)
        | inr is_off_mesh_link ↦
            let own = contains_map off_mesh_link_step (off_mesh_links_from off_mesh_links from) step is_off_mesh_link in
            let is = All-contains (IsOffMeshLink mesh jumps) off_mesh_links own.0 rules.off_mesh_links_are.each (kept_element (leaves from) off_mesh_links own.0 own.1) in
            let begins = place_is own.0.from from (kept_passes (leaves from) off_mesh_links own.0 own.1) in
            subst (IsStepFrom mesh jumps from) own.2 (record {
              jump = jump_at jumps own.0.number;
              named = slice_get-get_or jumps own.0.number some_jump is.named;
              joined = subst (λ (at : PolyRef). IsJoined mesh (jump_at jumps own.0.number) at own.0.to) begins is.own.joined;
            })
      ]

  -- and each step that leaves a polygon leads from its vertex
  link_leads : (from : PolyRef) (link : Link) → IsStepFrom mesh jumps from (hops.Link link) → Contains (steps_from mesh off_mesh_links (vertex_of from)) (hops.Link link)
  link_leads from link is =
      Contains-append_left (map link_step (links_from mesh from)) (map off_mesh_link_step (off_mesh_links_from off_mesh_links from)) (hops.Link link)
      (map_contains link_step (links_from mesh from) link (subst (λ (at : PolyRef). Contains (links_from mesh at) link) is.1 (leaves-listed mesh link is.0)))

  jump_leads : (from : PolyRef) (number : ℕ) (to : PolyRef) → IsJumpFrom mesh jumps from number to
      → Contains (steps_from mesh off_mesh_links (vertex_of from)) (hops.Jump number to)
  jump_leads from number to is =
      let off_mesh_link = off_mesh_link_of jumps number from to in
      let same : jump_at jumps number ≡ is.jump = get_or_from_slice_get jumps number is.jump some_jump is.named in
      let joined = subst (λ (jump : Jump). IsJoined mesh jump from to) (sym same) is.joined in
      let held = rules.off_mesh_links_are.all number from to (slice_get_within jumps number is.jump is.named) joined in
      Contains-append_right (map link_step (links_from mesh from)) (map off_mesh_link_step (off_mesh_links_from off_mesh_links from)) (hops.Jump number to)
      (map_contains off_mesh_link_step (off_mesh_links_from off_mesh_links from) off_mesh_link (kept_if_passes (leaves from) off_mesh_links off_mesh_link (place_same from) held))

  moves_hops : (steps : List HopStep) (from to : PolyRef) → MovesTo (steps_from mesh off_mesh_links) (hop_arc mesh jumps) (vertex_of from) steps (vertex_of to)
      → HopsTo mesh jumps from steps to
  moves_hops [] from to walk = λ i. polygon_of (walk i)
  moves_hops (step ∷ steps) from to walk = (step_leaves from step walk.0, moves_hops steps (entered step) to walk.1)

  hops_moves : (steps : List HopStep) (from to : PolyRef) → HopsTo mesh jumps from steps to
      → MovesTo (steps_from mesh off_mesh_links) (hop_arc mesh jumps) (vertex_of from) steps (vertex_of to)
  hops_moves [] from to walk = ap vertex_of walk
  hops_moves (hops.Link link ∷ steps) from to walk = (link_leads from link walk.0, hops_moves steps link.to to walk.1)
  hops_moves (hops.Jump number at ∷ steps) from to walk = (jump_leads from number at walk.0, hops_moves steps at to walk.1)

  -- the steps of a cheapest walk are a hop walk than which no hop walk costs less
  pub found_hops : (from to : PolyRef) (walk : Walk) (found : HopPath) → IsCheapest (hop_arcs mesh jumps off_mesh_links) (vertex_of from) (vertex_of to) walk
      → length walk.steps.items < length (vertices_of mesh) → found.cost ≡ walk.cost → found.steps ≡ map (hop_step mesh off_mesh_links) walk.steps.items
      → IsCheapestHops mesh jumps from to found
  found_hops from to walk found cheapest short cost steps =
      let made = cheapest-moves (steps_from mesh off_mesh_links) (hop_arc mesh jumps) no_step (vertex_of from) (vertex_of to) walk cheapest in
      record {
        walks = subst (λ (taken : List HopStep). HopsTo mesh jumps from taken to) (sym steps) (moves_hops (map (hop_step mesh off_mesh_links) walk.steps.items) from to made.walks);
        cost = cost ∙ made.adds_up ∙ ap (hop_cost mesh jumps) (sym steps);
        least = λ others other. subst (λ (n : ℕ). n ≤ hop_cost mesh jumps others) (sym cost) (made.least others (hops_moves others from to other));
        few =
            let count = ap (λ (taken : List HopStep). length taken) steps in
            omega (arith, count, length-map walk.steps.items (hop_step mesh off_mesh_links), short, vertices-count 0 mesh.tiles);
      }

  -- where no walk joins two vertices, no hop walk joins their polygons
  pub none_hops : (from to : PolyRef) → IsApart (hop_arcs mesh jumps off_mesh_links) (vertex_of from) (vertex_of to) → HasNoHops mesh jumps from to
  none_hops from to apart steps walk =
      none-move (steps_from mesh off_mesh_links) (hop_arc mesh jumps) no_step (vertex_of from) (vertex_of to) apart steps (hops_moves steps from to walk)

  -- the steps of a walk take steps that are there
  pub taken_there : (steps : List Step) (v w : Vertex) → Walks (hop_arcs mesh jumps off_mesh_links) v steps w → All (λ (step : Step). IsHopStep mesh off_mesh_links step) steps
  taken_there steps v w walk k d there = record { there = steps-made (steps_from mesh off_mesh_links) (hop_arc mesh jumps) steps v w walk k d there }
