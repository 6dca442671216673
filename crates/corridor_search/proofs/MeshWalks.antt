-- Walks over the arcs of a mesh are walks over its links.
use Rattle.std.proofs.Common.{◌≡◌, ℕ, ◌<◌, ◌≤◌, ◌∙◌, List, [], ◌∷◌, length, map, sym, subst, ap}
use Rattle.std.specs.Prelude.{All, Contains}
use Rattle.mesh_types.specs.declared.links.PolyRef.{PolyRef}
use Rattle.mesh_types.specs.declared.links.Link.{Link}
use Rattle.mesh_types.specs.declared.mesh.Mesh.{Mesh}
use Rattle.mesh_types.specs.declared.answers.Corridor.{Corridor}
use Rattle.mesh_types.specs.Corridors.{WalksTo, cost_of, IsCheapest}
use Rattle.mesh_types.specs.Soundness.{IsSound}
use Rattle.graph_search.specs.declared.graph.Vertex.{Vertex}
use Rattle.graph_search.specs.declared.graph.Step.{Step}
use Rattle.graph_search.specs.declared.graph.Walk.{Walk}
use Rattle.graph_search.specs.Walks as graph
use Rattle.graph_search.specs.Walks.{arc_of, Walks}
use Rattle.graph_search.proofs.Moves.{MovesTo, move-there, arc-of-move, steps-made, cheapest-moves, none-move}
use Rattle.corridor_search.specs.MeshGraphs.{IsOver, IsApart, vertex_of, polygon_of, links_from, arc_over, arcs_from, no_link, link_of}
use Rattle.corridor_search.proofs.Sound.{leads, leaves-listed}

-- the moves that may be made from a vertex: the links that leave its polygon
abbrev pub links_by : Mesh → Vertex → List Link
links_by mesh v = links_from mesh (polygon_of v)

-- the arc of a step is that of its link
pub step-there : (mesh : Mesh) (step : Step) → step.place < length (arcs_from mesh step.from) → step.place < length (links_from mesh (polygon_of step.from))
step-there mesh step below = move-there (links_by mesh) (arc_over mesh) step below

pub arc-over-link : (mesh : Mesh) (step : Step) → step.place < length (arcs_from mesh step.from) → arc_of (arcs_from mesh) step ≡ arc_over mesh (link_of mesh step)
arc-over-link mesh step below = arc-of-move (links_by mesh) (arc_over mesh) no_link step below

-- the links of the steps of a walk
pub steps-over : (mesh : Mesh) (steps : List Step) (v w : Vertex) → Walks (arcs_from mesh) v steps w → All (IsOver mesh) steps
steps-over mesh steps v w walk k d there = record { there = steps-made (links_by mesh) (arc_over mesh) steps v w walk k d there }

-- moves along links are a walk over links, and the other way round
moves-links : (mesh : Mesh) (links : List Link) (from to : PolyRef) → IsSound mesh → MovesTo (links_by mesh) (arc_over mesh) (vertex_of from) links (vertex_of to)
    → WalksTo mesh from links to
moves-links mesh [] from to sound walk = λ i. polygon_of (walk i)
moves-links mesh (link ∷ links) from to sound walk =
    let leading = leads mesh from link sound walk.0 in
    (leading.listed, leading.leaves, moves-links mesh links link.to to sound walk.1)

links-moves : (mesh : Mesh) (links : List Link) (from to : PolyRef) → WalksTo mesh from links to → MovesTo (links_by mesh) (arc_over mesh) (vertex_of from) links (vertex_of to)
links-moves mesh [] from to walk = ap vertex_of walk
links-moves mesh (link ∷ links) from to walk =
    (subst (λ (at : PolyRef). Contains (links_from mesh at) link) walk.1 (leaves-listed mesh link walk.0), links-moves mesh links link.to to walk.2)

-- the links of a cheapest walk are a corridor
pub corridor-cheapest : (mesh : Mesh) (from to : PolyRef) (walk : Walk) (corridor : Corridor) → IsSound mesh
    → graph.IsCheapest (arcs_from mesh) (vertex_of from) (vertex_of to) walk → corridor.cost ≡ walk.cost → corridor.links ≡ map (link_of mesh) walk.steps.items
    → IsCheapest mesh from to corridor
corridor-cheapest mesh from to walk corridor sound found cost links =
    let made = cheapest-moves (links_by mesh) (arc_over mesh) no_link (vertex_of from) (vertex_of to) walk found in
    record {
      walks = subst (λ (ls : List Link). WalksTo mesh from ls to) (sym links) (moves-links mesh (map (link_of mesh) walk.steps.items) from to sound made.walks);
      cost = cost ∙ made.adds_up ∙ ap (cost_of mesh) (sym links);
      least = λ ls other. subst (λ (n : ℕ). n ≤ cost_of mesh ls) (sym cost) (made.least ls (links-moves mesh ls from to other));
    }

-- where no steps join two vertices, no links join their polygons
pub none-joined : (mesh : Mesh) (from to : PolyRef) → graph.IsApart (arcs_from mesh) (vertex_of from) (vertex_of to) → IsApart mesh from to
none-joined mesh from to apart links walk =
    none-move (links_by mesh) (arc_over mesh) no_link (vertex_of from) (vertex_of to) apart links (links-moves mesh links from to walk)
