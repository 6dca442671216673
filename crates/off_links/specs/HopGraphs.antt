-- The mesh with off-mesh links as a graph: its polygons are the vertices, and from each lead its links and then its off-mesh links.
use Rattle.std.specs.Prelude.{◌≡◌, ℕ, ◌<◌, ◌≤◌, Bool, List, ◌++◌, length, map, filter, slice_index_or}
use Rattle.nav_ground.specs.Limits.{IsSetting}
use Rattle.mesh_types.specs.declared.links.Link.{Link}
use Rattle.mesh_types.specs.declared.links.PolyRef.{PolyRef}
use Rattle.mesh_types.specs.declared.answers.Jump.{Jump}
use Rattle.mesh_types.specs.declared.answers.HopStep.{HopStep}
use Rattle.mesh_types.specs.declared.answers.HopStep.TheVariants as hops
use Rattle.mesh_types.specs.declared.mesh.Mesh.{Mesh}
use Rattle.mesh_types.specs.Hops.{entered, step_weight, HopsTo, hop_cost}
use Rattle.mesh_types.specs.Soundness.{IsSound, polygon_count}
use Rattle.graph_search.specs.declared.graph.Vertex.{Vertex}
use Rattle.graph_search.specs.declared.graph.Arc.{Arc}
use Rattle.graph_search.specs.declared.graph.Step.{Step}
use Rattle.corridor_search.specs.MeshGraphs.{vertex_of, polygon_of, links_from, no_link}
use Rattle.off_links.specs.declared.off_mesh_links.OffMeshLink.{OffMeshLink}
use Rattle.off_links.specs.declared.hops.HopPath.{HopPath}
use Rattle.off_links.specs.OffMeshLinks.{AreOffMeshLinks, leaves}
use Rattle.off_links.specs.Slots.{HaveSlots}

-- the step of a link, and that of an off-mesh link
abbrev pub link_step : Link → HopStep
link_step link = hops.Link link

abbrev pub off_mesh_link_step : OffMeshLink → HopStep
off_mesh_link_step off_mesh_link = hops.Jump off_mesh_link.number off_mesh_link.to

-- stands for a step that is not there
abbrev pub no_step : HopStep
no_step = hops.Link no_link

-- the off-mesh links that leave a polygon
abbrev pub off_mesh_links_from : List OffMeshLink → PolyRef → List OffMeshLink
off_mesh_links_from off_mesh_links at = filter (leaves at) off_mesh_links

-- the steps that lead from a vertex: the links that leave its polygon, and then the off-mesh links
abbrev pub steps_from : Mesh → List OffMeshLink → Vertex → List HopStep
steps_from mesh off_mesh_links v = map link_step (links_from mesh (polygon_of v)) ++ map off_mesh_link_step (off_mesh_links_from off_mesh_links (polygon_of v))

-- the arc of a step, and the arcs that leave a vertex
abbrev pub hop_arc : Mesh → List Jump → HopStep → Arc
hop_arc mesh jumps step = record { to = vertex_of (entered step); weight = step_weight mesh jumps step }

abbrev pub hop_arcs : Mesh → List Jump → List OffMeshLink → Vertex → List Arc
hop_arcs mesh jumps off_mesh_links v = map (hop_arc mesh jumps) (steps_from mesh off_mesh_links v)

-- the step of a hop walk that a step of a walk in the graph takes
abbrev pub hop_step : Mesh → List OffMeshLink → Step → HopStep
hop_step mesh off_mesh_links step = slice_index_or (steps_from mesh off_mesh_links step.from) step.place no_step

-- a step of a walk in the graph takes one
pub record IsHopStep (mesh : Mesh) (off_mesh_links : List OffMeshLink) (step : Step) : Type 0 where
  pub there : step.place < length (steps_from mesh off_mesh_links step.from)

-- the vertex that an off-mesh link enters
abbrev pub off_mesh_link_end : OffMeshLink → Vertex
off_mesh_link_end off_mesh_link = vertex_of off_mesh_link.to

-- nothing is estimated
abbrev pub no_estimate : Vertex → ℕ
no_estimate v = 0

-- a mesh that is searched with off-mesh links: it is sound, its setting keeps the rules, and the off-mesh links are those of the jumps
pub record IsHopped (mesh : Mesh) (jumps : List Jump) (off_mesh_links : List OffMeshLink) : Type 0 where
  pub sound : IsSound mesh
  pub setting : IsSetting mesh.setting
  pub off_mesh_links_are : AreOffMeshLinks mesh jumps off_mesh_links

-- the same with slots of the polygons that off-mesh links leave
pub record IsSlotted (mesh : Mesh) (jumps : List Jump) (off_mesh_links : List OffMeshLink) (slots : List Bool) : Type 0 where
  pub hopped : IsHopped mesh jumps off_mesh_links
  pub slots_are : HaveSlots slots off_mesh_links

-- a hop walk than which no hop walk costs less, with its cost, and with fewer steps than there are polygons
pub record IsCheapestHops (mesh : Mesh) (jumps : List Jump) (from to : PolyRef) (found : HopPath) : Type 0 where
  pub walks : HopsTo mesh jumps from found.steps to
  pub cost : found.cost ≡ hop_cost mesh jumps found.steps
  pub least : (steps : List HopStep) → HopsTo mesh jumps from steps to → found.cost ≤ hop_cost mesh jumps steps
  pub few : length found.steps < polygon_count mesh.tiles

-- no hop walk joins two polygons
abbrev pub HasNoHops : Mesh → List Jump → PolyRef → PolyRef → Type 0
HasNoHops mesh jumps from to = (steps : List HopStep) → HopsTo mesh jumps from steps to → ⊥
