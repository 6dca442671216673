-- Walks over the arcs of a graph, what they cost, the cheapest, and which graphs may be searched. A graph is given by its arcs: those that
-- leave a vertex, in order.
use Rattle.std.specs.Prelude.{◌≡◌, ℕ, ◌+◌, ◌-◌, ◌*◌, ◌^◌, ◌<◌, ◌≤◌, List, [], ◌∷◌, length, map, slice_index_or, All, Contains}
use Rattle.std.specs.List.{sum_by}
use Rattle.graph_search.specs.declared.graph.Vertex.{Vertex}
use Rattle.graph_search.specs.declared.graph.Arc.{Arc}
use Rattle.graph_search.specs.declared.graph.Step.{Step}
use Rattle.graph_search.specs.declared.graph.Walk.{Walk}

-- stands for the arc of a step that takes none
abbrev pub no_arc : Arc
no_arc = record { to = record { block = 0; place = 0 }; weight = 0 }

-- the arc that a step takes
abbrev pub arc_of : (Vertex → List Arc) → Step → Arc
arc_of arcs step = slice_index_or (arcs step.from) step.place no_arc

-- the vertices that arcs enter
abbrev pub ends_of : List Arc → List Vertex
ends_of arcs = map (λ (arc : Arc). arc.to) arcs

-- a walk from one vertex to another: each step leaves the vertex that the one before it entered, by one of its arcs
abbrev pub Walks : (Vertex → List Arc) → Vertex → List Step → Vertex → Type 0
Walks arcs from [] to = from ≡ to
Walks arcs from (step ∷ steps) to = (step.from ≡ from) × (step.place < length (arcs step.from)) × Walks arcs (arc_of arcs step).to steps to

-- what a walk costs: the sum of the weights of its arcs
abbrev pub cost_of : (Vertex → List Arc) → List Step → ℕ
cost_of arcs steps = sum_by (λ (step : Step). (arc_of arcs step).weight) steps

-- a walk from one vertex to another, with its cost, than which no other such walk costs less
pub record IsCheapest (arcs : Vertex → List Arc) (from to : Vertex) (walk : Walk) : Type 0 where
  pub walks : Walks arcs from walk.steps.items to
  pub adds_up : walk.cost ≡ cost_of arcs walk.steps.items
  pub least : (steps : List Step) → Walks arcs from steps to → walk.cost ≤ cost_of arcs steps

-- no walk joins one vertex to another
abbrev pub IsApart : (Vertex → List Arc) → Vertex → Vertex → Type 0
IsApart arcs from to = (steps : List Step) → Walks arcs from steps to → ⊥

-- what is asked of a graph that is searched with an estimate: the arcs of its vertices enter vertices, none weighs more than the
-- heaviest, the estimate falls along an arc by no more than the arc's weight, and what the search adds up fits into 64 bits
pub record IsSearchable (vertices : List Vertex) (arcs : Vertex → List Arc) (estimate : Vertex → ℕ) (heaviest : ℕ) : Type 0 where
  pub enters : (v : Vertex) → Contains vertices v → All (λ (arc : Arc). Contains vertices arc.to) (arcs v)
  pub weights : (v : Vertex) → Contains vertices v → All (λ (arc : Arc). arc.weight ≤ heaviest) (arcs v)
  pub consistent : (v : Vertex) → Contains vertices v → All (λ (arc : Arc). estimate v ≤ arc.weight + estimate arc.to) (arcs v)
  pub few : length vertices < 2 ^ 64
  pub small : (v : Vertex) → Contains vertices v → length vertices * heaviest + estimate v < 2 ^ 64 - 1
