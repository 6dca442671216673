-- Walks of moves: a graph whose arcs are those of moves of any kind, one for each move that may be made from a vertex, is searched for walks
-- of moves. What is cheapest over arcs is cheapest over moves.
use Rattle.std.proofs.Common.{◌≡◌, ℕ, zero, suc, ◌<◌, ◌≤◌, List, [], ◌∷◌, length, map, refl, sym, subst, ap, ◌∙◌, arith}
use Rattle.std.specs.Prelude.{Contains, slice_index_or}
use Rattle.std.specs.List.{sum_by}
use Rattle.std.proofs.lemmas.List.{get_or-map, length-map, get_or_default}
use Rattle.std.proofs.lemmas.List.Elements.{Contains-get_or}
use Rattle.std.proofs.lemmas.List.Sums.{sum_by-cons}
use Rattle.graph_search.specs.declared.graph.Vertex.{Vertex}
use Rattle.graph_search.specs.declared.graph.Arc.{Arc}
use Rattle.graph_search.specs.declared.graph.Step.{Step}
use Rattle.graph_search.specs.declared.graph.Walk.{Walk}
use Rattle.graph_search.specs.Walks.{no_arc, arc_of, Walks, cost_of, IsCheapest, IsApart}
use Rattle.graph_search.proofs.Stopping.{cost_of-cons}

-- the arcs of the moves that may be made from a vertex
abbrev pub arcs_by : {X : Type 0} → (Vertex → List X) → (X → Arc) → Vertex → List Arc
arcs_by moves arc v = map arc (moves v)

-- a walk of moves: each may be made from the vertex that the one before it entered
abbrev pub MovesTo : {X : Type 0} → (Vertex → List X) → (X → Arc) → Vertex → List X → Vertex → Type 0
MovesTo moves arc from [] to = from ≡ to
MovesTo moves arc from (move ∷ rest) to = Contains (moves from) move × MovesTo moves arc (arc move).to rest to

-- what moves cost together
abbrev pub weight_by : {X : Type 0} → (X → Arc) → List X → ℕ
weight_by arc xs = sum_by (λ x. (arc x).weight) xs

-- the move that a step makes, or what stands for none
abbrev pub move_of : {X : Type 0} → (Vertex → List X) → X → Step → X
move_of moves none step = slice_index_or (moves step.from) step.place none

-- the arc of a step is that of its move
pub move-there : {X : Type 0} (moves : Vertex → List X) (arc : X → Arc) (step : Step) → step.place < length (arcs_by moves arc step.from)
    → step.place < length (moves step.from)
move-there moves arc step below = subst (λ (n : ℕ). step.place < n) (length-map (moves step.from) arc) below

pub arc-of-move : {X : Type 0} (moves : Vertex → List X) (arc : X → Arc) (none : X) (step : Step) → step.place < length (arcs_by moves arc step.from)
    → arc_of (arcs_by moves arc) step ≡ arc (move_of moves none step)
arc-of-move moves arc none step below = get_or-map arc (moves step.from) step.place none no_arc (move-there moves arc step below)

-- the steps of a walk make moves that are a walk of the same cost
pub steps-move : {X : Type 0} (moves : Vertex → List X) (arc : X → Arc) (none : X) (steps : List Step) (v w : Vertex) → Walks (arcs_by moves arc) v steps w
    → MovesTo moves arc v (map (move_of moves none) steps) w
steps-move moves arc none [] v w walk = walk
steps-move {X = X} moves arc none (step ∷ steps) v w walk =
    let move : X = move_of moves none step in
    let made = Contains-get_or (moves step.from) step.place none (move-there moves arc step walk.1) in
    let rest = subst (λ (a : Arc). Walks (arcs_by moves arc) a.to steps w) (arc-of-move moves arc none step walk.1) walk.2 in
    (subst (λ (u : Vertex). Contains (moves u) move) walk.0 made, steps-move moves arc none steps (arc move).to w rest)

pub steps-weigh : {X : Type 0} (moves : Vertex → List X) (arc : X → Arc) (none : X) (steps : List Step) (v w : Vertex) → Walks (arcs_by moves arc) v steps w
    → cost_of (arcs_by moves arc) steps ≡ weight_by arc (map (move_of moves none) steps)
steps-weigh moves arc none [] v w walk = refl
steps-weigh {X = X} moves arc none (step ∷ steps) v w walk =
    let move : X = move_of moves none step in
    let first : (arc_of (arcs_by moves arc) step).weight ≡ (arc move).weight = ap (λ (a : Arc). a.weight) (arc-of-move moves arc none step walk.1) in
    let rest = steps-weigh moves arc none steps (arc_of (arcs_by moves arc) step).to w walk.2 in
    omega (arith, first, rest, cost_of-cons (arcs_by moves arc) step steps, sum_by-cons (λ (x : X). (arc x).weight) move (map (move_of moves none) steps))

-- moves that are a walk have steps of the same cost
pub moves-step : {X : Type 0} (moves : Vertex → List X) (arc : X → Arc) (none : X) (xs : List X) (v w : Vertex) → MovesTo moves arc v xs w
    → (steps : List Step) × Walks (arcs_by moves arc) v steps w × (cost_of (arcs_by moves arc) steps ≡ weight_by arc xs)
moves-step moves arc none [] v w walk = ([], walk, refl)
moves-step {X = X} moves arc none (move ∷ xs) v w walk =
    let rest = moves-step moves arc none xs (arc move).to w walk.1 in
    let made = walk.0 in
    let step : Step = record { from = v; place = made.0 } in
    let below : step.place < length (arcs_by moves arc v) = subst (λ (n : ℕ). made.0 < n) (sym (length-map (moves v) arc)) made.1 in
    let same : move_of moves none step ≡ move = get_or_default (moves v) made.0 none move made.1 ∙ made.2 in
    let is : arc_of (arcs_by moves arc) step ≡ arc move = arc-of-move moves arc none step below ∙ ap arc same in
    let first : (arc_of (arcs_by moves arc) step).weight ≡ (arc move).weight = ap (λ (a : Arc). a.weight) is in (
      step ∷ rest.0,
      (refl, below, subst (λ (a : Arc). Walks (arcs_by moves arc) a.to rest.0 w) (sym is) rest.1),
      omega (arith, first, rest.2, cost_of-cons (arcs_by moves arc) step rest.0, sum_by-cons (λ (x : X). (arc x).weight) move xs),
    )

-- what is cheapest over arcs is cheapest over moves
pub record IsCheapestMove (X : Type 0) (moves : Vertex → List X) (arc : X → Arc) (from to : Vertex) (cost : ℕ) (made : List X) : Type 0 where
  pub walks : MovesTo moves arc from made to
  pub adds_up : cost ≡ weight_by arc made
  pub least : (xs : List X) → MovesTo moves arc from xs to → cost ≤ weight_by arc xs

pub cheapest-moves : {X : Type 0} (moves : Vertex → List X) (arc : X → Arc) (none : X) (from to : Vertex) (walk : Walk) → IsCheapest (arcs_by moves arc) from to walk
    → IsCheapestMove X moves arc from to walk.cost (map (move_of moves none) walk.steps.items)
cheapest-moves moves arc none from to walk found = record {
  walks = steps-move moves arc none walk.steps.items from to found.walks;
  adds_up = found.adds_up ∙ steps-weigh moves arc none walk.steps.items from to found.walks;
  least = λ xs other.
      let steps = moves-step moves arc none xs from to other in
      let least = found.least steps.0 steps.1 in
      omega (arith, least, steps.2);
}

-- where no steps join two vertices, no moves do
pub none-move : {X : Type 0} (moves : Vertex → List X) (arc : X → Arc) (none : X) (from to : Vertex) → IsApart (arcs_by moves arc) from to
    → (xs : List X) → MovesTo moves arc from xs to → ⊥
none-move moves arc none from to apart xs walk =
    let steps = moves-step moves arc none xs from to walk in
    apart steps.0 steps.1

-- each step of a walk makes a move that may be made
pub steps-made : {X : Type 0} (moves : Vertex → List X) (arc : X → Arc) (steps : List Step) (v w : Vertex) → Walks (arcs_by moves arc) v steps w
    → (k : ℕ) (d : Step) → k < length steps → (slice_index_or steps k d).place < length (moves (slice_index_or steps k d).from)
steps-made moves arc [] v w walk k d there = absurd (omega (arith, there))
steps-made moves arc (step ∷ steps) v w walk zero d there = move-there moves arc step walk.1
steps-made moves arc (step ∷ steps) v w walk (suc k) d there = steps-made moves arc steps (arc_of (arcs_by moves arc) step).to w walk.2 k d (omega (arith, there))
