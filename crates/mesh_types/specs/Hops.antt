-- Hops: walks over links and declared jumps, the cheapest, and where they turn. A jump is named by its number, its place in the list of jumps.
use Rattle.std.specs.Prelude.{◌≡◌, ℕ, ◌≤◌, List, [], ◌∷◌, slice_get, Some, ⊤}
use Rattle.std.specs.List.{sum_by}
use Rattle.std.specs.Option.{option_map_or}
use Rattle.nav_base.specs.declared.point.Point.{Point}
use Rattle.mesh_types.specs.declared.links.PolyRef.{PolyRef}
use Rattle.mesh_types.specs.declared.answers.Answer.{Answer}
use Rattle.mesh_types.specs.declared.answers.Answer.TheVariants as paths
use Rattle.mesh_types.specs.declared.answers.Jump.{Jump}
use Rattle.mesh_types.specs.declared.answers.HopStep.{HopStep}
use Rattle.mesh_types.specs.declared.answers.HopStep.TheVariants as hops
use Rattle.mesh_types.specs.declared.answers.HopFound.{HopFound}
use Rattle.mesh_types.specs.declared.answers.HopAnswer.{HopAnswer}
use Rattle.mesh_types.specs.declared.answers.HopAnswer.TheVariants.{Found, NoStart, NoGoal, NoPath}
use Rattle.mesh_types.specs.declared.mesh.Mesh.{Mesh}
use Rattle.mesh_types.specs.Corridors.{weight_of, IsLinkOf}
use Rattle.mesh_types.specs.Located.{IsLocated}
use Rattle.mesh_types.specs.Right.{IsNowhere, HasNoGoal}
use Rattle.mesh_types.specs.Stretches.{stretches_from, AreTautIn}

-- a jump is joined where its two points are located: it leads from the polygon that locates the one to the polygon that locates the other
pub record IsJoined (mesh : Mesh) (jump : Jump) (from to : PolyRef) : Type 0 where
  pub start : IsLocated mesh jump.from jump.from_y from
  pub landing : IsLocated mesh jump.to jump.to_y to

-- the polygon that a step enters
abbrev pub entered : HopStep → PolyRef
entered (hops.Link link) = link.to
entered (hops.Jump number to) = to

-- a jump with a number leads from one polygon to another
pub record IsJumpFrom (mesh : Mesh) (jumps : List Jump) (from : PolyRef) (number : ℕ) (to : PolyRef) : Type 0 where
  pub jump : Jump
  pub named : slice_get jumps number ≡ Some jump
  pub joined : IsJoined mesh jump from to

-- a step leaves a polygon: it is a link of the mesh from there, or a joined jump from there, which it names by its number
abbrev pub IsStepFrom : Mesh → List Jump → PolyRef → HopStep → Type 0
IsStepFrom mesh jumps from (hops.Link link) = IsLinkOf mesh link × (link.from ≡ from)
IsStepFrom mesh jumps from (hops.Jump number to) = IsJumpFrom mesh jumps from number to

-- a hop walk from one polygon to another: each step leaves the polygon that the one before entered
abbrev pub HopsTo : Mesh → List Jump → PolyRef → List HopStep → PolyRef → Type 0
HopsTo mesh jumps from [] to = from ≡ to
HopsTo mesh jumps from (step ∷ steps) to = IsStepFrom mesh jumps from step × HopsTo mesh jumps (entered step) steps to

-- what a step costs: a link its weight, a jump its cost; and what a hop walk costs
abbrev pub step_weight : Mesh → List Jump → HopStep → ℕ
step_weight mesh jumps (hops.Link link) = weight_of mesh link
step_weight mesh jumps (hops.Jump number to) = option_map_or (λ (jump : Jump). jump.cost) (slice_get jumps number) 0

-- what a hop walk costs: the sum over its steps
abbrev pub hop_cost : Mesh → List Jump → List HopStep → ℕ
hop_cost mesh jumps steps = sum_by (step_weight mesh jumps) steps

-- both places are held, and no hop walk leads from the polygon that locates the one to the polygon that locates the other
pub record HasNoHop (mesh : Mesh) (jumps : List Jump) (from : Point) (from_y : ℕ) (to : Point) (to_y : ℕ) : Type 0 where
  pub first : PolyRef
  pub start : IsLocated mesh from from_y first
  pub last : PolyRef
  pub goal : IsLocated mesh to to_y last
  pub no_walk : (steps : List HopStep) → HopsTo mesh jumps first steps last → ⊥

-- what was found begins in the polygon that locates the start; its steps are a hop walk from there to the polygon that locates the goal, of the
-- cost that it says, than which no such walk costs less; and its turns are taut, stretch by stretch
pub record IsHop (mesh : Mesh) (jumps : List Jump) (from : Point) (from_y : ℕ) (to : Point) (to_y : ℕ) (found : HopFound) : Type 0 where
  pub start : IsLocated mesh from from_y found.first
  pub last : PolyRef
  pub goal : IsLocated mesh to to_y last
  pub walks : HopsTo mesh jumps found.first found.steps last
  pub cost : found.cost ≡ hop_cost mesh jumps found.steps
  pub least : (steps : List HopStep) → HopsTo mesh jumps found.first steps last → found.cost ≤ hop_cost mesh jumps steps
  pub taut : AreTautIn (stretches_from jumps to from 0 [] found.steps) found.turns

-- right answers to the question for a hop walk
abbrev pub IsHopRight : Mesh → List Jump → Point → ℕ → Point → ℕ → HopAnswer → Type 0
IsHopRight mesh jumps from from_y to to_y NoStart = IsNowhere mesh from from_y
IsHopRight mesh jumps from from_y to to_y NoGoal = HasNoGoal mesh from from_y to to_y
IsHopRight mesh jumps from from_y to to_y NoPath = HasNoHop mesh jumps from from_y to to_y
IsHopRight mesh jumps from from_y to to_y (Found found) = IsHop mesh jumps from from_y to to_y found

-- two answers are alike: of one kind, with the same first polygon and the same cost
abbrev pub AreAlikeHops : HopAnswer → HopAnswer → Type 0
AreAlikeHops (Found a) (Found b) = (a.first ≡ b.first) × (a.cost ≡ b.cost)
AreAlikeHops NoStart NoStart = ⊤
AreAlikeHops NoGoal NoGoal = ⊤
AreAlikeHops NoPath NoPath = ⊤
AreAlikeHops _ _ = ⊥

-- an answer to the question for a hop walk and an answer to the question for a path are alike: of one kind, with the same first polygon and the
-- same cost
abbrev pub IsAsPath : HopAnswer → Answer → Type 0
IsAsPath (Found a) (paths.Path b) = (a.first ≡ b.first) × (a.cost ≡ b.cost)
IsAsPath NoStart paths.NoStart = ⊤
IsAsPath NoGoal paths.NoGoal = ⊤
IsAsPath NoPath paths.NoPath = ⊤
IsAsPath _ _ = ⊥
