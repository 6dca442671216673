-- CrowdSteps: one step of a crowd, and what it means.
use Rattle.std.specs.Prelude.{◌≡◌, ◌≢◌, ℕ, ◌≤◌, ◌*◌, ◌⊎◌, Bool, true, false, IsTrue, if◌then◌else◌, List, length, map, slice_get, Some}
use Rattle.nav_base.specs.declared.point.Point.{Point}
use Rattle.nav_base.specs.Point.{from_to}
use Rattle.nav_base.specs.Deviation.{square_of}
use Rattle.mesh_types.specs.declared.links.Link.{Link}
use Rattle.mesh_types.specs.declared.mesh.Mesh.{Mesh}
use Rattle.mesh_types.specs.Soundness.{IsSound}
use Rattle.fine_walk.specs.FineRays.{low_at, high_at}
use Rattle.fine_walk.specs.Stays.{StaysOn}
use Rattle.crowd_moves.specs.declared.agents.CrowdAgent.{CrowdAgent}
use Rattle.crowd_moves.specs.declared.agents.CrowdMove.{CrowdMove}
use Rattle.crowd_moves.specs.Beyond.{KeepsBeyond}
use Rattle.crowd_moves.specs.Pairs.{do_pass_apart, is_apart, square_between, standing, touching_square}
use Rattle.crowd_moves.specs.Steps.{AreMoves}
use Rattle.crowd_moves.specs.Wishes.{AreSettled, AreWished, DoLoneGo}
use Rattle.crowd_filter.specs.CrowdAgents.{added, IsCrowdAgent, MayWalk}
use Rattle.crowd_filter.specs.Placing.{IsPlacedAnew}

-- an agent after its move
abbrev pub moved : Mesh → CrowdAgent → CrowdMove → CrowdAgent
moved mesh a m = if a.stranded then a else record a { at = added a.at m.by; polygon = m.to; low = low_at mesh m.to; high = high_at mesh m.to }

-- lists of agents: each was placed anew
pub record ArePlacedAnew (mesh : Mesh) (before placed : List CrowdAgent) : Type 0 where
  pub one_each : length placed ≡ length before
  pub each : (i : ℕ) (a b : CrowdAgent) → slice_get before i ≡ Some a → slice_get placed i ≡ Some b → IsPlacedAnew mesh a b
  pub agents : (i : ℕ) (b : CrowdAgent) → slice_get placed i ≡ Some b → IsCrowdAgent mesh b

-- each made its move
pub record HaveMoved (mesh : Mesh) (placed : List CrowdAgent) (moves : List CrowdMove) (after : List CrowdAgent) : Type 0 where
  pub one_each : length after ≡ length placed
  pub each : (i : ℕ) (a : CrowdAgent) (m : CrowdMove) → slice_get placed i ≡ Some a → slice_get moves i ≡ Some m → slice_get after i ≡ Some (moved mesh a m)

-- what is granted of wishes: moves that are right, of which each is one that its agent wished or that of standing. An agent in the order of the wishes
-- with nobody near gets the first that it may make. Where it is told that the moves settle, each agent in that order has the first of its list that is
-- open to it as the others move
pub record AreGrantedIn (mesh : Mesh) (order first : List ℕ) (vectors : List Point) (placed : List CrowdAgent) (moves : List CrowdMove) (settles : Bool) : Type 0 where
  pub right : AreMoves (MayWalk mesh) mesh.setting.agent.height placed moves
  pub wished : AreWished first vectors (map standing placed) moves
  pub lone : DoLoneGo (MayWalk mesh) placed order first vectors moves (length order)
  pub settled : settles ≡ true → AreSettled (MayWalk mesh) mesh.setting.agent.height placed order first vectors moves (length order)

-- one step of a crowd with wishes: agents are placed in the mesh, moves are granted, and made
pub record IsCrowdStep (mesh : Mesh) (order first : List ℕ) (vectors : List Point) (before after : List CrowdAgent) (settles : Bool) : Type 0 where
  pub placed : List CrowdAgent
  pub places : ArePlacedAnew mesh before placed
  pub moves : List CrowdMove
  pub granted : AreGrantedIn mesh order first vectors placed moves settles
  pub made : HaveMoved mesh placed moves after

-- two agents of a step, with their moves
pub record IsPairOf (placed : List CrowdAgent) (moves : List CrowdMove) (i j : ℕ) (a b : CrowdAgent) (m n : CrowdMove) : Type 0 where
  pub others : j ≢ i
  pub first : slice_get placed i ≡ Some a
  pub second : slice_get placed j ≡ Some b
  pub first_move : slice_get moves i ≡ Some m
  pub second_move : slice_get moves j ≡ Some n

-- at every fraction of the step two agents are no nearer than a distance, or they pass over other storeys
abbrev pub KeepTheWay : ℕ → ℕ → CrowdAgent → CrowdAgent → CrowdMove → CrowdMove → Type 0
KeepTheWay gap height a b m n = IsTrue (do_pass_apart height m n) ⊎ KeepsBeyond gap (from_to a.at b.at) (from_to m.by n.by)

-- two that are apart are so at every moment of the step, and after it
pub record IsKeptApart (mesh : Mesh) (a b : CrowdAgent) (m n : CrowdMove) : Type 0 where
  pub throughout : KeepTheWay (touching_square a b) mesh.setting.agent.height a b m n
  pub after : is_apart mesh.setting.agent.height (moved mesh a m) (moved mesh b n) ≡ true

abbrev pub StayApart : Type 0
StayApart = (mesh : Mesh) (order first : List ℕ) (vectors : List Point) (before after : List CrowdAgent) (settles : Bool) (step : IsCrowdStep mesh order first vectors before after settles)
    (i j : ℕ) (a b : CrowdAgent) (m n : CrowdMove) → IsPairOf step.placed step.moves i j a b m n → is_apart mesh.setting.agent.height a b ≡ true
    → IsKeptApart mesh a b m n

-- two that overlap come at no moment nearer than they are
abbrev pub ComeNoNearer : Type 0
ComeNoNearer = (mesh : Mesh) (order first : List ℕ) (vectors : List Point) (before after : List CrowdAgent) (settles : Bool) (step : IsCrowdStep mesh order first vectors before after settles)
    (i j : ℕ) (a b : CrowdAgent) (m n : CrowdMove) → IsPairOf step.placed step.moves i j a b m n → is_apart mesh.setting.agent.height a b ≡ false
    → KeepTheWay (square_between a b) mesh.setting.agent.height a b m n

-- the way of an agent lies on the mesh, link by link
pub record GoesOnMesh (mesh : Mesh) (a : CrowdAgent) (m : CrowdMove) : Type 0 where
  pub links : List Link
  pub stays : StaysOn mesh a.polygon a.at (added a.at m.by) links m.to

-- an agent that is not stranded goes on the mesh, no farther than its speed, and is an agent as it is to be after it
pub record WalksRight (mesh : Mesh) (a : CrowdAgent) (m : CrowdMove) : Type 0 where
  pub on_mesh : a.stranded ≡ false → GoesOnMesh mesh a m
  pub stands : a.stranded ≡ true → m ≡ standing a
  pub slow : square_of m.by ≤ a.speed * a.speed
  pub after : IsCrowdAgent mesh (moved mesh a m)

abbrev pub AllWalkRight : Type 0
AllWalkRight = (mesh : Mesh) (order first : List ℕ) (vectors : List Point) (before after : List CrowdAgent) (settles : Bool) → IsSound mesh
    → (step : IsCrowdStep mesh order first vectors before after settles) (i : ℕ) (a : CrowdAgent) (m : CrowdMove) → slice_get step.placed i ≡ Some a
    → slice_get step.moves i ≡ Some m → WalksRight mesh a m
