-- Leading: at which place of a kept path an agent of a crowd is, and which answers to the question where the path leads it are right.
use Rattle.std.specs.Prelude.{◌≡◌, ℕ, ◌+◌, ◌-◌, ◌<◌, ◌≤◌, ◌⊎◌, List, length, slice_get, Some}
use Rattle.nav_base.specs.declared.point.Point.{Point}
use Rattle.nav_base.specs.Point.{from_to}
use Rattle.mesh_types.specs.declared.links.Link.{Link}
use Rattle.mesh_types.specs.declared.links.PolyRef.{PolyRef}
use Rattle.mesh_types.specs.declared.mesh.Mesh.{Mesh}
use Rattle.mesh_types.specs.Corridors.{IsLinkOf}
use Rattle.fine_walk.specs.FineRays.{IsFineHeld, fine_of}
use Rattle.crowd_moves.specs.declared.agents.CrowdAgent.{CrowdAgent}
use Rattle.crowd_moves.specs.Pairs.{IsSlowVector}
use Rattle.crowd_lead.specs.declared.leading.LeadAnswer.{LeadAnswer}
use Rattle.crowd_lead.specs.declared.leading.LeadAnswer.TheVariants.{Led, Cut}

-- ---- the places of a path

-- a link is one of the mesh that leaves an agent's polygon
pub record LeavesAgent (mesh : Mesh) (a : CrowdAgent) (link : Link) : Type 0 where
  pub listed : IsLinkOf mesh link
  pub leaves : link.from ≡ a.polygon

-- the link at a place of a path does
pub record GoesOn (mesh : Mesh) (a : CrowdAgent) (links : List Link) (place : ℕ) : Type 0 where
  pub link : Link
  pub there : slice_get links place ≡ Some link
  pub leaves : LeavesAgent mesh a link

-- the last link of a path enters a polygon, if the path has links
abbrev pub DoesLastEnter : List Link → PolyRef → Type 0
DoesLastEnter links at = (link : Link) → slice_get links (length links - 1) ≡ Some link → link.to ≡ at

-- a path comes to its end in an agent's polygon: the last link enters it, and it holds the goal
pub record ComesToEnd (mesh : Mesh) (a : CrowdAgent) (goal : Point) (links : List Link) : Type 0 where
  pub enters : DoesLastEnter links a.polygon
  pub holds : IsFineHeld mesh (fine_of goal) a.polygon

-- the same, where a place is the number of all links
pub record EndsThere (mesh : Mesh) (a : CrowdAgent) (goal : Point) (links : List Link) (place : ℕ) : Type 0 where
  pub behind : place ≡ length links
  pub comes : ComesToEnd mesh a goal links

-- a place of a path is one at which an agent is: the link there leaves its polygon, or all links are behind it and the path ends there
abbrev pub IsAt : Mesh → CrowdAgent → Point → List Link → ℕ → Type 0
IsAt mesh a goal links place = GoesOn mesh a links place ⊎ EndsThere mesh a goal links place

-- it is at no place from one on and before another
abbrev pub IsNowhere : Mesh → CrowdAgent → Point → List Link → ℕ → ℕ → Type 0
IsNowhere mesh a goal links from end = (place : ℕ) → from ≤ place → place < end → IsAt mesh a goal links place → ⊥

-- ---- the places that are looked at: from a known one on 32, then the 16 before it

-- a place is the first of those from the known one on
pub record IsFirstAhead (mesh : Mesh) (a : CrowdAgent) (goal : Point) (links : List Link) (known place : ℕ) : Type 0 where
  pub is : IsAt mesh a goal links place
  pub from : known ≤ place
  pub near : place < known + 32
  pub first : IsNowhere mesh a goal links known place

-- a place is the last of those before the known one
pub record IsLastBehind (mesh : Mesh) (a : CrowdAgent) (goal : Point) (links : List Link) (known place : ℕ) : Type 0 where
  pub is : IsAt mesh a goal links place
  pub before : place < known
  pub near : known ≤ place + 16
  pub last : IsNowhere mesh a goal links (place + 1) known

-- it is at none of those from the known one on; at none of those before it
abbrev pub IsNotAhead : Mesh → CrowdAgent → Point → List Link → ℕ → Type 0
IsNotAhead mesh a goal links known = IsNowhere mesh a goal links known (known + 32)

abbrev pub IsNotBehind : Mesh → CrowdAgent → Point → List Link → ℕ → Type 0
IsNotBehind mesh a goal links known = IsNowhere mesh a goal links (known - 16) known

-- the place of an agent: the first from the known one on; where there is none, the last before it
abbrev pub IsPlaceOf : Mesh → CrowdAgent → Point → List Link → ℕ → ℕ → Type 0
IsPlaceOf mesh a goal links known place =
    IsFirstAhead mesh a goal links known place ⊎ (IsNotAhead mesh a goal links known × IsLastBehind mesh a goal links known place)

-- an agent is at none of the places that are looked at
pub record IsOffPath (mesh : Mesh) (a : CrowdAgent) (goal : Point) (links : List Link) (known : ℕ) : Type 0 where
  pub ahead : IsNotAhead mesh a goal links known
  pub behind : IsNotBehind mesh a goal links known

-- ---- answers

-- the way from an agent straight to the goal
abbrev pub way_to : CrowdAgent → Point → Point
way_to a goal = from_to a.at (fine_of goal)

-- an agent is led from its place on the path, no farther than its speed; in the polygon where the path ends straight to the goal, if that is no
-- farther away
pub record IsLed (mesh : Mesh) (a : CrowdAgent) (goal : Point) (links : List Link) (known : ℕ) (wish : Point) (place : ℕ) : Type 0 where
  pub at : IsPlaceOf mesh a goal links known place
  pub within : place ≤ length links
  pub slow : IsSlowVector a wish
  pub at_goal : place ≡ length links → IsSlowVector a (way_to a goal) → wish ≡ way_to a goal

-- an agent is off its path; the place told is the one that was known
pub record IsCut (mesh : Mesh) (a : CrowdAgent) (goal : Point) (links : List Link) (known place : ℕ) : Type 0 where
  pub off : IsOffPath mesh a goal links known
  pub same : place ≡ known

-- an answer to the question where a path leads an agent is right
abbrev pub IsLead : Mesh → CrowdAgent → Point → List Link → ℕ → LeadAnswer → Type 0
IsLead mesh a goal links known (Led wish left place) = IsLed mesh a goal links known wish place
IsLead mesh a goal links known (Cut place) = IsCut mesh a goal links known place
