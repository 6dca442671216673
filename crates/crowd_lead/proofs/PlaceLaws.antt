-- At which places of a path an agent is.
use Rattle.std.proofs.Common.{◌≡◌, ℕ, ◌+◌, ◌<◌, ◌≤◌, sym, subst, ◌∙◌, inl, inr, arith}
use Rattle.std.specs.Prelude.{List, length, slice_get, Some}
use Rattle.std.proofs.lemmas.Option.{slice_get_within, same_Some}
use Rattle.std.proofs.lemmas.Bool.{cases_lt}
use Rattle.nav_base.specs.declared.point.Point.{Point}
use Rattle.mesh_types.specs.declared.links.Link.{Link}
use Rattle.mesh_types.specs.declared.mesh.Mesh.{Mesh}
use Rattle.crowd_moves.specs.declared.agents.CrowdAgent.{CrowdAgent}
use Rattle.crowd_lead.specs.Leading.{ComesToEnd, IsAt, IsNowhere, IsPlaceOf, LeavesAgent}

-- an agent is at no place behind the end of the path
pub place_within : (mesh : Mesh) (a : CrowdAgent) (goal : Point) (links : List Link) (place : ℕ) → IsAt mesh a goal links place → place ≤ length links
place_within mesh a goal links place (inl on) = omega (arith, slice_get_within links place on.link on.there)
place_within mesh a goal links place (inr end) = omega (arith, end.behind)

-- where no place up to the end of the path is one, none is
pub nowhere_beyond : (mesh : Mesh) (a : CrowdAgent) (goal : Point) (links : List Link) (from end last : ℕ) → IsNowhere mesh a goal links from end
    → (end < last → length links < end) → IsNowhere mesh a goal links from last
nowhere_beyond mesh a goal links from end last none beyond place above below is =
    elim (cases_lt place end) [
      | inl before ↦ none place above before is
      | inr after ↦ omega (arith, place_within mesh a goal links place is, beyond (omega (arith, after, below)), after)
    ]

-- one place more that is none
pub nowhere_more : (mesh : Mesh) (a : CrowdAgent) (goal : Point) (links : List Link) (from place : ℕ) → IsNowhere mesh a goal links from place
    → (IsAt mesh a goal links place → ⊥) → IsNowhere mesh a goal links from (place + 1)
nowhere_more mesh a goal links from place none not other above below is =
    elim (cases_lt other place) [
      | inl before ↦ none other above before is
      | inr after ↦ not (subst (λ (k : ℕ). IsAt mesh a goal links k) (omega (arith, after, below)) is)
    ]

-- and one before those that are none
pub nowhere_before : (mesh : Mesh) (a : CrowdAgent) (goal : Point) (links : List Link) (place end : ℕ) → IsNowhere mesh a goal links (place + 1) end
    → (IsAt mesh a goal links place → ⊥) → IsNowhere mesh a goal links place end
nowhere_before mesh a goal links place end none not other above below is =
    elim (cases_lt place other) [
      | inl after ↦ none other (omega (arith, after)) below is
      | inr before ↦ not (subst (λ (k : ℕ). IsAt mesh a goal links k) (omega (arith, above, before)) is)
    ]

-- the link at a place tells whether the agent is there
pub at_link : (mesh : Mesh) (a : CrowdAgent) (goal : Point) (links : List Link) (place : ℕ) (link : Link) → slice_get links place ≡ Some link
    → IsAt mesh a goal links place → LeavesAgent mesh a link
at_link mesh a goal links place link there (inl on) = subst (LeavesAgent mesh a) (same_Some on.link link (sym on.there ∙ there)) on.leaves
at_link mesh a goal links place link there (inr end) = absurd (past (slice_get_within links place link there) end.behind)
  where
    past : place < length links → place ≡ length links → ⊥
    past below is = omega arith

-- the place of an agent is within its path
pub known_within : (mesh : Mesh) (a : CrowdAgent) (goal : Point) (links : List Link) (known place : ℕ) → IsPlaceOf mesh a goal links known place → place ≤ length links
known_within mesh a goal links known place (inl ahead) = place_within mesh a goal links place ahead.is
known_within mesh a goal links known place (inr behind) = place_within mesh a goal links place behind.1.is

-- behind all links an agent is there only where the path comes to its end
pub at_end : (mesh : Mesh) (a : CrowdAgent) (goal : Point) (links : List Link) (place : ℕ) → length links ≤ place → IsAt mesh a goal links place
    → ComesToEnd mesh a goal links
at_end mesh a goal links place past (inl on) = absurd (within (slice_get_within links place on.link on.there) past)
  where
    within : place < length links → length links ≤ place → ⊥
    within below above = omega arith
at_end mesh a goal links place past (inr end) = end.comes
