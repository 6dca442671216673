-- Chains: portals one after the other, from a start to a goal.
use Rattle.std.specs.Prelude.{◌≡◌, ◌≢◌, ℕ, ◌+◌, ◌-◌, ◌<◌, pos, ◌≤ℤ◌, ◌<ℤ◌, nat_lt, ◌==◌, if◌then◌else◌, List, [], ◌∷◌, length, All, get_or}
use Rattle.nav_base.specs.declared.point.Point.{Point}
use Rattle.nav_base.specs.Point.{orient_of, dot_of, from_to}
use Rattle.mesh_types.specs.declared.links.Portal.{Portal}
use Rattle.mesh_types.specs.declared.answers.Side.{Side}
use Rattle.mesh_types.specs.declared.answers.Side.TheVariants.{L, R}

-- the portal at a place
abbrev pub portal_at : List Portal → ℕ → Portal
portal_at portals m = get_or portals m (record { left = record { x = pos 0; z = pos 0 }; right = record { x = pos 0; z = pos 0 } })

-- a point lies behind a portal or on its line, and in front of it or on its line
abbrev pub IsBehind : Portal → Point → Type 0
IsBehind portal p = pos 0 ≤ℤ orient_of portal.right portal.left p

abbrev pub IsAhead : Portal → Point → Type 0
IsAhead portal p = orient_of portal.right portal.left p ≤ℤ pos 0

-- what comes before a portal: the start for the first, else the ends of the portal before it
abbrev pub points_before : Point → List Portal → ℕ → List Point
points_before start portals m =
    if m == 0 then start ∷ [] else (portal_at portals (m - 1)).left ∷ (portal_at portals (m - 1)).right ∷ []

-- what comes after a portal: the goal for the last, else the ends of the portal after it
abbrev pub points_after : List Portal → Point → ℕ → List Point
points_after portals goal m =
    if nat_lt (m + 1) (length portals) then (portal_at portals (m + 1)).left ∷ (portal_at portals (m + 1)).right ∷ [] else goal ∷ []

-- a chain: each portal has two different ends, what comes before it lies behind it, and what comes after it lies ahead of it
pub record IsChain (start : Point) (portals : List Portal) (goal : Point) : Type 0 where
  pub wide : (m : ℕ) → m < length portals → (portal_at portals m).left ≢ (portal_at portals m).right
  pub behind : (m : ℕ) → m < length portals → All (IsBehind (portal_at portals m)) (points_before start portals m)
  pub ahead : (m : ℕ) → m < length portals → All (IsAhead (portal_at portals m)) (points_after portals goal m)

-- two portals fold: they lie on one line, look opposite ways, and have a common inner point
pub record IsFold (a b : Portal) : Type 0 where
  pub left_on_line : orient_of a.left a.right b.left ≡ pos 0
  pub right_on_line : orient_of a.left a.right b.right ≡ pos 0
  pub opposite : dot_of (from_to a.right a.left) (from_to b.right b.left) <ℤ pos 0
  pub left_inside : dot_of (from_to a.left b.left) (from_to a.right a.left) <ℤ pos 0
  pub right_inside : dot_of (from_to a.right b.right) (from_to a.left a.right) <ℤ pos 0

-- the end of a portal on a side, and the other end
abbrev pub end_of : Side → Portal → Point
end_of L portal = portal.left
end_of R portal = portal.right

-- the end of a portal that is not on this side
abbrev pub other_end_of : Side → Portal → Point
other_end_of L portal = portal.right
other_end_of R portal = portal.left
