-- Portals on whose line the apex lies, the point where the path turned last: those that it lies inside are passed over.
use Rattle.std.specs.Prelude.{◌≡◌, ℕ, ◌+◌, ◌<◌, ◌≤◌, pos, ◌≤ℤ◌, ◌<ℤ◌, List}
use Rattle.nav_base.specs.declared.point.Point.{Point}
use Rattle.nav_base.specs.Point.{orient_of, dot_of, from_to}
use Rattle.mesh_types.specs.declared.links.Portal.{Portal}
use Rattle.mesh_types.specs.Chains.{portal_at}

-- the apex lies on a portal, strictly between its ends: whatever lies ahead of the portal is seen through it
pub record IsInside (apex : Point) (portal : Portal) : Type 0 where
  pub on_line : orient_of portal.right portal.left apex ≡ pos 0
  pub between : dot_of (from_to apex portal.left) (from_to apex portal.right) <ℤ pos 0

-- the apex lies on a portal's line, at one of its ends or outside
pub record IsBeside (apex : Point) (portal : Portal) : Type 0 where
  pub on_line : orient_of portal.right portal.left apex ≡ pos 0
  pub outside : pos 0 ≤ℤ dot_of (from_to apex portal.left) (from_to apex portal.right)

-- the second portal lies on the first one's line
pub record IsInLine (a b : Portal) : Type 0 where
  pub left : orient_of a.left a.right b.left ≡ pos 0
  pub right : orient_of a.left a.right b.right ≡ pos 0

-- two portals look the same way, or opposite ways
abbrev pub LookAlike : Portal → Portal → Type 0
LookAlike a b = pos 0 <ℤ dot_of (from_to a.right a.left) (from_to b.right b.left)

abbrev pub LookOpposite : Portal → Portal → Type 0
LookOpposite a b = dot_of (from_to a.right a.left) (from_to b.right b.left) <ℤ pos 0

-- the portals from one place up to before another are passed over: the apex lies inside each, and each lies on the line of the one before
-- it and looks the same way
pub record ArePassed (apex : Point) (portals : List Portal) (first end : ℕ) : Type 0 where
  pub inside : (m : ℕ) → first ≤ m → m < end → IsInside apex (portal_at portals m)
  pub in_line : (m : ℕ) → first ≤ m → m + 1 < end → IsInLine (portal_at portals m) (portal_at portals (m + 1))
  pub alike : (m : ℕ) → first ≤ m → m + 1 < end → LookAlike (portal_at portals m) (portal_at portals (m + 1))
