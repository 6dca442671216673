-- Segments: a line through a chain of portals as its stops, and what the segment from one stop to the next keeps of the portals that it spans.
use Rattle.std.specs.Prelude.{◌≡◌, ◌≢◌, ℕ, ◌+◌, ◌<◌, pos, ◌≤ℤ◌, ◌⊎◌, List, [], ◌∷◌, ◌++◌, length, map, get_or}
use Rattle.nav_base.specs.declared.point.Point.{Point}
use Rattle.nav_base.specs.Point.{orient_of, dot_of, from_to}
use Rattle.mesh_types.specs.declared.links.Portal.{Portal}
use Rattle.mesh_types.specs.declared.answers.Side.{Side}
use Rattle.mesh_types.specs.declared.answers.Corner.{Corner}
use Rattle.mesh_types.specs.Portals.{along}
use Rattle.mesh_types.specs.Chains.{portal_at, end_of}

-- the stops of a line: its start, its corners and its goal, each with a number; the portal at place m has the number m + 1, the start has 0,
-- and the goal has the number after the last portal's
pub record TautCorner : Type 0 where
  pub at : Point
  pub number : ℕ

-- the taut corners of a line through a chain of portals
abbrev pub taut_corners_of : Point → List Portal → Point → List Corner → List TautCorner
taut_corners_of start portals goal corners =
    record { at = start; number = 0 } ∷ map (λ (corner : Corner). record { at = corner.at; number = corner.portal + 1 }) corners
    ++ record { at = goal; number = length portals + 1 } ∷ []

-- the taut corner at a place of the list
abbrev pub taut_corner_at : List TautCorner → ℕ → TautCorner
taut_corner_at taut k = get_or taut k (record { at = record { x = pos 0; z = pos 0 }; number = 0 })

-- the segment from a stop to the next spans the portal at a place: its number lies strictly between theirs
pub record IsSpanned (taut : List TautCorner) (k m : ℕ) : Type 0 where
  pub next : k + 1 < length taut
  pub after : (taut_corner_at taut k).number < m + 1
  pub before : m + 1 < (taut_corner_at taut (k + 1)).number

-- (b) a segment from p to q goes through a portal: the portal's left end does not lie to the right of the way, its right end not to the
-- left, p not ahead of the portal and q not behind it
pub record GoesThrough (p q : Point) (portal : Portal) : Type 0 where
  pub left : pos 0 ≤ℤ orient_of p q portal.left
  pub right : orient_of p q portal.right ≤ℤ pos 0
  pub from : pos 0 ≤ℤ orient_of portal.right portal.left p
  pub to : orient_of portal.right portal.left q ≤ℤ pos 0

-- (c) a segment of no length lies on the portal
abbrev pub LiesOn : Point → Portal → Type 0
LiesOn p portal = dot_of (from_to portal.left p) (from_to portal.right p) ≤ℤ pos 0

-- a portal lies on the line through p and q
pub record LiesOnLine (p q : Point) (portal : Portal) : Type 0 where
  pub left : orient_of p q portal.left ≡ pos 0
  pub right : orient_of p q portal.right ≡ pos 0

-- (d) a portal on a segment's line has an end that is not before the segment's beginning, and an end that is not after the segment's end
pub record IsReached (p q : Point) (portal : Portal) : Type 0 where
  pub begin : (pos 0 ≤ℤ along p q portal.left) ⊎ (pos 0 ≤ℤ along p q portal.right)
  pub end : (along p q portal.left ≤ℤ along p q q) ⊎ (along p q portal.right ≤ℤ along p q q)

-- and of two such portals, some end of the earlier is no further along than some end of the later
abbrev pub IsNoFurther : Point → Point → Portal → Portal → Type 0
IsNoFurther p q a b =
    (side side' : Side) × (along p q (end_of side a) ≤ℤ along p q (end_of side' b))

-- (b) to (d) for the segment from a stop to the next
pub record IsTight (portals : List Portal) (taut : List TautCorner) (k : ℕ) : Type 0 where
  pub through : (m : ℕ) → IsSpanned taut k m → GoesThrough (taut_corner_at taut k).at (taut_corner_at taut (k + 1)).at (portal_at portals m)
  pub lies : (m : ℕ) → IsSpanned taut k m → (taut_corner_at taut k).at ≡ (taut_corner_at taut (k + 1)).at → LiesOn (taut_corner_at taut k).at (portal_at portals m)
  pub reached : (m : ℕ) → IsSpanned taut k m → (taut_corner_at taut k).at ≢ (taut_corner_at taut (k + 1)).at
      → LiesOnLine (taut_corner_at taut k).at (taut_corner_at taut (k + 1)).at (portal_at portals m)
      → IsReached (taut_corner_at taut k).at (taut_corner_at taut (k + 1)).at (portal_at portals m)
  pub in_turn : (m m' : ℕ) → m < m' → IsSpanned taut k m → IsSpanned taut k m' → (taut_corner_at taut k).at ≢ (taut_corner_at taut (k + 1)).at
      → LiesOnLine (taut_corner_at taut k).at (taut_corner_at taut (k + 1)).at (portal_at portals m)
      → LiesOnLine (taut_corner_at taut k).at (taut_corner_at taut (k + 1)).at (portal_at portals m')
      → IsNoFurther (taut_corner_at taut k).at (taut_corner_at taut (k + 1)).at (portal_at portals m) (portal_at portals m')
