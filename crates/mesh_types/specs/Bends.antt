-- Bends: where a line through a chain of portals turns, and what holds it there.
use Rattle.std.specs.Prelude.{◌≡◌, ◌≢◌, ℕ, ◌+◌, ◌-◌, ◌<◌, ◌≤◌, pos, ◌<ℤ◌, ◌⊎◌, List, length, get_or}
use Rattle.nav_base.specs.declared.point.Point.{Point}
use Rattle.nav_base.specs.Point.{orient_of, dot_of, from_to}
use Rattle.mesh_types.specs.declared.links.Portal.{Portal}
use Rattle.mesh_types.specs.declared.answers.Side.{Side}
use Rattle.mesh_types.specs.declared.answers.Side.TheVariants.{L, R}
use Rattle.mesh_types.specs.declared.answers.Corner.{Corner}
use Rattle.mesh_types.specs.Chains.{portal_at, IsFold, other_end_of}
use Rattle.mesh_types.specs.Segments.{TautCorner, taut_corner_at}

-- (e) a bend is a maximal run of stops at one point that has neither the start nor the goal: the corners from one place up to another
pub record IsBend (taut : List TautCorner) (first last : ℕ) : Type 0 where
  pub some : first ≤ last
  pub not_start : 1 ≤ first
  pub not_goal : last + 1 < length taut
  pub equal : (k : ℕ) → first ≤ k → k ≤ last → (taut_corner_at taut k).at ≡ (taut_corner_at taut first).at
  pub not_before : (taut_corner_at taut (first - 1)).at ≢ (taut_corner_at taut first).at
  pub not_after : (taut_corner_at taut (last + 1)).at ≢ (taut_corner_at taut first).at

-- a point e is straight on at c for one who comes from b
pub record IsStraightOn (b c e : Point) : Type 0 where
  pub on_line : orient_of b c e ≡ pos 0
  pub onward : dot_of (from_to c b) (from_to c e) <ℤ pos 0

-- a point holds a corner at c on a side: it is straight on, or lies on that side of the way from b to c
abbrev pub IsHolding : Side → Point → Point → Point → Type 0
IsHolding L b c e = IsStraightOn b c e ⊎ (pos 0 <ℤ orient_of b c e)
IsHolding R b c e = IsStraightOn b c e ⊎ (orient_of b c e <ℤ pos 0)

-- a corner that stands for none
abbrev pub some_corner : Corner
some_corner = record { at = record { x = pos 0; z = pos 0 }; side = L; portal = 0 }

-- the corner at a stop of a bend
abbrev pub corner_of : List Corner → ℕ → Corner
corner_of corners k = get_or corners (k - 1) some_corner

-- the corner at a stop of a bend has a side
pub record HasSide (corners : List Corner) (first last : ℕ) (side : Side) (k : ℕ) : Type 0 where
  pub from : first ≤ k
  pub to : k ≤ last
  pub sided : (corner_of corners k).side ≡ side

-- a bend is held on a side: it has a corner of that side, and the stop after it, or the other end of a portal that one of its corners of that
-- side names, holds it
pub record IsHeldOn (portals : List Portal) (taut : List TautCorner) (corners : List Corner) (first last : ℕ) (side : Side) : Type 0 where
  pub corner : ℕ
  pub has : HasSide corners first last side corner
  pub held : IsHolding side (taut_corner_at taut (first - 1)).at (taut_corner_at taut first).at (taut_corner_at taut (last + 1)).at
      ⊎ ((k : ℕ) × HasSide corners first last side k
      × IsHolding side (taut_corner_at taut (first - 1)).at (taut_corner_at taut first).at (other_end_of side (portal_at portals (corner_of corners k).portal)))

-- a bend is also held where one of its corners names a portal on which the next portal folds back
pub record IsFoldedOn (portals : List Portal) (corners : List Corner) (first last : ℕ) : Type 0 where
  pub corner : ℕ
  pub from : first ≤ corner
  pub to : corner ≤ last
  pub next : (corner_of corners corner).portal + 1 < length portals
  pub folds : IsFold (portal_at portals (corner_of corners corner).portal) (portal_at portals ((corner_of corners corner).portal + 1))
