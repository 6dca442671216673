-- Ways: what the search along a way keeps.
use Rattle.std.specs.Prelude.{◌≡◌, ℕ, ◌<◌, ◌≤◌, ◌⊎◌, pos, ◌+ℤ◌, ◌-ℤ◌, ◌*ℤ◌, ◌≤ℤ◌, ◌<ℤ◌, ℤ, List, length, Option, Some, None}
use Rattle.std.specs.Int.RustNames.{unsigned_abs}
use Rattle.nav_base.specs.declared.point.Point.{Point}
use Rattle.nav_base.specs.Point.{HasCoordinates}
use Rattle.mesh_types.specs.declared.links.PolyRef.{PolyRef}
use Rattle.mesh_types.specs.declared.mesh.Mesh.{Mesh}
use Rattle.mesh_types.specs.declared.polygon.Polygon.{Polygon}
use Rattle.mesh_types.specs.Located.{Holds}
use Rattle.mesh_types.specs.Rays.{IsHeldAt}
use Rattle.surface_move.specs.declared.nearby.StraightWay.{StraightWay}
use Rattle.surface_move.specs.declared.nearby.StepRange.{StepRange}
use Rattle.surface_move.specs.declared.nearby.SteppedNumber.{SteppedNumber}
use Rattle.surface_move.specs.Moves.{leg_of, IsNear, IsMet, nth_polygon}

-- a way between points with coordinates, of as many steps as it is long, which is not nowhere
pub record IsWay (way : StraightWay) : Type 0 where
  pub from : HasCoordinates way.from
  pub to : HasCoordinates way.to
  pub steps : way.steps ≡ leg_of way.from way.to
  pub some : 1 ≤ way.steps

-- a fraction with denominator n, rounded down and up: with each of the two times n
pub record IsRounded (n value low high : ℤ) : Type 0 where
  pub below : (n *ℤ low) ≤ℤ value
  pub above : value <ℤ (n *ℤ low +ℤ n)
  pub up : ((high ≡ low) × (value ≡ n *ℤ low)) ⊎ ((high ≡ low +ℤ pos 1) × ((n *ℤ low) <ℤ value))

-- by how much a near point is off the place that a way has reached, times the number of its steps: less than that number on either axis, and
-- nothing on an axis along which each step goes a whole one
pub record IsOffset (way : StraightWay) (off : Point) : Type 0 where
  pub across : unsigned_abs off.x < way.steps
  pub along : unsigned_abs off.z < way.steps
  pub wide : unsigned_abs (way.to.x -ℤ way.from.x) ≡ way.steps → off.x ≡ pos 0
  pub high : unsigned_abs (way.to.z -ℤ way.from.z) ≡ way.steps → off.z ≡ pos 0

-- a number of steps is one of some
pub record IsAmong (steps : StepRange) (g : ℕ) : Type 0 where
  pub least : steps.least ≤ g
  pub most : g ≤ steps.most

-- what a turn comes to after g steps is not below 0
abbrev pub IsNotRight : SteppedNumber → ℕ → Type 0
IsNotRight turn g = pos 0 ≤ℤ (turn.start +ℤ pos g *ℤ turn.each)

-- a polygon holds a point that is near a way after g steps
pub record HoldsNear (polygon : Polygon) (from to : Point) (g : ℕ) : Type 0 where
  pub q : Point
  pub near : IsNear from to g q
  pub holds : Holds polygon q

-- one of the polygons from a place of a list on does
pub record HoldsNearFrom (mesh : Mesh) (polys : List PolyRef) (from to : Point) (first g : ℕ) : Type 0 where
  pub place : ℕ
  pub q : Point
  pub later : first ≤ place
  pub met : IsMet mesh polys from to g place q

-- the polygon at a place of a list holds a point
pub record IsHolder (mesh : Mesh) (polys : List PolyRef) (p : Point) (place : ℕ) : Type 0 where
  pub there : place < length polys
  pub held : IsHeldAt mesh p (nth_polygon polys place)

-- the first place at which one does; none where there is none
abbrev pub IsFirstHolder : Mesh → List PolyRef → Point → Option ℕ → Type 0
IsFirstHolder mesh polys p (Some place) = IsHolder mesh polys p place × ((other : ℕ) → IsHolder mesh polys p other → place ≤ other)
IsFirstHolder mesh polys p None = (place : ℕ) → IsHolder mesh polys p place → ⊥

-- the greatest number up to a limit of which something holds; where that is none above a number that is known, that number
pub record IsGreatest (P : ℕ → Type 0) (known limit greatest : ℕ) : Type 0 where
  pub at_least : known ≤ greatest
  pub within : known < greatest → greatest ≤ limit
  pub holds : known < greatest → P greatest
  pub no_more : (g : ℕ) → g ≤ limit → P g → g ≤ greatest
