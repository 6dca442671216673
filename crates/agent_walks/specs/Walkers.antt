-- Walkers: what is true of a walker after each answer, and which walker an answer leaves.
use Rattle.std.specs.Prelude.{◌≡◌, ℕ, List, Option, Some, None, ⊤}
use Rattle.nav_base.specs.declared.point.Point.{Point}
use Rattle.nav_base.specs.Point.{HasCoordinates}
use Rattle.mesh_types.specs.declared.links.Link.{Link}
use Rattle.mesh_types.specs.declared.links.PolyRef.{PolyRef}
use Rattle.mesh_types.specs.declared.mesh.Mesh.{Mesh}
use Rattle.mesh_types.specs.declared.polygon.Polygon.{Polygon}
use Rattle.mesh_types.specs.Corridors.{IsCheapest}
use Rattle.mesh_types.specs.Located.{IsLocated, Holds}
use Rattle.mesh_types.specs.WholeMesh.{poly_at}
use Rattle.mesh_types.specs.declared.answers.WalkAnswer.{WalkAnswer}
use Rattle.mesh_types.specs.declared.answers.WalkAnswer.TheVariants.{Walking, NoStart, NoGoal, NoPath}
use Rattle.agent_walks.specs.declared.walkers.Walker.{Walker}

-- on the way to a goal: the polygon holds the point, which has coordinates, in the plane and has this least floor, and the links are a walk that is
-- cheapest from that polygon to the polygon that locates the goal, of this cost
pub record IsOnWay (mesh : Mesh) (goal : Point) (goal_y : ℕ) (at : PolyRef) (point : Point) (low cost : ℕ) (links : List Link) : Type 0 where
  pub polygon : Polygon
  pub there : poly_at mesh at ≡ Some polygon
  pub within : HasCoordinates point
  pub holds : Holds polygon point
  pub floor : low ≡ polygon.low
  pub last : PolyRef
  pub reaches : IsLocated mesh goal goal_y last
  pub cheapest : IsCheapest mesh at last (record { cost = cost; links = links })

-- so it is where the answer is that the walker walks
abbrev pub IsUnderWay : Mesh → Point → ℕ → WalkAnswer → Type 0
IsUnderWay mesh goal goal_y (Walking at point low cost links) = IsOnWay mesh goal goal_y at point low cost links
IsUnderWay mesh goal goal_y NoStart = ⊤
IsUnderWay mesh goal goal_y NoGoal = ⊤
IsUnderWay mesh goal goal_y NoPath = ⊤

-- the walker that an answer leaves, which a mesh of a length gave: one that stands where the answer says, with its links and cost, this length
-- and this goal; none exactly where the answer is not that it walks
abbrev pub walker_of : ℕ → Point → ℕ → WalkAnswer → Option Walker
walker_of k goal goal_y (Walking at point low cost links) =
    Some (record { k = k; at = at; point = point; y = low; goal = goal; goal_y = goal_y; cost = cost; links = links })
walker_of k goal goal_y NoStart = None
walker_of k goal goal_y NoGoal = None
walker_of k goal goal_y NoPath = None

-- both points of a walker have coordinates, so that it may march
pub record IsWalker (walker : Walker) : Type 0 where
  pub point : HasCoordinates walker.point
  pub goal : HasCoordinates walker.goal
