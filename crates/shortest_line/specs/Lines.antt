-- Lines: how long the lines over the portals of a walk are at least, and which answers to the question for a shortest line are right.
use Rattle.std.specs.Prelude.{◌≡◌, ℕ, ◌+◌, ◌*◌, ◌/◌, ◌≤◌, ◌<◌, max, List, ◌∷◌, map}
use Rattle.line_fans.specs.Lines.{IsLine, spread}
use Rattle.nav_base.specs.declared.point.Point.{Point}
use Rattle.nav_base.specs.Deviation.{square_of}
use Rattle.nav_base.specs.Point.{HasCoordinates, from_to}
use Rattle.nav_base.specs.Root.{ceil_sqrt_of}
use Rattle.mesh_types.specs.declared.links.Link.{Link}
use Rattle.mesh_types.specs.declared.links.PolyRef.{PolyRef}
use Rattle.mesh_types.specs.declared.mesh.Mesh.{Mesh}
use Rattle.mesh_types.specs.Corridors.{WalksTo}
use Rattle.mesh_types.specs.Located.{IsLocated}
use Rattle.mesh_types.specs.Right.{HasNoGoal, HasNoPath, IsNowhere, portals_of}
use Rattle.mesh_types.specs.Segments.{TautCorner, taut_corners_of}
use Rattle.mesh_types.specs.Taut.{IsTaut}
use Rattle.shortest_line.specs.declared.query.LineFound.{LineFound}
use Rattle.shortest_line.specs.declared.query.LineQuery.{LineQuery}
use Rattle.shortest_line.specs.declared.query.ShortestAnswer.{ShortestAnswer}
use Rattle.shortest_line.specs.declared.query.ShortestAnswer.TheVariants.{Shortest, Line, NoStart, NoGoal, NoPath}

-- no line over a walk from the one polygon to the other is shorter than a number of parts, 4096 to a sixteenth
pub record IsUnderAll (mesh : Mesh) (first last : PolyRef) (from goal : Point) (parts : ℕ) : Type 0 where
  pub each : (links : List Link) (d r : ℕ) → 0 < d → WalksTo mesh first links last
      → IsLine d (spread d from) (portals_of links) (spread d goal) r → parts * d ≤ 4096 * r

-- the parts of the way from point to point, each leg rounded up
unfoldable pub measured_of : List Point → ℕ
measured_of (a ∷ b ∷ more) = ceil_sqrt_of (4096 * 4096 * square_of (from_to a b)) + measured_of (b ∷ more)
measured_of _ = 0

-- the points of a line through portals: its start, its corners and its goal
abbrev pub points_of : List TautCorner → List Point
points_of corners = map (λ (corner : TautCorner). corner.at) corners

-- two numbers of parts are as good as one
abbrev pub IsClose : ℕ → ℕ → Type 0
IsClose upper lower = upper ≤ lower + max 256 (lower / 16384)

-- both points have coordinates
pub record CanAskLine (query : LineQuery) : Type 0 where
  pub from : HasCoordinates query.from
  pub goal : HasCoordinates query.goal

-- a line that was found: its links are a walk from the polygon that locates the start to the one that locates the goal, its turns are those of a
-- taut line through their portals, which measures `upper`, and no line over such a walk is shorter than `lower`
pub record IsLineFound (mesh : Mesh) (query : LineQuery) (found : LineFound) : Type 0 where
  pub start : IsLocated mesh query.from query.from_y found.first
  pub goal : IsLocated mesh query.goal query.goal_y found.last
  pub walks : WalksTo mesh found.first found.links found.last
  pub taut : IsTaut query.from (portals_of found.links) query.goal found.turns
  pub upper : found.upper ≡ measured_of (points_of (taut_corners_of query.from (portals_of found.links) query.goal found.turns))
  pub lower : IsUnderAll mesh found.first found.last query.from query.goal found.lower

-- an answer to the question for a shortest line is right in a mesh
abbrev pub IsRightLine : Mesh → LineQuery → ShortestAnswer → Type 0
IsRightLine mesh query (Shortest found) = IsLineFound mesh query found × IsClose found.upper found.lower
IsRightLine mesh query (Line found) = IsLineFound mesh query found × (IsClose found.upper found.lower → ⊥)
IsRightLine mesh query NoStart = IsNowhere mesh query.from query.from_y
IsRightLine mesh query NoGoal = HasNoGoal mesh query.from query.from_y query.goal query.goal_y
IsRightLine mesh query NoPath = HasNoPath mesh query.from query.from_y query.goal query.goal_y
