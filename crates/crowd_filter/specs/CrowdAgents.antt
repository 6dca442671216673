-- CrowdAgents: agents in a mesh, and the moves that the mesh lets them make.
use Rattle.std.specs.Prelude.{◌≡◌, ◌^◌, true, false, ◌+ℤ◌, Some}
use Rattle.nav_base.specs.declared.point.Point.{Point}
use Rattle.nav_base.specs.Point.{IsWithin}
use Rattle.mesh_types.specs.declared.mesh.Mesh.{Mesh}
use Rattle.mesh_types.specs.declared.polygon.Polygon.{Polygon}
use Rattle.mesh_types.specs.WholeMesh.{poly_at}
use Rattle.fine_walk.specs.declared.passing.FineWay.{FineWay}
use Rattle.fine_walk.specs.FineRays.{FineHolds}
use Rattle.fine_walk.specs.Laws.{IsToldWay}
use Rattle.crowd_moves.specs.declared.agents.CrowdAgent.{CrowdAgent}
use Rattle.crowd_moves.specs.declared.agents.CrowdMove.{CrowdMove}
use Rattle.crowd_moves.specs.Pairs.{HasSizes, standing}

-- the point to which a vector leads
abbrev pub added : Point → Point → Point
added p v = record { x = p.x +ℤ v.x; z = p.z +ℤ v.z }

-- the polygon of an agent holds its middle, and the agent has the polygon's floors
pub record IsHeldIn (mesh : Mesh) (a : CrowdAgent) : Type 0 where
  pub polygon : Polygon
  pub there : poly_at mesh a.polygon ≡ Some polygon
  pub holds : FineHolds polygon a.at
  pub low : a.low ≡ polygon.low
  pub high : a.high ≡ polygon.high

-- an agent as it is to be: it is held, or stranded
pub record IsCrowdAgent (mesh : Mesh) (a : CrowdAgent) : Type 0 where
  pub sizes : HasSizes a
  pub held : a.stranded ≡ false → IsHeldIn mesh a

-- where a move ends and what it passes over
abbrev pub way_of : CrowdMove → FineWay
way_of m = record { last = m.to; low = m.low; high = m.high }

-- the mesh lets an agent make a move: along a straight way over polygons that it may enter, to a fine point. Who is stranded stands
pub record MayWalk (mesh : Mesh) (a : CrowdAgent) (m : CrowdMove) : Type 0 where
  pub stands : a.stranded ≡ true → m ≡ standing a
  pub walks : a.stranded ≡ false → IsToldWay mesh a.areas a.polygon a.at (added a.at m.by) (way_of m)
  pub fits : IsWithin (2 ^ 20) (added a.at m.by)
