-- Laws: what holds of every straight way.
use Rattle.std.specs.Prelude.{◌≡◌, ℕ, List, []}
use Rattle.nav_base.specs.declared.point.Point.{Point}
use Rattle.mesh_types.specs.declared.links.Link.{Link}
use Rattle.mesh_types.specs.declared.links.PolyRef.{PolyRef}
use Rattle.mesh_types.specs.declared.mesh.Mesh.{Mesh}
use Rattle.mesh_types.specs.Soundness.{IsSound}
use Rattle.fine_walk.specs.declared.passing.FineWay.{FineWay}
use Rattle.fine_walk.specs.FineRays.{IsFineHeld, IsFineWay, low_over, high_over}
use Rattle.fine_walk.specs.Stays.{StaysOn}

-- what is told of a straight way: the polygon in which it ends, and the least and the greatest floor that it passes over
pub record IsToldWay (mesh : Mesh) (areas : ℕ) (first : PolyRef) (from to : Point) (told : FineWay) : Type 0 where
  pub links : List Link
  pub way : IsFineWay mesh areas first from to links told.last
  pub low : told.low ≡ low_over mesh first links
  pub high : told.high ≡ high_over mesh first links

-- a straight way over a sound mesh, begun in a polygon that holds its begin, stays on the mesh
abbrev pub DoWaysStay : Type 0
DoWaysStay = (mesh : Mesh) (areas : ℕ) (first : PolyRef) (from to : Point) (links : List Link) (last : PolyRef)
    → IsSound mesh → IsFineHeld mesh from first → IsFineWay mesh areas first from to links last → StaysOn mesh first from to links last

-- and its end is held
abbrev pub AreEndsHeld : Type 0
AreEndsHeld = (mesh : Mesh) (areas : ℕ) (first : PolyRef) (from to : Point) (links : List Link) (last : PolyRef)
    → IsFineWay mesh areas first from to links last → IsFineHeld mesh to last

-- two straight ways between the same points, begun in one polygon, are the same
abbrev pub IsOneWay : Type 0
IsOneWay = (mesh : Mesh) (areas : ℕ) (first : PolyRef) (from to : Point) (links links' : List Link) (last last' : PolyRef)
    → IsFineWay mesh areas first from to links last → IsFineWay mesh areas first from to links' last' → links ≡ links'

-- where a polygon holds a point, the straight way to it takes no link
abbrev pub DoesEndInside : Type 0
DoesEndInside = (mesh : Mesh) (areas : ℕ) (first : PolyRef) (from to : Point) → IsFineHeld mesh to first → IsFineWay mesh areas first from to [] first
