-- Pulling: what is asked and given where the stretches of a hop walk are pulled tight.
use Rattle.std.specs.Prelude.{◌≡◌, ℕ, List, ◌++◌, map}
use Rattle.nav_base.specs.declared.point.Point.{Point}
use Rattle.mesh_types.specs.declared.answers.Corner.{Corner}
use Rattle.mesh_types.specs.declared.links.PolyRef.{PolyRef}
use Rattle.mesh_types.specs.declared.links.Portal.{Portal}
use Rattle.mesh_types.specs.declared.mesh.Mesh.{Mesh}
use Rattle.mesh_types.specs.Stretches.{counted_from}
use Rattle.mesh_types.specs.Located.{IsLocated}
use Rattle.mesh_types.specs.Taut.{IsTaut}
use Rattle.off_links.specs.declared.hops.HopQuestion.{HopQuestion}
use Rattle.off_links.specs.Questions.{CanHop}

-- the polygons that locate the places of a question that may be asked
pub record IsWithin (mesh : Mesh) (question : HopQuestion) (first last : PolyRef) : Type 0 where
  pub asked : CanHop question
  pub start : IsLocated mesh question.from question.from_y first
  pub goal : IsLocated mesh question.to question.to_y last

-- the corners of a taut line were appended, counted from a place
pub record IsPulled (from : Point) (portals : List Portal) (to : Point) (first : ℕ) (old new : List Corner) : Type 0 where
  pub own : List Corner
  pub taut : IsTaut from portals to own
  pub appended : new ≡ old ++ map (counted_from first) own
