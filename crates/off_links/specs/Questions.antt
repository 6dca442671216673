-- Questions: which questions for a hop walk may be asked, and which answers are right.
use Rattle.std.specs.Prelude.{◌<◌, length, ⊤}
use Rattle.nav_base.specs.Point.{HasCoordinates}
use Rattle.mesh_types.specs.declared.answers.HopAnswer.{HopAnswer}
use Rattle.mesh_types.specs.declared.answers.HopAnswer.TheVariants.{Found, NoStart, NoGoal, NoPath}
use Rattle.mesh_types.specs.declared.mesh.Mesh.{Mesh}
use Rattle.mesh_types.specs.Hops.{IsHopRight}
use Rattle.mesh_types.specs.Soundness.{polygon_count}
use Rattle.off_links.specs.declared.hops.HopQuestion.{HopQuestion}
use Rattle.off_links.specs.OffMeshLinks.{AreJumps}

-- both places and the points of all jumps have coordinates, and there are at most 256 jumps
pub record CanHop (question : HopQuestion) : Type 0 where
  pub from : HasCoordinates question.from
  pub to : HasCoordinates question.to
  pub jumps : AreJumps question.jumps

-- an answer to a question is right in a mesh
abbrev pub IsRightHop : HopQuestion → Mesh → HopAnswer → Type 0
IsRightHop question mesh answer = IsHopRight mesh question.jumps question.from question.from_y question.to question.to_y answer

-- what is found has fewer steps than the mesh has polygons
abbrev pub HasFewSteps : Mesh → HopAnswer → Type 0
HasFewSteps mesh (Found found) = length found.steps < polygon_count mesh.tiles
HasFewSteps mesh NoStart = ⊤
HasFewSteps mesh NoGoal = ⊤
HasFewSteps mesh NoPath = ⊤
