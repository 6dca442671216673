-- Answers that are right in the mesh at hand, as answers in the published one.
use Rattle.std.proofs.Common.{◌≡◌, ◌∙◌, List, ap, subst, Option}
use Rattle.nav_base.specs.declared.point.Question.{Question}
use Rattle.mesh_types.specs.declared.answers.Answer.{Answer}
use Rattle.mesh_types.specs.declared.mesh.Mesh.{Mesh}
use Rattle.mesh_types.specs.declared.mesh.TileMesh.{TileMesh}
use Rattle.mesh_types.specs.Right.{IsRight}
use Rattle.nav_query.specs.Questions.{HasUnfoldedWay}
use Rattle.nav_query.proofs.UnfoldedBuilds.{unfolded_answer}
use Rattle.build_queue.specs.BookState.{BookState}
use Rattle.nav_book.specs.LevelRepresentation.{AreKept}
use Rattle.nav_book.specs.LevelResults.{published_mesh}

-- one that is right in the mesh at hand is right in the published one
pub right_published : (state seen : BookState) (places : List (Option TileMesh)) (mesh : Mesh) (question : Question) (answer : Answer) → state ≡ seen
    → AreKept state places mesh → IsRight mesh question answer → IsRight (published_mesh seen) question answer
right_published state seen places mesh question answer same kept right =
    subst (λ (m : Mesh). IsRight m question answer) (kept.shown ∙ ap published_mesh same) right

-- and no portal on its way folds back on the one before it
pub unfolded_published : (state : BookState) (places : List (Option TileMesh)) (mesh : Mesh) (question : Question) (answer : Answer)
    → AreKept state places mesh → IsRight mesh question answer → HasUnfoldedWay answer
unfolded_published state places mesh question answer kept right =
    unfolded_answer state.ground state.history state.published question answer kept.rules.level kept.rules.replied.requests
    (subst (λ (m : Mesh). IsRight m question answer) kept.shown right)
