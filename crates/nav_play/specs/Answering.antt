-- What may be written after a question.
use Rattle.std.specs.Prelude.{◌≡◌, ℕ, List}
use Rattle.nav_base.specs.declared.point.Question.{Question}
use Rattle.nav_base.specs.declared.point.Point.{Point}
use Rattle.mesh_types.specs.declared.answers.Answer.{Answer}
use Rattle.mesh_types.specs.declared.answers.HopAnswer.{HopAnswer}
use Rattle.mesh_types.specs.declared.answers.Jump.{Jump}
use Rattle.mesh_types.specs.Hops.{IsHopRight}
use Rattle.mesh_types.specs.Right.{IsRight}
use Rattle.build_queue.specs.BookState.{BookState}
use Rattle.nav_book.specs.Results.{published_mesh}
use Rattle.nav_record.specs.HopTexts.{hop_text}
use Rattle.nav_record.specs.AnswerTexts.{answer_text}

-- an answer that is right in the published mesh, with the length that it was asked at
pub record IsAnswered (book : BookState) (question : Question) (text : List ℕ) : Type 0 where
  pub answer : Answer
  pub right : IsRight (published_mesh book) question answer
  pub written : text ≡ answer_text book.published answer

-- and after the question for a hop walk: one that is right with these jumps
pub record IsHopAnswered (book : BookState) (jumps : List Jump) (from : Point) (from_y : ℕ) (to : Point) (to_y : ℕ) (text : List ℕ) : Type 0 where
  pub answer : HopAnswer
  pub right : IsHopRight (published_mesh book) jumps from from_y to to_y answer
  pub written : text ≡ hop_text book.published answer
