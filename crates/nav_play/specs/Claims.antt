-- What the claim of a worker comes to.
use Rattle.std.specs.Prelude.{◌≡◌, ℕ, ◌+◌, List, Option, slice_set}
use Rattle.build_queue.specs.BookState.{BookState}
use Rattle.nav_book.specs.declared.book.TileResult.{TileResult}
use Rattle.nav_record.specs.declared.step.StepAnswer.{StepAnswer}
use Rattle.nav_play.specs.Jobs.{claim_said, held_after_claim, book_after_claim, jobs_of_claim}
use Rattle.nav_play.specs.Players.{AreHeld, held_job, jobs_of_held}

-- a worker has asked for a tile, and got one or not: what it is answered, the book and the jobs afterwards, that the workers hold builds, and the steps
pub record HasClaimed (worker : ℕ) (book after : BookState) (held left : List (Option TileResult)) (steps later : ℕ) (answer : StepAnswer) : Type 0 where
  pub said : answer ≡ claim_said book worker (held_job held worker)
  pub state : after ≡ book_after_claim book (held_job held worker)
  pub jobs : jobs_of_held left ≡ slice_set (jobs_of_held held) worker (held_after_claim book (held_job held worker))
  pub builds : AreHeld book.ground left
  pub count : later ≡ steps + jobs_of_claim book (held_job held worker)
