-- What each call of a book promises, one record a call: the state that it leaves, and what it answers. A build queue, a level and a book
-- promise the same. `old` and `new` are the states before and after the call, and the rules of a book hold after each.
use Rattle.std.specs.Prelude.{◌≡◌, ◌↔◌, ℕ, ◌+◌, List, length, Option, Result, IsErr, IfOk, IfErr, IfSome, OnOk, OnErr}
use Rattle.nav_ground.specs.declared.history.Reply.{Reply}
use Rattle.nav_ground.specs.declared.history.Request.{Request}
use Rattle.nav_ground.specs.declared.shape.Shape.{Shape}
use Rattle.nav_ground.specs.History.{history_limit, shapes_alive}
use Rattle.build_queue.specs.declared.live.HistoryFull.{HistoryFull}
use Rattle.build_queue.specs.declared.live.Job.{Job}
use Rattle.build_queue.specs.declared.live.Submitted.{Submitted}
use Rattle.build_queue.specs.BookState.{BookState, IsBook, IsUnclaimed}
use Rattle.build_queue.specs.Renewal.{IsRenewed}
use Rattle.build_queue.specs.Steps.{IsJob, next_reply, request_answer, requested, after_request, after_aim, next_job, after_claim, after_put_back, after_put_back_all, submission, after_submit, after_publish}

-- `request`: a lane asks, and the history gets one entry more; a full history refuses that
pub record IsRequestStep (old new : BookState) (lane : ℕ) (asked : Request) (result : Result (ℕ × Reply) HistoryFull) : Type 0 where
  -- the whole step
  pub state : new ≡ requested old lane asked
  pub answer : result ≡ request_answer old asked
  -- where it is taken, its entry stands behind the others, its number counts from 1, and its reply is that of the history before it
  pub appended : OnOk result (new ≡ after_request old lane asked)
  pub number : IfOk result (λ told. told.0 ≡ length old.history + 1)
  pub reply : IfOk result (λ told. told.1 ≡ next_reply old asked)
  -- it is refused exactly where the history is full, whose length is told, and then nothing changes
  pub full : IsErr result ↔ (length old.history ≡ history_limit)
  pub len : IfErr result (λ error. error.len ≡ length old.history)
  pub refused : OnErr result (new ≡ old)
  pub rules : IsBook new

-- `aim`: the length of the history becomes the target, and is the answer
pub record IsAimStep (old new : BookState) (result : ℕ) : Type 0 where
  pub aimed : new ≡ after_aim old
  pub length : result ≡ length old.history
  pub rules : IsBook new

-- `claim`: the least tile that can be claimed is claimed, and its job is given; none where there is no such tile
pub record IsClaimStep {E : Type 0} (old new : BookState) (result : Result (Option Job) E) : Type 0 where
  -- the job is the one that is due, and it fits the ground
  pub job : IfOk result (λ job. job ≡ next_job old)
  pub fit : IfOk result (λ job. IfSome job (IsJob old.ground.setting))
  pub claimed : OnOk result (new ≡ after_claim old)
  -- where memory is refused, nothing changes
  pub refused : OnErr result (new ≡ old)
  pub rules : IsBook new

-- `put_back`: a tile is claimed no more
pub record IsPutBackStep (old new : BookState) (tile : ℕ) : Type 0 where
  pub back : new ≡ after_put_back old tile
  pub rules : IsBook new

-- `put_back_all`: no tile is claimed any more
pub record IsPutBackAllStep (old new : BookState) : Type 0 where
  pub back : new ≡ after_put_back_all old
  pub free : IsUnclaimed new
  pub rules : IsBook new

-- `submit`: the claim on a tile ends, and its list is stored where it is the one that is awaited
pub record IsSubmitStep (old new : BookState) (tile : ℕ) (shapes : List Shape) (result : Submitted) : Type 0 where
  pub answer : result ≡ submission old tile shapes
  pub stored : new ≡ after_submit old tile shapes
  pub rules : IsBook new

-- where no tile is awaited, the target is published
pub record IsShowStep (old new : BookState) : Type 0 where
  pub state : new ≡ after_publish old
  pub shown : new.published ≡ old.target
  pub rules : IsBook new

-- the history begins again: it adds the obstacles that are alive, and the same shapes are alive after it
pub record IsRenewStep (old new : BookState) : Type 0 where
  pub renewed : IsRenewed old new
  pub alive : shapes_alive new.history (length new.history) ≡ shapes_alive old.history (length old.history)
  pub rules : IsBook new
