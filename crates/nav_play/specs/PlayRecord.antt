-- What a play of a script may write: line by line the answers of the book, and then how far the play came.
use Rattle.std.specs.Prelude.{◌≡◌, ℕ, List, [], ◌∷◌, ◌++◌, length, Result, Ok, Err}
use Rattle.nav_ground.specs.declared.setting.Setting.{Setting}
use Rattle.nav_ground.specs.declared.field.Field.{Field}
use Rattle.nav_ground.specs.declared.history.Reply.{Reply}
use Rattle.nav_ground.specs.declared.history.Request.{Request}
use Rattle.nav_ground.specs.declared.history.Request.TheVariants as requests
use Rattle.build_queue.specs.declared.live.HistoryFull.{HistoryFull}
use Rattle.build_queue.specs.BookState.{BookState}
use Rattle.build_queue.specs.Steps.{publication, request_answer}
use Rattle.nav_record.specs.declared.step.StepAnswer.TheVariants as answers
use Rattle.nav_record.specs.EntryTexts.{reply_text}
use Rattle.nav_record.specs.StepTexts.{step_text}
use Rattle.nav_record.specs.FrameTexts.{done_text}
use Rattle.nav_script.specs.declared.script.Line.{Line}
use Rattle.nav_script.specs.declared.script.Line.TheVariants.{Lane, Ask, Add, Remove, Undo, Settle, Aim, Claim, Back, Submit, Publish, Jump, Hop}
use Rattle.nav_script.specs.declared.script.Script.{Script}
use Rattle.nav_play.specs.Answering.{IsAnswered, IsHopAnswered}
use Rattle.nav_play.specs.Jobs.{claim_said, back_said, submit_said, publication_said}
use Rattle.nav_play.specs.PlayStates.{PlayState, number_in, held_by, state_after, state_after_all, first_state_of}

-- what is written after a request that is answered so: the number of its entry and its reply, or that the history is full
abbrev pub answered_text : Result (ℕ × Reply) HistoryFull → List ℕ
answered_text (Ok answer) = reply_text answer.0 answer.1
answered_text (Err refused) = step_text (answers.HistoryFull refused.len)

-- what is written after a request
abbrev pub request_text : BookState → Request → List ℕ
request_text book request = answered_text (request_answer book request)

-- what may be written after a line; only questions leave a choice
abbrev pub IsSaid : PlayState → Line → List ℕ → Type 0
IsSaid state (Lane lane) text = text ≡ []
IsSaid state (Ask question) text = IsAnswered state.book question text
IsSaid state (Add shape) text = text ≡ request_text state.book (requests.Add shape)
IsSaid state (Remove number) text = text ≡ request_text state.book (requests.Remove number)
IsSaid state (Undo j) text = text ≡ request_text state.book (requests.Remove (number_in state.adds state.lane j))
IsSaid state Settle text = text ≡ step_text (answers.Settled (length state.book.history))
IsSaid state Aim text = text ≡ step_text (answers.Aim (length state.book.history))
IsSaid state (Claim worker) text = text ≡ step_text (claim_said state.book worker (held_by state worker))
IsSaid state (Back worker) text = text ≡ step_text (back_said worker (held_by state worker))
IsSaid state (Submit worker) text = text ≡ step_text (submit_said state.book worker (held_by state worker))
IsSaid state Publish text = text ≡ step_text (publication_said (publication state.book))
IsSaid state (Jump jump) text = text ≡ []
IsSaid state (Hop from from_y to to_y) text = IsHopAnswered state.book state.jumps from from_y to to_y text
IsSaid state _ text = ⊥

-- a list is one that fits, and behind it another that fits
pub record IsJoined {A : Type 0} (Front Back : List A → Type 0) (list : List A) : Type 0 where
  pub said : List A
  pub rest : List A
  pub parts : list ≡ said ++ rest
  pub said_fits : Front said
  pub rest_fits : Back rest

-- behind what stood before stands one part more, and that fits
pub record AddsSome {A : Type 0} (Fits : List A → Type 0) (before after : List A) : Type 0 where
  pub said : List A
  pub written : after ≡ before ++ said
  pub fits : Fits said

-- what lines say, one after another, each in the state that the lines before it leave
unfoldable pub AreSaid : {A : Type 0} → (PlayState → Line → List A → Type 0) → PlayState → List Line → List A → Type 0
AreSaid Says state [] list = list ≡ []
AreSaid Says state (line ∷ lines) list = IsJoined (Says state line) (AreSaid Says (state_after state line) lines) list

-- a text of lines from a state on: what they may write, and then the published length and the length of the history
pub record IsTextFrom (state : PlayState) (lines : List Line) (text : List ℕ) : Type 0 where
  pub said : List ℕ
  pub fits : AreSaid IsSaid state lines said
  pub written : text ≡ said ++ done_text (state_after_all state lines).book.published (length (state_after_all state lines).book.history)

-- what a play of a script over a field may write
abbrev pub IsPlayText : Setting → Field → Script → List ℕ → Type 0
IsPlayText setting field script text = IsTextFrom (first_state_of setting field script) script.lines text
