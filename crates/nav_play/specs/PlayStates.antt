-- What stands between two lines of a play, and how each line changes it.
use Rattle.std.specs.Prelude.{ℕ, ◌-◌, List, [], ◌∷◌, ◌++◌, length, replicate, fold, slice_get, slice_set, get_or, unwrap_or, Option, None, Result, Ok, Err}
use Rattle.nav_ground.specs.declared.setting.Setting.{Setting}
use Rattle.nav_ground.specs.declared.field.Field.{Field}
use Rattle.nav_ground.specs.declared.history.Ground.{Ground}
use Rattle.nav_ground.specs.declared.history.Reply.{Reply}
use Rattle.nav_ground.specs.declared.history.Reply.TheVariants.{Added}
use Rattle.nav_ground.specs.declared.history.Request.{Request}
use Rattle.nav_ground.specs.declared.history.Request.TheVariants as requests
use Rattle.mesh_types.specs.declared.answers.Jump as jumps
use Rattle.build_queue.specs.declared.live.HistoryFull.{HistoryFull}
use Rattle.build_queue.specs.declared.live.Job.{Job}
use Rattle.build_queue.specs.BookState.{BookState}
use Rattle.build_queue.specs.BookState as books
use Rattle.build_queue.specs.Steps.{after_aim, after_publish, request_answer, requested}
use Rattle.nav_book.specs.Openings.{ground_of}
use Rattle.nav_book.specs.Settling.{after_settle}
use Rattle.nav_script.specs.declared.script.Line.{Line}
use Rattle.nav_script.specs.declared.script.Line.TheVariants.{Lane, Add, Remove, Undo, Settle, Aim, Claim, Back, Submit, Publish, Jump}
use Rattle.nav_script.specs.declared.script.Script.{Script}
use Rattle.nav_play.specs.Jobs.{held_after_claim, book_after_claim, book_after_back, book_after_submit}

-- what stands between two lines: the book, the lane of the next request, for each lane the numbers that its add lines got, 0 where
-- nothing was added, for each worker the job of the tile that it holds, if it holds one, and the jumps that were declared, in order
pub record PlayState : Type 0 where
  pub book : BookState
  pub lane : ℕ
  pub adds : List (List ℕ)
  pub held : List (Option Job)
  pub jumps : List jumps.Jump

-- a play begins with no history, in lane 0, its workers hold nothing, and no jump is declared
abbrev pub opening_state : (ground : Ground) → ℕ → ℕ → PlayState
opening_state ground lanes workers = record {
  book = books.first_state ground;
  lane = 0;
  adds = replicate lanes [];
  held = replicate workers None;
  jumps = [];
}

-- the number of an obstacle that was added; 0 where none was
abbrev pub number_added : Reply → ℕ
number_added (Added number) = number
number_added _ = 0

-- the number that an add line gets for its lane, whose request is answered so
abbrev pub number_answered : Result (ℕ × Reply) HistoryFull → ℕ
number_answered (Ok answer) = number_added answer.1
number_answered (Err refused) = 0

-- the number that an add line gets for its lane
abbrev pub number_got : BookState → Request → ℕ
number_got book request = number_answered (request_answer book request)

-- the numbers of all lanes, with one more for one lane; and the one of a lane's j-th add line, where j is at least 1
abbrev pub adds_and : List (List ℕ) → ℕ → ℕ → List (List ℕ)
adds_and adds lane number = slice_set adds lane (get_or adds lane [] ++ number ∷ [])

-- the number that the j-th add line of a lane got
abbrev pub number_in : List (List ℕ) → ℕ → ℕ → ℕ
number_in adds lane j = unwrap_or (slice_get (get_or adds lane []) (j - 1)) 0

-- the job of the tile that a worker holds
abbrev pub held_by : PlayState → ℕ → Option Job
held_by state worker = get_or state.held worker None

-- the state after a line; a `settle` puts back the jobs of the tiles that workers hold with all others, so that no worker holds a tile
abbrev pub state_after : PlayState → Line → PlayState
state_after state (Lane lane) = record state { lane = lane }
state_after state (Add shape) = record state {
  book = requested state.book state.lane (requests.Add shape);
  adds = adds_and state.adds state.lane (number_got state.book (requests.Add shape));
}
state_after state (Remove number) = record state { book = requested state.book state.lane (requests.Remove number) }
state_after state (Undo j) = record state { book = requested state.book state.lane (requests.Remove (number_in state.adds state.lane j)) }
state_after state Settle = record state { book = after_settle state.book; held = replicate (length state.held) None }
state_after state Aim = record state { book = after_aim state.book }
state_after state (Claim worker) = record state {
  book = book_after_claim state.book (held_by state worker);
  held = slice_set state.held worker (held_after_claim state.book (held_by state worker));
}
state_after state (Back worker) = record state {
  book = book_after_back state.book (held_by state worker);
  held = slice_set state.held worker None;
}
state_after state (Submit worker) = record state {
  book = book_after_submit state.book (held_by state worker);
  held = slice_set state.held worker None;
}
state_after state Publish = record state { book = after_publish state.book }
state_after state (Jump jump) = record state { jumps = state.jumps ++ jump ∷ [] }
state_after state _ = state

-- the state after lines, one after another
abbrev pub state_after_all : PlayState → List Line → PlayState
state_after_all state lines = fold state_after state lines

-- the state in which the play of a script over a field begins
abbrev pub first_state_of : Setting → Field → Script → PlayState
first_state_of setting field script = opening_state (ground_of setting field) script.lanes script.workers
