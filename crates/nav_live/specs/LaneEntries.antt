-- The entries that a lane made in the history that all lanes share, and those that its lines say they left.
use Rattle.std.specs.Prelude.{ℕ, ◌-◌, ◌==◌, if◌then◌else◌, List, [], ◌∷◌, ◌++◌, fold, filter, slice_get, unwrap_or, Option, Some, None}
use Rattle.std.specs.List.{cons_option, enumerate_from}
use Rattle.std.specs.Option.{option_map}
use Rattle.nav_ground.specs.declared.history.Entry.{Entry}
use Rattle.nav_ground.specs.declared.history.Request.{Request}
use Rattle.nav_ground.specs.declared.history.Request.TheVariants as requests
use Rattle.nav_ground.specs.History.{is_added}
use Rattle.nav_script.specs.declared.script.Line.{Line}
use Rattle.nav_script.specs.declared.script.Line.TheVariants.{Add, Remove, Undo}
use Rattle.nav_live.specs.declared.lane.LineAnswer.{LineAnswer}
use Rattle.nav_live.specs.declared.lane.LineAnswer.TheVariants.{Replied}

-- a line of a lane, with what it was answered
abbrev pub Spoken : Type 0
Spoken = Line × LineAnswer

-- the entries of a history that a lane made, with their numbers, which are counted from 1 over all entries
abbrev pub entries_made : ℕ → List Entry → List (ℕ × Entry)
entries_made lane history = filter (λ (entry : ℕ × Entry). entry.1.lane == lane) (enumerate_from 1 history)

-- what an add line added: the obstacle with its entry's number, or nothing, which is told as 0. No other line adds
abbrev pub added_by : Line → LineAnswer → Option ℕ
added_by (Add shape) (Replied number reply) = Some (if is_added reply then number else 0)
added_by _ _ = None

-- what add lines added, and then what one line more added
abbrev pub adds_with : List ℕ → Spoken → List ℕ
adds_with adds one = adds ++ cons_option (added_by one.0 one.1) []

-- what the add lines among these lines added, in order
abbrev pub adds_of : List Spoken → List ℕ
adds_of spoken = fold adds_with [] spoken

-- the request that a line makes, where the add lines of its lane before it added these: a `drop J` asks to remove what the J-th of them added,
-- counted from 1, and number 0 where that added nothing
abbrev pub request_of : List ℕ → Line → Option Request
request_of adds (Add shape) = Some (requests.Add shape)
request_of adds (Remove number) = Some (requests.Remove number)
request_of adds (Undo j) = Some (requests.Remove (unwrap_or (slice_get adds (j - 1)) 0))
request_of adds _ = None

-- the entry that a request line says it left, with its number
abbrev pub entry_said : ℕ → List ℕ → Line → LineAnswer → Option (ℕ × Entry)
entry_said lane adds line (Replied number reply) = option_map (λ (request : Request). (number, record { lane = lane; request = request; reply = reply })) (request_of adds line)
entry_said lane adds line _ = None

-- the entries that lines of a lane say they left, in order, where the add lines before them added these
abbrev pub entries_from : ℕ → List ℕ → List Spoken → List (ℕ × Entry)
entries_from lane adds [] = []
entries_from lane adds (one ∷ more) = cons_option (entry_said lane adds one.0 one.1) (entries_from lane (adds_with adds one) more)
