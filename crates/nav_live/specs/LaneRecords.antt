-- What the lines of one lane may say, given the one history that all lanes share.
use Rattle.std.specs.Prelude.{◌≡◌, ℕ, ◌≤◌, ⊤, List, [], length, map, take, fold, filter_map, slice_get, All, AllPairs, Option, Some, None}
use Rattle.nav_ground.specs.declared.history.Entry.{Entry}
use Rattle.nav_ground.specs.declared.history.Ground.{Ground}
use Rattle.mesh_types.specs.Builds.{build_of}
use Rattle.mesh_types.specs.Right.{IsRight}
use Rattle.nav_script.specs.declared.script.Line.{Line}
use Rattle.nav_script.specs.declared.script.Line.TheVariants.{Ask, Add, Remove, Undo, Settle, Send, March}
use Rattle.nav_live.specs.declared.lane.LineAnswer.{LineAnswer}
use Rattle.nav_live.specs.declared.lane.LineAnswer.TheVariants.{Replied, Answered, Settled, Walked, NoWalker}
use Rattle.nav_live.specs.LaneEntries.{Spoken, entries_made, entries_from}
use Rattle.nav_live.specs.LaneWalkers.{AreMoved}

-- what a line may be answered. A question is answered from a version with the first k entries of the history, by an answer that is right in the
-- ground with the obstacles that these leave; a request is replied to: which number and reply it is told, the entries say; a `settle` and a
-- `send` name a length of the history, and a `march` does or tells that there is no walker: what else they are told, the lines before them say.
-- Lines that lead workers, declare jumps, ask for hop walks or name lanes are none that a lane runs
abbrev pub IsSaid : Ground → List Entry → Line → LineAnswer → Type 0
IsSaid ground history (Ask question) (Answered k answer) = (k ≤ length history) × IsRight (build_of ground history k) question answer
IsSaid ground history (Add shape) (Replied number reply) = ⊤
IsSaid ground history (Remove other) (Replied number reply) = ⊤
IsSaid ground history (Undo j) (Replied number reply) = ⊤
IsSaid ground history Settle (Settled k) = k ≤ length history
IsSaid ground history (Send from from_y to to_y) (Walked k answer) = k ≤ length history
IsSaid ground history (March far) (Walked k answer) = k ≤ length history
IsSaid ground history (March far) NoWalker = ⊤
IsSaid ground history _ _ = ⊥

-- the number of the last entry that these lines left; 0 where they left none
abbrev pub number_after : ℕ → LineAnswer → ℕ
number_after last (Replied number reply) = number
number_after last _ = last

-- the same over lines, one after another
abbrev pub last_number : List Spoken → ℕ
last_number spoken = fold (λ (last : ℕ) (one : Spoken). number_after last one.1) 0 spoken

-- the length of the version that a line names
abbrev pub length_told : LineAnswer → Option ℕ
length_told (Answered k answer) = Some k
length_told (Settled k) = Some k
length_told (Walked k answer) = Some k
length_told _ = None

-- the lengths of the versions that lines name, in order
abbrev pub lengths_told : List Spoken → List ℕ
lengths_told spoken = filter_map (λ (one : Spoken). length_told one.1) spoken

-- what the lines of a lane may say. Each line is answered once, in order. The entries of the lane in the history are the requests of its lines in
-- order, each once, with the numbers and replies that the lines were told. Each line is answered as it may be, given the history: questions are
-- answered right, and no line names a length beyond the history. Each `settled K` names at least the number of the lane's last entry before it,
-- the lengths that lines name never fall, and its walker moves as its lines say
pub record IsLane (ground : Ground) (history : List Entry) (lane : ℕ) (lines : List Line) (spoken : List Spoken) : Type 0 where
  pub each : map (λ (one : Spoken). one.0) spoken ≡ lines
  pub entries : entries_made lane history ≡ entries_from lane [] spoken
  pub answers : All (λ (one : Spoken). IsSaid ground history one.0 one.1) spoken
  pub settled : (place k : ℕ) (line : Line) → slice_get spoken place ≡ Some (line, Settled k) → last_number (take place spoken) ≤ k
  pub rising : AllPairs (λ (a b : ℕ). a ≤ b) (lengths_told spoken)
  pub walks : AreMoved ground history None spoken
