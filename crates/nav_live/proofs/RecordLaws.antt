-- What the lines of a lane that has run say of the one history, once it has ended, and how many entries the lane has in it.
use Rattle.std.proofs.Common.{◌≡◌, ◌∙◌, refl, sym, ap, ℕ, ◌+◌, ◌==◌, List, [], ◌∷◌, length, map, count_by, cond, arith}
use Rattle.std.specs.List.{cons_option, enumerate_from}
use Rattle.std.proofs.lemmas.List.Elements.{All-head, All-tail}
use Rattle.std.proofs.lemmas.List.Sums.{length-filter, sum_by-cons}
use mathlib.Core.List.{IsPrefix}
use Rattle.turn_lock.specs.Growth.{Extends}
use Rattle.turn_lock.specs.Locks.{LockId}
use Rattle.nav_ground.specs.declared.history.Entry.{Entry}
use Rattle.nav_ground.specs.declared.history.Ground.{Ground}
use Rattle.nav_script.specs.declared.script.Line.{Line}
use Rattle.nav_script.specs.declared.script.Line.TheVariants.{Ask, Add, Remove, Undo, Settle, Send, March}
use Rattle.nav_script.specs.Lanes.{is_request}
use Rattle.nav_live.specs.Roots.{RootView}
use Rattle.nav_live.specs.declared.lane.Lane as lanes
use Rattle.nav_live.specs.declared.lane.LineAnswer.{LineAnswer}
use Rattle.nav_live.specs.declared.lane.LineAnswer.TheVariants.{Replied, Answered, Settled, Walked, NoWalker}
use Rattle.nav_live.specs.LaneEntries.{Spoken, adds_with, entries_from, entries_made, entry_said}
use Rattle.nav_live.specs.LaneRecords.{IsLane, IsSaid}
use Rattle.nav_live.specs.Lanes.{AreAnswers, KeepsLane}
use Rattle.nav_live.specs.LaneSteps.{HasRunAll}
use Rattle.nav_live.proofs.AnswerLaws.{answers_later}
use Rattle.nav_live.proofs.EntryLaws.{entries_extended}
use Rattle.nav_live.proofs.WalkLaws.{walks_later}

-- where the one history goes on from what the lane's pass and its eye have seen, the lane's lines say what they may
pub lane_record : (lock : LockId RootView) (history : List Entry) (list : List Line) (spoken : List Spoken) (lane : lanes.Lane) → KeepsLane lock spoken lane
    → Extends (λ (entry : Entry). entry.lane) lane.pass.number lane.pass.seen history → IsPrefix lane.eye.seen history
    → map (λ (one : Spoken). one.0) spoken ≡ list → IsLane lock.root.ground history lane.pass.number list spoken
lane_record lock history list spoken lane keeps extends seen each = record {
  each = each;
  entries = entries_extended lane.pass.number lane.pass.seen history extends ∙ keeps.entries;
  answers = answers_later lock.root.ground lane.eye.seen history spoken seen keeps.answers;
  settled = keeps.settled;
  rising = keeps.rising;
  walks = (walks_later lock.root.ground lane.eye.seen history spoken lane.walker seen keeps.answers keeps.walks).moved;
}

-- a line that was answered as it may be says one entry where it makes a request, and none where it does not
said_by : (ground : Ground) (history : List Entry) (lane : ℕ) (adds : List ℕ) (line : Line) (said : LineAnswer) (rest : List (ℕ × Entry)) → IsSaid ground history line said
    → length (cons_option (entry_said lane adds line said) rest) ≡ cond (is_request line) 1 0 + length rest
said_by ground history lane adds (Add shape) (Replied number reply) rest is = omega arith
said_by ground history lane adds (Remove obstacle) (Replied number reply) rest is = omega arith
said_by ground history lane adds (Undo j) (Replied number reply) rest is = omega arith
said_by ground history lane adds (Ask question) (Answered k answer) rest is = omega arith
said_by ground history lane adds Settle (Settled k) rest is = omega arith
said_by ground history lane adds (Send from from_y to to_y) (Walked k answer) rest is = omega arith
said_by ground history lane adds (March far) (Walked k answer) rest is = omega arith
said_by ground history lane adds (March far) NoWalker rest is = omega arith
said_by ground history lane adds _ _ rest is = absurd is

-- lines that were answered as they may be say as many entries as requests are among them
length-entries_from : (ground : Ground) (history : List Entry) (lane : ℕ) (adds : List ℕ) (spoken : List Spoken) → AreAnswers ground history spoken
    → length (entries_from lane adds spoken) ≡ count_by is_request (map (λ (one : Spoken). one.0) spoken)
length-entries_from ground history lane adds [] are = refl
length-entries_from ground history lane adds (one ∷ more) are =
    let P : Spoken → Type 0 = λ one. IsSaid ground history one.0 one.1 in
    said_by ground history lane adds one.0 one.1 (entries_from lane (adds_with adds one) more) (All-head P one more are)
    ∙ ap (λ count. cond (is_request one.0) 1 0 + count) (length-entries_from ground history lane (adds_with adds one) more (All-tail P one more are))
    ∙ sym (sum_by-cons (λ (line : Line). cond (is_request line) 1 0) one.0 (map (λ (one : Spoken). one.0) more))

-- a lane's pass has seen as many entries of its own as requests are among the lines that the lane has run
pub length-entries_made : (lock : LockId RootView) (list : List Line) (lane : lanes.Lane) → HasRunAll lock list lane
    → length (entries_made lane.pass.number lane.pass.seen) ≡ count_by is_request list
length-entries_made lock list lane ran =
    ap length ran.keeps.entries ∙ length-entries_from lock.root.ground lane.eye.seen lane.pass.number [] ran.spoken ran.keeps.answers ∙ ap (count_by is_request) ran.each

-- numbers do not matter to how many entries a lane made
count_made : (lane n : ℕ) (history : List Entry)
    → count_by (λ (entry : ℕ × Entry). entry.1.lane == lane) (enumerate_from n history) ≡ count_by (λ (entry : Entry). entry.lane == lane) history
count_made lane n [] = refl
count_made lane n (e ∷ rest) =
    sum_by-cons (λ (entry : ℕ × Entry). cond (entry.1.lane == lane) 1 0) (n, e) (enumerate_from (n + 1) rest)
    ∙ ap (λ count. cond (e.lane == lane) 1 0 + count) (count_made lane (n + 1) rest)
    ∙ sym (sum_by-cons (λ (entry : Entry). cond (entry.lane == lane) 1 0) e rest)

-- how many entries of a history a lane made
pub entries_made-count : (lane : ℕ) (history : List Entry) → length (entries_made lane history) ≡ count_by (λ (entry : Entry). entry.lane == lane) history
entries_made-count lane history = length-filter (λ (entry : ℕ × Entry). entry.1.lane == lane) (enumerate_from 1 history) ∙ count_made lane 1 history
