-- What the actors of a live run leave.
use Rattle.std.proofs.Common.{◌≡◌, ◌≢◌, ◌∙◌, refl, sym, ap, subst, inl, inr, ℕ, zero, suc, ◌+◌, ◌<◌, ◌≤◌, List, [], ◌∷◌, ◌++◌, length, map, get_or, slice_get, All, Any, Some, None, Ok, Err, filter_map, count_by, take, drop, arith}
use Rattle.std.specs.List.{cons_option}
use Rattle.std.specs.Prelude.{OnOk}
use Rattle.std.proofs.Math.Seq.{take-append_seam}
use Rattle.std.proofs.lemmas.Bool.{cases_lt}
use Rattle.std.proofs.lemmas.List.{get_or-map, length-map}
use Rattle.std.proofs.lemmas.List.Elements.{All-cons, All-head, All-map, All-nil, All-tail, All-weaker}
use Rattle.std.proofs.lemmas.Option.{slice_get_cases, slice_get_within}
use Rattle.turn_lock.specs.Locks.{LockId, PassView, AreAll, IsOf}
use Rattle.nav_ground.specs.declared.history.Entry.{Entry}
use Rattle.nav_script.specs.declared.script.Line.{Line}
use Rattle.nav_script.specs.declared.script.Script.{Script}
use Rattle.nav_script.specs.Lanes.{is_request, lines_of}
use Rattle.nav_live.specs.Roots.{RootView}
use Rattle.nav_live.specs.declared.lane.Lane as lanes
use Rattle.nav_live.specs.declared.lane.LaneEnd.TheVariants.{NoMemory, HistoryFull}
use Rattle.nav_live.specs.LaneEntries.{Spoken, entries_made}
use Rattle.nav_live.specs.LaneTexts.{told_text}
use Rattle.nav_live.specs.Lanes.{KeepsLane}
use Rattle.nav_live.specs.Stops.{HasMetFull}
use Rattle.nav_live.proofs.RecordLaws.{length-entries_made}
use Rattle.nav_live.specs.declared.actors.ActorSlot.{ActorSlot}
use Rattle.nav_live.specs.declared.actors.ActorsLeft.{ActorsLeft}
use Rattle.nav_live.specs.declared.actors.ActorTask.{ActorTask}
use Rattle.nav_live.specs.declared.actors.ActorTask.TheVariants.{Lane, Worker}
use Rattle.nav_live.specs.LaneLines.{lines_by_lane, requests_of}
use Rattle.nav_live.specs.Joined.{HasEnded, MadeNone}
use Rattle.nav_live.specs.MadeActors.{AreSlots, IsLaneOf, IsWorkerOf}
use Rattle.nav_live.specs.Tasks.{End, HasEndedLane, IsDone, IsSameTask}
use Rattle.nav_live.specs.Leavings.{EndsAs, HaveLeft, HaveMetFull, eye_left, pass_left, text_left}
use Rattle.nav_live.proofs.ActorLaws.{get_or-lines_by_lane, length-lines_by_lane}

-- some element has what the element at this place has
any_at : {X : Type 0} (P : X → Type 0) (xs : List X) (k : ℕ) → k < length xs → ((d : X) → P (get_or xs k d)) → Any P xs
any_at P xs k there has = elim (slice_get_cases xs k).1 [
  | inl found ↦ (k, found.0, there, found.3, subst P found.3 (has found.0))
  | inr none ↦ absurd (let out = none.0 in omega (arith, there, out))
]

-- actors that have run are still those of the script
same_lane : (k : ℕ) (list : List Line) (before after : ActorTask) → IsSameTask before after → IsLaneOf k list before → IsLaneOf k list after
same_lane k list (Lane before lines) (Lane after those) same is = (same.0 ∙ is.0, same.1 ∙ is.1)
same_lane k list (Lane before lines) (Worker after) same is = absurd same
same_lane k list (Worker before) after same is = absurd is

same_worker : (k : ℕ) (before after : ActorTask) → IsSameTask before after → IsWorkerOf k before → IsWorkerOf k after
same_worker k (Worker before) (Worker after) same is = same ∙ is
same_worker k (Worker before) (Lane after those) same is = absurd same
same_worker k (Lane before lines) after same is = absurd is

pub same_hands : (lists : List (List Line)) (before after : List ActorSlot) → AreSlots lists before → length after ≡ length before
    → ((k : ℕ) (d : ActorSlot) → k < length before → IsSameTask (get_or before k d).task (get_or after k d).task) → AreSlots lists after
same_hands lists before after are many same = record {
  few = let few = are.few in omega (arith, few, many);
  lanes = λ k d below.
      (let few = are.few in
      same_lane k (get_or lists k []) (get_or before k d).task (get_or after k d).task (same k d (omega (arith, below, few))) (are.lanes k d below));
  workers = λ k d above below.
      (let there : k < length before = omega (arith, below, many) in
      same_worker k (get_or before k d).task (get_or after k d).task (same k d there) (are.workers k d above there));
}

-- actors that have run, of which those in a vector were lent as a slice
pub record HaveRun (lock : LockId RootView) (lists : List (List Line)) (slots : List ActorSlot) : Type 0 where
  pub count : length slots ≡ lock.passes
  pub are : AreSlots lists slots
  pub done : All (λ (slot : ActorSlot). IsDone lock slot.task slot.end) slots

pub have_run : (lock : LockId RootView) (lists : List (List Line)) (n : ℕ) (before lent after : List ActorSlot) → n ≡ length before → lent ≡ before → length after ≡ length lent → length before ≡ lock.passes
    → AreSlots lists before → ((k : ℕ) (d : ActorSlot) → k < length lent → IsSameTask (get_or lent k d).task (get_or after k d).task)
    → All (λ (slot : ActorSlot). IsDone lock slot.task slot.end) after → HaveRun lock lists (take n (after ++ drop (length after) before))
have_run lock lists n before lent after many is kept count are same done =
    let all : take n (after ++ drop (length after) before) ≡ after =
    ap (λ i. take i (after ++ drop (length after) before)) {x = n} {y = length after} (many ∙ ap length (sym is) ∙ sym kept) ∙ take-append_seam after (drop (length after) before) in
    subst (HaveRun lock lists) (sym all) (record { count = kept ∙ ap length is ∙ count; are = same_hands lists lent after (subst (AreSlots lists) (sym is) are) kept same; done = done })

-- the number of an actor's pass
number_of : (lists : List (List Line)) (slots : List ActorSlot) (k : ℕ) (d : ActorSlot) → AreSlots lists slots → k < length slots → (pass_left (get_or slots k d).task).number ≡ k
number_of lists slots k d are there = elim (cases_lt k (length lists)) [
  | inl below ↦ lane_number (get_or slots k d).task (are.lanes k d below)
  | inr above ↦ worker_number (get_or slots k d).task (are.workers k d above there)
]
  where
    lane_number : (task : ActorTask) → IsLaneOf k (get_or lists k []) task → (pass_left task).number ≡ k
    lane_number (Lane lane lines) is = is.0
    lane_number (Worker worker) is = absurd is

    worker_number : (task : ActorTask) → IsWorkerOf k task → (pass_left task).number ≡ k
    worker_number (Worker worker) is = is
    worker_number (Lane lane lines) is = absurd is

-- the pass of an actor stands at the actor's place
pass_at : (slots : List ActorSlot) (passes : List (PassView RootView Entry)) (k : ℕ) (d : PassView RootView Entry) → passes ≡ map (λ (slot : ActorSlot). pass_left slot.task) slots → k < length passes
    → (slot : ActorSlot) × (k < length slots) × (get_or slots k slot ≡ slot) × (get_or passes k d ≡ pass_left slot.task)
pass_at slots passes k d are there = elim (slice_get_cases slots k).1 [
  | inl found ↦ (found.0, found.1, found.3, ap (λ ps. get_or ps k d) are ∙ get_or-map (λ (slot : ActorSlot). pass_left slot.task) slots k found.0 d found.1 ∙ ap (λ (slot : ActorSlot). pass_left slot.task) found.3)
  | inr none ↦ absurd (let out = none.0 in omega (arith, there, out, ap length are, length-map slots (λ (slot : ActorSlot). pass_left slot.task)))
]

-- the passes that are left have the numbers of their places
numbered : (lists : List (List Line)) (slots : List ActorSlot) (passes : List (PassView RootView Entry)) (k : ℕ) (d : PassView RootView Entry) → AreSlots lists slots
    → passes ≡ map (λ (slot : ActorSlot). pass_left slot.task) slots → k < length passes → (get_or passes k d).number ≡ k
numbered lists slots passes k d are left there =
    let at = pass_at slots passes k d left there in
    ap (λ (pass : PassView RootView Entry). pass.number) at.3 ∙ ap (λ (slot : ActorSlot). (pass_left slot.task).number) (sym at.2) ∙ number_of lists slots k at.0 are at.1

-- all passes of the lock are left
pub all_left : (lock : LockId RootView) (lists : List (List Line)) (slots : List ActorSlot) (passes : List (PassView RootView Entry)) → HaveRun lock lists slots → passes ≡ map (λ (slot : ActorSlot). pass_left slot.task) slots → AreAll lock passes
all_left lock lists slots passes ran left = record {
  of = subst (All (IsOf lock)) (sym left)
      (All-map (IsOf lock) (λ (slot : ActorSlot). pass_left slot.task) slots (All-weaker (λ (slot : ActorSlot). IsDone lock slot.task slot.end) (λ (slot : ActorSlot). IsOf lock (pass_left slot.task))
      (λ slot is. of_done slot.task slot.end is) slots ran.done));
  each = λ k below. any_at (λ pass. pass.number ≡ k) passes k (there k below) (λ d. numbered lists slots passes k d ran.are left (there k below));
}
  where
    of_done : (task : ActorTask) (end : End) → IsDone lock task end → IsOf lock (pass_left task)
    of_done (Lane lane lines) end is = is.of
    of_done (Worker worker) end is = is.of

    there : (k : ℕ) → k < lock.passes → k < length passes
    there k below = omega (arith, below, ran.count, ap length left, length-map slots (λ (slot : ActorSlot). pass_left slot.task))

-- what a lane that ended well was
record IsLeftBy (lock : LockId RootView) (number : ℕ) (list : List Line) (spoken : List Spoken) (lane : lanes.Lane) : Type 0 where
  keeps : KeepsLane lock spoken lane
  number_is : lane.pass.number ≡ number
  each : map (λ (one : Spoken). one.0) spoken ≡ list

-- what a task was whose lane ended well
record IsLeft (lock : LockId RootView) (number : ℕ) (list : List Line) (task : ActorTask) : Type 0 where
  lane : lanes.Lane
  spoken : List Spoken
  is : IsLeftBy lock number list spoken lane
  pass : pass_left task ≡ lane.pass
  eye : eye_left task ≡ Some lane.eye
  text : text_left task ≡ Some (told_text spoken)

lane_of : (lock : LockId RootView) (number : ℕ) (list : List Line) (task : ActorTask) (end : End) → IsLaneOf number list task → IsDone lock task end → end ≡ Ok tt
    → IsLeft lock number list task
lane_of lock number list (Lane lane lines) (Ok did) is done well = record {
  lane = lane;
  spoken = done.ran.spoken;
  is = record { keeps = done.ran.keeps; number_is = is.0; each = done.ran.each ∙ is.1 };
  pass = refl;
  eye = refl;
  text = ap Some done.ran.keeps.notes.text;
}
lane_of lock number list (Lane lane lines) (Err stop) is done well = absurd (cc well)
lane_of lock number list (Worker worker) end is done well = absurd is

worker_of : (number : ℕ) (lock : LockId RootView) (task : ActorTask) (end : End) → IsWorkerOf number task → IsDone lock task end
    → MadeNone (pass_left task) × (eye_left task ≡ None) × (text_left task ≡ None)
worker_of number lock (Worker worker) end is done = (done.made, refl, refl)
worker_of number lock (Lane lane lines) end is done = absurd is

-- workers leave passes alone
record AreLeftByWorkers (slots : List ActorSlot) : Type 0 where
  none : All MadeNone (map (λ (slot : ActorSlot). pass_left slot.task) slots)
  eyes : filter_map (λ (slot : ActorSlot). eye_left slot.task) slots ≡ []
  texts : filter_map (λ (slot : ActorSlot). text_left slot.task) slots ≡ []

left_by_workers : (lock : LockId RootView) (number : ℕ) (slots : List ActorSlot) → ((k : ℕ) (d : ActorSlot) → k < length slots → IsWorkerOf (number + k) (get_or slots k d).task)
    → All (λ (slot : ActorSlot). IsDone lock slot.task slot.end) slots → AreLeftByWorkers slots
left_by_workers lock number [] are done = record { none = All-nil MadeNone; eyes = refl; texts = refl }
left_by_workers lock number (slot ∷ rest) are done =
    let P : ActorSlot → Type 0 = λ slot. IsDone lock slot.task slot.end in
    let own = worker_of (number + 0) lock slot.task slot.end (are 0 slot (omega arith)) (All-head P slot rest done) in
    let more = left_by_workers lock (number + 1) rest
    (λ k d below. subst (λ n. IsWorkerOf n (get_or rest k d).task) (omega arith) (are (suc k) d (omega (arith, below)))) (All-tail P slot rest done) in
    record {
      none = All-cons MadeNone (pass_left slot.task) (map (λ (slot : ActorSlot). pass_left slot.task) rest) own.0 more.none;
      eyes = ap (λ o. cons_option o (filter_map (λ (slot : ActorSlot). eye_left slot.task) rest)) own.1 ∙ more.eyes;
      texts = ap (λ o. cons_option o (filter_map (λ (slot : ActorSlot). text_left slot.task) rest)) own.2 ∙ more.texts;
    }

-- lanes and then workers leave what each lane leaves, and passes that made no entry
record AreLeftBy (lock : LockId RootView) (number : ℕ) (lists : List (List Line)) (slots : List ActorSlot) : Type 0 where
  those : List lanes.Lane
  told : List (List Spoken)
  idle : List (PassView RootView Entry)
  count : length those ≡ length lists
  answered : length told ≡ length lists
  each : (k : ℕ) (lane : lanes.Lane) → slice_get those k ≡ Some lane → IsLeftBy lock (number + k) (get_or lists k []) (get_or told k []) lane
  none : All MadeNone idle
  passes : map (λ (slot : ActorSlot). pass_left slot.task) slots ≡ map (λ (lane : lanes.Lane). lane.pass) those ++ idle
  eyes : filter_map (λ (slot : ActorSlot). eye_left slot.task) slots ≡ map (λ (lane : lanes.Lane). lane.eye) those
  texts : filter_map (λ (slot : ActorSlot). text_left slot.task) slots ≡ map told_text told

left_by : (lock : LockId RootView) (number : ℕ) (lists : List (List Line)) (slots : List ActorSlot) → length lists ≤ length slots
    → ((k : ℕ) (d : ActorSlot) → k < length lists → IsLaneOf (number + k) (get_or lists k []) (get_or slots k d).task)
    → ((k : ℕ) (d : ActorSlot) → length lists ≤ k → k < length slots → IsWorkerOf (number + k) (get_or slots k d).task)
    → All (λ (slot : ActorSlot). IsDone lock slot.task slot.end) slots → All (λ (slot : ActorSlot). slot.end ≡ Ok tt) slots → AreLeftBy lock number lists slots
left_by lock number [] slots few run build done well =
    let left = left_by_workers lock number slots (λ k d below. build k d (omega arith) below) done in
    record {
      those = [];
      told = [];
      idle = map (λ (slot : ActorSlot). pass_left slot.task) slots;
      count = refl;
      answered = refl;
      each = λ k lane is. absurd (cc is);
      none = left.none;
      passes = refl;
      eyes = left.eyes;
      texts = left.texts;
    }
left_by lock number (list ∷ more) [] few run build done well = absurd (omega (arith, few))
left_by lock number (list ∷ more) (slot ∷ rest) few run build done well =
    let P : ActorSlot → Type 0 = λ slot. IsDone lock slot.task slot.end in
    let Q : ActorSlot → Type 0 = λ slot. slot.end ≡ Ok tt in
    let own = lane_of lock (number + 0) list slot.task slot.end (run 0 slot (omega arith)) (All-head P slot rest done) (All-head Q slot rest well) in
    let left = left_by lock (number + 1) more rest (omega (arith, few))
    (λ k d below. subst (λ n. IsLaneOf n (get_or more k []) (get_or rest k d).task) (omega arith) (run (suc k) d (omega (arith, below))))
    (λ k d above below. subst (λ n. IsWorkerOf n (get_or rest k d).task) (omega arith) (build (suc k) d (omega (arith, above)) (omega (arith, below))))
    (All-tail P slot rest done) (All-tail Q slot rest well) in
    record {
      those = own.lane ∷ left.those;
      told = own.spoken ∷ left.told;
      idle = left.idle;
      count = ap suc left.count;
      answered = ap suc left.answered;
      each = by_place own.lane own.spoken own.is left.those left.told left.each;
      none = left.none;
      passes = (λ i. own.pass i ∷ left.passes i);
      eyes = ap (λ o. cons_option o (filter_map (λ (slot : ActorSlot). eye_left slot.task) rest)) own.eye ∙ ap (λ eyes. own.lane.eye ∷ eyes) left.eyes;
      texts = ap (λ o. cons_option o (filter_map (λ (slot : ActorSlot). text_left slot.task) rest)) own.text ∙ ap (λ texts. told_text own.spoken ∷ texts) left.texts;
    }
  where
    by_place : (first : lanes.Lane) (spoken : List Spoken) → IsLeftBy lock (number + 0) list spoken first → (those : List lanes.Lane) (told : List (List Spoken))
        → ((k : ℕ) (lane : lanes.Lane) → slice_get those k ≡ Some lane → IsLeftBy lock (number + 1 + k) (get_or more k []) (get_or told k []) lane)
        → (k : ℕ) (lane : lanes.Lane) → slice_get (first ∷ those) k ≡ Some lane → IsLeftBy lock (number + k) (get_or (list ∷ more) k []) (get_or (spoken ∷ told) k []) lane
    by_place first spoken own those told each zero lane is = let same : first ≡ lane = cc is in subst (IsLeftBy lock (number + 0) list spoken) same own
    by_place first spoken own those told each (suc k) lane is = subst (λ n. IsLeftBy lock n (get_or more k []) (get_or told k []) lane) (omega arith) (each k lane is)

-- what the actors of a script leave where all ended well
pub have_left : (lock : LockId RootView) (script : Script) (slots : List ActorSlot) (left : ActorsLeft) (end : End) → HaveRun lock (lines_by_lane script) slots → EndsAs slots end
    → left.passes.items ≡ map (λ (slot : ActorSlot). pass_left slot.task) slots → left.eyes.items ≡ filter_map (λ (slot : ActorSlot). eye_left slot.task) slots
    → left.texts.items ≡ filter_map (λ (slot : ActorSlot). text_left slot.task) slots → OnOk end (HaveLeft lock script left)
have_left lock script slots left (Err stop) ran ends passes eyes texts = tt
have_left lock script slots left (Ok did) ran ends passes eyes texts =
    let lists = lines_by_lane script in
    let are = ran.are in
    let by = left_by lock 0 lists slots are.few
    (λ k d below. subst (λ n. IsLaneOf n (get_or lists k []) (get_or slots k d).task) (omega arith) (are.lanes k d below))
    (λ k d above below. subst (λ n. IsWorkerOf n (get_or slots k d).task) (omega arith) (are.workers k d above below)) ran.done ends in
    record {
      lanes = by.those;
      told = by.told;
      idle = by.idle;
      ended = record {
        count = by.count ∙ length-lines_by_lane script;
        answered = by.answered ∙ length-lines_by_lane script;
        each = λ place lane is. ended by.those by.count place (get_or by.told place []) lane is
            (subst (λ n. IsLeftBy lock n (get_or lists place []) (get_or by.told place []) lane) (omega arith) (by.each place lane is));
      };
      none = by.none;
      passes = passes ∙ by.passes;
      eyes = eyes ∙ by.eyes;
      texts = texts ∙ by.texts;
    }
  where
    ended : (those : List lanes.Lane) → length those ≡ length (lines_by_lane script) → (place : ℕ) (spoken : List Spoken) (lane : lanes.Lane) → slice_get those place ≡ Some lane
        → IsLeftBy lock place (get_or (lines_by_lane script) place []) spoken lane → HasEnded lock script place spoken lane
    ended those count place spoken lane is left' =
        let there : place < length those = slice_get_within those place lane is in
        record {
          keeps = left'.keeps;
          number = left'.keeps.own.number ∙ left'.number_is;
          each = left'.each ∙ get_or-lines_by_lane script place (omega (arith, there, count, length-lines_by_lane script));
        }

-- no actor has made more entries than the lines of its number make requests, where memory was refused to none
asks_most : (lock : LockId RootView) (script : Script) (k : ℕ) (task : ActorTask) (end : End) → IsDone lock task end → end ≢ Err NoMemory
    → (k < script.lanes → IsLaneOf k (lines_of k script.lines) task) → (script.lanes ≤ k → IsWorkerOf k task)
    → length (entries_made (pass_left task).number (pass_left task).seen) ≤ requests_of k script.lines
asks_most lock script k (Worker worker) end done not lane worker' = omega (arith, ap length done.made.none)
asks_most lock script k (Lane own lines) end done not lane worker' = elim (cases_lt k script.lanes) [
  | inl below ↦ by_end end done not (lane below).1
  | inr above ↦ absurd (worker' above)
]
  where
    by_end : (end : End) → HasEndedLane lock lines own end → end ≢ Err NoMemory → lines ≡ lines_of k script.lines
        → length (entries_made own.pass.number own.pass.seen) ≤ requests_of k script.lines
    by_end (Ok did) done not is = omega (arith, length-entries_made lock lines own done.ran, ap (count_by is_request) is)
    by_end (Err NoMemory) done not is = absurd (not refl)
    by_end (Err HistoryFull) done not is = let fewer = done.full.fewer in omega (arith, fewer, ap (count_by is_request) is)

-- the passes of a script's actors of which one met a full history
pub have_met_full : (lock : LockId RootView) (script : Script) (slots : List ActorSlot) (passes : List (PassView RootView Entry)) → HaveRun lock (lines_by_lane script) slots → EndsAs slots (Err HistoryFull)
    → passes ≡ map (λ (slot : ActorSlot). pass_left slot.task) slots → HaveMetFull script passes
have_met_full lock script slots passes ran ends left =
    let are = ran.are in
    let met = ends.1 in
    let there : met.0 < length passes = omega (arith, met.2, ap length left, length-map slots (λ (slot : ActorSlot). pass_left slot.task)) in
    record {
      asked = record {
        numbers = λ k d below. numbered (lines_by_lane script) slots passes k d are left below;
        most = λ k d below. most k d below;
      };
      lane = met.0;
      there = there;
      full = λ d. full met.0 met.1 d met.2 met.3 met.4 there;
    }
  where
    as_lane : (k : ℕ) (slot : ActorSlot) → k < length slots → get_or slots k slot ≡ slot → k < script.lanes → IsLaneOf k (lines_of k script.lines) slot.task
    as_lane k slot there is below =
        subst (λ list. IsLaneOf k list slot.task) (get_or-lines_by_lane script k below)
        (subst (λ (h : ActorSlot). IsLaneOf k (get_or (lines_by_lane script) k []) h.task) is (ran.are.lanes k slot (omega (arith, below, length-lines_by_lane script))))

    as_worker : (k : ℕ) (slot : ActorSlot) → k < length slots → get_or slots k slot ≡ slot → script.lanes ≤ k → IsWorkerOf k slot.task
    as_worker k slot there is above =
        subst (λ (h : ActorSlot). IsWorkerOf k h.task) is (ran.are.workers k slot (omega (arith, above, length-lines_by_lane script)) there)

    most : (k : ℕ) (d : PassView RootView Entry) → k < length passes → length (entries_made k (get_or passes k d).seen) ≤ requests_of k script.lines
    most k d below =
        let at = pass_at slots passes k d left below in
        let own : length (entries_made (pass_left at.0.task).number (pass_left at.0.task).seen) ≤ requests_of k script.lines =
        asks_most lock script k at.0.task at.0.end (subst (λ (h : ActorSlot). IsDone lock h.task h.end) at.2 (ran.done k at.0 at.1))
        (subst (λ (h : ActorSlot). h.end ≢ Err NoMemory) at.2 (ends.0 k at.0 at.1)) (as_lane k at.0 at.1 at.2) (as_worker k at.0 at.1 at.2) in
        subst (λ n. length (entries_made n (get_or passes k d).seen) ≤ requests_of k script.lines) (numbered (lines_by_lane script) slots passes k d ran.are left below)
        (subst (λ (pass : PassView RootView Entry). length (entries_made pass.number pass.seen) ≤ requests_of k script.lines) (sym at.3) own)

    met_by : (k : ℕ) (task : ActorTask) (end : End) → IsDone lock task end → end ≡ Err HistoryFull → (k < script.lanes → IsLaneOf k (lines_of k script.lines) task)
        → (script.lanes ≤ k → IsWorkerOf k task) → HasMetFull (lines_of k script.lines) (pass_left task)
    met_by k (Worker worker) end is full lane worker' = absurd (is.full full)
    met_by k (Lane own lines) (Ok did) is full lane worker' = absurd (cc full)
    met_by k (Lane own lines) (Err NoMemory) is full lane worker' = absurd (cc full)
    met_by k (Lane own lines) (Err HistoryFull) is full lane worker' = elim (cases_lt k script.lanes) [
      | inl below ↦ subst (λ list. HasMetFull list own.pass) (lane below).1 is.full
      | inr above ↦ absurd (worker' above)
    ]

    full : (k : ℕ) (slot : ActorSlot) (d : PassView RootView Entry) → k < length slots → get_or slots k slot ≡ slot → slot.end ≡ Err HistoryFull → k < length passes
        → HasMetFull (lines_of k script.lines) (get_or passes k d)
    full k slot d there is end below =
        let own : HasMetFull (lines_of k script.lines) (pass_left slot.task) =
        met_by k slot.task slot.end (subst (λ (h : ActorSlot). IsDone lock h.task h.end) is (ran.done k slot there)) end (as_lane k slot there is) (as_worker k slot there is) in
        subst (HasMetFull (lines_of k script.lines)) (sym (ap (λ ps. get_or ps k d) left ∙ get_or-map (λ (h : ActorSlot). pass_left h.task) slots k slot d there ∙ ap (λ (h : ActorSlot). pass_left h.task) is)) own
