-- The actors of a live run, as they are made.
use Rattle.std.proofs.Common.{◌≡◌, ◌∙◌, sym, ap, subst, ℕ, zero, suc, ◌+◌, ◌<◌, ◌≤◌, List, [], ◌∷◌, ◌++◌, length, get_or, slice_get, All, Some, drop, arith}
use Rattle.std.proofs.lemmas.List.{drop-drop, length-drop}
use Rattle.std.proofs.lemmas.List.FromFn.{get_or-map-range_with_len, length-map-range_with_len}
use Rattle.std.proofs.lemmas.Option.{slice_get-get_or}
use Rattle.turn_lock.specs.Locks.{LockId, PassView, fresh_pass}
use Rattle.nav_ground.specs.declared.history.Entry.{Entry}
use Rattle.nav_script.specs.declared.script.Line.{Line}
use Rattle.nav_script.specs.declared.script.Script.{Script}
use Rattle.nav_version.specs.Pairs.{EyeView}
use Rattle.nav_live.specs.Roots.{RootView}
use Rattle.nav_live.specs.declared.lane.Lane as lanes
use Rattle.nav_live.specs.Lanes.{CanStart}
use Rattle.nav_live.specs.LaneSteps.{IsRunnable}
use Rattle.nav_live.specs.declared.actors.ActorSlot.{ActorSlot}
use Rattle.nav_live.specs.declared.actors.ActorTask.{ActorTask}
use Rattle.nav_live.specs.declared.actors.ActorTask.TheVariants.{Lane, Worker}
use Rattle.nav_live.specs.LaneLines.{lines_by_lane}
use Rattle.nav_script.specs.Lanes.{lines_of}
use Rattle.nav_live.specs.MadeActors.{AreSlots, AreMadeActors, AreNew, CanMakeActors, IsEyeOf, IsLaneOf, IsNew, IsNewLane, IsNumbered, IsWorkerOf}
use Rattle.nav_live.specs.Tasks.{IsReady, IsReadyLane}
use Rattle.nav_live.specs.Leavings.{pass_left}

-- a script deals a list to each of its lanes
pub length-lines_by_lane : (script : Script) → length (lines_by_lane script) ≡ script.lanes
length-lines_by_lane script = length-map-range_with_len (λ lane. lines_of lane script.lines) 0 script.lanes

pub get_or-lines_by_lane : (script : Script) (lane : ℕ) → lane < script.lanes → get_or (lines_by_lane script) lane [] ≡ lines_of lane script.lines
get_or-lines_by_lane script lane below = get_or-map-range_with_len (λ lane. lines_of lane script.lines) 0 script.lanes lane lane [] below (omega arith)

-- what holds at each place holds with one element more that has it at its place
pub each_more : {X : Type 0} (P : ℕ → X → Type 0) (xs : List X) (x : X) → ((k : ℕ) (d : X) → k < length xs → P k (get_or xs k d)) → P (length xs) x
    → (k : ℕ) (d : X) → k < length (xs ++ x ∷ []) → P k (get_or (xs ++ x ∷ []) k d)
each_more P [] x each last zero d lt = last
each_more P [] x each last (suc k) d lt = absurd (omega (arith, lt))
each_more P (y ∷ ys) x each last zero d lt = each 0 d (omega arith)
each_more P (y ∷ ys) x each last (suc k) d lt =
    each_more (λ n z. P (suc n) z) ys x (λ n e under. each (suc n) e (omega (arith, under))) last k d (omega (arith, lt))

-- the front of a list was dropped, and another element is: it stands in the place after the front
pub record IsNext {X : Type 0} (xs rest : List X) (n : ℕ) (x : X) : Type 0 where
  pub within : n < length xs
  pub is : (d : X) → get_or xs n d ≡ x
  pub left : rest ≡ drop (n + 1) xs

pub next_of_drop : {X : Type 0} (xs rest : List X) (n : ℕ) (x : X) → x ∷ rest ≡ drop n xs → IsNext xs rest n x
next_of_drop [] rest zero x same = absurd (cc same)
next_of_drop [] rest (suc n) x same = absurd (cc same)
next_of_drop (y ∷ ys) rest zero x same = record { within = omega arith; is = λ d. cc same; left = cc same }
next_of_drop (y ∷ ys) rest (suc n) x same =
    let later = next_of_drop ys rest n x same in
    let there = later.within in
    let same' : suc (n + 1) ≡ suc n + 1 = omega arith in
    record { within = omega (arith, there); is = later.is; left = subst (λ m. rest ≡ drop m (y ∷ ys)) same' later.left }

pub drop_one_more : {X : Type 0} (xs rest more : List X) (n : ℕ) → rest ≡ drop n xs → more ≡ drop 1 rest → more ≡ drop (n + 1) xs
drop_one_more xs rest more n is one = one ∙ ap (drop 1) is ∙ drop-drop 1 n xs

-- a list has elements left
pub some_left : {X : Type 0} (xs rest : List X) (n : ℕ) → rest ≡ drop n xs → n < length xs → 0 < length rest
some_left xs rest n is below = omega (arith, below, ap length is, length-drop n xs)

-- one actor more was made
pub new_more : (eyes : List EyeView) (lists : List (List Line)) (passes : List (PassView RootView Entry)) (slots more : List ActorSlot) (number : ℕ) (pass : PassView RootView Entry) (slot : ActorSlot)
    → length slots ≡ number → more ≡ slots ++ slot ∷ [] → ((d : PassView RootView Entry) → get_or passes number d ≡ pass) → IsNew eyes lists number pass slot.task
    → AreNew eyes lists passes slots → AreNew eyes lists passes more
new_more eyes lists passes slots more number pass slot many is at new each =
    subst (AreNew eyes lists passes) (sym is)
    (λ k p d below. each_more (λ n (h : ActorSlot). IsNew eyes lists n (get_or passes n p) h.task) slots slot (λ n e under. each n p e under)
    (subst (λ n. IsNew eyes lists n (get_or passes n p) slot.task) (sym many) (subst (λ q. IsNew eyes lists number q slot.task) (sym (at p)) new)) k d below)

module _ (lock : LockId RootView) where
  -- a lane that was made of a fresh pass and an eye of the lock can run
  new_lane_is : (number : ℕ) (list lines : List Line) (pass : PassView RootView Entry) (eye : EyeView) (lane : lanes.Lane) → IsNewLane number list pass eye lane lines
      → pass ≡ fresh_pass lock number → IsEyeOf lock eye → All IsRunnable list → IsReadyLane lock lane lines
  new_lane_is number list lines pass eye lane new fresh of run =
      let can : CanStart lock number pass eye = record {
        of = record { table = ap (λ p. p.table) fresh; root = ap (λ p. p.root) fresh };
        named = sym (ap (λ p. p.number) fresh);
        nothing = ap (λ p. p.seen) fresh;
        pair = of.pair;
        level = of.level;
      } in
      record { keeps = new.keeps lock can; lines = subst (All IsRunnable) (sym new.own) run }

  module _ (eyes : List EyeView) (lists : List (List Line)) (many : length eyes ≡ length lists) (each : All (IsEyeOf lock) eyes) (run : All (All IsRunnable) lists) where
    -- a new task of a fresh pass can be done
    new_is_ready : (number : ℕ) (pass : PassView RootView Entry) (task : ActorTask) → IsNew eyes lists number pass task → pass ≡ fresh_pass lock number → IsReady lock task
    new_is_ready number pass (Lane lane lines) new fresh =
        let below : number < length lists = new.0 in
        let there : number < length eyes = omega (arith, below, many) in
        new_lane_is number (get_or lists number []) lines pass (get_or eyes number lane.eye) lane (new.1 lane.eye) fresh (each number lane.eye there) (run number [] below)
    new_is_ready number pass (Worker worker) new fresh =
        let is : worker.pass ≡ fresh_pass lock number = new.1 ∙ fresh in
        record { of = record { table = ap (λ p. p.table) is; root = ap (λ p. p.root) is }; nothing = ap (λ p. p.seen) is }

    -- it is the lane with the list of its number, or a worker
    new_is_lane : (number : ℕ) (pass : PassView RootView Entry) (task : ActorTask) → IsNew eyes lists number pass task → pass ≡ fresh_pass lock number → number < length lists
        → IsLaneOf number (get_or lists number []) task
    new_is_lane number pass (Lane lane lines) new fresh below =
        let made = new.1 lane.eye in
        (ap (λ p. p.number) (made.made ∙ fresh), made.own)
    new_is_lane number pass (Worker worker) new fresh below = absurd (let out = new.0 in omega (arith, below, out))

    new_is_worker : (number : ℕ) (pass : PassView RootView Entry) (task : ActorTask) → IsNew eyes lists number pass task → pass ≡ fresh_pass lock number → length lists ≤ number
        → IsWorkerOf number task
    new_is_worker number pass (Lane lane lines) new fresh above = absurd (let below = new.0 in omega (arith, below, above))
    new_is_worker number pass (Worker worker) new fresh above = ap (λ p. p.number) (new.1 ∙ fresh)

    -- a worker has its number
    new_is_numbered : (number : ℕ) (pass : PassView RootView Entry) (task : ActorTask) → IsNew eyes lists number pass task → length lists ≤ number → IsNumbered (length lists) number task
    new_is_numbered number pass (Lane lane lines) new above = absurd (let below = new.0 in omega (arith, below, above))
    new_is_numbered number pass (Worker worker) new above = new.2

  -- the passes of a new lock are fresh
  fresh_at : (passes : List (PassView RootView Entry)) (k : ℕ) (d : PassView RootView Entry) → k < length passes → slice_get passes k ≡ Some (fresh_pass lock k)
      → get_or passes k d ≡ fresh_pass lock k
  fresh_at passes k d there is = let read = slice_get-get_or passes k d there in cc (read, is)

-- actors that were made of all passes of a new lock, an eye for each lane and the lines of each lane are those of the script
pub are_made_actors : (lock : LockId RootView) (script : Script) (passes : List (PassView RootView Entry)) (eyes : List EyeView) (lists : List (List Line)) (slots : List ActorSlot)
    → CanMakeActors lock script passes eyes → length eyes ≡ script.lanes → lists ≡ lines_by_lane script → All (All IsRunnable) lists
    → length slots ≡ script.lanes + script.workers → AreNew eyes lists passes slots → AreMadeActors lock script slots
are_made_actors lock script passes eyes lists slots can many are run all new =
    let as_many : length lists ≡ script.lanes = ap length are ∙ length-lines_by_lane script in
    let paired : length eyes ≡ length lists = many ∙ sym as_many in
    let count : length slots ≡ lock.passes = all ∙ sym can.count in
    let lanes' : (k : ℕ) (d : ActorSlot) → k < length lists → IsLaneOf k (get_or lists k []) (get_or slots k d).task =
    λ k d below. new_is_lane lock eyes lists paired can.each run k (get_or passes k (pass_left (get_or slots k d).task)) (get_or slots k d).task
    (new k (pass_left (get_or slots k d).task) d (omega (arith, below, as_many, all))) (fresh k (pass_left (get_or slots k d).task) (omega (arith, below, as_many, can.count))) below in
    record {
      count = count;
      are = subst (λ ls. AreSlots ls slots) are (record {
        few = omega (arith, as_many, all);
        lanes = lanes';
        workers = λ k d above below. new_is_worker lock eyes lists paired can.each run k (get_or passes k (pass_left (get_or slots k d).task)) (get_or slots k d).task
            (new k (pass_left (get_or slots k d).task) d below) (fresh k (pass_left (get_or slots k d).task) (omega (arith, below, count))) above;
      });
      numbers = subst (λ many. (k : ℕ) (d : ActorSlot) → many ≤ k → k < length slots → IsNumbered many k (get_or slots k d).task) as_many
          (λ k d above below. new_is_numbered lock eyes lists paired can.each run k (get_or passes k (pass_left (get_or slots k d).task)) (get_or slots k d).task
          (new k (pass_left (get_or slots k d).task) d below) above);
      ready = λ k d below. new_is_ready lock eyes lists paired can.each run k (get_or passes k (pass_left (get_or slots k d).task)) (get_or slots k d).task
          (new k (pass_left (get_or slots k d).task) d below) (fresh k (pass_left (get_or slots k d).task) (omega (arith, below, count)));
    }
  where
    fresh : (k : ℕ) (d : PassView RootView Entry) → k < lock.passes → get_or passes k d ≡ fresh_pass lock k
    fresh k d below = fresh_at lock passes k d (omega (arith, below, can.fresh.count)) (can.fresh.each k below)
