-- What a lane keeps when it has run one line more.
use Rattle.std.proofs.Common.{◌≡◌, ◌∙◌, refl, sym, ap, subst, ℕ, ◌+◌, ◌<◌, ◌≤◌, List, [], ◌∷◌, ◌++◌, length, take, get_or, cond, Bool, true, false, append-nil, arith}
use Rattle.std.specs.Prelude.{Option, Some, None, IfSome, Result, Ok, Err, IfErr, IsErrAnd, nat_lt}
use Rattle.std.proofs.lemmas.Bool.{ltb-false}
use Rattle.std.proofs.lemmas.Grind.{take_at_read}
use Rattle.std.proofs.lemmas.List.{map-append}
use Rattle.std.proofs.lemmas.List.Concat.{flat_map-append}
use Rattle.std.proofs.lemmas.List.Elements.{All-nil}
use Rattle.std.proofs.lemmas.List.Sums.{count_by_more_yes, fold-append, sum_by-take-drop}
use Rattle.std.specs.Option.{option_map}
use mathlib.Core.List.{IsPrefix}
use Rattle.turn_lock.specs.Growth.{Extends}
use Rattle.turn_lock.specs.Locks.{Acts, IsOf, LockId, PassView}
use Rattle.nav_base.specs.declared.point.Question.{Question}
use Rattle.nav_base.specs.declared.point.Point.{Point}
use Rattle.nav_ground.specs.declared.history.Entry.{Entry}
use Rattle.nav_ground.specs.declared.history.Ground.{Ground}
use Rattle.nav_ground.specs.declared.history.Reply.{Reply}
use Rattle.nav_ground.specs.declared.history.Request.{Request}
use Rattle.mesh_types.specs.declared.answers.Answer.{Answer}
use Rattle.mesh_types.specs.declared.answers.WalkAnswer.{WalkAnswer}
use Rattle.mesh_types.specs.Builds.{build_of}
use Rattle.mesh_types.specs.Right.{IsRight}
use Rattle.agent_walks.specs.declared.walkers.Walker.{Walker}
use Rattle.agent_walks.specs.Marches.{IsMarched, IsSent}
use Rattle.agent_walks.specs.Walkers.{IsUnderWay, IsWalker, walker_of}
use Rattle.nav_script.specs.declared.script.Line.{Line}
use Rattle.nav_script.specs.declared.script.Line.TheVariants as lines
use Rattle.nav_script.specs.Lanes.{is_request}
use Rattle.nav_version.specs.Lists.{ToldView}
use Rattle.nav_version.specs.Pairs.{EyeView, HasLooked, after_learning, longer}
use Rattle.nav_version.proofs.Beginnings.{IsPrefix-append}
use Rattle.nav_live.specs.Roots.{RootView}
use Rattle.nav_live.specs.declared.lane.Lane.{Lane}
use Rattle.nav_live.specs.declared.lane.LaneEnd.{LaneEnd}
use Rattle.nav_live.specs.declared.lane.LaneEnd.TheVariants.{NoMemory, HistoryFull}
use Rattle.nav_live.specs.declared.book.LiveAct.TheVariants as acts
use Rattle.nav_live.specs.declared.book.LiveDone.TheVariants as dones
use Rattle.nav_live.specs.declared.lane.LineAnswer.{LineAnswer}
use Rattle.nav_live.specs.declared.lane.LineAnswer.TheVariants.{Replied, Answered, Settled, Walked, NoWalker}
use Rattle.nav_live.specs.LaneEntries.{Spoken, adds_of, adds_with, entries_made, entry_said, request_of}
use Rattle.nav_live.specs.LaneRecords.{IsSaid, length_told, number_after}
use Rattle.nav_live.specs.Lanes.{AreAnswers, AreEntries, BelongsTo, CanStart, KeepsLane, KeepsWalker, NotesLines, SawOthers}
use Rattle.nav_live.specs.ActRules.{Does, IsLegal, lane_of}
use Rattle.nav_live.specs.LaneSteps.{HasNoted, HasRun, HasRunAll}
use Rattle.nav_live.specs.LaneTexts.{said_text, told_text}
use Rattle.nav_live.specs.Stops.{FindsFull, IsStopped, IsStoppedAt}
use Rattle.nav_live.specs.Waiting.{HasLearnt, HasWaited}
use Rattle.nav_live.proofs.AnswerLaws.{IsPrefix-length, answers_and, answers_later, covers_more, last_number_and, rising_more}
use Rattle.nav_live.proofs.PassLaws.{saw_then}
use Rattle.nav_live.proofs.EntryLaws.{entries_extended, entries_of_no_request, entries_of_request}
use Rattle.nav_live.proofs.RecordLaws.{length-entries_made}
use Rattle.nav_live.proofs.WalkLaws.{LeavesWalker, walks_later, walks_marched, walks_not, walks_past, walks_sent}

-- what is written with one line more
told_text_and : (spoken : List Spoken) (one : Spoken) → told_text (spoken ++ one ∷ []) ≡ told_text spoken ++ said_text one.1
told_text_and spoken one =
    flat_map-append (λ (one : Spoken). said_text one.1) spoken (one ∷ []) ∙ ap (λ last. told_text spoken ++ last) (append-nil (said_text one.1))

-- a line more that was noted
pub noted_more : (spoken : List Spoken) (line : Line) (said : LineAnswer) (before after : Lane) → NotesLines spoken before → HasNoted line said before after
    → NotesLines (spoken ++ (line, said) ∷ []) after
noted_more spoken line said before after notes noted =
    let one : Spoken = (line, said) in
    record {
      text = noted.text ∙ ap (λ text. text ++ said_text said) notes.text ∙ sym (told_text_and spoken one);
      adds = noted.adds ∙ ap (λ adds. adds_with adds one) notes.adds ∙ sym (fold-append adds_with [] spoken (one ∷ []));
      last = noted.last ∙ ap (λ last. number_after last said) notes.last ∙ sym (last_number_and spoken one);
    }

-- a lane that has made no act belongs to its lock as before, where its eye is of the same pair and ground, and its walker may march
still_own : (lock : LockId RootView) (before after : Lane) → BelongsTo lock before → after.number ≡ before.number → after.pass ≡ before.pass
    → after.eye.pair ≡ before.eye.pair → after.eye.ground ≡ before.eye.ground → IfSome after.walker IsWalker → BelongsTo lock after
still_own lock before after own number same pair level walker = record {
  of = subst (IsOf lock) (sym same) own.of;
  number = number ∙ own.number ∙ ap (λ p. p.number) (sym same);
  pair = pair ∙ own.pair;
  ground = level ∙ own.ground;
  walker = walker;
}

-- a line more that makes no request and no act, after which the eye has seen so much: it is answered as it may be, names no length below what was
-- seen before, but the length of what is seen after, and leaves the walker that it may leave
ran_line : (lock : LockId RootView) (spoken : List Spoken) (before after : Lane) (line : Line) (said : LineAnswer) → KeepsLane lock spoken before
    → HasNoted line said before after → BelongsTo lock after → after.pass ≡ before.pass → IsPrefix before.eye.seen after.eye.seen
    → ((adds : List ℕ) → entry_said before.pass.number adds line said ≡ None) → IsSaid lock.root.ground after.eye.seen line said
    → ((n : ℕ) → said ≡ Settled n → before.last ≤ n) → ((n : ℕ) → length_told said ≡ Some n → length before.eye.seen ≤ n)
    → KeepsWalker lock.root.ground after.eye.seen (spoken ++ (line, said) ∷ []) after.walker → IfSome (length_told said) (λ k. k ≡ length after.eye.seen)
    → HasRun lock line spoken after
ran_line lock spoken before after line said keeps noted own same seen silent is covers above walks named =
    let one : Spoken = (line, said) in
    record {
      said = said;
      keeps = record {
        own = own;
        entries = rw same (entries_of_no_request before.pass.seen before.pass.number spoken one (silent (adds_of spoken)) keeps.entries);
        answers = answers_and lock.root.ground after.eye.seen spoken one (answers_later lock.root.ground before.eye.seen after.eye.seen spoken seen keeps.answers) is;
        settled = covers_more spoken one keeps.settled (λ n e. subst (λ last. last ≤ n) keeps.notes.last (covers n e));
        rising = rising_more lock.root.ground before.eye.seen spoken one keeps.answers keeps.rising above;
        walks = walks;
        notes = noted_more spoken line said before after keeps.notes noted;
      };
      named = named;
    }

-- a length that was told is at least that of all that was seen before
told_above : (before after : EyeView) (k n : ℕ) → HasLooked before after → k ≡ length after.seen → k ≡ n → length before.seen ≤ n
told_above before after k n looked long same = let seen = IsPrefix-length before.seen after.seen looked.seen in omega (arith, seen, long, same)

pub ran_ask : (lock : LockId RootView) (spoken : List Spoken) (before after : Lane) (question : Question) (k : ℕ) (answer : Answer)
    → KeepsLane lock spoken before → HasNoted (lines.Ask question) (Answered k answer) before after → after.number ≡ before.number → after.pass ≡ before.pass
    → after.walker ≡ before.walker → HasLooked before.eye after.eye → k ≡ length after.eye.seen
    → IsRight (build_of before.eye.ground after.eye.seen k) question answer → HasRun lock (lines.Ask question) spoken after
ran_ask lock spoken before after question k answer keeps noted number same walker looked long right =
    let right' : IsRight (build_of lock.root.ground after.eye.seen k) question answer = subst (λ g. IsRight (build_of g after.eye.seen k) question answer) keeps.own.ground right in
    ran_line lock spoken before after (lines.Ask question) (Answered k answer) keeps noted
    (still_own lock before after keeps.own number same looked.pair looked.ground (subst (λ w. IfSome w IsWalker) (sym walker) keeps.own.walker))
    same looked.seen (λ adds. refl) (omega (arith, long), right') (λ n is. absurd (cc is))
    (λ n is. told_above before.eye after.eye k n looked long (cc is))
    (walks_past lock.root.ground before.eye.seen after.eye.seen spoken (lines.Ask question, Answered k answer) before.walker after.walker looked.seen keeps.answers keeps.walks
    walker (λ standing. refl, λ ground history standing. tt)) long

pub ran_settle : (lock : LockId RootView) (spoken : List Spoken) (before after : Lane) (k : ℕ)
    → KeepsLane lock spoken before → HasNoted lines.Settle (Settled k) before after → after.number ≡ before.number → after.pass ≡ before.pass
    → after.walker ≡ before.walker → after.eye.pair ≡ before.eye.pair → after.eye.ground ≡ before.eye.ground → IsPrefix before.eye.seen after.eye.seen
    → k ≡ length after.eye.seen → before.last ≤ k → length before.eye.seen ≤ k → HasRun lock lines.Settle spoken after
ran_settle lock spoken before after k keeps noted number same walker pair level seen long covers above =
    let within : k ≤ length after.eye.seen = omega (arith, long) in
    ran_line lock spoken before after lines.Settle (Settled k) keeps noted
    (still_own lock before after keeps.own number same pair level (subst (λ w. IfSome w IsWalker) (sym walker) keeps.own.walker))
    same seen (λ adds. refl) within (λ n is. let same' : k ≡ n = cc is in omega (arith, covers, same'))
    (λ n is. let same' : k ≡ n = cc is in omega (arith, above, same'))
    (walks_past lock.root.ground before.eye.seen after.eye.seen spoken (lines.Settle, Settled k) before.walker after.walker seen keeps.answers keeps.walks
    walker (λ standing. refl, λ ground history standing. tt)) long

-- a `send` was answered from what the eye sees after it, and left this walker
pub record HasSent (before eye : EyeView) (from : Point) (from_y : ℕ) (to : Point) (to_y k : ℕ) (answer : WalkAnswer) (walker : Option Walker) : Type 0 where
  pub looked : HasLooked before eye
  pub long : k ≡ length eye.seen
  pub sent : IsSent (build_of before.ground eye.seen k) from from_y to to_y answer
  pub way : IsUnderWay (build_of before.ground eye.seen k) to to_y answer
  pub leaves : walker ≡ walker_of k to to_y answer
  pub may_march : IfSome walker IsWalker

pub ran_send : (lock : LockId RootView) (spoken : List Spoken) (before after : Lane) (eye : EyeView) (from : Point) (from_y : ℕ) (to : Point) (to_y k : ℕ)
    (answer : WalkAnswer) (walker : Option Walker) → KeepsLane lock spoken before → HasNoted (lines.Send from from_y to to_y) (Walked k answer) before after
    → after.number ≡ before.number → after.pass ≡ before.pass → after.eye ≡ eye → after.walker ≡ walker
    → HasSent before.eye eye from from_y to to_y k answer walker → HasRun lock (lines.Send from from_y to to_y) spoken after
ran_send lock spoken before after eye from from_y to to_y k answer walker keeps noted number same is left has =
    let has' : HasSent before.eye after.eye from from_y to to_y k answer after.walker =
    subst (λ w. HasSent before.eye after.eye from from_y to to_y k answer w) (sym left) (subst (λ e. HasSent before.eye e from from_y to to_y k answer walker) (sym is) has) in
    let level = lock.root.ground in
    let within : k ≤ length after.eye.seen = let long = has'.long in omega (arith, long) in
    let there = walks_later level before.eye.seen after.eye.seen spoken before.walker has'.looked.seen keeps.answers keeps.walks in
    ran_line lock spoken before after (lines.Send from from_y to to_y) (Walked k answer) keeps noted
    (still_own lock before after keeps.own number same has'.looked.pair has'.looked.ground has'.may_march)
    same has'.looked.seen (λ adds. refl) within (λ n e. absurd (cc e))
    (λ n e. told_above before.eye after.eye k n has'.looked has'.long (cc e))
    (walks_sent level after.eye.seen spoken before.walker after.walker from from_y to to_y k answer there within
    (subst (λ g. IsSent (build_of g after.eye.seen k) from from_y to to_y answer) keeps.own.ground has'.sent) has'.leaves
    (subst (λ g. IsUnderWay (build_of g after.eye.seen k) to to_y answer) keeps.own.ground has'.way)) has'.long

-- a march of a walker was answered from what the eye sees after it, and left this walker
pub record HasMarched (before eye : EyeView) (walker : Walker) (far k : ℕ) (answer : WalkAnswer) (left : Option Walker) : Type 0 where
  pub looked : HasLooked before eye
  pub long : k ≡ length eye.seen
  pub marched : IsMarched (build_of before.ground eye.seen k) walker.point walker.y walker.goal walker.goal_y far answer
  pub way : IsUnderWay (build_of before.ground eye.seen k) walker.goal walker.goal_y answer
  pub leaves : left ≡ walker_of k walker.goal walker.goal_y answer
  pub may_march : IfSome left IsWalker

pub ran_march : (lock : LockId RootView) (spoken : List Spoken) (before after : Lane) (eye : EyeView) (walker : Walker) (far k : ℕ)
    (answer : WalkAnswer) (left : Option Walker) → KeepsLane lock spoken before → before.walker ≡ Some walker
    → HasNoted (lines.March far) (Walked k answer) before after → after.number ≡ before.number → after.pass ≡ before.pass → after.eye ≡ eye
    → after.walker ≡ left → HasMarched before.eye eye walker far k answer left → HasRun lock (lines.March far) spoken after
ran_march lock spoken before after eye walker far k answer left keeps was noted number same is leaves has =
    let has' : HasMarched before.eye after.eye walker far k answer after.walker =
    subst (λ w. HasMarched before.eye after.eye walker far k answer w) (sym leaves) (subst (λ e. HasMarched before.eye e walker far k answer left) (sym is) has) in
    let level = lock.root.ground in
    let within : k ≤ length after.eye.seen = let long = has'.long in omega (arith, long) in
    let there : KeepsWalker level after.eye.seen spoken (Some walker) =
    walks_later level before.eye.seen after.eye.seen spoken (Some walker) has'.looked.seen keeps.answers
    (subst (λ w. KeepsWalker level before.eye.seen spoken w) was keeps.walks) in
    ran_line lock spoken before after (lines.March far) (Walked k answer) keeps noted
    (still_own lock before after keeps.own number same has'.looked.pair has'.looked.ground has'.may_march)
    same has'.looked.seen (λ adds. refl) within (λ n e. absurd (cc e))
    (λ n e. told_above before.eye after.eye k n has'.looked has'.long (cc e))
    (walks_marched level after.eye.seen spoken walker after.walker far k answer there within
    (subst (λ g. IsMarched (build_of g after.eye.seen k) walker.point walker.y walker.goal walker.goal_y far answer) keeps.own.ground has'.marched) has'.leaves
    (subst (λ g. IsUnderWay (build_of g after.eye.seen k) walker.goal walker.goal_y answer) keeps.own.ground has'.way)) has'.long

-- a march where there is no walker
pub ran_idle : (lock : LockId RootView) (spoken : List Spoken) (before after : Lane) (far : ℕ) → KeepsLane lock spoken before → before.walker ≡ None
    → HasNoted (lines.March far) NoWalker before after → after.number ≡ before.number → after.pass ≡ before.pass → after.eye ≡ before.eye → after.walker ≡ None
    → HasRun lock (lines.March far) spoken after
ran_idle lock spoken before after far keeps was noted number same is none =
    let level = lock.root.ground in
    let own = still_own lock before after keeps.own number same (ap (λ e. e.pair) is) (ap (λ e. e.ground) is) (subst (λ w. IfSome w IsWalker) (sym none) tt) in
    let there : KeepsWalker level before.eye.seen spoken None = subst (λ w. KeepsWalker level before.eye.seen spoken w) was keeps.walks in
    let walks : KeepsWalker level after.eye.seen (spoken ++ (lines.March far, NoWalker) ∷ []) after.walker =
    subst (λ w. KeepsWalker level after.eye.seen (spoken ++ (lines.March far, NoWalker) ∷ []) w) (sym none)
    (subst (λ e. KeepsWalker level e.seen (spoken ++ (lines.March far, NoWalker) ∷ []) None) (sym is) (walks_not level before.eye.seen spoken far there)) in
    ran_line lock spoken before after (lines.March far) NoWalker keeps noted own same ([], append-nil before.eye.seen ∙ ap (λ e. e.seen) (sym is)) (λ adds. refl) tt
    (λ n e. absurd (cc e)) (λ n e. absurd (cc e)) walks tt

-- what an answered request of a lane did to the history that its pass has seen
pub record HasAsked (lock : LockId RootView) (before after : Lane) (request : Request) (k : ℕ) (reply : Reply) : Type 0 where
  pub of : IsOf lock after.pass
  pub number : after.pass.number ≡ before.pass.number
  pub found : List Entry
  pub extends : Extends (λ (e : Entry). e.lane) before.pass.number before.pass.seen found
  pub left : after.pass.seen ≡ found ++ record { lane = before.number; request = request; reply = reply } ∷ []
  pub told : k ≡ length after.pass.seen

-- a line that makes a request is a request line, may be replied to, and has nothing to do with walkers
asking : (ground : Ground) (history : List Entry) (adds : List ℕ) (line : Line) (request : Request) → request_of adds line ≡ Some request
    → (is_request line ≡ true) × ((k : ℕ) (reply : Reply) → IsSaid ground history line (Replied k reply)) × ((k : ℕ) (reply : Reply) → LeavesWalker (line, Replied k reply))
asking ground history adds (lines.Add shape) request makes = (refl, λ k reply. tt, λ k reply. (λ standing. refl, λ level those standing. tt))
asking ground history adds (lines.Remove number) request makes = (refl, λ k reply. tt, λ k reply. (λ standing. refl, λ level those standing. tt))
asking ground history adds (lines.Undo j) request makes = (refl, λ k reply. tt, λ k reply. (λ standing. refl, λ level those standing. tt))
asking ground history adds _ request makes = absurd (cc makes)

-- what the turn of a request that was answered did, for the lane whose pass it is
pub has_asked : (lock : LockId RootView) (before after : Lane) (pass : PassView RootView Entry) (request : Request) (k : ℕ) (reply : Reply)
    → after.pass ≡ pass → IsOf lock pass → pass.number ≡ before.pass.number
    → Acts (λ (e : Entry). e.lane) lane_of (IsLegal lock.root) (Does lock.root) before.pass (acts.Ask before.number request) (dones.Asked k reply) pass
    → HasAsked lock before after request k reply
has_asked lock before after pass request k reply same of number turn = record {
  of = subst (IsOf lock) (sym same) of;
  number = ap (λ p. p.number) same ∙ number;
  found = turn.before;
  extends = turn.extends;
  left = ap (λ p. p.seen) same ∙ turn.did.0;
  told = turn.did.1 ∙ ap (λ p. length p.seen) (sym same);
}

-- what the turn of a request did that found the history full
pub finds_full : (lock : LockId RootView) (before : Lane) (pass : PassView RootView Entry) (line : Line) (request : Request) (len : ℕ)
    → IsOf lock pass → pass.number ≡ before.pass.number
    → Acts (λ (e : Entry). e.lane) lane_of (IsLegal lock.root) (Does lock.root) before.pass (acts.Ask before.number request) (dones.HistoryFull len) pass
    → request_of before.adds line ≡ Some request → FindsFull lock line before.pass pass
finds_full lock before pass line request len of number turn makes =
    let own = before.pass.number in
    record {
      asks = (asking lock.root.ground [] before.adds line request makes).0;
      saw = record {
        of = of;
        number = number;
        seen = IsPrefix-append before.pass.seen pass.seen turn.extends.rest (turn.did.0 ∙ turn.extends.longer);
        entries = ap (entries_made own) turn.did.0 ∙ entries_extended own before.pass.seen turn.before turn.extends;
      };
      full = sym turn.did.1 ∙ turn.did.2;
    }

pub ran_request : (lock : LockId RootView) (spoken : List Spoken) (before after : Lane) (line : Line) (request : Request) (k : ℕ) (reply : Reply)
    → KeepsLane lock spoken before → HasNoted line (Replied k reply) before after → after.number ≡ before.number → after.eye ≡ before.eye
    → after.walker ≡ before.walker → HasAsked lock before after request k reply → request_of before.adds line ≡ Some request → HasRun lock line spoken after
ran_request lock spoken before after line request k reply keeps noted number same walker asked makes =
    let level = lock.root.ground in
    let rules = asking level after.eye.seen before.adds line request makes in
    let fits : IsSaid level after.eye.seen line (Replied k reply) = rules.1 k reply in
    let seen : IsPrefix before.eye.seen after.eye.seen = ([], append-nil before.eye.seen ∙ ap (λ e. e.seen) (sym same)) in
    let one : Spoken = (line, Replied k reply) in
    let e : Entry = record { lane = before.number; request = request; reply = reply } in
    let found : AreEntries asked.found before.number spoken =
    subst (λ n. AreEntries asked.found n spoken) (sym keeps.own.number) (entries_extended before.pass.number before.pass.seen asked.found asked.extends ∙ keeps.entries) in
    let count : k ≡ length (asked.found ++ e ∷ []) = asked.told ∙ ap length asked.left in
    let made : request_of (adds_of spoken) line ≡ Some request = ap (λ adds. request_of adds line) (sym keeps.notes.adds) ∙ makes in
    let says : entry_said before.number (adds_of spoken) line (Replied k reply) ≡ Some (length (asked.found ++ e ∷ []), e) =
    ap (option_map (λ (asks : Request). (k, record { lane = before.number; request = asks; reply = reply }))) made ∙ ap (λ n. Some (n, e)) count in
    let more : AreEntries (asked.found ++ e ∷ []) before.number (spoken ++ one ∷ []) = entries_of_request asked.found e spoken one says found in
    let own : after.pass.number ≡ before.number = asked.number ∙ sym keeps.own.number in
    record {
      said = Replied k reply;
      keeps = record {
        own = record {
          of = asked.of;
          number = number ∙ sym own;
          pair = ap (λ v. v.pair) same ∙ keeps.own.pair;
          ground = ap (λ v. v.ground) same ∙ keeps.own.ground;
          walker = subst (λ w. IfSome w IsWalker) (sym walker) keeps.own.walker;
        };
        entries = rw (asked.left, own) more;
        answers = answers_and lock.root.ground after.eye.seen spoken one (subst (λ v. AreAnswers lock.root.ground v.seen spoken) (sym same) keeps.answers) fits;
        settled = covers_more spoken one keeps.settled (λ n is. absurd (cc is));
        rising = rising_more lock.root.ground before.eye.seen spoken one keeps.answers keeps.rising (λ n is. absurd (cc is));
        walks = walks_past level before.eye.seen after.eye.seen spoken one before.walker after.walker seen keeps.answers keeps.walks walker (rules.2 k reply);
        notes = noted_more spoken line (Replied k reply) before after keeps.notes noted;
      };
      named = tt;
    }

-- the same where the eye after the line is that after a call
pub ran_ask_by : (lock : LockId RootView) (spoken : List Spoken) (before after : Lane) (eye : EyeView) (question : Question) (k : ℕ) (answer : Answer)
    → KeepsLane lock spoken before → HasNoted (lines.Ask question) (Answered k answer) before after → after.number ≡ before.number → after.pass ≡ before.pass → after.walker ≡ before.walker
    → after.eye ≡ eye → HasLooked before.eye eye → k ≡ length eye.seen → IsRight (build_of before.eye.ground eye.seen k) question answer
    → HasRun lock (lines.Ask question) spoken after
ran_ask_by lock spoken before after eye question k answer keeps noted number same walker is looked long right =
    ran_ask lock spoken before after question k answer keeps noted number same walker (subst (HasLooked before.eye) (sym is) looked) (long ∙ ap (λ e. length e.seen) (sym is))
    (subst (λ e. IsRight (build_of before.eye.ground e.seen k) question answer) (sym is) right)

-- an eye that knew no longer list than one that it learns knows none that is longer then
pub longest_learnt : (own told : List Entry) → length own ≤ length told → length (longer own told) ≡ length told
longest_learnt own told below = by_test (nat_lt (length own) (length told)) refl
  where
    by_test : (b : Bool) → nat_lt (length own) (length told) ≡ b → length (cond b told own) ≡ length told
    by_test true is = refl
    by_test false is = omega (arith, below, ltb-false (length own) (length told) is)

pub ran_settle_by : (lock : LockId RootView) (spoken : List Spoken) (before after : Lane) (eye : EyeView) (told : List Entry) (k : ℕ)
    → KeepsLane lock spoken before → HasNoted lines.Settle (Settled k) before after → after.number ≡ before.number → after.pass ≡ before.pass → after.walker ≡ before.walker → after.eye ≡ eye
    → eye ≡ after_learning before.eye told → IsPrefix before.eye.seen eye.seen → k ≡ length told
    → before.last ≤ k → length before.eye.seen ≤ k → HasRun lock lines.Settle spoken after
ran_settle_by lock spoken before after eye told k keeps noted number same walker is learnt own long covers above =
    let longest = longest_learnt before.eye.seen told (omega (arith, long, above)) in
    let seen : k ≡ length after.eye.seen = omega (arith, long, longest, ap (λ e. length e.seen) (is ∙ learnt)) in
    ran_settle lock spoken before after k keeps noted number same walker (ap (λ e. e.pair) (is ∙ learnt)) (ap (λ e. e.ground) (is ∙ learnt))
    (subst (λ e. IsPrefix before.eye.seen e.seen) (sym is) own) seen covers above

-- a lane that has waited, and then taken in a list, has taken it in since before it waited
pub learnt_since : (lock : LockId RootView) (told : ToldView) (before between after : Lane) → HasWaited lock before between → HasLearnt told between after → HasLearnt told before after
learnt_since lock told before between after waited has = record {
  learnt = has.learnt ∙ ap (λ (l : Lane). after_learning l.eye told.entries) waited.rest;
  longest = has.longest;
  text = has.text ∙ ap (λ (l : Lane). l.text.items ++ said_text (Settled (length told.entries))) waited.rest;
}

-- two acts more
pub waited_more : (lock : LockId RootView) (before between : Lane) (pass then : PassView RootView Entry) → HasWaited lock before between
    → SawOthers lock between.pass pass → SawOthers lock pass then → HasWaited lock before (record between { pass = then })
waited_more lock before between pass then waited first second = record {
  saw = saw_then lock before.pass pass then (saw_then lock before.pass between.pass pass waited.saw first) second;
  rest = ap (λ (l : Lane). record l { pass = then }) waited.rest;
}

-- a lane that has waited belongs to its lock, and keeps what it kept
pub waits_there : (lock : LockId RootView) (before after : Lane) → BelongsTo lock before → HasWaited lock before after → BelongsTo lock after
waits_there lock before after own waited =
    subst (BelongsTo lock) (sym waited.rest)
    (record { of = waited.saw.of; number = own.number ∙ sym waited.saw.number; pair = own.pair; ground = own.ground; walker = own.walker })

pub waits_on : (lock : LockId RootView) (spoken : List Spoken) (before after : Lane) → KeepsLane lock spoken before → HasWaited lock before after → KeepsLane lock spoken after
waits_on lock spoken before after keeps waited =
    let pass = after.pass in
    let entries : AreEntries pass.seen pass.number spoken =
    subst (λ n. AreEntries pass.seen n spoken) (sym waited.saw.number) (waited.saw.entries ∙ keeps.entries) in
    subst (KeepsLane lock spoken) (sym waited.rest) (record {
      own = record {
        of = waited.saw.of;
        number = keeps.own.number ∙ sym waited.saw.number;
        pair = keeps.own.pair;
        ground = keeps.own.ground;
        walker = keeps.own.walker;
      };
      entries = entries;
      answers = keeps.answers;
      settled = keeps.settled;
      rising = keeps.rising;
      walks = record { moved = keeps.walks.moved; stands = keeps.walks.stands };
      notes = record { text = keeps.notes.text; adds = keeps.notes.adds; last = keeps.notes.last };
    })

-- a lane that has run no line keeps what it has to
pub starts : (lock : LockId RootView) (lane : Lane) → CanStart lock lane.number lane.pass lane.eye → lane.text.items ≡ [] → lane.adds ≡ [] → lane.last ≡ 0
    → lane.walker ≡ None → KeepsLane lock [] lane
starts lock lane can unwritten nothing zero' none = record {
  own = record { of = can.of; number = can.named; pair = can.pair; ground = can.level; walker = subst (λ w. IfSome w IsWalker) (sym none) tt };
  entries = rw can.nothing refl;
  answers = All-nil (λ (one : Spoken). IsSaid lock.root.ground lane.eye.seen one.0 one.1);
  settled = λ place k line is. absurd (cc is);
  rising = λ i j d lt there. absurd (omega (arith, there));
  walks = subst (λ w. KeepsWalker lock.root.ground lane.eye.seen [] w) (sym none) (record { moved = tt; stands = tt });
  notes = record { text = unwritten; adds = nothing; last = zero' };
}

-- one line more of a list of them
pub one_line_more : (lock : LockId RootView) (line : Line) (those : List Line) (i : ℕ) (d : Line) (before after : Lane) → i < length those → line ≡ get_or those i d
    → HasRunAll lock (take i those) before → ((spoken : List Spoken) → KeepsLane lock spoken before → HasRun lock line spoken after)
    → HasRunAll lock (take (i + 1) those) after
one_line_more lock line those i d before after there is so_far runs =
    let ran = runs so_far.spoken so_far.keeps in
    record {
      spoken = so_far.spoken ++ (line, ran.said) ∷ [];
      keeps = ran.keeps;
      each =
          map-append (λ (one : Spoken). one.0) so_far.spoken ((line, ran.said) ∷ [])
          ∙ ap (λ front. front ++ line ∷ []) so_far.each
          ∙ ap (λ (last : Line). take i those ++ last ∷ []) is
          ∙ sym (take_at_read those i d there).1;
    }

-- a line of a list that found the history full has kept its lane from making all its requests
pub is_stopped : (lock : LockId RootView) (those : List Line) (i : ℕ) (line d : Line) (before : Lane) (after : PassView RootView Entry) (stop : LaneEnd)
    → i < length those → line ≡ get_or those i d → HasRunAll lock (take i those) before → IsStoppedAt lock line before.pass after stop → IsStopped those after stop
is_stopped lock those i line d before after NoMemory there is so_far stops = tt
is_stopped lock those i line d before after HistoryFull there is so_far stops =
    let own = ap (λ n. length (entries_made n after.seen)) stops.saw.number ∙ ap length stops.saw.entries ∙ length-entries_made lock (take i those) before so_far in
    let one_more = count_by_more_yes is_request those i d there (ap is_request (sym is) ∙ stops.asks) in
    let all = sum_by-take-drop (λ line. cond (is_request line) 1 0) those (i + 1) in
    record { full = stops.full; fewer = omega (arith, own, one_more, all) }

-- a refusal that is handed on is the one that came
pub handed_on : {T E : Type 0} (P : E → Type 0) (r : Result T E) (came : E) → IsErrAnd r (λ e. e ≡ came) → P came → IfErr r P
handed_on P (Ok x) came is holds = tt
handed_on P (Err e) came is holds = subst P (sym is) holds
