-- What is known after the join comes to a record of the run.
use Rattle.std.proofs.Common.{◌≡◌, ◌≢◌, ◌∙◌, refl, sym, ap, subst, inl, inr, ℕ, ◌+◌, ◌<◌, ◌==◌, ◌⊎◌, Bool, true, false, cond, List, [], ◌∷◌, ◌++◌, length, map, filter, get_or, slice_get, All, Some, arith, length-append}
use Rattle.std.specs.List.{enumerate_from}
use Rattle.std.proofs.lemmas.Bool.{eqb-false}
use Rattle.std.proofs.lemmas.List.{get_or-map, get_or_append_left, length-map}
use Rattle.std.proofs.lemmas.List.Elements.{All-append, All-cons, All-map, All-nil, All-weaker}
use Rattle.std.proofs.lemmas.Option.{slice_get-get_or, slice_get_cases}
use mathlib.Core.List.{IsPrefix}
use Rattle.turn_lock.specs.Growth.{Extends}
use Rattle.turn_lock.specs.Locks.{LockId, PassView}
use Rattle.nav_ground.specs.declared.history.Entry.{Entry}
use Rattle.nav_ground.specs.declared.history.Ground.{Ground}
use Rattle.nav_script.specs.declared.script.Script.{Script}
use Rattle.nav_version.specs.Pairs.{EyeView}
use Rattle.nav_live.specs.declared.lane.Lane.{Lane}
use Rattle.nav_live.specs.LaneEntries.{Spoken}
use Rattle.nav_live.specs.LaneRecords.{IsLane}
use Rattle.nav_live.specs.LaneTexts.{told_text}
use Rattle.nav_live.specs.Roots.{RootView}
use Rattle.nav_live.proofs.EntryLaws.{entries_extended}
use Rattle.nav_live.proofs.RecordLaws.{lane_record}
use Rattle.nav_live.specs.declared.actors.ActorsLeft.{ActorsLeft}
use Rattle.nav_live.specs.Leavings.{HaveLeft}
use Rattle.nav_script.specs.Lanes.{lines_of}
use Rattle.nav_live.specs.Joined.{HasEnded, HaveEnded, IsClosed, MadeNone}
use Rattle.nav_live.specs.LiveRecord.{LiveRecord, live_text}

-- the lanes have ended, the lock was closed with their passes and with others that made no entry, and what each lane's eye has seen is a beginning
-- of the history
pub record IsJoined (lock : LockId RootView) (script : Script) (told : List (List Spoken)) (lanes : List Lane) (idle : List (PassView RootView Entry)) (history : List Entry) : Type 0 where
  pub ended : HaveEnded lock script told lanes
  pub none : All MadeNone idle
  pub closed : IsClosed lock (map (λ (lane : Lane). lane.pass) lanes ++ idle) history
  pub seen : All (λ (lane : Lane). IsPrefix lane.eye.seen history) lanes

-- where a lane has made no entry, each entry is of another lane
none_made : (lane n : ℕ) (history : List Entry) → filter (λ (entry : ℕ × Entry). entry.1.lane == lane) (enumerate_from n history) ≡ []
    → All (λ (entry : Entry). entry.lane ≢ lane) history
none_made lane n [] none = All-nil (λ (entry : Entry). entry.lane ≢ lane)
none_made lane n (e ∷ rest) none = by_case (e.lane == lane) refl none (λ left. none_made lane (n + 1) rest left)
  where
    by_case : (b : Bool) → (e.lane == lane) ≡ b
        → cond b ((n, e) ∷ filter (λ (entry : ℕ × Entry). entry.1.lane == lane) (enumerate_from (n + 1) rest)) (filter (λ (entry : ℕ × Entry). entry.1.lane == lane) (enumerate_from (n + 1) rest)) ≡ []
        → (filter (λ (entry : ℕ × Entry). entry.1.lane == lane) (enumerate_from (n + 1) rest) ≡ [] → All (λ (entry : Entry). entry.lane ≢ lane) rest)
        → All (λ (entry : Entry). entry.lane ≢ lane) (e ∷ rest)
    by_case true is none others = absurd (cc none)
    by_case false is none others = All-cons (λ (entry : Entry). entry.lane ≢ lane) e rest (eqb-false e.lane lane is) (others none)

-- no entry is of a pass that has made none
none_of : (pass : PassView RootView Entry) (history : List Entry) → Extends (λ (entry : Entry). entry.lane) pass.number pass.seen history → MadeNone pass
    → All (λ (entry : Entry). entry.lane ≢ pass.number) history
none_of pass history extends made = none_made pass.number 1 history (entries_extended pass.number pass.seen history extends ∙ made.none)

-- where each pass is one of so many lanes' or has made no entry, each entry is one of those lanes'
pub all_of_lanes : (lock : LockId RootView) (lanes : ℕ) (passes : List (PassView RootView Entry)) (history : List Entry) → IsClosed lock passes history
    → All (λ (pass : PassView RootView Entry). (pass.number < lanes) ⊎ MadeNone pass) passes → All (λ (entry : Entry). entry.lane < lanes) history
all_of_lanes lock lanes passes history closed kinds k d there =
    let maker = closed.made k d there in
    let pass : PassView RootView Entry = get_or passes maker.0 maker.1 in
    let own : pass.number ≡ (get_or history k d).lane = ap (λ (p : PassView RootView Entry). p.number) maker.3 ∙ maker.4 in
    elim (kinds maker.0 maker.1 maker.2) [
      | inl below ↦ subst (λ (n : ℕ). n < lanes) own below
      | inr none ↦ absurd (none_of pass history (closed.extends maker.0 maker.1 maker.2) none k d there (sym own))
    ]

-- what is known of the lane in a place
in_place : (lock : LockId RootView) (script : Script) (told : List (List Spoken)) (lanes : List Lane) (idle : List (PassView RootView Entry)) (history : List Entry) (place : ℕ)
    (lane : Lane) → IsJoined lock script told lanes idle history → place < length lanes → slice_get lanes place ≡ Some lane → get_or lanes place lane ≡ lane
    → IsLane lock.root.ground history place (lines_of place script.lines) (get_or told place [])
in_place lock script told lanes idle history place lane joined there at is =
    let passes : List (PassView RootView Entry) = map (λ (l : Lane). l.pass) lanes in
    let spoken : List Spoken = get_or told place [] in
    let ended : HasEnded lock script place spoken lane = joined.ended.each place lane at in
    let many : length passes ≡ length lanes = length-map lanes (λ (l : Lane). l.pass) in
    let within : place < length (passes ++ idle) = omega (arith, there, many, length-append passes idle) in
    let own : get_or (passes ++ idle) place lane.pass ≡ lane.pass =
    get_or_append_left passes idle lane.pass place (omega (arith, there, many))
    ∙ get_or-map (λ (l : Lane). l.pass) lanes place lane lane.pass there
    ∙ ap (λ (l : Lane). l.pass) is in
    let extends : Extends (λ (entry : Entry). entry.lane) lane.pass.number lane.pass.seen history =
    subst (λ (pass : PassView RootView Entry). Extends (λ (entry : Entry). entry.lane) pass.number pass.seen history) own (joined.closed.extends place lane.pass within) in
    let seen : IsPrefix lane.eye.seen history = subst (λ (l : Lane). IsPrefix l.eye.seen history) is (joined.seen place lane there) in
    subst (λ (n : ℕ). IsLane lock.root.ground history n (lines_of place script.lines) spoken) (sym ended.keeps.own.number ∙ ended.number)
    (lane_record lock history (lines_of place script.lines) spoken lane ended.keeps extends seen ended.each)

each_lane : (lock : LockId RootView) (script : Script) (told : List (List Spoken)) (lanes : List Lane) (idle : List (PassView RootView Entry)) (history : List Entry) (place : ℕ)
    → IsJoined lock script told lanes idle history → place < script.lanes
    → IsLane lock.root.ground history place (lines_of place script.lines) (get_or told place [])
each_lane lock script told lanes idle history place joined below =
    elim (slice_get_cases lanes place).1 [
      | inl at ↦ in_place lock script told lanes idle history place at.0 joined at.1 at.2 at.3
      | inr past ↦ absurd (omega (arith, past.0, below, joined.ended.count))
    ]

-- each pass is that of a lane of the script, or has made no entry
kinds_of_passes : (lock : LockId RootView) (script : Script) (told : List (List Spoken)) (lanes : List Lane) (idle : List (PassView RootView Entry)) (history : List Entry)
    → IsJoined lock script told lanes idle history
    → All (λ (pass : PassView RootView Entry). (pass.number < script.lanes) ⊎ MadeNone pass) (map (λ (lane : Lane). lane.pass) lanes ++ idle)
kinds_of_passes lock script told lanes idle history joined =
    let P : PassView RootView Entry → Type 0 = λ pass. (pass.number < script.lanes) ⊎ MadeNone pass in
    All-append P (map (λ (lane : Lane). lane.pass) lanes) idle
    (All-map P (λ (lane : Lane). lane.pass) lanes
    (λ k d there.
    let ended : HasEnded lock script k (get_or told k []) (get_or lanes k d) = joined.ended.each k (get_or lanes k d) (slice_get-get_or lanes k d there) in
    inl (omega (arith, ended.number, ended.keeps.own.number, there, joined.ended.count))))
    (All-weaker MadeNone P (λ pass none. inr none) idle joined.none)

-- a run that was joined so, and the text of what its lanes were answered, are a run of the live script
pub live_record : (lock : LockId RootView) (script : Script) (told : List (List Spoken)) (lanes : List Lane) (idle : List (PassView RootView Entry)) (history : List Entry)
    (text : List ℕ) → IsJoined lock script told lanes idle history → text ≡ live_text lock.root.ground history (map told_text told)
    → LiveRecord lock.root.ground script text
live_record lock script told lanes idle history text joined written = record {
  history = history;
  lanes = told;
  replied = joined.closed.legal;
  count = joined.ended.answered;
  each = λ lane below. each_lane lock script told lanes idle history lane joined below;
  others = all_of_lanes lock script.lanes (map (λ (lane : Lane). lane.pass) lanes ++ idle) history joined.closed
      (kinds_of_passes lock script told lanes idle history joined);
  written = written;
}

-- the same by what the actors leave
pub left_record : (lock : LockId RootView) (script : Script) (left : ActorsLeft) (ground : Ground) (history : List Entry) (text : List ℕ) → HaveLeft lock script left
    → IsClosed lock left.passes.items history → All (λ (eye : EyeView). IsPrefix eye.seen history) left.eyes.items → ground ≡ lock.root.ground
    → text ≡ live_text ground history left.texts.items → LiveRecord ground script text
left_record lock script left ground history text have closed seen same written =
    let lanes : List Lane = have.lanes in
    subst (λ (level : Ground). LiveRecord level script text) (sym same)
    (live_record lock script have.told lanes have.idle history text
    (record {
      ended = have.ended;
      none = have.none;
      closed = subst (λ (passes : List (PassView RootView Entry)). IsClosed lock passes history) have.passes closed;
      seen = λ k d there. subst (λ (eye : EyeView). IsPrefix eye.seen history) (get_or-map (λ (lane : Lane). lane.eye) lanes k d d.eye there)
          (subst (λ (eyes : List EyeView). All (λ (eye : EyeView). IsPrefix eye.seen history) eyes) have.eyes seen k d.eye
          (omega (arith, there, length-map lanes (λ (lane : Lane). lane.eye))));
    })
    (written ∙ ap (λ (level : Ground). live_text level history left.texts.items) same ∙ ap (live_text lock.root.ground history) have.texts))
