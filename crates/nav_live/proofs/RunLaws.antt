-- How a book, its lock and its actors come to the record of a run.
use Rattle.std.proofs.Common.{◌≡◌, ◌∙◌, refl, sym, ap, subst, ℕ, ◌+◌, List, [], get_or, replicate, All, Any}
use Rattle.std.specs.Prelude.{Result, Ok, Err, IfOk, OnOk}
use Rattle.std.proofs.lemmas.List.Elements.{All-map, All-replicate}
use Rattle.std.proofs.lemmas.Option.{slice_get-get_or}
use mathlib.Core.List.{IsPrefix}
use Rattle.turn_lock.specs.Growth.{Extends}
use Rattle.turn_lock.specs.Locks.{LockId, PassView, AreFresh}
use Rattle.nav_ground.specs.declared.history.Entry.{Entry}
use Rattle.nav_ground.specs.declared.history.Ground.{Ground}
use Rattle.nav_script.specs.declared.script.Script.{Script}
use Rattle.nav_version.specs.Pairs.{EyeView, eye_of}
use Rattle.nav_book.specs.Views.{BookView}
use Rattle.nav_live.specs.declared.lane.Lane.{Lane}
use Rattle.nav_live.specs.ActRules.{IsLegal}
use Rattle.nav_live.specs.Roots.{root_of}
use Rattle.nav_live.specs.Roots.{RootView}
use Rattle.nav_live.specs.declared.actors.ActorsLeft.{ActorsLeft}
use Rattle.nav_live.specs.MadeActors.{CanMakeActors, IsEyeOf}
use Rattle.nav_live.specs.Leavings.{HaveLeft}
use Rattle.nav_live.specs.Joined.{IsClosed}
use Rattle.nav_live.specs.LiveRecord.{LiveRecord, live_text}
use Rattle.nav_live.proofs.JoinLaws.{left_record}

-- the actors of a script can be made of the passes of a new lock round a book, and of the eyes that came with the book
pub can_make_actors : (lock : LockId RootView) (script : Script) (passes : List (PassView RootView Entry)) (eyes : List EyeView) (book : BookView) (level : Ground)
    → AreFresh lock passes → lock.passes ≡ script.lanes + script.workers → lock.root ≡ root_of book → book.state.ground ≡ level
    → eyes ≡ replicate script.lanes (eye_of book.pair level []) → CanMakeActors lock script passes eyes
can_make_actors lock script passes eyes book level fresh count root ground are = record {
  fresh = fresh;
  count = count;
  each = subst (All (IsEyeOf lock)) (sym are)
      (All-replicate (IsEyeOf lock) script.lanes (eye_of book.pair level []) (record {
        pair = sym (ap (λ (r : RootView). r.pair) root);
        level = sym ground ∙ sym (ap (λ (r : RootView). r.ground) root);
      }));
}

-- what closing a lock says of the book that it gives back
pub is_closed : (lock : LockId RootView) (passes : List (PassView RootView Entry)) (history : List Entry) → IsLegal lock.root history
    → All (λ (pass : PassView RootView Entry). Extends (λ (entry : Entry). entry.lane) pass.number pass.seen history) passes
    → All (λ (entry : Entry). Any (λ (pass : PassView RootView Entry). pass.number ≡ entry.lane) passes) history → IsClosed lock passes history
is_closed lock passes history legal extends made = record { legal = legal; extends = extends; made = made }

-- what a run that ended well has left
pub has_left : {A E : Type 0} {P : Type 0} (end : Result A E) {done : A} → end ≡ Ok done → OnOk end P → P
has_left {A} {E} {P} end is left = subst (λ (e : Result A E). OnOk e P) is left

-- the eyes that the lanes leave are of the pair of the closed lock's book
pub pairs_left : (lock : LockId RootView) (script : Script) (left : ActorsLeft) (book : BookView) (eyes : List EyeView) → HaveLeft lock script left
    → root_of book ≡ lock.root → eyes ≡ left.eyes.items → All (λ (eye : EyeView). eye.pair ≡ book.pair) eyes
pairs_left lock script left book eyes have root are =
    subst (All (λ (eye : EyeView). eye.pair ≡ book.pair)) (sym (are ∙ have.eyes))
    (All-map (λ (eye : EyeView). eye.pair ≡ book.pair) (λ (lane : Lane). lane.eye) have.lanes
    (λ k d there.
    (have.ended.each k (get_or have.lanes k d) (slice_get-get_or have.lanes k d there)).keeps.own.pair ∙ sym (ap (λ (r : RootView). r.pair) root)))

-- a text of what the lanes leave, written once their eyes have seen the whole history, is one of the run
pub record_of : {T E : Type 0} (items : T → List ℕ) (result : Result T E) (lock : LockId RootView) (script : Script) (left : ActorsLeft) (book : BookView)
    (eyes : List EyeView) (texts : List (List ℕ)) → HaveLeft lock script left → IsClosed lock left.passes.items book.state.history
    → root_of book ≡ lock.root → eyes ≡ left.eyes.items → texts ≡ left.texts.items
    → IfOk result (λ text. items text ≡ live_text book.state.ground book.state.history texts)
    → OnOk result (All (λ (eye : EyeView). IsPrefix eye.seen book.state.history) eyes)
    → IfOk result (λ text. LiveRecord lock.root.ground script (items text))
record_of items (Ok text) lock script left book eyes texts have closed root seers said written seen =
    left_record lock script left lock.root.ground book.state.history (items text) have closed
    (subst (All (λ (eye : EyeView). IsPrefix eye.seen book.state.history)) seers seen) refl
    (written ∙ ap (live_text book.state.ground book.state.history) said
    ∙ ap (λ (ground : Ground). live_text ground book.state.history left.texts.items) (ap (λ (r : RootView). r.ground) root))
record_of items (Err refused) lock script left book eyes texts have closed root seers said written seen = tt
