-- What a pass has seen after an act that asks nothing.
use Rattle.std.proofs.Common.{◌≡◌, ◌≤◌, ◌∙◌, refl, sym, ap, ⊎_elim, ℕ, List, Option, None, length, arith}
use Rattle.turn_lock.specs.Growth.{Grows}
use Rattle.turn_lock.specs.Locks.{Acts, IsOf, LockId, PassView}
use Rattle.nav_ground.specs.declared.history.Entry.{Entry}
use Rattle.nav_live.specs.declared.book.LiveAct.{LiveAct}
use Rattle.nav_live.specs.declared.book.LiveDone.{LiveDone}
use Rattle.nav_live.specs.Roots.{RootView}
use Rattle.nav_live.specs.LaneEntries.{entries_made}
use Rattle.nav_live.specs.Lanes.{Covers, SawOthers}
use Rattle.nav_live.specs.ActRules.{Does, IsLegal, lane_of}
use Rattle.nav_version.proofs.Beginnings.{IsPrefix-self, IsPrefix-append, IsPrefix-trans}
use Rattle.nav_live.proofs.AnswerLaws.{IsPrefix-length}
use Rattle.nav_live.proofs.EntryLaws.{entries_extended}

-- an act that names no lane leaves the list
unchanged : {by : Option ℕ} (before after : List Entry) → by ≡ None → Grows (λ (e : Entry). e.lane) by before after → after ≡ before
unchanged before after none grows = ⊎_elim (λ same. same) (λ (e, named, longer). absurd (cc (none, named))) grows

pub saw_others : (lock : LockId RootView) (old new : PassView RootView Entry) (act : LiveAct) (done : LiveDone) → lane_of act ≡ None → IsOf lock new → new.number ≡ old.number
    → Acts (λ (e : Entry). e.lane) lane_of (IsLegal lock.root) (Does lock.root) old act done new → SawOthers lock old new
saw_others lock old new act done none of number acts =
    let same = unchanged acts.before new.seen none acts.grew in
    record {
      of = of;
      number = number;
      seen = IsPrefix-append old.seen new.seen acts.extends.rest (same ∙ acts.extends.longer);
      entries = ap (entries_made old.number) same ∙ entries_extended old.number old.seen acts.before acts.extends;
    }

-- so a number of entries that has all that a pass has seen after it has all that it had seen before
pub covers_before : (lock : LockId RootView) (old new : PassView RootView Entry) (k : ℕ) → SawOthers lock old new → length new.seen ≤ k → Covers old k
covers_before lock old new k saw within = let shorter = IsPrefix-length old.seen new.seen saw.seen in omega (arith, shorter, within)

pub saw_itself : (lock : LockId RootView) (pass : PassView RootView Entry) → IsOf lock pass → SawOthers lock pass pass
saw_itself lock pass of = record { of = of; number = refl; seen = IsPrefix-self pass.seen; entries = refl }

pub saw_then : (lock : LockId RootView) (a b c : PassView RootView Entry) → SawOthers lock a b → SawOthers lock b c → SawOthers lock a c
saw_then lock a b c first second = record {
  of = second.of;
  number = second.number ∙ first.number;
  seen = IsPrefix-trans a.seen b.seen c.seen first.seen second.seen;
  entries = ap (λ n. entries_made n c.seen) (sym first.number) ∙ second.entries ∙ ap (λ n. entries_made n b.seen) first.number ∙ first.entries;
}
