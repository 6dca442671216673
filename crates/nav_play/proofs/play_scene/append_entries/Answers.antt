use Rattle.std.proofs.Common.{ℕ, ◌+◌, refl}
use Rattle.nav_ground.specs.declared.history.Entry.{Entry}
use Rattle.nav_record.specs.EntryTexts.{entry_text}
use Rattle.nav_play.proofs.Writing.{all_counted, one_counted, stands_further, stands_same}
use Rattle.nav_play.proofs.play_scene.append_entries.Goals as goal

pub loop-place-init : goal.loop-place-init
loop-place-init c = (refl, stands_same _ _ refl)

pub loop-place-preserved : goal.loop-place-preserved
loop-place-preserved c = (
  one_counted c.args.entries.now c.loop-place.place c.loop-place.out.items _ (λ (entry : ℕ × Entry). entry_text entry.0 entry.1) (c.loop-place.place + 1) _ _ _
      c.loop-place.invariant.0 c.loop-place-test.true refl c.in_ok-write_entry.ensures.ok,
  stands_further _ _ _ c.loop-place.invariant.1 (_, c.in_ok-write_entry.ensures.ok),
)

pub returns-clause-ok : goal.returns-clause-ok
returns-clause-ok c =
    all_counted c.args.entries.now c.loop-place.place _ _ (λ (entry : ℕ × Entry). entry_text entry.0 entry.1) (c.loop-place.place + 1) c.loop-place.invariant.0
    c.loop-place-test.false

pub returns-in_err-write_entry-clause-front : goal.returns-in_err-write_entry-clause-front
returns-in_err-write_entry-clause-front c = stands_further _ _ _ c.loop-place.invariant.1 (stands_same _ _ c.in_err-write_entry.ensures.err)

pub returns-clause-front : goal.returns-clause-front
returns-clause-front c = c.loop-place.invariant.1
