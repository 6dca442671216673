use Rattle.std.proofs.Common.{ℕ, ◌+◌, refl}
use Rattle.nav_ground.specs.declared.history.Entry.{Entry}
use Rattle.nav_record.specs.EntryTexts.{entry_text}
use Rattle.nav_live.proofs.Writing.{all_counted, one_counted}
use Rattle.nav_live.proofs.run.write_entries.Goals as goal

pub loop-i-preserved : goal.loop-i-preserved
loop-i-preserved c =
    one_counted c.args.entries.now c.loop-i.i c.loop-i.text.items _ (λ (entry : ℕ × Entry). entry_text entry.0 entry.1) (c.loop-i.i + 1) _ _ _ c.loop-i.invariant
    c.loop-i-test.true refl c.in_ok-write_entry.ensures.ok

pub returns : goal.returns
returns c = all_counted c.args.entries.now c.loop-i.i _ _ (λ (entry : ℕ × Entry). entry_text entry.0 entry.1) (c.loop-i.i + 1) c.loop-i.invariant c.loop-i-test.false
