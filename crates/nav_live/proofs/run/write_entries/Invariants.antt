use Rattle.std.proofs.Common.{◌≡◌, ◌+◌, ◌++◌, drop, ℕ}
use Rattle.std.specs.List.{enumerate_from, flat_map}
use Rattle.nav_ground.specs.declared.history.Entry.{Entry}
use Rattle.nav_record.specs.EntryTexts.{entry_text}
use Rattle.nav_live.specs.LiveRecord.{entries_text}
use Rattle.nav_live.proofs.run.write_entries.Given as goal

-- what is written so far and the lines of the entries left are the whole
abbrev pub invariant-loop-i : goal.invariant-loop-i
invariant-loop-i l =
    l.text.items ++ flat_map (λ (entry : ℕ × Entry). entry_text entry.0 entry.1) (enumerate_from (l.i + 1) (drop l.i l.entries)) ≡ l.fn.text.items ++ entries_text l.entries
