use Rattle.std.proofs.Common.{◌≡◌, ◌+◌, ◌++◌, drop, ℕ}
use Rattle.std.specs.List.{enumerate_from, flat_map}
use Rattle.nav_ground.specs.declared.history.Entry.{Entry}
use Rattle.nav_record.specs.EntryTexts.{entry_text}
use Rattle.nav_play.specs.Scenes.{StandsInFront, entries_text}
use Rattle.nav_play.proofs.play_scene.append_entries.Given as goal

-- what is written so far and the lines of the entries left are the whole, and what stood there stands in front
abbrev pub invariant-loop-place : goal.invariant-loop-place
invariant-loop-place l =
    (l.out.items ++ flat_map (λ (entry : ℕ × Entry). entry_text entry.0 entry.1) (enumerate_from (l.place + 1) (drop l.place l.entries)) ≡ l.fn.out.items ++ entries_text l.entries)
    × StandsInFront l.fn.out.items l.out.items
