use Rattle.std.proofs.Common.{◌≡◌, ◌++◌, take}
use Rattle.nav_version.proofs.entries.PublishedHistory.add.Given as goal

-- the entries so far were added
abbrev pub invariant-loop-entry : goal.invariant-loop-entry
invariant-loop-entry l = (l.self.pair ≡ l.fn.self.pair) × (l.self.entries ≡ l.fn.self.entries ++ take l.entry-index l.entries)
