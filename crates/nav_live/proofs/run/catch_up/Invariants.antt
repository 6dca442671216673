use Rattle.nav_book.specs.Results.{published_entries}
use Rattle.nav_live.proofs.Catching.{HaveSeen}
use Rattle.nav_live.proofs.run.catch_up.Given as goal

-- the eyes so far are through
abbrev pub invariant-loop-eye : goal.invariant-loop-eye
invariant-loop-eye g l = HaveSeen (published_entries l.book.state) l.eye-index l.fn.eyes l.eyes
