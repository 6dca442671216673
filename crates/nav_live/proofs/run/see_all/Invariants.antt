use mathlib.Core.List.{IsPrefix}
use Rattle.nav_book.specs.Results.{published_entries}
use Rattle.nav_live.proofs.run.see_all.Given as goal

-- what the eye sees goes on from what it saw before, and from what is published
abbrev pub invariant-loop : goal.invariant-loop
invariant-loop g l = record {
  own : IsPrefix l.fn.eye.seen l.eye.seen;
  told : IsPrefix (published_entries l.fn.book.state) l.eye.seen;
}
