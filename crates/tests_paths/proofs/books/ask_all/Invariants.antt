use Rattle.std.proofs.Common.{◌≡◌}
use Rattle.tests_paths.proofs.books.ask_all.Given as goal

-- the ground stays
abbrev pub invariant-loop-asked : goal.invariant-loop-asked
invariant-loop-asked l = l.book.state.ground ≡ l.fn.book.state.ground
