use Rattle.std.proofs.Common.{◌≡◌}
use Rattle.tests_paths.proofs.books.settled.Given as goal

-- the pair stays
abbrev pub invariant-loop : goal.invariant-loop
invariant-loop g l = l.book.pair ≡ l.fn.book.pair
