use Rattle.std.proofs.Common.{◌≡◌, [], replicate}
use Rattle.nav_live.proofs.start.without_lines.Given as goal

-- as many lanes as turns, all without lines
abbrev pub invariant-loop : goal.invariant-loop
invariant-loop l = l.lists.items ≡ replicate l.counter []
