use Rattle.std.proofs.Common.{◌≡◌, ℕ, ◌++◌, codes}
use Rattle.std.specs.List.{flat_map, range_with_len}
use Rattle.nav_gen.proofs.script.push_builds.Given as goal

-- as many pairs of lines as turns stand behind the first line
abbrev pub invariant-loop : goal.invariant-loop
invariant-loop l =
    l.out.items ≡ l.fn.out.items ++ codes "aim\n" ++ flat_map (λ (turn : ℕ). codes "claim 0\nsubmit 0\n") (range_with_len 0 l.counter)
