use Rattle.std.proofs.Common.{◌≡◌, ◌++◌, ◌*◌}
use Rattle.std.specs.List.{flat_map, range_with_len}
use Rattle.nav_gen.specs.Draws.{state_after}
use Rattle.nav_gen.proofs.RoundTexts.{round_at}
use Rattle.nav_gen.proofs.script.push_rounds.Given as goal

-- the lines of the rounds so far stand behind what was there, and each round had its seven draws
abbrev pub invariant-loop-before : goal.invariant-loop-before
invariant-loop-before l =
    (l.out.items ≡ l.fn.out.items ++ flat_map (round_at l.fn.draws l.size) (range_with_len 0 l.before)) × (l.draws ≡ state_after l.fn.draws (7 * l.before))
