use Rattle.std.proofs.Common.{ℕ, ◌++◌, codes, arith}
use Rattle.nav_gen.proofs.Gathered.{piece_more}
use Rattle.nav_gen.proofs.RoundTexts.{builds_written}
use Rattle.nav_gen.proofs.script.push_builds.Goals as goal

pub loop-preserved : goal.loop-preserved
loop-preserved c =
    piece_more (λ (turn : ℕ). codes "claim 0\nsubmit 0\n") c.loop.counter (c.args.out.now.items ++ codes "aim\n") _ _ c.loop.invariant
    c.in_ok-extend_from_slice-2.ensures.items

pub returns : goal.returns
returns c =
    builds_written _ _ _ _ _ c.loop.invariant (omega (arith, c.loop.auto.counter-end)) (omega (arith, c.loop-test.false)) c.extend_from_slice-2.ensures.items
