use Rattle.std.proofs.Common.{ℕ, List, [], ◌∷◌, ◌++◌, ap, ◌∙◌, replicate, arith}
use Rattle.std.proofs.lemmas.List.{replicate_more}
use Rattle.nav_script.specs.declared.script.Line.{Line}
use Rattle.nav_live.proofs.start.without_lines.Goals as goal

pub loop-preserved : goal.loop-preserved
loop-preserved c = c.in_ok-push.ensures.items ∙ (λ i. c.loop.invariant i ++ c.new.ensures i ∷ []) ∙ replicate_more c.loop.counter []

pub returns : goal.returns
returns c = c.loop.invariant ∙ ap (λ (n : ℕ). replicate {A = List Line} n []) (omega (arith, c.loop-test.false, c.loop.auto.counter-end))
