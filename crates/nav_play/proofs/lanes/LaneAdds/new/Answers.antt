use Rattle.std.proofs.Common.{ℕ, List, [], ◌∷◌, ◌++◌, ap, ◌∙◌, replicate, arith}
use Rattle.nav_play.proofs.Lists.{one_more}
use Rattle.nav_play.proofs.lanes.LaneAdds.new.Goals as goal

pub loop-preserved : goal.loop-preserved
loop-preserved c = c.in_ok-push.ensures.items ∙ (λ i. c.loop.invariant i ++ c.new.ensures i ∷ []) ∙ one_more c.loop.counter []

pub returns : goal.returns
returns c = c.loop.invariant ∙ ap (λ (n : ℕ). replicate {A = List ℕ} n []) (omega (arith, c.loop-test.false, c.loop.auto.counter-end))
