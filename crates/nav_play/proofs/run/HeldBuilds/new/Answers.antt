use Rattle.std.proofs.Common.{ℕ, List, [], ◌∷◌, ◌++◌, ap, ◌∙◌, Option, None, replicate, arith}
use Rattle.nav_book.specs.declared.book.TileResult.{TileResult}
use Rattle.nav_play.proofs.Lists.{one_more}
use Rattle.nav_play.proofs.run.HeldBuilds.new.Goals as goal

pub loop-preserved : goal.loop-preserved
loop-preserved c =
    c.in_ok-push.ensures.items ∙ ap (λ (xs : List (Option TileResult)). xs ++ None ∷ []) c.loop.invariant ∙ one_more c.loop.counter None

pub returns : goal.returns
returns c = c.loop.invariant ∙ ap (λ (n : ℕ). replicate {A = Option TileResult} n None) (omega (arith, c.loop-test.false, c.loop.auto.counter-end))
