use Rattle.std.proofs.Common.{ℕ, List, length, Option, None, get_or, ap, ◌∙◌, sym, subst, arith}
use Rattle.build_queue.specs.BookState.{BookState}
use Rattle.agent_kinds.specs.Kinds.{AreKinds}
use Rattle.agent_kinds.specs.KindSteps.{publication_by}
use Rattle.agent_kinds.proofs.AtOne.{told_by_all}
use Rattle.agent_kinds.proofs.Commons.{lengths_told}
use Rattle.agent_kinds.proofs.publish.publication.Goals as goal

pub returns-in-None-clause-answer : goal.returns-in-None-clause-answer
returns-in-None-clause-answer c = λ k d there.
    told_by_all lengths_told c.lengths.result c.first_awaited.new.levels 0 c.index-levels-0.result
    (subst AreKinds (sym c.first_awaited.ensures.same) c.requires.kinds)
    (omega (arith, ap (λ (list : List BookState). length list) c.first_awaited.ensures.same, c.requires.kinds.some))
    c.lengths.ensures k d
    (omega (arith, ap (λ (list : List BookState). length list) c.first_awaited.ensures.same, there))
    ∙ ap (λ (list : List BookState). publication_by None (get_or list k d)) c.first_awaited.ensures.same
    ∙ ap (λ (o : Option (ℕ × ℕ)). publication_by o (get_or c.args.levels.now k d)) (sym c.in-None.is ∙ c.first_awaited.ensures.found)
