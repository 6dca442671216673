use Rattle.std.proofs.Common.{length, ap, ◌∙◌}
use Rattle.nav_ground.specs.History.{alive_after}
use Rattle.build_queue.specs.BookState.{BookState}
use Rattle.agent_kinds.proofs.AtOne.{CommonState, told_by_all}
use Rattle.agent_kinds.proofs.levels.alive_in.Goals as goal

pub returns : goal.returns
returns c =
    told_by_all (λ (common : CommonState). alive_after common.history (length common.history)) c.in_ok-numbers.numbers c.args.levels.now 0
    c.index-levels-0.result c.requires.kinds c.requires.kinds.some
    (c.in_ok-numbers.ensures ∙ ap (λ (state : BookState). alive_after state.history (length state.history)) c.index-levels-0.is)
