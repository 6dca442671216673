use Rattle.std.proofs.Common.{ap, ◌∙◌}
use Rattle.build_queue.specs.BookState.{BookState}
use Rattle.agent_kinds.proofs.AtOne.{CommonState, told_by_all}
use Rattle.agent_kinds.proofs.levels.length_shown.Goals as goal

pub returns : goal.returns
returns c =
    told_by_all (λ (common : CommonState). common.published) c.published.result c.args.levels.now 0 c.index-levels-0.result c.requires.kinds c.requires.kinds.some
    (c.published.ensures.value ∙ ap (λ (state : BookState). state.published) c.index-levels-0.is)
