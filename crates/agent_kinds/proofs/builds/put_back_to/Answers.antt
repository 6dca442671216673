use Rattle.std.proofs.Common.{set, ap, ◌∙◌}
use Rattle.build_queue.specs.BookState.{BookState}
use Rattle.build_queue.specs.Steps.{after_put_back}
use Rattle.agent_kinds.proofs.AtOne.{common_of}
use Rattle.agent_kinds.proofs.Places.{kinds_with, written}
use Rattle.agent_kinds.proofs.builds.put_back_to.Goals as goal

pub returns-clause-state : goal.returns-clause-state
returns-clause-state c =
    ap (set c.args.levels.now c.args.kind) c.put_back.ensures.back
    ∙ written c.args.kind (λ (state : BookState). after_put_back state c.args.job.tile) c.args.levels.now c.index-levels-kind.result
    c.requires.there.kind_there

pub returns-clause-rules : goal.returns-clause-rules
returns-clause-rules c =
    kinds_with c.args.levels.now c.args.kind c.index-levels-kind.result c.put_back.new.self c.requires.kinds c.requires.there.kind_there
    c.put_back.ensures.rules (ap common_of c.put_back.ensures.back)
