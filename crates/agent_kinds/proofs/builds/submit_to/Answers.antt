use Rattle.std.proofs.Common.{◌≡◌, Option, set, ap, ◌∙◌, sym, subst}
use Rattle.std.specs.Prelude.{IfSome}
use Rattle.std.proofs.lemmas.Option.{slice_get-get_or}
use Rattle.build_queue.specs.BookState.{BookState}
use Rattle.build_queue.specs.Steps.{after_submit, submission}
use Rattle.agent_kinds.proofs.AtOne.{common_of}
use Rattle.agent_kinds.proofs.Places.{kinds_with, written}
use Rattle.agent_kinds.proofs.builds.submit_to.Goals as goal

pub returns-clause-answer : goal.returns-clause-answer
returns-clause-answer c =
    subst (λ (o : Option BookState). IfSome o (λ state. c.submit.result ≡ submission state c.args.job.tile c.args.job.shapes))
    (sym (slice_get-get_or c.args.levels.now c.args.kind c.index-levels-kind.result c.requires.there.kind_there)) c.submit.ensures.answer

pub returns-clause-state : goal.returns-clause-state
returns-clause-state c =
    ap (set c.args.levels.now c.args.kind) c.submit.ensures.stored
    ∙ written c.args.kind (λ (state : BookState). after_submit state c.args.job.tile c.args.job.shapes) c.args.levels.now c.index-levels-kind.result
    c.requires.there.kind_there

pub returns-clause-rules : goal.returns-clause-rules
returns-clause-rules c =
    kinds_with c.args.levels.now c.args.kind c.index-levels-kind.result c.submit.new.self c.requires.kinds c.requires.there.kind_there c.submit.ensures.rules
    (ap common_of c.submit.ensures.stored)
