use Rattle.std.proofs.Common.{◌≡◌, None, map, ap, ◌∙◌, sym}
use Rattle.std.proofs.lemmas.List.Elements.{All-same}
use Rattle.build_queue.specs.BookState.{BookState, least_awaited}
use Rattle.build_queue.specs.Steps.{after_publish}
use Rattle.agent_kinds.proofs.Published.{new_to_all, unchanged_publish}
use Rattle.agent_kinds.proofs.publish.publish_kinds.Goals as goal

pub publish_all-requires-clause-built : goal.publish_all-requires-clause-built
publish_all-requires-clause-built c =
    All-same (λ (state : BookState). least_awaited state ≡ None) c.publication-answer.new.levels c.args.levels.now c.publication-answer.ensures.same
    (new_to_all c.args.levels.now c.publication-answer.result c.in-New.k c.requires.kinds c.publication-answer.ensures.answer c.in-New.is).none

pub returns-in_ok-publish_all-in-New-clause-state : goal.returns-in_ok-publish_all-in-New-clause-state
returns-in_ok-publish_all-in-New-clause-state c =
    c.in_ok-publish_all-in-New.ensures.state ∙ ap (map after_publish) c.publication-answer.ensures.same
    ∙ sym (new_to_all c.args.levels.now c.publication-answer.result c.in-New.k c.requires.kinds c.publication-answer.ensures.answer c.in-New.is).all

pub returns-in_default-clause-state : goal.returns-in_default-clause-state
returns-in_default-clause-state c =
    c.publication-answer.ensures.same
    ∙ sym (unchanged_publish c.args.levels.now c.publication-answer.result c.publication-answer.ensures.answer c.in_default.not-New)
