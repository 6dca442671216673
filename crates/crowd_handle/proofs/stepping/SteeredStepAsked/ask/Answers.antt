use Rattle.std.proofs.Common.{◌∙◌}
use Rattle.std.proofs.lemmas.List.Elements.{All-same}
use Rattle.crowd_moves.specs.Pairs.{HasSizes}
use Rattle.crowd_handle.proofs.Asking.{all_sized}
use Rattle.crowd_handle.proofs.stepping.SteeredStepAsked.ask.Goals as goal

pub crowd_step-requires-clause-sizes : goal.crowd_step-requires-clause-sizes
crowd_step-requires-clause-sizes c =
    All-same HasSizes c.as_mut_slice.result.now _ (c.as_mut_slice.ensures.value ∙ c.in_ok-agents.ensures) (all_sized _ c.requires.question.crowd.each)
