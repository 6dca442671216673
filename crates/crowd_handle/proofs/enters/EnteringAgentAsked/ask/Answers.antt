use Rattle.std.proofs.Common.{◌∙◌}
use Rattle.std.proofs.lemmas.List.Elements.{All-same}
use Rattle.crowd_moves.specs.Pairs.{HasSizes}
use Rattle.crowd_handle.proofs.Asking.{all_sized}
use Rattle.crowd_handle.proofs.enters.EnteringAgentAsked.ask.Goals as goal

pub has_room-has_room-requires-clause-agents : goal.has_room-has_room-requires-clause-agents
has_room-has_room-requires-clause-agents c =
    All-same HasSizes c.as_slice.result.now _ (c.as_slice.ensures.value ∙ c.in_ok-agents.ensures) (all_sized _ c.requires.question.others.each)
