use Rattle.std.proofs.Common.{ℕ, ◌≤◌, ◌∙◌}
use Rattle.std.proofs.lemmas.List.Elements.{All-same}
use Rattle.crowd_moves.specs.Pairs.{HasSizes}
use Rattle.crowd_handle.proofs.Asking.{all_full, all_sized}
use Rattle.crowd_handle.proofs.slimming.WaitingAgentsAsked.ask.Goals as goal

pub slim-requires-clause-sizes : goal.slim-requires-clause-sizes
slim-requires-clause-sizes c =
    All-same HasSizes c.as_mut_slice.result.now _ (c.as_mut_slice.ensures.value ∙ c.in_ok-agents.ensures) (all_sized _ c.requires.question.crowd.each)

pub slim-requires-clause-full_sizes : goal.slim-requires-clause-full_sizes
slim-requires-clause-full_sizes c =
    All-same (λ (n : ℕ). n ≤ 8191) c.as_slice.result.now _ (c.as_slice.ensures.value ∙ c.in_ok-full.ensures) (all_full _ c.requires.question.crowd.each)
