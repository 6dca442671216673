use Rattle.std.proofs.Common.{rules}
use Rattle.std.proofs.lemmas.Fn.{always_returns_same}
use Rattle.crowd_moves.proofs.KeyedLaws.{comes_before, entries_order, keys_rise}
use Rattle.crowd_moves.proofs.keyed.order_by_key.Goals as goal

pub returns-clause-ties : goal.returns-clause-ties
returns-clause-ties c = c.sort_unstable_by.ensures.sorted comes_before entries_order (always_returns_same _ _ _ (λ a r q k. search rules))

pub returns-clause-order : goal.returns-clause-order
returns-clause-order c =
    keys_rise _ (c.sort_unstable_by.ensures.sorted comes_before entries_order (always_returns_same _ _ _ (λ a r q k. search rules)))
