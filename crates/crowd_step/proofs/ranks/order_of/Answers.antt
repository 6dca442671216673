use Rattle.std.proofs.Common.{ap, ◌∙◌}
use Rattle.std.specs.Prelude.{map}
use Rattle.crowd_moves.specs.declared.keyed.KeyedPlace.{KeyedPlace}
use Rattle.crowd_step.proofs.OrderLaws.{if_ok_on, named_sorted}
use Rattle.crowd_step.proofs.ranks.order_of.Goals as goal

pub returns : goal.returns
returns c =
    if_ok_on c.places_of.result
    (λ places is. named_sorted _ c.in_ok-entries.entries.items c.order_by_key.new.entries.items places.items c.in_ok-entries.ensures c.order_by_key.ensures.all
    (is ∙ ap (map (λ (entry : KeyedPlace). entry.place)) c.as_slice.ensures.value)) c.places_of.ensures
