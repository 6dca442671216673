-- Kinds that are shown, or begun again.
use Rattle.std.proofs.Common.{◌≡◌, ◌<◌, List, length, get_or, map, arith}
use Rattle.build_queue.specs.BookState.{BookState}
use Rattle.build_queue.specs.StepContracts.{IsRenewStep, IsShowStep}
use Rattle.build_queue.specs.Steps.{after_publish}
use Rattle.agent_kinds.specs.Kinds.{AreKinds}
use Rattle.agent_kinds.proofs.AtOne.{by_places, kinds_after, two_places}
use Rattle.agent_kinds.proofs.Commons.{common_published, published_common, renewed_common}
use Rattle.agent_kinds.proofs.Turns.{HaveAllTurned, mapped}

module _ (before now : List BookState) (kinds : AreKinds before) where
  pub shown_map : HaveAllTurned IsShowStep before now → now ≡ map after_publish before
  shown_map have = mapped after_publish before now (record {
    as_many = have.as_many;
    each = λ k d there. record { state = (have.each k d there).state; rules = (have.each k d there).rules };
  })

  pub shown_kinds : HaveAllTurned IsShowStep before now → AreKinds now
  shown_kinds have =
      kinds_after common_published before now kinds have.as_many (λ k d there. (have.each k d (omega (arith, there, have.as_many))).rules)
      (λ k d there. published_common (get_or before k d) (get_or now k d) (have.each k d there).state (have.each k d there).shown)

  pub renewed_kinds : HaveAllTurned IsRenewStep before now → AreKinds now
  renewed_kinds have = record {
    some = omega (arith, have.as_many, kinds.some);
    few = omega (arith, have.as_many, kinds.few);
    each = λ k d there. (have.each k d (omega (arith, there, have.as_many))).rules;
    at_one = by_places now (λ j k d e first second.
        let one : j < length before = omega (arith, first, have.as_many) in
        let other : k < length before = omega (arith, second, have.as_many) in
        renewed_common (get_or before j d) (get_or before k e) (get_or now j d) (get_or now k e) (two_places before j k d e kinds one other)
        (have.each j d one) (have.each k e other));
  }
