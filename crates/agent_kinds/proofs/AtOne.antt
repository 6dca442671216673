-- What kinds have in common, and when levels are kinds.
use Rattle.std.proofs.Common.{◌≡◌, ℕ, ◌<◌, List, length, get_or, ap, ◌∙◌, sym, arith}
use Rattle.std.specs.Prelude.{All}
use Rattle.std.specs.List.{Contains}
use Rattle.std.proofs.lemmas.List.Elements.{Contains-get_or}
use Rattle.nav_ground.specs.declared.field.Field.{Field}
use Rattle.nav_ground.specs.declared.history.Entry.{Entry}
use Rattle.build_queue.specs.BookState.{BookState, IsBook}
use Rattle.agent_kinds.specs.Kinds.{AreAtOne, AreKinds}

-- what a level has in common with the other kinds
pub record CommonState : Type 0 where
  pub field : Field
  pub limit : ℕ
  pub history : List Entry
  pub target : ℕ
  pub published : ℕ

abbrev pub common_of : BookState → CommonState
common_of state = record {
  field = state.ground.field;
  limit = state.ground.setting.limit;
  history = state.history;
  target = state.target;
  published = state.published;
}

-- two that are at one have the same in common, and the other way round
pub same_common : (a b : BookState) → AreAtOne a b → common_of a ≡ common_of b
same_common a b one = λ i. record {
  field = one.field i;
  limit = one.limit i;
  history = one.history i;
  target = one.target i;
  published = one.published i;
}

pub from_common : (a b : BookState) → common_of a ≡ common_of b → AreAtOne a b
from_common a b same = record {
  field = ap (λ (c : CommonState). c.field) same;
  limit = ap (λ (c : CommonState). c.limit) same;
  history = ap (λ (c : CommonState). c.history) same;
  target = ap (λ (c : CommonState). c.target) same;
  published = ap (λ (c : CommonState). c.published) same;
}

-- two places of kinds have the same in common
pub two_places : (states : List BookState) (j k : ℕ) (d e : BookState) → AreKinds states → j < length states → k < length states
    → common_of (get_or states j d) ≡ common_of (get_or states k e)
two_places states j k d e kinds first second =
    same_common (get_or states j d) (get_or states k e)
    (kinds.at_one (get_or states j d) (get_or states k e) (Contains-get_or states j d first) (Contains-get_or states k e second))

-- levels are at one where any two places have the same in common
pub by_places : (states : List BookState)
    → ((j k : ℕ) (d e : BookState) → j < length states → k < length states → common_of (get_or states j d) ≡ common_of (get_or states k e))
    → (a b : BookState) → Contains states a → Contains states b → AreAtOne a b
by_places states same a b one other =
    let at : common_of (get_or states one.0 a) ≡ common_of (get_or states other.0 b) = same one.0 other.0 a b one.1 other.1 in
    from_common a b (ap common_of (sym one.2) ∙ at ∙ ap common_of other.2)

-- kinds that all take one step are kinds, where what they have in common after it depends on what they had in common
pub kinds_after : (step : CommonState → CommonState) (before after : List BookState) → AreKinds before → length after ≡ length before → All IsBook after
    → ((k : ℕ) (d : BookState) → k < length before → common_of (get_or after k d) ≡ step (common_of (get_or before k d))) → AreKinds after
kinds_after step before after kinds each rules same = record {
  some = omega (arith, each, kinds.some);
  few = omega (arith, each, kinds.few);
  each = rules;
  at_one = by_places after (λ j k d e first second.
      let there : j < length before = omega (arith, first, each) in
      let other : k < length before = omega (arith, second, each) in
      same j d there ∙ ap step (two_places before j k d e kinds there other) ∙ sym (same k e other));
}

-- what is told by what a level has in common is told by all
pub told_by_all : {X : Type 0} (told : CommonState → X) (answer : X) (states : List BookState) (i : ℕ) (d : BookState) → AreKinds states
    → i < length states → answer ≡ told (common_of (get_or states i d)) → All (λ (state : BookState). answer ≡ told (common_of state)) states
told_by_all told answer states i d kinds there is = λ k e other. is ∙ ap told (two_places states i k d e kinds there other)
