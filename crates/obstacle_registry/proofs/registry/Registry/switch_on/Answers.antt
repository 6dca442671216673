use Rattle.std.proofs.Common.{◌≡◌, ℕ, List, ◌∙◌, ap, sym, subst, false, set}
use Rattle.build_queue.specs.BookState.{BookState, IsBook}
use Rattle.obstacle_registry.specs.declared.row.Registered.{Registered}
use Rattle.obstacle_registry.specs.Changes.{next_number, put_up, switched_on}
use Rattle.obstacle_registry.specs.Registry.{IsOffAt, IsRegistry, RegistryState, is_crowded}
use Rattle.obstacle_registry.specs.Representation.{state_of}
use Rattle.obstacle_registry.proofs.Switching.{kept_on, set_is}
use Rattle.obstacle_registry.proofs.registry.Registry.switch_on.Goals as goal

pub invariant_of-self : goal.invariant_of-self
invariant_of-self c =
    let state : RegistryState = state_of c.self.inside in
    let off : IsOffAt state.rows c.args.place c.args.row.id =
    subst (λ (s : RegistryState). IsOffAt s.rows c.args.place c.args.row.id) (sym c.self.view_is) c.requires.there in
    let few : is_crowded state.book ≡ false = subst (λ (s : RegistryState). is_crowded s.book ≡ false) (sym c.self.view_is) c.requires.few in
    let kept = kept_on state c.args.place c.args.row c.self.invariant off c.requires.shape few
    (subst IsBook c.put_up-number.ensures.state c.put_up-number.ensures.rules) in
    subst (λ (b : BookState). IsRegistry (record state { book = b; rows = set state.rows c.args.place (record c.args.row { number = c.put_up-number.result }) }))
    (sym c.put_up-number.ensures.state)
    (subst (λ (n : ℕ). IsRegistry (record state { book = put_up c.args.row.shape state.book; rows = set state.rows c.args.place (record c.args.row { number = n }) }))
    (sym c.put_up-number.ensures.number) kept)

pub returns-clause-rules : goal.returns-clause-rules
returns-clause-rules c = invariant_of-self c

pub returns-clause-state : goal.returns-clause-state
returns-clause-state c =
    let state : RegistryState = state_of c.self.inside in
    let off : IsOffAt state.rows c.args.place c.args.row.id =
    subst (λ (s : RegistryState). IsOffAt s.rows c.args.place c.args.row.id) (sym c.self.view_is) c.requires.there in
    let rows = set_is state c.args.place (record c.args.row { number = next_number state.book }) off.row c.self.invariant off.there off.its in
    (λ i. record state {
      book = c.put_up-number.ensures.state i;
      rows = set state.rows c.args.place (record c.args.row { number = c.put_up-number.ensures.number i });
    })
    ∙ ap (λ (list : List Registered). record state { book = put_up c.args.row.shape state.book; rows = list }) rows
    ∙ ap (λ (s : RegistryState). switched_on s c.args.row) c.self.view_is
