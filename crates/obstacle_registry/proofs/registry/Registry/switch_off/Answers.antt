use Rattle.std.proofs.Common.{◌≡◌, ◌<◌, ◌∙◌, length, ap, sym, subst, refl, rules, Some, set}
use Rattle.std.specs.Prelude.{slice_get}
use Rattle.std.proofs.lemmas.Option.{slice_get_within}
use Rattle.build_queue.specs.BookState.{BookState, IsBook}
use Rattle.obstacle_registry.specs.Changes.{switched_off}
use Rattle.obstacle_registry.specs.Registry.{IsRegistry, RegistryState}
use Rattle.obstacle_registry.specs.Representation.{state_of}
use Rattle.obstacle_registry.proofs.Switching.{alive_there, kept_off, set_is, there_set}
use Rattle.obstacle_registry.proofs.registry.Registry.switch_off.Goals as goal

pub take_down-requires-clause-there : goal.take_down-requires-clause-there
take_down-requires-clause-there c =
    alive_there (state_of c.self.inside) c.args.place c.args.row c.self.invariant
    (subst (λ (s : RegistryState). slice_get s.rows c.args.place ≡ Some c.args.row) (sym c.self.view_is) c.requires.there) c.requires.on

pub index_mut-requires : goal.index_mut-requires
index_mut-requires c =
    let within : c.args.place < length c.self.inside.rows.items = slice_get_within c.self.inside.rows.items c.args.place c.args.row
    (subst (λ (s : RegistryState). slice_get s.rows c.args.place ≡ Some c.args.row) (sym c.self.view_is) c.requires.there) in
    search rules

pub invariant_of-self : goal.invariant_of-self
invariant_of-self c =
    let state : RegistryState = state_of c.self.inside in
    let there : slice_get state.rows c.args.place ≡ Some c.args.row =
    subst (λ (s : RegistryState). slice_get s.rows c.args.place ≡ Some c.args.row) (sym c.self.view_is) c.requires.there in
    subst (λ (b : BookState). IsRegistry (record state { book = b; rows = set state.rows c.args.place (record c.args.row { number = 0 }) }))
    (sym c.take_down.ensures.state)
    (kept_off state c.args.place c.args.row c.self.invariant there c.requires.on (subst IsBook c.take_down.ensures.state c.take_down.ensures.rules))

pub returns-clause-rules : goal.returns-clause-rules
returns-clause-rules c = invariant_of-self c

pub returns-clause-state : goal.returns-clause-state
returns-clause-state c =
    let state : RegistryState = state_of c.self.inside in
    let there : slice_get state.rows c.args.place ≡ Some c.args.row =
    subst (λ (s : RegistryState). slice_get s.rows c.args.place ≡ Some c.args.row) (sym c.self.view_is) c.requires.there in
    let rows = set_is state c.args.place (record c.args.row { number = 0 }) c.args.row c.self.invariant there refl in
    (λ i. record state { book = c.take_down.ensures.state i; rows = rows i }) ∙ ap (λ (s : RegistryState). switched_off s c.args.row) c.self.view_is

pub returns-clause-off : goal.returns-clause-off
returns-clause-off c = record {
  row = record c.args.row { number = 0 };
  there = there_set c.self.inside.rows.items c.args.place (record c.args.row { number = 0 }) c.args.row
      (subst (λ (s : RegistryState). slice_get s.rows c.args.place ≡ Some c.args.row) (sym c.self.view_is) c.requires.there);
  its = refl;
  off = refl;
}
