use Rattle.std.proofs.Common.{List, ◌∙◌, ap, sym, subst}
use Rattle.obstacle_registry.specs.declared.row.Registered.{Registered}
use Rattle.obstacle_registry.specs.Changes.{dropped}
use Rattle.obstacle_registry.specs.Registry.{IsOffAt, IsRegistry, RegistryState}
use Rattle.obstacle_registry.specs.Representation.{state_of}
use Rattle.obstacle_registry.proofs.Switching.{drop_is, kept_drop}
use Rattle.obstacle_registry.proofs.registry.Registry.drop_row.Goals as goal

pub invariant_of-self : goal.invariant_of-self
invariant_of-self c =
    let state : RegistryState = state_of c.self.inside in
    let off : IsOffAt state.rows c.args.place c.args.id =
    subst (λ (s : RegistryState). IsOffAt s.rows c.args.place c.args.id) (sym c.self.view_is) c.requires in
    subst (λ (list : List Registered). IsRegistry (record state { rows = list }))
    (sym (c.remove.ensures.items ∙ drop_is state c.args.place c.args.id c.self.invariant off))
    (kept_drop state c.args.place c.args.id c.self.invariant off)

pub returns-clause-rules : goal.returns-clause-rules
returns-clause-rules c = invariant_of-self c

pub returns-clause-state : goal.returns-clause-state
returns-clause-state c =
    let state : RegistryState = state_of c.self.inside in
    let off : IsOffAt state.rows c.args.place c.args.id =
    subst (λ (s : RegistryState). IsOffAt s.rows c.args.place c.args.id) (sym c.self.view_is) c.requires in
    ap (λ (list : List Registered). record state { rows = list }) (c.remove.ensures.items ∙ drop_is state c.args.place c.args.id c.self.invariant off)
    ∙ ap (dropped c.args.id) c.self.view_is
