use Rattle.std.proofs.Common.{List, ◌∙◌, ap, sym, subst}
use Rattle.obstacle_registry.specs.declared.row.Registered.{Registered}
use Rattle.obstacle_registry.specs.Changes.{with_rewritten}
use Rattle.obstacle_registry.specs.Registry.{IsRewriting, RegistryState}
use Rattle.obstacle_registry.specs.Representation.{state_of}
use Rattle.obstacle_registry.proofs.Switching.{kept_rewrite, set_is}
use Rattle.obstacle_registry.proofs.registry.Registry.rewrite.Goals as goal

pub invariant_of-self : goal.invariant_of-self
invariant_of-self c =
    kept_rewrite (state_of c.self.inside) c.args.place c.args.row c.self.invariant
    (subst (λ (s : RegistryState). IsRewriting s.rows c.args.place c.args.row) (sym c.self.view_is) c.requires)

pub returns-clause-rules : goal.returns-clause-rules
returns-clause-rules c = invariant_of-self c

pub returns-clause-state : goal.returns-clause-state
returns-clause-state c =
    let state : RegistryState = state_of c.self.inside in
    let rewriting : IsRewriting state.rows c.args.place c.args.row =
    subst (λ (s : RegistryState). IsRewriting s.rows c.args.place c.args.row) (sym c.self.view_is) c.requires in
    ap (λ (list : List Registered). record state { rows = list })
    (set_is state c.args.place c.args.row rewriting.before c.self.invariant rewriting.there rewriting.id)
    ∙ ap (λ (s : RegistryState). with_rewritten s c.args.row) c.self.view_is
