use Rattle.std.proofs.Common.{◌≡◌, false, ap, sym, ◌∙◌, refl, subst}
use Rattle.std.specs.Prelude.{if◌then◌else◌, ◌+◌, ◌-◌, ◌^◌}
use Rattle.std.proofs.lemmas.Bool.{both_ways, eq-eqb}
use Rattle.obstacle_registry.specs.Registry.{RegistryState, is_last_version}
use Rattle.obstacle_registry.specs.Representation.{state_of}
use Rattle.obstacle_registry.specs.Updates.{IsPartOfUpdate, after_update, is_showing}
use Rattle.obstacle_registry.proofs.Updating.{kept_update}
use Rattle.obstacle_registry.proofs.registry.Registry.update.Goals as goal

pub next_version-version-requires : goal.next_version-version-requires
next_version-version-requires g c same =
    both_ways false refl
    (sym (ap (λ (s : RegistryState). is_last_version s) c.self.view_is ∙ sym c.is_last_version.ensures ∙ c.if-is_last_version.false)
    ∙ eq-eqb c.self.inside.version (2 ^ 64 - 1) same)

pub invariant_of-self : goal.invariant_of-self
invariant_of-self g c =
    kept_update (state_of c.self.inside) c.update.new.self c.next_version-version.result c.self.invariant c.update.ensures.rules c.update.ensures.history

pub returns-in-Ok-clause-rules : goal.returns-in-Ok-clause-rules
returns-in-Ok-clause-rules g c = invariant_of-self g c

pub returns-in-Ok-clause-did : goal.returns-in-Ok-clause-did
returns-in-Ok-clause-did g c =
    let state : RegistryState = state_of c.self.inside in
    let version' : c.next_version-version.result ≡ (if is_showing c.args.most state.book then state.version + 1 else state.version) =
    c.next_version-version.ensures ∙ ap (λ b. if b then state.version + 1 else state.version) c.in-Ok.ensures.published in
    (λ i. record state { book = c.in-Ok.ensures.state i; version = version' i })
    ∙ ap (λ (s : RegistryState). after_update c.args.most s) c.self.view_is

pub invariant_of-self-in-Err : goal.invariant_of-self-in-Err
invariant_of-self-in-Err g c =
    kept_update (state_of c.self.inside) c.update.new.self c.self.inside.version c.self.invariant c.update.ensures.rules c.update.ensures.history

pub returns-in-Err-clause-rules : goal.returns-in-Err-clause-rules
returns-in-Err-clause-rules g c = invariant_of-self-in-Err g c

pub returns-then-is_last_version-clause-refused : goal.returns-then-is_last_version-clause-refused
returns-then-is_last_version-clause-refused g c none =
    absurd (both_ways false refl (sym none ∙ sym c.is_last_version.ensures ∙ c.if-is_last_version.true))

pub returns-in-Err-clause-refused : goal.returns-in-Err-clause-refused
returns-in-Err-clause-refused g c none =
    subst (λ (s : RegistryState). IsPartOfUpdate c.args.most s.book c.update.new.self) c.self.view_is c.in-Err.ensures.refused
