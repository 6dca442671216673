use Rattle.std.proofs.Common.{◌≡◌, ◌<◌, ℕ, List, length, map, ap, sym, subst, ◌∙◌}
use Rattle.std.specs.Prelude.{AllPairs}
use Rattle.std.specs.Vec.{with_items}
use Rattle.std.proofs.lemmas.List.{with_items_is}
use Rattle.nav_ground.proofs.AliveLaws.{alive_after-rising}
use Rattle.obstacle_registry.specs.declared.row.Registered.{Registered}
use Rattle.obstacle_registry.specs.Registry.{IsRegistry, RegistryState, alive_now}
use Rattle.obstacle_registry.specs.Renewal.{renumbered}
use Rattle.obstacle_registry.specs.Representation.{state_of}
use Rattle.obstacle_registry.proofs.Renewing.{kept_renewed}
use Rattle.obstacle_registry.proofs.registry.Registry.renew.Goals as goal

pub renumber-requires-clause-rising : goal.renumber-requires-clause-rising
renumber-requires-clause-rising c =
    subst (λ (ns : List ℕ). AllPairs (λ a b. a < b) ns) (sym c.numbers.ensures.value)
    (alive_after-rising c.self.inside.level.history (length c.self.inside.level.history))

pub invariant_of-self : goal.invariant_of-self
invariant_of-self c =
    let state : RegistryState = state_of c.self.inside in
    let rows' : (with_items c.self.inside.rows c.renumber.new.rows).items ≡ map (renumbered (alive_now state.book)) state.rows =
    with_items_is c.self.inside.rows c.renumber.new.rows
    (c.renumber.auto.rows ∙ ap (λ (list : List Registered). length list) c.as_mut_slice.ensures.value ∙ sym c.self.inside.rows.ok.0)
    ∙ c.renumber.ensures ∙ (λ i. map (renumbered (c.numbers.ensures.value i)) (c.as_mut_slice.ensures.value i)) in
    subst (λ (list : List Registered). IsRegistry (record state { book = c.begin_again.new.self; rows = list })) (sym rows')
    (kept_renewed state c.begin_again.new.self c.self.invariant c.begin_again.ensures.did.renewed c.begin_again.ensures.did.rules)

pub returns-clause-rules : goal.returns-clause-rules
returns-clause-rules c = invariant_of-self c
