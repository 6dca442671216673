use Rattle.std.proofs.Common.{ℕ, ◌≤◌, ◌<◌, ◌∙◌, List, length, ap, sym, subst}
use Rattle.std.specs.Prelude.{◌==◌, All, AllPairs}
use Rattle.std.specs.List.{count_by}
use Rattle.nav_ground.proofs.AliveLaws.{alive_after-rising}
use Rattle.registry_format.specs.Saved.{KeepsRules}
use Rattle.obstacle_registry.specs.declared.row.Registered.{Registered}
use Rattle.obstacle_registry.specs.Registry.{RegistryState, rows_with_number}
use Rattle.obstacle_registry.specs.Representation.{state_of}
use Rattle.obstacle_registry.specs.Saving.{saved_from}
use Rattle.obstacle_registry.proofs.Again.{numbers_some}
use Rattle.obstacle_registry.proofs.SavedLaws.{keeps_rules}
use Rattle.obstacle_registry.proofs.registry.Registry.saved.Goals as goal

pub places_of-requires-clause-rising : goal.places_of-requires-clause-rising
places_of-requires-clause-rising c =
    subst (λ (ns : List ℕ). AllPairs (λ a b. a < b) ns) (sym c.numbers.ensures.value)
    (alive_after-rising c.self.inside.level.history (length c.self.inside.level.history))

pub places_of-requires-clause-some : goal.places_of-requires-clause-some
places_of-requires-clause-some c =
    subst (λ (ns : List ℕ). All (λ n. 1 ≤ n) ns) (sym c.numbers.ensures.value)
    (numbers_some c.self.inside.level.history (length c.self.inside.level.history))

pub places_of-requires-clause-each : goal.places_of-requires-clause-each
places_of-requires-clause-each c n some =
    ap (λ (rows : List Registered). rows_with_number n rows) c.as_slice-2.ensures.value ∙ c.self.invariant.holds.numbers n some
    ∙ ap (count_by (λ m. m == n)) (sym c.numbers.ensures.value)

pub returns-clause-rules : goal.returns-clause-rules
returns-clause-rules c =
    subst (λ (s : RegistryState). KeepsRules (saved_from s)) c.self.view_is
    (keeps_rules (state_of c.self.inside) c.self.invariant
    (subst (λ (ns : List ℕ). length ns ≤ c.self.inside.level.ground.setting.limit) c.numbers.ensures.value c.numbers.ensures.limit))
