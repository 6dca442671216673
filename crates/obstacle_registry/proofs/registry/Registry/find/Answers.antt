use Rattle.std.proofs.Common.{◌≡◌, List, ◌<◌, ◌∙◌, length, ap, sym, subst, Ok, Err, Some, None, get_or}
use Rattle.std.specs.Prelude.{slice_get}
use Rattle.std.proofs.lemmas.Option.{slice_get-get_or}
use Rattle.obstacle_registry.specs.declared.row.Registered.{Registered}
use Rattle.obstacle_registry.specs.Registry.{RegistryState, row_of}
use Rattle.std.proofs.Common.{rules}
use Rattle.std.proofs.lemmas.Fn.{always_returns_same}
use Rattle.obstacle_registry.proofs.Rows.{AreRising, searched_ids}
use Rattle.obstacle_registry.proofs.registry.Registry.find.Goals as goal

pub returns-in-Ok-clause-there : goal.returns-in-Ok-clause-there
returns-in-Ok-clause-there c =
    let within : c.in-Ok.place < length c.self.inside.rows.items =
    subst (λ (list : List Registered). c.in-Ok.place < length list) c.deref.ensures.value c.in-Ok.ensures.bound in
    subst (λ (s : RegistryState). slice_get s.rows c.in-Ok.place ≡ Some c.index.result.now) c.self.view_is
    (slice_get-get_or c.self.inside.rows.items c.in-Ok.place c.index.result.now within ∙ ap Some (sym c.index.ensures))

pub returns-in-Ok-clause-row : goal.returns-in-Ok-clause-row
returns-in-Ok-clause-row c =
    let found = searched_ids c.deref.result.now c.args.id (Ok c.in-Ok.place)
    (subst AreRising (sym c.deref.ensures.value) c.self.invariant.ids.rising) c.in-Ok.ensures.bound
    (c.in-Ok.ensures.position (λ (row : Registered). row.id) (always_returns_same _ _ _ (λ a r f k. search rules))) in
    subst (λ (list : List Registered). row_of c.args.id list ≡ slice_get list c.in-Ok.place)
    (c.deref.ensures.value ∙ ap (λ (s : RegistryState). s.rows) c.self.view_is) found.0
    ∙ returns-in-Ok-clause-there c

pub returns-in-Ok-clause-id : goal.returns-in-Ok-clause-id
returns-in-Ok-clause-id c =
    let found = searched_ids c.deref.result.now c.args.id (Ok c.in-Ok.place)
    (subst AreRising (sym c.deref.ensures.value) c.self.invariant.ids.rising) c.in-Ok.ensures.bound
    (c.in-Ok.ensures.position (λ (row : Registered). row.id) (always_returns_same _ _ _ (λ a r f k. search rules))) in
    ap (λ (row : Registered). row.id) c.index.ensures
    ∙ ap (λ (list : List Registered). (get_or list c.in-Ok.place c.index.result.now).id) (sym c.deref.ensures.value) ∙ found.1 c.index.result.now

pub returns-in-Err-clause-row : goal.returns-in-Err-clause-row
returns-in-Err-clause-row c =
    let found = searched_ids c.deref.result.now c.args.id (Err c.in-Err.field-0)
    (subst AreRising (sym c.deref.ensures.value) c.self.invariant.ids.rising) c.in-Err.ensures.bound
    (c.in-Err.ensures.position (λ (row : Registered). row.id) (always_returns_same _ _ _ (λ a r f k. search rules))) in
    subst (λ (list : List Registered). row_of c.args.id list ≡ None) (c.deref.ensures.value ∙ ap (λ (s : RegistryState). s.rows) c.self.view_is) found
