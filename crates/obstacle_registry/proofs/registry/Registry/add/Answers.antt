use Rattle.std.proofs.Common.{◌≡◌, ℕ, List, ◌∙◌, ap, sym, subst}
use Rattle.std.specs.Prelude.{◌+◌, ◌++◌, ◌∷◌, []}
use Rattle.build_queue.specs.BookState.{BookState, IsBook}
use Rattle.obstacle_registry.specs.declared.row.Registered.{Registered}
use Rattle.obstacle_registry.specs.Changes.{after_add, put_up}
use Rattle.obstacle_registry.specs.Registry.{IsRegistry, RegistryState, is_crowded_registry}
use Rattle.obstacle_registry.specs.Representation.{state_of}
use Rattle.obstacle_registry.proofs.Switching.{kept_add, uncrowded}
use Rattle.obstacle_registry.proofs.registry.Registry.add.Goals as goal

pub invariant_of-self-2 : goal.invariant_of-self-2
invariant_of-self-2 c =
    let state : RegistryState = state_of c.self.inside in
    let free = uncrowded state (ap is_crowded_registry c.self.view_is ∙ sym c.is_crowded.ensures ∙ c.if-is_crowded.false) in
    let kept = kept_add state c.args.shape c.args.user c.self.invariant c.requires free.0 free.1
    (subst IsBook c.put_up-number.ensures.state c.put_up-number.ensures.rules) in
    let rows_are : c.push_reserved.new.self.items ≡ (after_add state c.args.shape c.args.user).rows =
    c.push_reserved.ensures.items
    ∙ ap (λ (list : List Registered). list ++ record { id = state.last + 1; shape = c.args.shape; user = c.args.user; number = c.put_up-number.result } ∷ [])
    c.reserve.ensures.items
    ∙ ap (λ (n : ℕ). state.rows ++ record { id = state.last + 1; shape = c.args.shape; user = c.args.user; number = n } ∷ []) c.put_up-number.ensures.number in
    subst (λ (b : BookState). IsRegistry (record { book = b; rows = c.push_reserved.new.self.items; last = state.last + 1; version = state.version }))
    (sym c.put_up-number.ensures.state)
    (subst (λ (list : List Registered). IsRegistry (record { book = put_up c.args.shape state.book; rows = list; last = state.last + 1; version = state.version }))
    (sym rows_are) kept)

pub returns-clause-rules : goal.returns-clause-rules
returns-clause-rules c = invariant_of-self-2 c
