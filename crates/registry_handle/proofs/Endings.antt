-- How the calls of a registry end.
use Rattle.std.proofs.Common.{◌≡◌, ℕ, Bool, true, false, Option, Some, None, refl, sym, ap, ◌∙◌, subst, inl, inr}
use Rattle.std.specs.Prelude.{◌⊎◌, ◌+◌, IfSome, if◌then◌else◌}
use Rattle.std.specs.Option.{option_map_or}
use Rattle.nav_book.specs.LevelResults.{published_mesh}
use Rattle.nav_ground.specs.declared.shape.Shape.{Shape}
use Rattle.nav_handle.specs.Statuses as status
use Rattle.obstacle_registry.specs.Changes.{after_add, why_not_added}
use Rattle.obstacle_registry.specs.Registry.{RegistryState, is_last_version}
use Rattle.obstacle_registry.specs.Renewal.{IsKeptShort, is_due}
use Rattle.obstacle_registry.specs.Updates.{IsPartOfUpdate, after_update, aimed_if_shown, is_showing, tiles_built}
use Rattle.obstacle_registry.specs.declared.row.Refused.{Refused}
use Rattle.obstacle_registry.specs.declared.row.Refused.TheVariants.{NoMemory, NoObstacle, TooMany}
use Rattle.obstacle_registry.specs.declared.row.Registered.{Registered}
use Rattle.registry_handle.specs.Calls.{Adding, IsAdding, IsEnded, added_by, refusal_status}
use Rattle.registry_handle.specs.Updates.{IsUpdatedBy, IsUpdating, update_told}
use Rattle.registry_handle.specs.declared.updates.NavdUpdated.{NavdUpdated}

-- it was done: there is such a row, and it was changed
pub done_at : (row : Option Registered) (why : Option Refused) (old new : RegistryState) (change : RegistryState → Registered → RegistryState)
    → None ≡ why → (row ≡ None → why ≡ Some NoObstacle) → IfSome row (λ r. new ≡ change old r)
    → IsEnded why old (option_map_or (change old) row old) (Some new) status.ok
done_at None why old new change free none did = let wrong : None ≡ Some NoObstacle = free ∙ none refl in absurd (cc)
done_at (Some r) why old new change free none did = subst (λ w. IsEnded w old (change old r) (Some new) status.ok) free (refl, ap Some did)

-- it was refused
pub refused_at : (why : Option Refused) (e : Refused) (old new after : RegistryState) → Some e ≡ why → new ≡ old
    → IsEnded why old after (Some new) (refusal_status e)
refused_at why e old new after is same = subst (λ w. IsEnded w old after (Some new) (refusal_status e)) is (refl, ap Some same)

-- an obstacle was added
pub added_at : (state new : RegistryState) (shape : Shape) (user before given : ℕ) → why_not_added state ≡ None → new ≡ after_add state shape user
    → given ≡ state.last + 1 → IsAdding (Some state) shape user before (record { status = status.ok; id = given; held = Some new })
added_at state new shape user before given free done next =
    let one : Adding = record { status = status.ok; id = given; held = Some new } in
    let is : one ≡ added_by None state shape user before =
    λ i. record { status = status.ok; id = next i; held = Some (done i) } in
    inl (is ∙ ap (λ w. added_by w state shape user before) (sym free))

-- none was added
pub not_added_at : (state new : RegistryState) (shape : Shape) (user before : ℕ) (why : Refused) → (why ≡ NoMemory) ⊎ (why_not_added state ≡ Some why)
    → new ≡ state → IsAdding (Some state) shape user before (record { status = refusal_status why; id = before; held = Some new })
not_added_at state new shape user before why (inl memory) same = inr (λ i. record { status = refusal_status (memory i); id = before; held = Some (same i) })
not_added_at state new shape user before why (inr is) same =
    let one : Adding = record { status = refusal_status why; id = before; held = Some new } in
    let refused : one ≡ added_by (Some why) state shape user before =
    λ i. record { status = refusal_status why; id = before; held = Some (same i) } in
    inl (refused ∙ ap (λ w. added_by w state shape user before) (sym is))

-- an update was done
pub updated_at : (most : ℕ) (state new after : RegistryState) (before told : NavdUpdated) → is_last_version state ≡ false → new ≡ after_update most state
    → told ≡ update_told (tiles_built most (aimed_if_shown state.book)) (is_showing most state.book) new → IsKeptShort (is_due new.book) new after
    → published_mesh after.book ≡ published_mesh new.book → IsUpdating (Some state) most before (record { status = status.ok; told = told; held = Some after })
updated_at most state new after before told first done telling short mesh =
    subst (λ b. IsUpdatedBy b most state before (record { status = status.ok; told = told; held = Some after })) (sym first)
    (inl (record {
      status = refl;
      told = telling ∙ ap (update_told (tiles_built most (aimed_if_shown state.book)) (is_showing most state.book)) done;
      after = after;
      held = refl;
      short = subst (λ (s : RegistryState). IsKeptShort (is_due s.book) s after) done short;
      mesh = mesh ∙ ap (λ (s : RegistryState). published_mesh s.book) done;
    }))

-- an update was refused
pub not_updated_at : (most : ℕ) (state new : RegistryState) (before : NavdUpdated) (why : Refused)
    → why ≡ (if is_last_version state then TooMany else NoMemory) → (is_last_version state ≡ true → new ≡ state)
    → (is_last_version state ≡ false → IsPartOfUpdate most state.book new.book) → new.rows ≡ state.rows → new.last ≡ state.last → new.version ≡ state.version
    → IsUpdating (Some state) most before (record { status = refusal_status why; told = before; held = Some new })
not_updated_at most state new before why why_is same part rows last version = by_case (is_last_version state) refl
  where
    by_case : (b : Bool) → is_last_version state ≡ b
        → IsUpdatedBy b most state before (record { status = refusal_status why; told = before; held = Some new })
    by_case true is =
        let many : why ≡ TooMany = why_is ∙ ap (λ b. if b then TooMany else NoMemory) is in
        let stays : new ≡ state = same is in
        λ i. record { status = refusal_status (many i); told = before; held = Some (stays i) }
    by_case false is = inr (record {
      status = ap refusal_status (why_is ∙ ap (λ b. if b then TooMany else NoMemory) is);
      told = refl;
      after = new;
      held = refl;
      part = part is;
      rows = rows;
      last = last;
      version = version;
    })
