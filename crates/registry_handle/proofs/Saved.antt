-- How savings and restorations end.
use Rattle.std.proofs.Common.{◌≡◌, ℕ, ◌≤◌, ◌<◌, List, ◌++◌, length, drop, take, Option, Some, None, Result, Ok, Err, refl, sym, ap, ◌∙◌, subst, arith, inl, inr, take_all}
use Rattle.std.specs.Prelude.{◌⊎◌}
use Rattle.nav_handle.specs.Statuses as status
use Rattle.nav_handle.specs.Wire.{laid}
use Rattle.registry_format.specs.Saved.{IsSaved}
use Rattle.registry_format.specs.Spelling.{saved_bytes}
use Rattle.registry_format.specs.declared.saved.SavedRegistry.{SavedRegistry}
use Rattle.obstacle_registry.specs.Registry.{RegistryState}
use Rattle.obstacle_registry.specs.Saving.{AreOf, IsNotRead, IsRestored, IsRestoring, saved_from, why_not_restored}
use Rattle.obstacle_registry.specs.declared.row.Refused.{Refused}
use Rattle.obstacle_registry.specs.declared.row.Refused.TheVariants.{NoMemory, NotSaved}
use Rattle.registry_handle.specs.Calls.{refusal_status}
use Rattle.registry_handle.specs.Saves.{AreLaid, AreNotRead, HoldsRestored, IsRestoredFrom, IsRestoredInto, IsRestoredUnless, IsSavedInto, IsSaving}

-- all bytes in front of what was there
pub written : (bytes room : List ℕ) → length bytes ≤ length room → bytes ++ drop (length bytes) room ≡ laid bytes room
written bytes room fits = ap (λ (front : List ℕ). front ++ drop (length bytes) room) (sym (take_all (length room) bytes fits))

-- bytes that were laid are those of what is saved
pub saved_into : (state : RegistryState) (bytes : List ℕ) (before after : ℕ × List ℕ) (ended : ℕ) → IsSaved (saved_from state)
    → bytes ≡ saved_bytes (saved_from state) → AreLaid bytes before after ended → IsSaving (Some state) before after ended
saved_into state bytes before after ended is same told =
    inl (record { saved = is; told = subst (λ (list : List ℕ). AreLaid list before after ended) same told })

-- a registry was restored
pub restored_ok : (bytes : List ℕ) (state new : RegistryState)
    → ((saved : SavedRegistry) → AreOf bytes saved → (why_not_restored state saved ≡ None) × IsRestored saved state new)
    → (((saved : SavedRegistry) → AreOf bytes saved → ⊥) → ⊥) → IsRestoredFrom bytes (Some state) (Some new) status.ok
restored_ok bytes state new saved others = record {
  saved = λ was of.
      let is = saved was of in
      inl (subst (λ (why : Option Refused). IsRestoredUnless why was state (Some new) status.ok) (sym is.0)
      (record { status = refl; after = new; held = refl; restored = is.1 }));
  others = λ none. absurd (others none);
}

-- or it was not
pub not_restored : (bytes : List ℕ) (state new : RegistryState) (why : Refused) (ended : ℕ)
    → ((saved : SavedRegistry) → AreOf bytes saved → (why ≡ NoMemory) ⊎ (why_not_restored state saved ≡ Some why))
    → (((saved : SavedRegistry) → AreOf bytes saved → ⊥) → (why ≡ NotSaved) ⊎ (why ≡ NoMemory)) → new ≡ state → ended ≡ refusal_status why
    → IsRestoredFrom bytes (Some state) (Some new) ended
not_restored bytes state new why ended saved others same is = record {
  saved = λ was of. by_saved was (saved was of);
  others = λ none. by_others (others none);
}
  where
    by_saved : (was : SavedRegistry) → (why ≡ NoMemory) ⊎ (why_not_restored state was ≡ Some why) → IsRestoredInto was (Some state) (Some new) ended
    by_saved was (inl memory) = inr (is ∙ ap refusal_status memory, ap Some same)
    by_saved was (inr against) =
        inl (subst (λ (o : Option Refused). IsRestoredUnless o was state (Some new) ended) (sym against) (is, ap Some same))

    by_others : (why ≡ NotSaved) ⊎ (why ≡ NoMemory) → AreNotRead (Some state) (Some new) ended
    by_others (inl unread) = inl (is ∙ ap refusal_status unread, ap Some same)
    by_others (inr memory) = inr (is ∙ ap refusal_status memory, ap Some same)
