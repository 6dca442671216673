-- Lemmas on the passes of a lock.
use Rattle.std.proofs.Common.{◌≡◌, ℕ, ◌<◌, ◌≤◌, List, [], ◌∷◌, ◌++◌, ◌⊎◌, inl, inr, length, length-append, get_or, slice_get, Some, ap, ◌∙◌, sym, arith}
use Rattle.std.proofs.lemmas.Bool.{cases_lt}
use Rattle.std.proofs.Math.Seq.{get_or-append_seam}
use Rattle.std.proofs.lemmas.List.{get_or_default, get_or_append_left}
use Rattle.std.proofs.lemmas.Option.{get_or_from_slice_get, slice_get-get_or}
use Rattle.turn_lock.specs.Locks.{LockId, PassView, IsOf, AreFresh, AreAll, fresh_pass}

module _ {G E : Type 0} where
  -- as many passes of the lock as it has, in the order of their numbers, are all of them
  pub AreAll-in_order : (lock : LockId G) (passes : List (PassView G E)) → length passes ≡ lock.passes
      → ((k : ℕ) (d : PassView G E) → k < lock.passes → IsOf lock (get_or passes k d) × ((get_or passes k d).number ≡ k)) → AreAll lock passes
  AreAll-in_order lock passes count each = record {
    of = λ k d below. (each k d (omega arith)).0;
    each = λ k below. let d : PassView G E = record { table = lock.table; root = Some lock.root; number = 0; seen = []; met = 0 } in
        (k, get_or passes k d, omega arith, get_or_default passes k (get_or passes k d) d (omega arith), (each k d below).1);
  }

  -- one more pass of a new lock, after those with lower numbers
  pub fresh_more : (lock : LockId G) (passes more : List (PassView G E)) (pass : PassView G E) → more ≡ passes ++ pass ∷ []
      → pass ≡ fresh_pass lock (length passes) → ((k : ℕ) → k < length passes → slice_get passes k ≡ Some (fresh_pass lock k))
      → (k : ℕ) → k < length more → slice_get more k ≡ Some (fresh_pass lock k)
  fresh_more lock passes more pass is made before k below =
      ap (λ ps. slice_get ps k) is ∙ slice_get-get_or (passes ++ pass ∷ []) k pass (omega (arith, ap length is)) ∙ ap Some (by_order (cases_lt k (length passes)))
    where
      by_order : (k < length passes) ⊎ (length passes ≤ k) → get_or (passes ++ pass ∷ []) k pass ≡ fresh_pass lock k
      by_order (inl lower) =
          get_or_append_left passes (pass ∷ []) pass k lower ∙ get_or_from_slice_get passes k (fresh_pass lock k) pass (before k lower)
      by_order (inr last) =
          let here : k ≡ length passes = omega (arith, ap length is ∙ length-append passes (pass ∷ [])) in
          ap (λ n. get_or (passes ++ pass ∷ []) n pass) here ∙ get_or-append_seam passes pass [] pass ∙ made ∙ ap (fresh_pass lock) (sym here)

  -- the passes of a new lock
  pub AreFresh-at : (lock : LockId G) (passes : List (PassView G E)) (k : ℕ) (d : PassView G E) → k < lock.passes → AreFresh lock passes → get_or passes k d ≡ fresh_pass lock k
  AreFresh-at lock passes k d below fresh = get_or_from_slice_get passes k (fresh_pass lock k) d (fresh.each k below)
