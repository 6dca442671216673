-- What a mapped list has of what is kept of another list.
use Rattle.std.proofs.Common.{◌≡◌, Bool, true, false, List, [], ◌∷◌, map, refl, sym, subst, ap, ◌∙◌, inl, inr}
use Rattle.std.specs.Prelude.{Contains}
use Rattle.std.specs.List.{filter}
use Rattle.graph_search.proofs.Members.{contains_cases, contains_first, contains_later, contains_none}
use Rattle.path_queries.proofs.KeptEntries.{filter-kept, filter-left}

differ : true ≡ false → ⊥
differ e = cc

module _ (X Y : Type 0) (f : X → Y) (keep : Y → Bool) where
  -- those of a list whose images are kept
  abbrev kept : List X → List X
  kept xs = filter (λ (x : X). keep (f x)) xs

  -- an image of what is kept is an image
  pub contains-image : (xs : List X) (y : Y) → Contains (map f (kept xs)) y → Contains (map f xs) y
  contains-image [] y held = held
  contains-image (x ∷ xs) y held = by_test (λ rest. contains-image xs y rest) (keep (f x)) refl
    where
      by_test : (Contains (map f (kept xs)) y → Contains (map f xs) y) → (b : Bool) → keep (f x) ≡ b → Contains (map f (x ∷ xs)) y
      by_test more true on =
          elim (contains_cases (f x) y (map f (kept xs)) (subst (λ (zs : List X). Contains (map f zs) y) (filter-kept X (λ (z : X). keep (f z)) x xs on) held)) [
            | inl is ↦ subst (Contains (map f (x ∷ xs))) is (contains_first (f x) (map f xs))
            | inr later ↦ contains_later (f x) y (map f xs) (more later)
          ]
      by_test more false off =
          contains_later (f x) y (map f xs) (more (subst (λ (zs : List X). Contains (map f zs) y) (filter-left X (λ (z : X). keep (f z)) x xs off) held))

  -- and passes the test
  pub image-kept : (xs : List X) (y : Y) → Contains (map f (kept xs)) y → keep y ≡ true
  image-kept [] y held = absurd (contains_none y held)
  image-kept (x ∷ xs) y held = by_test (λ rest. image-kept xs y rest) (keep (f x)) refl
    where
      by_test : (Contains (map f (kept xs)) y → keep y ≡ true) → (b : Bool) → keep (f x) ≡ b → keep y ≡ true
      by_test more true on =
          elim (contains_cases (f x) y (map f (kept xs)) (subst (λ (zs : List X). Contains (map f zs) y) (filter-kept X (λ (z : X). keep (f z)) x xs on) held)) [
            | inl is ↦ ap keep (sym is) ∙ on
            | inr later ↦ more later
          ]
      by_test more false off = more (subst (λ (zs : List X). Contains (map f zs) y) (filter-left X (λ (z : X). keep (f z)) x xs off) held)

  -- an image that passes it is an image of what is kept
  pub contains-passing : (xs : List X) (y : Y) → Contains (map f xs) y → keep y ≡ true → Contains (map f (kept xs)) y
  contains-passing [] y held on = held
  contains-passing (x ∷ xs) y held on = by_test (λ rest. contains-passing xs y rest on) (keep (f x)) refl
    where
      by_test : (Contains (map f xs) y → Contains (map f (kept xs)) y) → (b : Bool) → keep (f x) ≡ b → Contains (map f (kept (x ∷ xs))) y
      by_test more true on' =
          subst (λ (zs : List X). Contains (map f zs) y) (sym (filter-kept X (λ (z : X). keep (f z)) x xs on'))
          (elim (contains_cases (f x) y (map f xs) held) [
            | inl is ↦ subst (Contains (f x ∷ map f (kept xs))) is (contains_first (f x) (map f (kept xs)))
            | inr later ↦ contains_later (f x) y (map f (kept xs)) (more later)
          ])
      by_test more false off =
          subst (λ (zs : List X). Contains (map f zs) y) (sym (filter-left X (λ (z : X). keep (f z)) x xs off))
          (elim (contains_cases (f x) y (map f xs) held) [
            | inl is ↦ absurd (differ (sym on ∙ ap keep (sym is) ∙ off))
            | inr later ↦ more later
          ])
