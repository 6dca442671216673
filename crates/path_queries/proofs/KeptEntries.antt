-- What is kept of a list, and at which place it then stands.
use Rattle.std.proofs.Common.{◌≡◌, ℕ, zero, suc, ◌+◌, ◌<◌, Bool, true, false, List, [], ◌∷◌, ◌++◌, length, take, refl, sym, subst, ap, ◌∙◌, arith}
use Rattle.std.specs.Prelude.{slice_get, slice_index_or, Some}
use Rattle.std.specs.List.{filter}
use Rattle.std.proofs.lemmas.Bool.{cond-true, cond-false}
use Rattle.std.proofs.lemmas.List.{take_more, append-nil}
use Rattle.std.proofs.lemmas.List.Elements.{filter-append}
use Rattle.std.proofs.lemmas.Option.{none-some, same_Some}

module _ (X : Type 0) (keep : X → Bool) where
  -- how many are kept of those before a place
  abbrev pub before : List X → ℕ → ℕ
  before xs place = length (filter keep (take place xs))

  pub filter-kept : (x : X) (xs : List X) → keep x ≡ true → filter keep (x ∷ xs) ≡ x ∷ filter keep xs
  filter-kept x xs held = cond-true (keep x) (x ∷ filter keep xs) (filter keep xs) held

  pub filter-left : (x : X) (xs : List X) → keep x ≡ false → filter keep (x ∷ xs) ≡ filter keep xs
  filter-left x xs left = cond-false (keep x) (x ∷ filter keep xs) (filter keep xs) left

  -- what is kept stands there
  pub kept-at : (xs : List X) (k : ℕ) (x : X) → slice_get xs k ≡ Some x → keep x ≡ true → slice_get (filter keep xs) (before xs k) ≡ Some x
  kept-at [] k x is held = absurd (none-some x is)
  kept-at (y ∷ xs) zero x is held =
      let same : y ≡ x = same_Some y x is in
      ap (λ (zs : List X). slice_get zs 0) (filter-kept y xs (ap keep same ∙ held)) ∙ is
  kept-at (y ∷ xs) (suc k) x is held = by_test (kept-at xs k x is held) (keep y) refl
    where
      by_test : slice_get (filter keep xs) (before xs k) ≡ Some x → (b : Bool) → keep y ≡ b
          → slice_get (filter keep (y ∷ xs)) (before (y ∷ xs) (suc k)) ≡ Some x
      by_test rest true on =
          ap (λ (zs : List X). slice_get zs (before (y ∷ xs) (suc k))) (filter-kept y xs on)
          ∙ ap (λ (zs : List X). slice_get (y ∷ filter keep xs) (length zs)) (filter-kept y (take k xs) on) ∙ rest
      by_test rest false off =
          ap (λ (zs : List X). slice_get zs (before (y ∷ xs) (suc k))) (filter-left y xs off)
          ∙ ap (λ (zs : List X). slice_get (filter keep xs) (length zs)) (filter-left y (take k xs) off) ∙ rest

  -- and what stands there was kept
  pub record IsKeptFrom (xs : List X) (j : ℕ) (x : X) : Type 0 where
    pub place : ℕ
    pub there : slice_get xs place ≡ Some x
    pub held : keep x ≡ true
    pub is : j ≡ before xs place

  pub kept-from : (xs : List X) (j : ℕ) (x : X) → slice_get (filter keep xs) j ≡ Some x → IsKeptFrom xs j x
  kept-from [] j x is = absurd (none-some x is)
  kept-from (y ∷ xs) j x is = by_test (λ i there. kept-from xs i x there) (keep y) refl
    where
      by_place : ((i : ℕ) → slice_get (filter keep xs) i ≡ Some x → IsKeptFrom xs i x) → (i : ℕ) → keep y ≡ true → slice_get (y ∷ filter keep xs) i ≡ Some x → IsKeptFrom (y ∷ xs) i x
      by_place more zero on is' =
          let same : y ≡ x = same_Some y x is' in
          record { place = 0; there = is'; held = ap keep (sym same) ∙ on; is = refl }
      by_place more (suc i) on is' =
          let rest = more i is' in
          record {
            place = suc rest.place;
            there = rest.there;
            held = rest.held;
            is = ap suc rest.is ∙ ap (λ (zs : List X). length zs) (sym (filter-kept y (take rest.place xs) on));
          }

      by_test : ((i : ℕ) → slice_get (filter keep xs) i ≡ Some x → IsKeptFrom xs i x) → (b : Bool) → keep y ≡ b → IsKeptFrom (y ∷ xs) j x
      by_test more true on = by_place more j on (subst (λ (zs : List X). slice_get zs j ≡ Some x) (filter-kept y xs on) is)
      by_test more false off =
          let rest = more j (subst (λ (zs : List X). slice_get zs j ≡ Some x) (filter-left y xs off) is) in
          record {
            place = suc rest.place;
            there = rest.there;
            held = rest.held;
            is = rest.is ∙ ap (λ (zs : List X). length zs) (sym (filter-left y (take rest.place xs) off));
          }

  -- one place more
  pub before-more : (xs : List X) (k : ℕ) (x : X) → slice_get xs k ≡ Some x → keep x ≡ true → (n : ℕ) → k < n → before xs k < before xs n
  before-more [] k x is held n less = absurd (none-some x is)
  before-more (y ∷ xs) k x is held zero less = absurd (omega (arith, less))
  before-more (y ∷ xs) zero x is held (suc n) less =
      let same : y ≡ x = same_Some y x is in
      let count = ap (λ (zs : List X). length zs) (filter-kept y (take n xs) (ap keep same ∙ held)) in
      omega (arith, count)
  before-more (y ∷ xs) (suc k) x is held (suc n) less = by_test (before-more xs k x is held n (omega (arith, less))) (keep y) refl
    where
      by_test : before xs k < before xs n → (b : Bool) → keep y ≡ b → before (y ∷ xs) (suc k) < before (y ∷ xs) (suc n)
      by_test rest true on =
          omega (arith, rest, ap (λ (zs : List X). length zs) (filter-kept y (take k xs) on), ap (λ (zs : List X). length zs) (filter-kept y (take n xs) on))
      by_test rest false off =
          omega (arith, rest, ap (λ (zs : List X). length zs) (filter-left y (take k xs) off), ap (λ (zs : List X). length zs) (filter-left y (take n xs) off))

  -- the first, and one more
  pub taken-kept : (xs : List X) (k : ℕ) (d : X) → k < length xs → keep (slice_index_or xs k d) ≡ true
      → filter keep (take (k + 1) xs) ≡ filter keep (take k xs) ++ slice_index_or xs k d ∷ []
  taken-kept xs k d there held =
      let x = slice_index_or xs k d in
      ap (filter keep) (take_more xs k d there) ∙ filter-append keep (take k xs) (x ∷ []) ∙ ap (λ (zs : List X). filter keep (take k xs) ++ zs) (filter-kept x [] held)

  pub taken-left : (xs : List X) (k : ℕ) (d : X) → k < length xs → keep (slice_index_or xs k d) ≡ false
      → filter keep (take (k + 1) xs) ≡ filter keep (take k xs)
  taken-left xs k d there left =
      let x = slice_index_or xs k d in
      ap (filter keep) (take_more xs k d there) ∙ filter-append keep (take k xs) (x ∷ []) ∙ ap (λ (zs : List X). filter keep (take k xs) ++ zs) (filter-left x [] left)
      ∙ append-nil (filter keep (take k xs))
