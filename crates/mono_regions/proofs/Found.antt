-- The first element that passes, by two tests that agree, and where only one can pass.
use Rattle.std.proofs.Common.{◌≡◌, ℕ, ◌+◌, ◌<◌, ◌≤◌, Bool, true, false, length, List, [], ◌∷◌, ◌++◌, map, filter, get_or, ap, ◌∙◌, refl, arith}
use Rattle.std.specs.Prelude.{All}
use Rattle.std.specs.List.{position_or_len, range_with_len}
use Rattle.std.proofs.lemmas.Bool.{false_from_ne_true, cond-true, cond-false}
use Rattle.std.proofs.lemmas.List.{append-nil}
use Rattle.std.proofs.lemmas.List.Elements.{All-head, All-tail, filter-append}
use Rattle.std.proofs.lemmas.List.Sums.{position_or_len_is, prefix_len-le-length}
use Rattle.nav_ground.proofs.Selections.{range-push}

-- two tests that agree at each element find the same first
pub position_same : {A : Type 0} (p q : A → Bool) (xs : List A) → All (λ x. p x ≡ q x) xs → position_or_len p xs ≡ position_or_len q xs
position_same p q [] each = refl
position_same p q (x ∷ xs) each =
    let here = All-head (λ y. p y ≡ q y) x xs each in
    let rest = position_same p q xs (All-tail (λ y. p y ≡ q y) x xs each) in
    cc

pub position_most : {A : Type 0} (p : A → Bool) (xs : List A) → position_or_len p xs ≤ length xs
position_most p xs = prefix_len-le-length _ xs

-- the only element that passes is the first
pub position_only : {A : Type 0} (p : A → Bool) (xs : List A) (i : ℕ) (d : A) → i < length xs → p (get_or xs i d) ≡ true
    → ((k : ℕ) → k < length xs → p (get_or xs k d) ≡ true → k ≡ i) → position_or_len p xs ≡ i
position_only p xs i d there passes only =
    position_or_len_is p xs i d (omega (arith, there))
    (λ k less. false_from_ne_true (p (get_or xs k d)) (λ h. omega (arith, less, only k (omega (arith, less, there)) h)))
    (λ _. passes)

-- where none passes, there is no first
pub position_none : {A : Type 0} (p : A → Bool) (xs : List A) (d : A) → ((k : ℕ) → k < length xs → p (get_or xs k d) ≡ false)
    → position_or_len p xs ≡ length xs
position_none p xs d none = position_or_len_is p xs (length xs) d (omega arith) none (λ more. absurd (omega (arith, more)))

-- two tests, on lists made from the same one
pub position-map_same : {A B C : Type 0} (p : B → Bool) (q : C → Bool) (f : A → B) (g : A → C) (xs : List A) → All (λ x. p (f x) ≡ q (g x)) xs
    → position_or_len p (map f xs) ≡ position_or_len q (map g xs)
position-map_same p q f g [] each = refl
position-map_same p q f g (x ∷ xs) each =
    let here = All-head (λ y. p (f y) ≡ q (g y)) x xs each in
    let rest = position-map_same p q f g xs (All-tail (λ y. p (f y) ≡ q (g y)) x xs each) in
    cc

-- one number more of a range, with what passes
pub passes_next : (p : ℕ → Bool) (n : ℕ) → p n ≡ true → filter p (range_with_len 0 (n + 1)) ≡ filter p (range_with_len 0 n) ++ n ∷ []
passes_next p n passes =
    ap (filter p) (range-push 0 n)
    ∙ filter-append p (range_with_len 0 n) ((0 + n) ∷ [])
    ∙ ap (λ k. filter p (range_with_len 0 n) ++ filter p (k ∷ [])) {x = 0 + n} {y = n} (omega arith)
    ∙ ap (λ (xs : List ℕ). filter p (range_with_len 0 n) ++ xs) (cond-true (p n) (n ∷ []) [] passes)

pub fails_next : (p : ℕ → Bool) (n : ℕ) → p n ≡ false → filter p (range_with_len 0 (n + 1)) ≡ filter p (range_with_len 0 n)
fails_next p n fails =
    ap (filter p) (range-push 0 n)
    ∙ filter-append p (range_with_len 0 n) ((0 + n) ∷ [])
    ∙ ap (λ k. filter p (range_with_len 0 n) ++ filter p (k ∷ [])) {x = 0 + n} {y = n} (omega arith)
    ∙ ap (λ (xs : List ℕ). filter p (range_with_len 0 n) ++ xs) (cond-false (p n) (n ∷ []) [] fails)
    ∙ append-nil (filter p (range_with_len 0 n))
