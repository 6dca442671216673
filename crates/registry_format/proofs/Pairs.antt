-- Lists whose elements are each in a relation with all later ones, front by front.
use Rattle.std.proofs.Common.{◌≡◌, ℕ, ◌+◌, ◌-◌, ◌≤◌, ◌<◌, List, length, get_or, take, sym, ap, subst, arith, ⊎_elim}
use Rattle.std.specs.Prelude.{AllPairs}
use Rattle.std.proofs.lemmas.Bool.{cases_eq}
use Rattle.std.proofs.lemmas.List.{get_or-take, length-take}
use Rattle.registry_format.specs.declared.saved.SavedObstacle.{SavedObstacle}

-- one more
pub pairs_more : {A : Type 0} (R : A → A → Type 0) (xs : List A) (i : ℕ) → i < length xs → AllPairs R (take i xs)
    → ((k : ℕ) (d : A) → k < i → R (get_or xs k d) (get_or xs i d)) → AllPairs R (take (i + 1) xs)
pairs_more R xs i there pairs last a b d before within =
    let long = length-take (i + 1) xs in
    let below : b < i + 1 = omega (arith, within, long, there) in
    let at_a : get_or (take (i + 1) xs) a d ≡ get_or xs a d = get_or-take (i + 1) xs a d (omega (arith, below, before)) in
    let at_b : get_or (take (i + 1) xs) b d ≡ get_or xs b d = get_or-take (i + 1) xs b d below in
    rw (at_a, at_b)
    (⊎_elim
    (λ same. subst (λ n. R (get_or xs a d) (get_or xs n d)) (sym same) (last a d (omega (arith, before, same))))
    (λ apart.
    let inside : b < i = omega (arith, below, apart) in
    let inner = pairs a b d before (omega (arith, inside, length-take i xs, there)) in
    subst (λ x. R x (get_or xs b d)) (get_or-take i xs a d (omega (arith, inside, before)))
    (subst (λ y. R (get_or (take i xs) a d) y) (get_or-take i xs b d inside) inner))
    (cases_eq b i))

-- neighbours that rise: one more rises over all before it
pub rising_more : (rows : List SavedObstacle) (i : ℕ) → 1 ≤ i → i < length rows → AllPairs (λ (a b : SavedObstacle). a.id < b.id) (take i rows)
    → ((d : SavedObstacle) → (get_or rows (i - 1) d).id < (get_or rows i d).id) → AllPairs (λ (a b : SavedObstacle). a.id < b.id) (take (i + 1) rows)
rising_more rows i some there pairs next =
    pairs_more (λ (a b : SavedObstacle). a.id < b.id) rows i there pairs
    (λ k d below.
    ⊎_elim
    (λ same. subst (λ n. (get_or rows n d).id < (get_or rows i d).id) (sym same) (next d))
    (λ apart.
    let inside : k < i - 1 = omega (arith, below, apart) in
    let inner = pairs k (i - 1) d inside (omega (arith, length-take i rows, there, some)) in
    let at_k = ap (λ (r : SavedObstacle). r.id) (get_or-take i rows k d below) in
    let at_l = ap (λ (r : SavedObstacle). r.id) (get_or-take i rows (i - 1) d (omega (arith, some))) in
    omega (arith, inner, at_k, at_l, next d))
    (cases_eq k (i - 1)))
