-- Lists that are looked at front by front.
use Rattle.std.proofs.Common.{◌≡◌, ℕ, ◌+◌, ◌<◌, List, length, get_or, take, sym, subst, arith, ⊎_elim}
use Rattle.std.specs.Prelude.{All, AllPairs}
use Rattle.std.proofs.lemmas.Bool.{cases_eq}
use Rattle.std.proofs.lemmas.List.{get_or-take, length-take}
use Rattle.std.proofs.lemmas.Option.{get_or_from_slice_get, slice_get-get_or}

-- an element that is there is the same, whatever stands for those that are not
pub same_at : {A : Type 0} (xs : List A) (i : ℕ) (d e : A) → i < length xs → get_or xs i d ≡ get_or xs i e
same_at xs i d e there = get_or_from_slice_get xs i (get_or xs i e) d (slice_get-get_or xs i e there)

-- one more has a property
pub all_more : {A : Type 0} (P : A → Type 0) (xs : List A) (i : ℕ) (e : A) → i < length xs → All P (take i xs) → P (get_or xs i e) → All P (take (i + 1) xs)
all_more P xs i e there all last k d within =
    let below : k < i + 1 = omega (arith, within, length-take (i + 1) xs) in
    subst P (sym (get_or-take (i + 1) xs k d below))
    (⊎_elim
    (λ same. subst (λ n. P (get_or xs n d)) (sym same) (subst P (same_at xs i e d there) last))
    (λ apart.
    let inside : k < i = omega (arith, below, apart) in
    subst P (get_or-take i xs k d inside) (all k d (omega (arith, inside, length-take i xs, there))))
    (cases_eq k i))

-- one more is in a relation to all before it
pub pairs_more : {A : Type 0} (R : A → A → Type 0) (xs : List A) (i : ℕ) → i < length xs → AllPairs R (take i xs)
    → ((k : ℕ) (d : A) → k < i → R (get_or xs k d) (get_or xs i d)) → AllPairs R (take (i + 1) xs)
pairs_more R xs i there pairs last a b d before within =
    let long = length-take (i + 1) xs in
    let below : b < i + 1 = omega (arith, within, long, there) in
    let at_a : get_or (take (i + 1) xs) a d ≡ get_or xs a d = get_or-take (i + 1) xs a d (omega (arith, below, before)) in
    let at_b : get_or (take (i + 1) xs) b d ≡ get_or xs b d = get_or-take (i + 1) xs b d below in
    rw (at_a, at_b)
    (⊎_elim
    (λ same. subst (λ n. R (get_or xs a d) (get_or xs n d)) (sym same) (last a d (omega (arith, before, same))))
    (λ apart.
    let inside : b < i = omega (arith, below, apart) in
    let inner = pairs a b d before (omega (arith, inside, length-take i xs, there)) in
    subst (λ x. R x (get_or xs b d)) (get_or-take i xs a d (omega (arith, inside, before)))
    (subst (λ y. R (get_or (take i xs) a d) y) (get_or-take i xs b d inside) inner))
    (cases_eq b i))

-- two elements that are there are in a relation, whatever stands for those that are not
pub before_at : {A : Type 0} (R : A → A → Type 0) (xs : List A) (i j : ℕ) (d e f : A) → i < length xs → j < length xs
    → R (get_or xs i d) (get_or xs j e) → R (get_or xs i f) (get_or xs j f)
before_at R xs i j d e f there within before =
    subst (λ a. R a (get_or xs j f)) (same_at xs i d f there) (subst (R (get_or xs i d)) (same_at xs j e f within) before)
