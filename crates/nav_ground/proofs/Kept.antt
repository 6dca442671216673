-- Lists that are filtered and mapped: their length, their order, their elements.
use Rattle.std.proofs.Common.{◌≡◌, ◌<◌, ◌≤◌, Bool, true, length, List, [], ◌∷◌, map, get_or, sym, arith, subst}
use Rattle.std.specs.Prelude.{All, AllPairs}
use Rattle.std.specs.List.{filter}
use Rattle.std.proofs.lemmas.List.{length-map, get_or-map}
use Rattle.std.proofs.lemmas.List.Sums.{length-filter, count_by-le-length}
use Rattle.std.proofs.lemmas.List.Elements.{All-map, All-filter, filter_passes}

-- a list is not longer once it is filtered and mapped
pub few_kept : {X Y : Type 0} (f : X → Y) (p : X → Bool) (xs : List X) → length (map f (filter p xs)) ≤ length xs
few_kept f p xs = omega (arith, length-map (filter p xs) f, length-filter p xs, count_by-le-length p xs)

-- what holds of the image of each pair holds of each pair of the image
pub AllPairs-map : {X Y : Type 0} (R : Y → Y → Type 0) (f : X → Y) (xs : List X) → AllPairs (λ a b. R (f a) (f b)) xs → AllPairs R (map f xs)
AllPairs-map R f [] pairs i j d before there = absurd (omega arith)
AllPairs-map {Y = Y} R f (x ∷ xs) pairs i j d before there =
    let j' : j < length (x ∷ xs) = omega (arith, length-map (x ∷ xs) f) in
    let i' : i < length (x ∷ xs) = omega arith in
    let P : Y → Type 0 = λ y. R y (get_or (map f (x ∷ xs)) j d) in
    let Q : Y → Type 0 = λ y. R (f (get_or (x ∷ xs) i x)) y in
    subst P (sym (get_or-map f (x ∷ xs) i x d i')) (subst Q (sym (get_or-map f (x ∷ xs) j x d j')) (pairs i j x before j'))

-- what holds of the image of each element that is kept
pub All-kept : {X Y : Type 0} (P : Y → Type 0) (f : X → Y) (p : X → Bool) (xs : List X)
    → All (λ x. p x ≡ true → P (f x)) xs → All P (map f (filter p xs))
All-kept P f p xs each =
    All-map P f (filter p xs) (λ k d there. All-filter p (λ x. p x ≡ true → P (f x)) xs each k d there (filter_passes p xs k d there))
