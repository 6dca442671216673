-- Lists that grow at their end, and lists that are overwritten.
use Rattle.std.proofs.Common.{◌≡◌, ℕ, ◌+◌, ◌<◌, ◌≤◌, List, [], ◌∷◌, ◌++◌, length, map, take, drop, get_or, set, replicate, ap, ◌∙◌, sym, refl, arith, Option, None, append-nil, length-append}
use Rattle.std.proofs.lemmas.List.{replicate_more, drop_all, take_all, length-map, get_or_default, take-append-drop}
use Rattle.std.proofs.lemmas.List.Edits.{map_over_more}
use Rattle.std.proofs.lemmas.Simd.{splat_is_map}

-- nothing more
pub none_more : (n : ℕ) → n ≡ n + 0
none_more n = omega arith

-- one more of the same
pub one_more : {A : Type 0} (n : ℕ) (a : A) → replicate n a ++ a ∷ [] ≡ replicate (n + 1) a
one_more n a = replicate_more n a

-- whatever stood there, nothing
abbrev pub nothing : {A : Type 0} → Option A → Option A
nothing given = None

-- one place more is emptied
pub one_emptied : {A : Type 0} (xs ys : List (Option A)) (i : ℕ) → ys ≡ map nothing (take i xs) ++ drop i xs → i < length xs
    → set ys i None ≡ map nothing (take (i + 1) xs) ++ drop (i + 1) xs
one_emptied xs ys i is there =
    let same : length ys ≡ length xs =
    ap length is ∙ length-append (map nothing (take i xs)) (drop i xs) ∙ ap (λ (n : ℕ). n + length (drop i xs)) (length-map (take i xs) nothing)
    ∙ sym (length-append (take i xs) (drop i xs)) ∙ ap length (take-append-drop i xs) in
    map_over_more nothing xs ys i (get_or ys i None) there is (get_or_default ys i None (get_or ys i None) (omega (arith, there, same)))

-- all are emptied
pub all_emptied : {A : Type 0} (xs ys : List (Option A)) (i : ℕ) → ys ≡ map nothing (take i xs) ++ drop i xs → length xs ≤ i → ys ≡ replicate (length xs) None
all_emptied xs ys i is end =
    is ∙ ap (λ zs. map nothing zs ++ drop i xs) (take_all i xs end) ∙ ap (λ zs. map nothing xs ++ zs) (drop_all i xs end) ∙ append-nil (map nothing xs)
    ∙ sym (splat_is_map xs (length xs) None refl)
