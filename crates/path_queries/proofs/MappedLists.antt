-- What stands at a place of a mapped list. Lists that are mapped alike.
use Rattle.std.proofs.Common.{◌≡◌, ℕ, zero, suc, ◌<◌, List, [], ◌∷◌, map, refl, sym, subst, ap, ◌∙◌}
use Rattle.std.specs.Prelude.{Contains, slice_get, Some}
use Rattle.std.proofs.lemmas.List.{get_or-map, length-map}
use Rattle.std.proofs.lemmas.Option.{none-some, same_Some}

-- one of a list is one of the mapped list
pub contains-mapped : {X Y : Type 0} (f : X → Y) (xs : List X) (x : X) → Contains xs x → Contains (map f xs) (f x)
contains-mapped f xs x held =
    (held.0, subst (λ (n : ℕ). held.0 < n) (sym (length-map xs f)) held.1, get_or-map f xs held.0 x (f x) held.1 ∙ ap f held.2)

pub record IsMapped (X Y : Type 0) (f : X → Y) (xs : List X) (k : ℕ) (y : Y) : Type 0 where
  pub of : X
  pub there : slice_get xs k ≡ Some of
  pub is : f of ≡ y

pub get-mapped : {X Y : Type 0} (f : X → Y) (xs : List X) (k : ℕ) (y : Y) → slice_get (map f xs) k ≡ Some y → IsMapped X Y f xs k y
get-mapped f [] k y is = absurd (none-some y is)
get-mapped f (x ∷ xs) zero y is = record { of = x; there = refl; is = same_Some (f x) y is }
get-mapped f (x ∷ xs) (suc k) y is =
    let rest = get-mapped f xs k y is in
    record { of = rest.of; there = rest.there; is = rest.is }

pub get-map : {X Y : Type 0} (f : X → Y) (xs : List X) (k : ℕ) (x : X) → slice_get xs k ≡ Some x → slice_get (map f xs) k ≡ Some (f x)
get-map f [] k x is = absurd (none-some x is)
get-map f (y ∷ xs) zero x is = ap (λ z. Some (f z)) (same_Some y x is)
get-map f (y ∷ xs) (suc k) x is = get-map f xs k x is

-- functions that map each element alike map the list alike
pub map-same : {X Y : Type 0} (f g : X → Y) (xs : List X) → ((k : ℕ) (x : X) → slice_get xs k ≡ Some x → f x ≡ g x) → map f xs ≡ map g xs
map-same f g [] same = refl
map-same f g (x ∷ xs) same = λ i. same 0 x refl i ∷ map-same f g xs (λ k y is. same (suc k) y is) i
