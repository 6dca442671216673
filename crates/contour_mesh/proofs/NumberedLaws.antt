-- Lists gathered from the elements of a list and their numbers.
use Rattle.std.proofs.Common.{◌≡◌, ℕ, suc, ◌+◌, ◌<◌, ◌≤◌, length, List, [], ◌∷◌, ◌++◌, take, drop, get_or, ap, ◌∙◌, sym, refl, arith}
use Rattle.std.specs.Prelude.{All}
use Rattle.std.specs.List.{flat_map, range_with_len}
use Rattle.std.proofs.lemmas.List.{append-nil, append_assoc, length-append, length-take-le, take-append-drop, take_more}
use Rattle.std.proofs.lemmas.List.Elements.{All-append, All-nil}
use Rattle.mesh_types.specs.declared.region.RegionPart.{RegionPart}
use Rattle.mesh_types.specs.Facets.{Facet, facets_of}
use Rattle.mesh_types.specs.Doors.{doors_of, facet_doors}
use Rattle.mesh_types.proofs.Words.{no_facet}
use Rattle.mesh_types.specs.Words.{no_part}
use Rattle.contour_mesh.specs.Parts.{numbered, facets_at}

pub numbered-append : {A B : Type 0} (f : ℕ → A → List B) (n : ℕ) (xs ys : List A)
    → numbered f n (xs ++ ys) ≡ numbered f n xs ++ numbered f (n + length xs) ys
numbered-append f n [] ys = ap (λ m. numbered f m ys) {x = n} {y = n + 0} (omega arith)
numbered-append {B = B} f n (x ∷ xs) ys =
    ap (λ (zs : List B). f n x ++ zs) (numbered-append f (n + 1) xs ys)
    ∙ sym (append_assoc (f n x) (numbered f (n + 1) xs) (numbered f (n + 1 + length xs) ys))
    ∙ ap (λ m. (f n x ++ numbered f (n + 1) xs) ++ numbered f m ys) {x = n + 1 + length xs} {y = n + length (x ∷ xs)} (omega arith)

-- with one element more
pub numbered_more : {A B : Type 0} (f : ℕ → A → List B) (n : ℕ) (xs : List A) (k : ℕ) (d : A) → k < length xs
    → numbered f n (take (k + 1) xs) ≡ numbered f n (take k xs) ++ f (n + k) (get_or xs k d)
numbered_more {B = B} f n xs k d there =
    ap (numbered f n) (take_more xs k d there)
    ∙ numbered-append f n (take k xs) (get_or xs k d ∷ [])
    ∙ ap (λ (zs : List B). numbered f n (take k xs) ++ zs) (append-nil (f (n + length (take k xs)) (get_or xs k d)))
    ∙ ap (λ m. numbered f n (take k xs) ++ f m (get_or xs k d)) {x = n + length (take k xs)} {y = n + k} (omega (arith, length-take-le k xs (omega (arith, there))))

-- the first elements give no more than all
pub numbered-take : {A B : Type 0} (f : ℕ → A → List B) (n : ℕ) (xs : List A) (k : ℕ) → length (numbered f n (take k xs)) ≤ length (numbered f n xs)
numbered-take f n xs k =
    let parts = numbered-append f n (take k xs) (drop k xs) in
    let whole = ap length (sym parts) ∙ ap (λ zs. length (numbered f n zs)) (take-append-drop k xs) in
    omega (arith, whole, length-append (numbered f n (take k xs)) (numbered f (n + length (take k xs)) (drop k xs)))

-- the same by the places of the list
pub numbered_from : {A B : Type 0} (f : ℕ → A → List B) (n : ℕ) (xs : List A) (d : A) (g : ℕ → List B)
    → ((k m : ℕ) → m ≡ n + k → k < length xs → g m ≡ f m (get_or xs k d)) → flat_map g (range_with_len n (length xs)) ≡ numbered f n xs
numbered_from f n [] d g each = refl
numbered_from f n (x ∷ xs) d g each =
    let here : g n ≡ f n x = each 0 n (omega arith) (omega arith) in
    let rest = numbered_from f (n + 1) xs d g (λ k m is below. each (suc k) m (omega (arith, is)) (omega (arith, below))) in
    cc

pub numbered_is : {A B : Type 0} (f : ℕ → A → List B) (xs : List A) (d : A)
    → flat_map (λ k. f k (get_or xs k d)) (range_with_len 0 (length xs)) ≡ numbered f 0 xs
numbered_is f xs d = numbered_from f 0 xs d (λ k. f k (get_or xs k d)) (λ k m is below. ap (λ j. f m (get_or xs j d)) {x = m} {y = k} (omega (arith, is)))

-- what holds of what each gives holds of all
pub numbered-all : {A B : Type 0} (P : B → Type 0) (f : ℕ → A → List B) (n : ℕ) (xs : List A)
    → ((k m : ℕ) (x : A) → m ≡ n + k → k < length xs → x ≡ get_or xs k x → All P (f m x)) → All P (numbered f n xs)
numbered-all P f n [] each = All-nil P
numbered-all P f n (x ∷ xs) each =
    All-append P (f n x) (numbered f (n + 1) xs) (each 0 n x (omega arith) (omega arith) refl)
    (numbered-all P f (n + 1) xs (λ k m y is below same. each (suc k) m y (omega (arith, is)) (omega (arith, below)) same))

-- facets and doors
pub facets_are : (parts : List RegionPart) → facets_of parts ≡ numbered facets_at 0 parts
unfolding facets_of
facets_are parts = numbered_is facets_at parts no_part

pub doors_are : (facets : List Facet) → doors_of facets ≡ numbered facet_doors 0 facets
unfolding doors_of
doors_are facets = numbered_is facet_doors facets no_facet
