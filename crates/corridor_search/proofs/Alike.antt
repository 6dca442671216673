-- Which landmarks reach a polygon: along a walk that does not change.
use Rattle.std.proofs.Common.{◌≡◌, ℕ, zero, suc, ◌+◌, Bool, true, false, List, [], ◌∷◌, refl, subst, ap, ◌∙◌, arith}
use Rattle.std.specs.Prelude.{◌&&◌, slice_index_or, Option, Some, None, IfSome}
use Rattle.std.specs.Bool.{beq}
use Rattle.std.specs.Option.{option_map_or}
use Rattle.std.proofs.lemmas.Bool.{false≢true, both_ways, and_parts, and_from}
use Rattle.mesh_types.specs.declared.links.PolyRef.{PolyRef}
use Rattle.mesh_types.specs.declared.links.Link.{Link}
use Rattle.mesh_types.specs.declared.mesh.Mesh.{Mesh}
use Rattle.mesh_types.specs.Corridors.{WalksTo}
use Rattle.corridor_search.specs.MeshGraphs.{IsApart}
use Rattle.corridor_search.specs.Landmarks.{Heights, flat, heights_at, is_unreached, are_alike, AreLandmarks}

-- one landmark more
alike-next : (n : ℕ) (xs ys : List ℕ) → are_alike (suc n) xs ys ≡ (are_alike n xs ys && beq (is_unreached (slice_index_or xs n 0)) (is_unreached (slice_index_or ys n 0)))
unfolding are_alike
alike-next n xs ys = refl

pub alike-more : (n : ℕ) (xs ys : List ℕ) → are_alike (n + 1) xs ys ≡ (are_alike n xs ys && beq (is_unreached (slice_index_or xs n 0)) (is_unreached (slice_index_or ys n 0)))
alike-more n xs ys =
    let is : n + 1 ≡ suc n = omega arith in
    ap (λ (m : ℕ). are_alike m xs ys) is ∙ alike-next n xs ys

pub alike-first : (xs ys : List ℕ) → are_alike 0 xs ys ≡ true
unfolding are_alike
alike-first xs ys = refl

-- each is alike to itself
beq-same : (a : Bool) → beq a a ≡ true
beq-same true = refl
beq-same false = refl

pub alike-same : (n : ℕ) (xs : List ℕ) → are_alike n xs xs ≡ true
unfolding are_alike
alike-same zero xs = refl
alike-same (suc n) xs = and_from (are_alike n xs xs) (beq (is_unreached (slice_index_or xs n 0)) (is_unreached (slice_index_or xs n 0))) (alike-same n xs) (beq-same (is_unreached (slice_index_or xs n 0)))

-- and to what those are alike to that it is
beq-through : (a b c : Bool) → beq a b ≡ true → beq b c ≡ true → beq a c ≡ true
beq-through true true c h k = k
beq-through true false c h k = absurd (false≢true h)
beq-through false true c h k = absurd (false≢true h)
beq-through false false c h k = k

alike-through : (n : ℕ) (xs ys zs : List ℕ) → are_alike n xs ys ≡ true → are_alike n ys zs ≡ true → are_alike n xs zs ≡ true
unfolding are_alike
alike-through zero xs ys zs h k = refl
alike-through (suc n) xs ys zs h k =
    let a = is_unreached (slice_index_or xs n 0) in
    let b = is_unreached (slice_index_or ys n 0) in
    let c = is_unreached (slice_index_or zs n 0) in
    let first = and_parts (are_alike n xs ys) (beq a b) h in
    let second = and_parts (are_alike n ys zs) (beq b c) k in
    and_from (are_alike n xs zs) (beq a c) (alike-through n xs ys zs first.0 second.0) (beq-through a b c first.1 second.1)

-- so are the ends of a walk
walk-alike : (mesh : Mesh) (marks : Heights) → AreLandmarks mesh marks → (links : List Link) (from to : PolyRef) → WalksTo mesh from links to
    → are_alike 8 (heights_at marks from) (heights_at marks to) ≡ true
walk-alike mesh marks are [] from to walk =
    subst (λ (at : PolyRef). are_alike 8 (heights_at marks from) (heights_at marks at) ≡ true) walk (alike-same 8 (heights_at marks from))
walk-alike mesh marks are (link ∷ links) from to walk =
    subst (λ (at : PolyRef). are_alike 8 (heights_at marks at) (heights_at marks to) ≡ true) walk.1
    (alike-through 8 (heights_at marks link.from) (heights_at marks link.to) (heights_at marks to) (are.each link walk.0).alike
    (walk-alike mesh marks are links link.to to walk.2))

-- and polygons that are not alike are apart
pub unlike-apart : (mesh : Mesh) (marks : Option Heights) (from to : PolyRef) → IfSome marks (AreLandmarks mesh)
    → are_alike 8 (option_map_or (λ (m : Heights). heights_at m from) marks flat) (option_map_or (λ (m : Heights). heights_at m to) marks flat) ≡ false
    → IsApart mesh from to
unlike-apart mesh None from to are not links walk = both_ways (are_alike 8 flat flat) not (alike-same 8 flat)
unlike-apart mesh (Some marks) from to are not links walk =
    both_ways (are_alike 8 (heights_at marks from) (heights_at marks to)) not (walk-alike mesh marks are links from to walk)
