-- Tests of what a list of off-mesh links holds, by numbers of polygons and by their tiles and places.
use Rattle.std.proofs.Common.{◌≡◌, ℕ, ◌+◌, ◌*◌, ◌<◌, Bool, true, cond, List, [], ◌∷◌, filter, refl, sym, ap, ◌∙◌, inl, inr, arith}
use Rattle.std.specs.Prelude.{◌==◌, ◌&&◌, All}
use Rattle.std.proofs.lemmas.Bool.{and_parts, and_from, and_left, and_right, cases_eq, eqb-true, eq-eqb, ne_eqb}
use Rattle.std.proofs.lemmas.List.Elements.{All-head, All-tail}
use Rattle.mesh_types.specs.declared.links.PolyRef.{PolyRef}
use Rattle.off_links.specs.OffMeshLinks.{number_of}

-- what tests agree on of each element they agree on of the list
pub filter_same : {X : Type 0} (p q : X → Bool) (xs : List X) → All (λ (x : X). p x ≡ q x) xs → filter p xs ≡ filter q xs
filter_same p q [] agree = refl
filter_same {X = X} p q (x ∷ xs) agree =
    ap (λ (b : Bool). cond b (x ∷ filter p xs) (filter p xs)) (All-head (λ (y : X). p y ≡ q y) x xs agree)
    ∙ ap (λ (ys : List X). cond (q x) (x ∷ ys) ys) (filter_same p q xs (All-tail (λ (y : X). p y ≡ q y) x xs agree))

-- polygons whose places are numbers of 32 bits have one number where they are one
tile_is : (a b i j : ℕ) → i < 4294967296 → j < 4294967296 → a * 4294967296 + i ≡ b * 4294967296 + j → a ≡ b
tile_is a b i j low low' same = omega (arith, low, low', same)

pub number_test : (a b : PolyRef) → a.index < 4294967296 → b.index < 4294967296 → (number_of a == number_of b) ≡ (a.tile == b.tile && a.index == b.index)
number_test a b low low' =
    elim (cases_eq (number_of a) (number_of b)) [
      | inl same ↦
          let tile : a.tile ≡ b.tile = tile_is a.tile b.tile a.index b.index low low' same in
          let index : a.index ≡ b.index = omega (arith, same, tile) in
          eq-eqb (number_of a) (number_of b) same ∙ sym (and_from (a.tile == b.tile) (a.index == b.index) (eq-eqb a.tile b.tile tile) (eq-eqb a.index b.index index))
      | inr apart ↦
          ne_eqb (number_of a) (number_of b) apart
          ∙ sym (elim (cases_eq a.tile b.tile) [
            | inl tile ↦ and_right (a.tile == b.tile) (a.index == b.index) (ne_eqb a.index b.index (λ index. apart (λ i. tile i * 4294967296 + index i)))
            | inr other ↦ and_left (a.tile == b.tile) (a.index == b.index) (ne_eqb a.tile b.tile other)
          ])
    ]

-- a polygon that passes the test is the other
pub place_is : (a b : PolyRef) → (a.tile == b.tile && a.index == b.index) ≡ true → a ≡ b
place_is a b passes =
    let parts = and_parts (a.tile == b.tile) (a.index == b.index) passes in
    let tile : a.tile ≡ b.tile = eqb-true a.tile b.tile parts.0 in
    let index : a.index ≡ b.index = eqb-true a.index b.index parts.1 in
    λ i. record { tile = tile i; index = index i }

pub place_same : (a : PolyRef) → (a.tile == a.tile && a.index == a.index) ≡ true
place_same a = and_from (a.tile == a.tile) (a.index == a.index) (eq-eqb a.tile a.tile refl) (eq-eqb a.index a.index refl)
