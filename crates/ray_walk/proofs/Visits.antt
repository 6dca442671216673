-- The polygons of a mesh, which of them a walk has visited, and how many are left.
use Rattle.std.proofs.Common.{◌≡◌, ℕ, zero, suc, ◌<◌, ◌≤◌, ◌+◌, Bool, true, false, cond, List, [], ◌∷◌, ◌++◌, length, map, refl, sym, subst, ap, ◌∙◌, inl, inr, arith}
use Rattle.std.specs.Prelude.{Contains, slice_get, Some, None}
use Rattle.std.specs.List.{range_with_len, count_by}
use Rattle.std.proofs.lemmas.List.FromFn.{length-map-range_with_len, get_or-map-range_with_len}
use Rattle.std.proofs.lemmas.List.Elements.{Contains-append_left, Contains-append_right}
use Rattle.std.proofs.lemmas.List.Sums.{sum_by-cons}
use Rattle.std.proofs.lemmas.Option.{slice_get_within}
use Rattle.mesh_types.specs.declared.links.PolyRef.{PolyRef}
use Rattle.mesh_types.specs.declared.mesh.TileMesh.{TileMesh}
use Rattle.mesh_types.specs.declared.mesh.Mesh.{Mesh}
use Rattle.mesh_types.specs.Soundness.{IsSound}
use Rattle.mesh_types.proofs.MeshPolygons.{placed}
use Rattle.ray_walk.specs.Walking.{IsThere}
use Rattle.ray_walk.proofs.Members.{contains_cases, contains_none}

-- ---- the polygons of a mesh

-- those of tiles that are numbered from a number on
polygons_from : ℕ → List TileMesh → List PolyRef
polygons_from number [] = []
polygons_from number (tile ∷ tiles) = map (λ index. record { tile = number; index = index }) (range_with_len 0 (length tile.polys)) ++ polygons_from (number + 1) tiles

in_tile : (number count index : ℕ) → index < count
    → Contains (map (λ index. let at : PolyRef = record { tile = number; index = index } in at) (range_with_len 0 count)) (record { tile = number; index = index })
in_tile number count index below = (
  index,
  subst (λ (n : ℕ). index < n) (sym (length-map-range_with_len (λ (i : ℕ). reference i) 0 count)) below,
  get_or-map-range_with_len (λ (i : ℕ). reference i) 0 count index index (reference index) below (omega arith),
)
  where
    reference : ℕ → PolyRef
    reference i = record { tile = number; index = i }

in_tiles : (number : ℕ) (tiles : List TileMesh) (k : ℕ) (tile : TileMesh) (index : ℕ) → slice_get tiles k ≡ Some tile → index < length tile.polys
    → Contains (polygons_from number tiles) (record { tile = number + k; index = index })
unfolding polygons_from
in_tiles number [] k tile index is below = absurd (no_none is)
  where
    no_none : None ≡ Some tile → ⊥
    no_none h = cc
in_tiles number (other ∷ tiles) zero tile index is below =
    let same : other ≡ tile = cc in
    Contains-append_left _ (polygons_from (number + 1) tiles) (record { tile = number + 0; index = index })
    (subst (λ (n : ℕ). Contains (map (λ index. let at : PolyRef = record { tile = number; index = index } in at) (range_with_len 0 (length other.polys))) (record { tile = n; index = index })) (omega arith)
    (in_tile number (length other.polys) index (subst (λ (t : TileMesh). index < length t.polys) (sym same) below)))
in_tiles number (other ∷ tiles) (suc k) tile index is below =
    Contains-append_right _ (polygons_from (number + 1) tiles) (record { tile = number + suc k; index = index })
    (subst (λ (n : ℕ). Contains (polygons_from (number + 1) tiles) (record { tile = n; index = index })) (omega arith)
    (in_tiles (number + 1) tiles k tile index is below))

-- all polygons of a mesh
pub polygons_of : Mesh → List PolyRef
polygons_of mesh = polygons_from 0 mesh.tiles

pub is_one : (mesh : Mesh) (p : PolyRef) → IsSound mesh → IsThere mesh p → Contains (polygons_of mesh) p
unfolding polygons_of
is_one mesh p sound there =
    let held = placed mesh p there.polygon sound there.is in
    subst (λ (n : ℕ). Contains (polygons_from 0 mesh.tiles) (record { tile = n; index = p.index })) (omega arith)
    (in_tiles 0 mesh.tiles p.tile held.tile p.index held.there (slice_get_within held.tile.polys p.index there.polygon held.listed))

-- ---- what is counted

-- where fewer pass of each kind, no more pass; and fewer, where one that passed does not
no_more : {X : Type 0} (f g : X → Bool) (xs : List X) → ((x : X) → g x ≡ true → f x ≡ true) → count_by g xs ≤ count_by f xs
no_more f g [] fewer = omega arith
no_more {X = X} f g (x ∷ xs) fewer = by_test (g x) refl (no_more f g xs fewer)
  where
    by_test : (b : Bool) → g x ≡ b → count_by g xs ≤ count_by f xs → count_by g (x ∷ xs) ≤ count_by f (x ∷ xs)
    by_test true is rest =
        let n : ℕ = cond (g x) 1 0 in
        let m : ℕ = cond (f x) 1 0 in
        let one : n ≡ 1 = ap (λ b. cond b 1 0) is in
        let one' : m ≡ 1 = ap (λ b. cond b 1 0) (fewer x is) in
        omega (arith, rest, one, one', sum_by-cons (λ y. cond (f y) 1 0) x xs, sum_by-cons (λ y. cond (g y) 1 0) x xs)
    by_test false is rest =
        let n : ℕ = cond (g x) 1 0 in
        let none : n ≡ 0 = ap (λ b. cond b 1 0) is in
        omega (arith, rest, none, sum_by-cons (λ y. cond (f y) 1 0) x xs, sum_by-cons (λ y. cond (g y) 1 0) x xs)

pub one_less : {X : Type 0} (f g : X → Bool) (xs : List X) (x : X) → ((y : X) → g y ≡ true → f y ≡ true) → f x ≡ true → g x ≡ false → Contains xs x
    → count_by g xs < count_by f xs
one_less f g [] x fewer was is held = absurd (contains_none x held)
one_less {X = X} f g (y ∷ ys) x fewer was is held =
    elim (contains_cases y x ys held) [
      | inl same ↦
          let n : ℕ = cond (g y) 1 0 in
          let m : ℕ = cond (f y) 1 0 in
          let none : n ≡ 0 = ap (λ b. cond b 1 0) (ap g same ∙ is) in
          let one : m ≡ 1 = ap (λ b. cond b 1 0) (ap f same ∙ was) in
          omega (arith, none, one, sum_by-cons (λ z. cond (f z) 1 0) y ys, sum_by-cons (λ z. cond (g z) 1 0) y ys, no_more f g ys fewer)
      | inr later ↦
          let rest = one_less f g ys x fewer was is later in
          let all = no_more f g (y ∷ []) fewer in
          omega (
            arith,
            rest,
            all,
            sum_by-cons (λ z. cond (f z) 1 0) y ys,
            sum_by-cons (λ z. cond (g z) 1 0) y ys,
            sum_by-cons (λ z. cond (f z) 1 0) y [],
            sum_by-cons (λ z. cond (g z) 1 0) y [],
          )
    ]
