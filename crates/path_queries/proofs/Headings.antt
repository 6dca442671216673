-- The estimate of a search is 0 at the goal for which it makes.
use Rattle.std.proofs.Common.{◌≡◌, ℕ, zero, suc, ◌*◌, ◌<◌, List, [], ◌∷◌, length, refl, sym, ap, ◌∙◌, arith}
use Rattle.std.specs.Prelude.{Contains, slice_index_or, pos, ◌-ℤ◌, ℤ}
use Rattle.std.proofs.lemmas.Int.{ints}
use Rattle.nav_base.specs.declared.point.Point.{Point}
use Rattle.nav_base.specs.Deviation.{square_of}
use Rattle.nav_base.specs.Distance.{distance_of}
use Rattle.nav_base.specs.Point.{dot_of, from_to}
use Rattle.nav_base.specs.Root.{ceil_sqrt_of}
use Rattle.mesh_types.specs.declared.extent.Extent.{Extent}
use Rattle.mesh_types.specs.declared.links.PolyRef.{PolyRef}
use Rattle.mesh_types.specs.declared.mesh.Mesh.{Mesh}
use Rattle.corridor_search.specs.MeshGraphs.{IsThere, vertex_of}
use Rattle.corridor_search.specs.Estimates.{estimate_from, extent_at, middle_of}
use Rattle.corridor_search.proofs.Extents.{estimate-by}

-- the only element of a list
pub one-goal : {X : Type 0} (xs : List X) (x : X) → length xs ≡ 1 → Contains xs x → (d : X) → slice_index_or xs 0 d ≡ x
one-goal [] x one held d = absurd (omega (arith, one))
one-goal (y ∷ []) x one held d = by_place held.0 held.1 held.2
  where
    by_place : (k : ℕ) → k < length (y ∷ []) → slice_index_or (y ∷ []) k x ≡ x → y ≡ x
    by_place zero below is = is
    by_place (suc k) below is = absurd (omega (arith, below))
one-goal (y ∷ z ∷ xs) x one held d = absurd (omega (arith, one))

-- a point is at no distance from itself
no-way : (x : ℤ) → (x -ℤ x) ≡ pos 0
no-way x = grind (arith, ints)

still : (p : Point) → from_to p p ≡ record { x = pos 0; z = pos 0 }
still p = λ i. record { x = no-way p.x i; z = no-way p.z i }

no-square : square_of (record { x = pos 0; z = pos 0 }) ≡ 0
unfolding dot_of
no-square = refl

no-root : ceil_sqrt_of 0 ≡ 0
unfolding ceil_sqrt_of
no-root = refl

no-distance : (p : Point) → distance_of p p ≡ 0
no-distance p = ap (λ (v : Point). ceil_sqrt_of (square_of v)) (still p) ∙ ap ceil_sqrt_of no-square ∙ no-root

none-times : (n : ℕ) → 0 * n ≡ 0
none-times n = omega arith

pub rest-none : (mesh : Mesh) (aim : Point) (least : ℕ) (goal : PolyRef) (extent : Extent) → IsThere mesh goal → {at : PolyRef} → at ≡ goal
    → extent ≡ extent_at mesh at → aim ≡ middle_of extent → estimate_from mesh aim goal * least ≡ 0
rest-none mesh aim least goal extent there {at = at} same is middle =
    let by = estimate-by mesh aim (vertex_of goal) extent there (is ∙ ap (extent_at mesh) same) in
    let none : estimate_from mesh aim goal ≡ 0 = sym by ∙ ap (λ (p : Point). distance_of p aim) (sym middle) ∙ no-distance aim in
    ap (λ (n : ℕ). n * least) none ∙ none-times least
