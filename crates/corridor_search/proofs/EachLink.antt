-- What holds of the links inside all tiles and of those over their borders holds of each link of a mesh.
use Rattle.std.proofs.Common.{◌≡◌, ℕ, ◌<◌, ◌≤◌, ◌+◌, ◌⊎◌, List, [], ◌∷◌, length, get_or, zero, suc, refl, sym, subst, arith, inl, inr}
use Rattle.std.specs.Prelude.{Contains, All, Some, slice_get}
use Rattle.std.specs.Option.{option_map_or}
use Rattle.std.proofs.lemmas.Bool.{cases_eq, cases_lt}
use Rattle.std.proofs.lemmas.List.{get_or_default}
use Rattle.std.proofs.lemmas.List.Elements.{All-contains, All-nil}
use Rattle.mesh_types.specs.declared.links.Link.{Link}
use Rattle.mesh_types.specs.declared.mesh.TileMesh.{TileMesh}
use Rattle.mesh_types.specs.declared.mesh.Mesh.{Mesh}
use Rattle.mesh_types.specs.Corridors.{IsLinkOf}
use Rattle.corridor_search.specs.Islands.{inner_of, outer_of}

module _ {X : Type 0} (P : X → Type 0) where
  -- one element of a list more
  pub one-more : (xs : List X) (n : ℕ) (e : X) → n < length xs → ((k : ℕ) (d : X) → k < n → P (get_or xs k d)) → P (get_or xs n e)
      → (k : ℕ) (d : X) → k < n + 1 → P (get_or xs k d)
  one-more xs n e there before here k d below =
      elim (cases_eq k n) [
        | inl is ↦ subst (λ (m : ℕ). P (get_or xs m d)) (sym is) (subst P (get_or_default xs n e d there) here)
        | inr differ ↦ before k d (omega (arith, below, differ))
      ]

module _ (mesh : Mesh) (P : Link → Type 0) where
  -- the links inside tiles and over borders are all
  pub each-link : ((t : ℕ) → All P (inner_of mesh t)) → ((t : ℕ) → All P (outer_of mesh t)) → (link : Link) → IsLinkOf mesh link → P link
  each-link inner outer link of_mesh = by_list of_mesh.listed
    where
      by_list : (((tile : TileMesh) × (slice_get mesh.tiles link.from.tile ≡ Some tile) × Contains tile.links link)
          ⊎ ((links : List Link) × (slice_get mesh.cross link.from.tile ≡ Some links) × Contains links link)) → P link
      by_list (inl held) =
          All-contains P held.0.links link
          (subst (λ o. All P (option_map_or (λ (tile : TileMesh). tile.links) o [])) held.1 (inner link.from.tile)) held.2
      by_list (inr held) =
          All-contains P held.0 link
          (subst (λ o. All P (option_map_or (λ (links : List Link). links) o [])) held.1 (outer link.from.tile)) held.2

  -- one tile more
  pub one-inner-more : (n : ℕ) → ((t : ℕ) → t < n → All P (inner_of mesh t)) → All P (inner_of mesh n) → (t : ℕ) → t < n + 1 → All P (inner_of mesh t)
  one-inner-more n before here t below =
      elim (cases_eq t n) [
        | inl is ↦ subst (λ (m : ℕ). All P (inner_of mesh m)) (sym is) here
        | inr differ ↦ before t (omega (arith, below, differ))
      ]

  pub one-outer-more : (n : ℕ) → ((t : ℕ) → t < n → All P (outer_of mesh t)) → All P (outer_of mesh n) → (t : ℕ) → t < n + 1 → All P (outer_of mesh t)
  one-outer-more n before here t below =
      elim (cases_eq t n) [
        | inl is ↦ subst (λ (m : ℕ). All P (outer_of mesh m)) (sym is) here
        | inr differ ↦ before t (omega (arith, below, differ))
      ]

  -- beyond the last tile there are no links
  beyond-inner : (tiles : List TileMesh) (t : ℕ) → length tiles ≤ t → option_map_or (λ (tile : TileMesh). tile.links) (slice_get tiles t) [] ≡ []
  beyond-inner [] t after = refl
  beyond-inner (tile ∷ tiles) zero after = absurd (omega (arith, after))
  beyond-inner (tile ∷ tiles) (suc t) after = beyond-inner tiles t (omega (arith, after))

  beyond-outer : (cross : List (List Link)) (t : ℕ) → length cross ≤ t → option_map_or (λ (links : List Link). links) (slice_get cross t) [] ≡ []
  beyond-outer [] t after = refl
  beyond-outer (links ∷ cross) zero after = absurd (omega (arith, after))
  beyond-outer (links ∷ cross) (suc t) after = beyond-outer cross t (omega (arith, after))

  pub all-inner : (n : ℕ) → length mesh.tiles ≤ n → ((t : ℕ) → t < n → All P (inner_of mesh t)) → (t : ℕ) → All P (inner_of mesh t)
  all-inner n whole each t =
      elim (cases_lt t n) [
        | inl less ↦ each t less
        | inr more ↦ subst (All P) (sym (beyond-inner mesh.tiles t (omega (arith, whole, more)))) (All-nil P)
      ]

  pub all-outer : (n : ℕ) → length mesh.cross ≤ n → ((t : ℕ) → t < n → All P (outer_of mesh t)) → (t : ℕ) → All P (outer_of mesh t)
  all-outer n whole each t =
      elim (cases_lt t n) [
        | inl less ↦ each t less
        | inr more ↦ subst (All P) (sym (beyond-outer mesh.cross t (omega (arith, whole, more)))) (All-nil P)
      ]
