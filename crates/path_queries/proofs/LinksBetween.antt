-- The link that leads from a polygon to another: the first that does of those that leave it.
use Rattle.std.proofs.Common.{◌≡◌, ℕ, ◌+◌, ◌≤◌, ◌<◌, List, length, get_or, refl, sym, subst, inl, inr, arith}
use Rattle.std.specs.Prelude.{Contains, IfNone, IfSome, None, Option, Some}
use Rattle.std.specs.Option.{IsSome}
use Rattle.std.proofs.lemmas.Bool.{cases_lt}
use Rattle.std.proofs.lemmas.List.{get_or_default}
use Rattle.std.proofs.lemmas.List.Elements.{Contains-append_cases}
use Rattle.mesh_types.specs.declared.links.Link.{Link}
use Rattle.mesh_types.specs.declared.links.PolyRef.{PolyRef}
use Rattle.mesh_types.specs.declared.mesh.Mesh.{Mesh}
use Rattle.mesh_types.specs.Soundness.{IsSound}
use Rattle.corridor_search.specs.MeshGraphs.{inner_links, links_from, outer_links}
use Rattle.corridor_search.proofs.Sound.{inner-leads, leaves-listed, outer-leads}
use Rattle.path_queries.specs.Batches.{IsLinkBetween}

-- none of a list up to a place is what none before it is, nor the one there
pub none-more : {X : Type 0} (P : X → Type 0) (xs : List X) (n : ℕ) (e : X) → n < length xs → ((k : ℕ) (d : X) → k < n → P (get_or xs k d) → ⊥)
    → (P (get_or xs n e) → ⊥) → (k : ℕ) (d : X) → k < n + 1 → P (get_or xs k d) → ⊥
none-more P xs n e there before here k d less holds =
    elim (cases_lt k n) [
      | inl earlier ↦ before k d earlier holds
      | inr later ↦
          let same : k ≡ n = omega (arith, less, later) in
          here (subst P (get_or_default xs n d e there) (subst (λ (m : ℕ). P (get_or xs m d)) same holds))
    ]

-- and where it is said of all places, of each element
pub none-contained : {X : Type 0} (P : X → Type 0) (xs : List X) (n : ℕ) → length xs ≤ n → ((k : ℕ) (d : X) → k < n → P (get_or xs k d) → ⊥)
    → (x : X) → Contains xs x → P x → ⊥
none-contained P xs n end before x held holds = before held.0 x (omega (arith, held.1, end)) (subst P (sym held.2) holds)

-- where something would not be there if nothing were found, something is found
pub some-there : {X : Type 0} (P : X → Type 0) (found : Option X) → IfNone found ((x : X) → P x → ⊥) → (x : X) → P x → IsSome found
some-there P (Some y) none x holds = refl
some-there P None none x holds = absurd (none x holds)

module _ (mesh : Mesh) (from to : PolyRef) (sound : IsSound mesh) where
  pub inside-between : (links : List Link) (link : Link) → links ≡ inner_links mesh from → Contains links link → link.to ≡ to
      → IsLinkBetween mesh from to link
  inside-between links link is held same =
      let lead = inner-leads mesh from link sound (subst (λ (ls : List Link). Contains ls link) is held) in
      record { listed = lead.listed; leaves = lead.leaves; reaches = same }

  -- what is found in the second list, where the first has none
  pub found-outside : (links : List Link) (found : Option Link) → links ≡ outer_links mesh from
      → IfSome found (λ link. Contains links link × (link.to ≡ to)) → IfSome found (IsLinkBetween mesh from to)
  found-outside links None is held = held
  found-outside links (Some link) is held =
      let lead = outer-leads mesh from link sound (subst (λ (ls : List Link). Contains ls link) is held.0) in
      record { listed = lead.listed; leaves = lead.leaves; reaches = held.1 }

  pub found-nowhere : (inside outside : List Link) (found : Option Link) → inside ≡ inner_links mesh from → outside ≡ outer_links mesh from
      → ((link : Link) → Contains inside link → link.to ≡ to → ⊥)
      → IfNone found ((link : Link) → Contains outside link → link.to ≡ to → ⊥)
      → IfNone found ((link : Link) → IsLinkBetween mesh from to link → ⊥)
  found-nowhere inside outside (Some link) is is' never never' = never'
  found-nowhere inside outside None is is' never never' = λ link between.
      elim (Contains-append_cases (inner_links mesh from) (outer_links mesh from) link
      (subst (λ (p : PolyRef). Contains (links_from mesh p) link) between.leaves (leaves-listed mesh link between.listed))) [
        | inl held ↦ never link (subst (λ (ls : List Link). Contains ls link) (sym is) held) between.reaches
        | inr held ↦ never' link (subst (λ (ls : List Link). Contains ls link) (sym is') held) between.reaches
      ]
