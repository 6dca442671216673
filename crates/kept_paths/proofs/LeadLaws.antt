-- The links as which kept links lead on: those of a polygon through a portal, and that they are an allowed walk.
use Rattle.std.proofs.Common.{◌≡◌, ℕ, ◌+◌, ◌≤◌, ◌<◌, List, [], ◌∷◌, ◌++◌, length, drop, get_or, refl, sym, subst, ◌⊎◌, inl, inr, arith}
use Rattle.std.specs.Prelude.{All, Contains, IfNone, IfSome, None, Option, Some}
use Rattle.std.proofs.lemmas.Bool.{cases_lt}
use Rattle.std.proofs.lemmas.List.{append-nil, append_assoc, drop_all, drop_more, get_or_default}
use Rattle.std.proofs.lemmas.List.Elements.{All-nil, All-cons, Contains-append_cases}
use Rattle.mesh_types.specs.declared.links.Link.{Link}
use Rattle.mesh_types.specs.declared.links.PolyRef.{PolyRef}
use Rattle.mesh_types.specs.declared.mesh.Mesh.{Mesh}
use Rattle.mesh_types.specs.Corridors.{IsLinkOf, WalksTo}
use Rattle.mesh_types.specs.Soundness.{IsSound}
use Rattle.corridor_search.specs.MeshGraphs.{inner_links, links_from, outer_links}
use Rattle.corridor_search.proofs.Sound.{inner-leads, leaves-listed, outer-leads}
use Rattle.path_queries.specs.Filters.{AllowedTo, Enters}
use Rattle.kept_paths.specs.KeptPaths.{LeadOn, LeadsOn}

-- ---- the links of a polygon

module _ (mesh : Mesh) (at : PolyRef) (sound : IsSound mesh) where
  -- a link that leaves it
  pub record IsLeaving (link : Link) : Type 0 where
    pub listed : IsLinkOf mesh link
    pub leaves : link.from ≡ at

  pub inside-leaves : (links : List Link) (link : Link) → links ≡ inner_links mesh at → Contains links link → IsLeaving link
  inside-leaves links link is held =
      let lead = inner-leads mesh at link sound (subst (λ (ls : List Link). Contains ls link) is held) in
      record { listed = lead.listed; leaves = lead.leaves }

  pub outside-leaves : (links : List Link) (link : Link) → links ≡ outer_links mesh at → Contains links link → IsLeaving link
  outside-leaves links link is held =
      let lead = outer-leads mesh at link sound (subst (λ (ls : List Link). Contains ls link) is held) in
      record { listed = lead.listed; leaves = lead.leaves }

  -- stands among those inside its tile or among those over the border
  pub either : (inside outside : List Link) (link : Link) → inside ≡ inner_links mesh at → outside ≡ outer_links mesh at → IsLinkOf mesh link → link.from ≡ at
      → Contains inside link ⊎ Contains outside link
  either inside outside link is is' listed leaves =
      elim (Contains-append_cases (inner_links mesh at) (outer_links mesh at) link
      (subst (λ (p : PolyRef). Contains (links_from mesh p) link) leaves (leaves-listed mesh link listed))) [
        | inl held ↦ inl (subst (λ (ls : List Link). Contains ls link) (sym is) held)
        | inr held ↦ inr (subst (λ (ls : List Link). Contains ls link) (sym is') held)
      ]

  -- it leads on where it stands among those of either list
  pub inside-on : (areas : ℕ) (links : List Link) (kept link : Link) → links ≡ inner_links mesh at → Contains links link → link.portal ≡ kept.portal
      → Enters mesh areas link → LeadsOn mesh areas at kept link
  inside-on areas links kept link is held same enters =
      let leaving = inside-leaves links link is held in
      record { through = record { listed = leaving.listed; leaves = leaving.leaves; through = same }; enters = enters }

  pub outside-on : (areas : ℕ) (links : List Link) (kept link : Link) → links ≡ outer_links mesh at → Contains links link → link.portal ≡ kept.portal
      → Enters mesh areas link → LeadsOn mesh areas at kept link
  outside-on areas links kept link is held same enters =
      let leaving = outside-leaves links link is held in
      record { through = record { listed = leaving.listed; leaves = leaving.leaves; through = same }; enters = enters }

  -- what is found in the second list, where the first has none
  pub found-outside : (areas : ℕ) (kept : Link) (links : List Link) (found : Option Link) → links ≡ outer_links mesh at
      → IfSome found (λ link. Contains links link × (link.portal ≡ kept.portal) × Enters mesh areas link) → IfSome found (LeadsOn mesh areas at kept)
  found-outside areas kept links None is held = held
  found-outside areas kept links (Some link) is held = outside-on areas links kept link is held.0 held.1 held.2

  pub found-nowhere : (areas : ℕ) (kept : Link) (inside outside : List Link) (found : Option Link) → inside ≡ inner_links mesh at → outside ≡ outer_links mesh at
      → ((link : Link) → Contains inside link → link.portal ≡ kept.portal → Enters mesh areas link → ⊥)
      → IfNone found ((link : Link) → Contains outside link → link.portal ≡ kept.portal → Enters mesh areas link → ⊥)
      → IfNone found ((link : Link) → LeadsOn mesh areas at kept link → ⊥)
  found-nowhere areas kept inside outside (Some link) is is' never never' = never'
  found-nowhere areas kept inside outside None is is' never never' = λ link leads.
      elim (either inside outside link is is' leads.through.listed leads.through.leaves) [
        | inl held ↦ never link held leads.through.through leads.enters
        | inr held ↦ never' link held leads.through.through leads.enters
      ]

-- none of the links up to a place keeps what none before it keeps, nor the one there
pub none-more : (P : Link → Type 0) (links : List Link) (n : ℕ) (e : Link) → n < length links → ((k : ℕ) (d : Link) → k < n → P (get_or links k d) → ⊥)
    → (P (get_or links n e) → ⊥) → (k : ℕ) (d : Link) → k < n + 1 → P (get_or links k d) → ⊥
none-more P links n e there before here k d less holds =
    elim (cases_lt k n) [
      | inl earlier ↦ before k d earlier holds
      | inr later ↦
          let same : k ≡ n = omega (arith, less, later) in
          here (subst P (get_or_default links n d e there) (subst (λ (m : ℕ). P (get_or links m d)) same holds))
    ]

-- and where none does at any place, none does
pub none-contained : (P : Link → Type 0) (links : List Link) (n : ℕ) → length links ≤ n → ((k : ℕ) (d : Link) → k < n → P (get_or links k d) → ⊥)
    → (link : Link) → Contains links link → P link → ⊥
none-contained P links n end before link held holds = before held.0 link (omega (arith, held.1, end)) (subst P (sym held.2) holds)

-- ---- a kept path that leads on

module _ (mesh : Mesh) (areas : ℕ) where
  pub lead-walks : (at : PolyRef) (kept links : List Link) (last : PolyRef) → LeadOn mesh areas at kept links last → WalksTo mesh at links last
  lead-walks at [] [] last lead = lead
  lead-walks at [] (link ∷ links) last lead = absurd lead
  lead-walks at (kept ∷ more) [] last lead = lead.0
  lead-walks at (kept ∷ more) (link ∷ links) last lead =
      (lead.0.through.listed, lead.0.through.leaves, lead-walks link.to more links last lead.2)

  pub lead-enters : (at : PolyRef) (kept links : List Link) (last : PolyRef) → LeadOn mesh areas at kept links last → All (Enters mesh areas) links
  lead-enters at [] [] last lead = All-nil (Enters mesh areas)
  lead-enters at [] (link ∷ links) last lead = absurd lead
  lead-enters at (kept ∷ more) [] last lead = All-nil (Enters mesh areas)
  lead-enters at (kept ∷ more) (link ∷ links) last lead =
      All-cons (Enters mesh areas) link links lead.0.enters (lead-enters link.to more links last lead.2)

  pub lead-links : (at : PolyRef) (kept links : List Link) (last : PolyRef) → LeadOn mesh areas at kept links last → All (IsLinkOf mesh) links
  lead-links at [] [] last lead = All-nil (IsLinkOf mesh)
  lead-links at [] (link ∷ links) last lead = absurd lead
  lead-links at (kept ∷ more) [] last lead = All-nil (IsLinkOf mesh)
  lead-links at (kept ∷ more) (link ∷ links) last lead =
      All-cons (IsLinkOf mesh) link links lead.0.through.listed (lead-links link.to more links last lead.2)

  pub lead-few : (at : PolyRef) (kept links : List Link) (last : PolyRef) → LeadOn mesh areas at kept links last → length links ≤ length kept
  lead-few at [] [] last lead = omega arith
  lead-few at [] (link ∷ links) last lead = absurd lead
  lead-few at (kept ∷ more) [] last lead = omega arith
  lead-few at (kept ∷ more) (link ∷ links) last lead = omega (arith, lead-few link.to more links last lead.2)

  pub lead-allowed : (at : PolyRef) (kept links : List Link) (last : PolyRef) → LeadOn mesh areas at kept links last → AllowedTo mesh areas at links last
  lead-allowed at kept links last lead = record { walks = lead-walks at kept links last lead; enters = lead-enters at kept links last lead }

  -- it leads on by one link more
  pub one-more : (at : PolyRef) (kept : Link) (more : List Link) (link : Link) (links : List Link) (last : PolyRef) → LeadsOn mesh areas at kept link
      → (LeadsOn mesh areas at kept kept → link ≡ kept) → LeadOn mesh areas link.to more links last → LeadOn mesh areas at (kept ∷ more) (link ∷ links) last
  one-more at kept more link links last leads same lead = (leads, same, lead)

  -- ---- what the links so far answer for every rest

  abbrev pub AnswersAll : PolyRef → List Link → List Link → PolyRef → List Link → Type 0
  AnswersAll first kept links at left =
      (rest : List Link) (last : PolyRef) → LeadOn mesh areas at left rest last → LeadOn mesh areas first kept (links ++ rest) last

  pub answers-none : (first : PolyRef) (kept : List Link) → AnswersAll first kept [] first kept
  answers-none first kept rest last lead = lead

  -- they do so with one more
  pub answers-more : (first at : PolyRef) (kept links : List Link) (i : ℕ) (d next : Link) → i < length kept → LeadsOn mesh areas at (get_or kept i d) next
      → (LeadsOn mesh areas at (get_or kept i d) (get_or kept i d) → next ≡ get_or kept i d) → AnswersAll first kept links at (drop i kept)
      → AnswersAll first kept (links ++ next ∷ []) next.to (drop (i + 1) kept)
  answers-more first at kept links i d next there leads same so rest last lead =
      subst (λ (ls : List Link). LeadOn mesh areas first kept ls last) (sym (append_assoc links (next ∷ []) rest))
      (so (next ∷ rest) last (subst (λ (ks : List Link). LeadOn mesh areas at ks (next ∷ rest) last) (sym (drop_more kept i d there)) (leads, same, lead)))

  -- they are all where the next kept link leads on no more, and where none is left
  pub answers-cut : (first at : PolyRef) (kept links : List Link) (i : ℕ) (d : Link) → i < length kept
      → ((link : Link) → LeadsOn mesh areas at (get_or kept i d) link → ⊥) → AnswersAll first kept links at (drop i kept) → LeadOn mesh areas first kept links at
  answers-cut first at kept links i d there never so =
      subst (λ (ls : List Link). LeadOn mesh areas first kept ls at) (append-nil links)
      (so [] at (subst (λ (ks : List Link). LeadOn mesh areas at ks [] at) (sym (drop_more kept i d there)) (refl, never)))

  pub answers-end : (first at : PolyRef) (kept links : List Link) (i : ℕ) → length kept ≤ i → AnswersAll first kept links at (drop i kept)
      → LeadOn mesh areas first kept links at
  answers-end first at kept links i end so =
      subst (λ (ls : List Link). LeadOn mesh areas first kept ls at) (append-nil links)
      (so [] at (subst (λ (ks : List Link). LeadOn mesh areas at ks [] at) (sym (drop_all i kept end)) refl))
