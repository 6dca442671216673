-- The portal whose right end comes first, link after link, and of the links inside a tile and over its border.
use Rattle.std.proofs.Common.{◌≡◌, ℕ, ◌+◌, ◌<◌, ◌⊎◌, inl, inr, ℤ, ◌≤ℤ◌, ◌<ℤ◌, List, [], ◌∷◌, length, take, get_or, refl, sym, subst, arith}
use Rattle.std.specs.Prelude.{Contains, Option, Some, None}
use Rattle.std.proofs.lemmas.Int.{ints}
use Rattle.std.proofs.lemmas.List.{take_more}
use Rattle.std.proofs.lemmas.List.Elements.{Contains-append_cases, Contains-append_left, Contains-append_right, Contains-push, Contains-push_cases}
use Rattle.nav_base.specs.declared.point.Point.{Point}
use Rattle.nav_base.specs.Point.{HasCoordinates}
use Rattle.nav_base.proofs.Sizes.{HasCoordinates-field}
use Rattle.mesh_types.specs.declared.links.Link.{Link}
use Rattle.mesh_types.specs.declared.links.Portal.{Portal}
use Rattle.mesh_types.specs.declared.mesh.Mesh.{Mesh}
use Rattle.mesh_types.specs.Soundness.{IsSound}
use Rattle.wall_slide.specs.Gathers.{IsLeading, inner_links, outer_links}
use Rattle.wall_query.specs.declared.parts.PolygonEdge.{PolygonEdge}
use Rattle.wall_query.specs.Parts.{IsBeyond, IsFirst, IsFirstAmong, IsFirstPortal, IsSooner, LeadsOver, far_on}
use Rattle.wall_query.proofs.FieldPoints.{portal_field}
use Rattle.wall_slide.proofs.LeavingLinks.{leaving, leaving_listed}

at_most : (a b c : ℤ) → a ≤ℤ b → b ≤ℤ c → a ≤ℤ c
at_most a b c h k = omega (arith, ints)

itself : (a : ℤ) → a ≤ℤ a
itself a = omega (arith, ints)

module _ (edge : PolygonEdge) where
  -- the same links, known otherwise
  pub same_links : (P Q : Link → Type 0) (result : Option Portal) → IsFirstAmong P edge result → ((link : Link) → P link → Q link) → ((link : Link) → Q link → P link)
      → IsFirstAmong Q edge result
  same_links P Q None none to from = λ link is. none link (from link is)
  same_links P Q (Some portal) is to from = record { link = is.link; one = to is.link is.one; is = is.is; first = λ other one. is.first other (from other one) }

  -- the first of some links, and another one
  pub first_of_both : (P Q : Link → Type 0) (first : Option Portal) (portal result : Portal) → IsFirstAmong P edge first → IsFirst Q edge portal
      → IsSooner edge first portal result → IsFirst (λ link. P link ⊎ Q link) edge result
  first_of_both P Q None portal result none is same =
      subst (IsFirst (λ link. P link ⊎ Q link) edge) (sym same) (record {
        link = is.link;
        one = inr is.one;
        is = is.is;
        first = λ other one. elim one [ inl p ↦ absurd (none other p) | inr q ↦ is.first other q ];
      })
  first_of_both P Q (Some first) portal result is is' (inl sooner) =
      subst (IsFirst (λ link. P link ⊎ Q link) edge) (sym sooner.0) (record {
        link = is.link;
        one = inl is.one;
        is = is.is;
        first = λ other one. elim one [ inl p ↦ is.first other p | inr q ↦ at_most _ _ _ sooner.1 (is'.first other q) ];
      })
  first_of_both P Q (Some first) portal result is is' (inr sooner) =
      subst (IsFirst (λ link. P link ⊎ Q link) edge) (sym sooner.0) (record {
        link = is'.link;
        one = inr is'.one;
        is = is'.is;
        first = λ other one. elim one [ inl p ↦ at_most _ _ _ sooner.1 (is.first other p) | inr q ↦ is'.first other q ];
      })

  only : (link : Link) → IsFirst (λ l. l ≡ link) edge link.portal
  only link = record { link = link; one = refl; is = refl; first = λ other same. subst (λ (l : Link). far_on edge link.portal.right ≤ℤ far_on edge l.portal.right) (sym same) (itself (far_on edge link.portal.right)) }

  -- ---- link after link

  module _ (mesh : Mesh) (areas : ℕ) (from : Point) where
    abbrev Seen : List Link → Link → Type 0
    Seen links link = Contains links link × IsBeyond mesh areas edge from link

    module _ (links : List Link) (i : ℕ) (d : Link) (below : i < length links) (first : Option Portal) (so_far : IsFirstAmong (Seen (take i links)) edge first) where
      pub one_more : IsBeyond mesh areas edge from (get_or links i d) → (result : Portal) → IsSooner edge first (get_or links i d).portal result
          → IsFirstAmong (Seen (take (i + 1) links)) edge (Some result)
      one_more beyond result sooner =
          same_links (λ link. Seen (take i links) link ⊎ (link ≡ get_or links i d)) (Seen (take (i + 1) links)) (Some result)
          (first_of_both (Seen (take i links)) (λ link. link ≡ get_or links i d) first (get_or links i d).portal result so_far (only (get_or links i d)) sooner)
          (λ link either. elim either [
            | inl seen ↦ (later link seen.0, seen.1)
            | inr same ↦ (subst (λ (l : Link). Contains (take (i + 1) links) l) (sym same) last, subst (IsBeyond mesh areas edge from) (sym same) beyond)
          ])
          (λ link seen. elim (cases link seen.0) [
            | inl earlier ↦ inl (earlier, seen.1)
            | inr same ↦ inr (sym same)
          ])
        where
          later : (link : Link) → Contains (take i links) link → Contains (take (i + 1) links) link
          later link held = subst (λ (l : List Link). Contains l link) (sym (take_more links i d below)) (Contains-append_left (take i links) (get_or links i d ∷ []) link held)

          last : Contains (take (i + 1) links) (get_or links i d)
          last = subst (λ (l : List Link). Contains l (get_or links i d)) (sym (take_more links i d below)) (Contains-push (take i links) (get_or links i d))

          cases : (link : Link) → Contains (take (i + 1) links) link → Contains (take i links) link ⊎ (get_or links i d ≡ link)
          cases link held = Contains-push_cases (take i links) (get_or links i d) link (subst (λ (l : List Link). Contains l link) (take_more links i d below) held)

      pub one_less : (IsBeyond mesh areas edge from (get_or links i d) → ⊥) → IsFirstAmong (Seen (take (i + 1) links)) edge first
      one_less not =
          same_links (Seen (take i links)) (Seen (take (i + 1) links)) first so_far
          (λ link seen. (subst (λ (l : List Link). Contains l link) (sym (take_more links i d below)) (Contains-append_left (take i links) (get_or links i d ∷ []) link seen.0), seen.1))
          (λ link seen.
          elim (Contains-push_cases (take i links) (get_or links i d) link (subst (λ (l : List Link). Contains l link) (take_more links i d below) seen.0)) [
            | inl earlier ↦ (earlier, seen.1)
            | inr same ↦ absurd (not (subst (IsBeyond mesh areas edge from) (sym same) seen.1))
          ])

    -- the links that leave the polygon, inside its tile and over the border, are those of the mesh
    module _ (sound : IsSound mesh) where
      abbrev Inside : Link → Type 0
      Inside link = Seen (inner_links mesh edge.polygon) link

      abbrev Outside : Link → Type 0
      Outside link = Seen (outer_links mesh edge.polygon) link

      abbrev Over : Link → Type 0
      Over link = LeadsOver mesh areas edge.polygon edge.edge link × (far_on edge from <ℤ far_on edge link.portal.left)

      over_of : (link : Link) → Inside link ⊎ Outside link → Over link
      over_of link (inl seen) =
          let out = leaving mesh edge.polygon link sound (Contains-append_left (inner_links mesh edge.polygon) (outer_links mesh edge.polygon) link seen.0) in
          (record { listed = out.listed; enters = seen.1.enters; leaves = out.leaves; over = seen.1.over }, seen.1.beyond)
      over_of link (inr seen) =
          let out = leaving mesh edge.polygon link sound (Contains-append_right (inner_links mesh edge.polygon) (outer_links mesh edge.polygon) link seen.0) in
          (record { listed = out.listed; enters = seen.1.enters; leaves = out.leaves; over = seen.1.over }, seen.1.beyond)

      of_over : (link : Link) → Over link → Inside link ⊎ Outside link
      of_over link over =
          let beyond : IsBeyond mesh areas edge from link = record { enters = over.0.enters; over = over.0.over; beyond = over.1 } in
          elim (Contains-append_cases (inner_links mesh edge.polygon) (outer_links mesh edge.polygon) link (leaving_listed mesh edge.polygon link over.0.listed over.0.leaves)) [
            | inl inside ↦ inl (inside, beyond)
            | inr outside ↦ inr (outside, beyond)
          ]

      pub all_links : (inside : Option Portal) (outside result : Portal) → IsFirstAmong Inside edge inside → IsFirst Outside edge outside → IsSooner edge inside outside result
          → IsFirstPortal mesh areas edge from (Some result)
      all_links inside outside result first first' sooner =
          same_links (λ link. Inside link ⊎ Outside link) Over (Some result) (first_of_both Inside Outside inside outside result first first' sooner) over_of of_over

      pub inner_links_alone : (inside : Option Portal) → IsFirstAmong Inside edge inside → ((link : Link) → Outside link → ⊥) → IsFirstPortal mesh areas edge from inside
      inner_links_alone inside first none =
          same_links Inside Over inside first (λ link seen. over_of link (inl seen)) (λ link over. elim (of_over link over) [
            | inl seen ↦ seen
            | inr seen ↦ absurd (none link seen)
          ])

  -- the right end of a portal that was found has coordinates
  pub right_coordinates : (mesh : Mesh) (P : Link → Type 0) (portal : Portal) → IsSound mesh → ((link : Link) → P link → IsLeading mesh link) → IsFirst P edge portal
      → HasCoordinates portal.right
  right_coordinates mesh P portal sound lead is =
      subst (λ (p : Portal). HasCoordinates p.right) is.is (HasCoordinates-field is.link.portal.right (portal_field mesh is.link sound (lead is.link is.one)).right)
