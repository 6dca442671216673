-- The links that leave a polygon of a sound mesh are those of the mesh that do, and each leads through its portal.
use Rattle.std.proofs.Common.{◌≡◌, ◌⊎◌, true, List, [], refl, sym, ap, subst, ◌∙◌, inl, inr}
use Rattle.std.specs.Prelude.{All, Contains, slice_get, Option, Some, None, ◌==◌}
use Rattle.std.specs.Option.{option_map_or}
use Rattle.std.proofs.lemmas.Bool.{eqb-true, eq-eqb}
use Rattle.std.proofs.lemmas.Option.{slice_get_within, get_or_from_slice_get, same_Some}
use Rattle.std.proofs.lemmas.List.Elements.{All-contains, Contains-get_or, Contains-append_cases, Contains-append_left, Contains-append_right}
use Rattle.nav_base.specs.Point.{IsCellCorner}
use Rattle.mesh_types.specs.declared.links.PolyRef.{PolyRef}
use Rattle.mesh_types.specs.declared.links.Link.{Link}
use Rattle.mesh_types.specs.declared.polygon.Polygon.{Polygon}
use Rattle.mesh_types.specs.declared.mesh.TileMesh.{TileMesh}
use Rattle.mesh_types.specs.declared.mesh.Mesh.{Mesh}
use Rattle.mesh_types.specs.LinkIndex.{leaving_of}
use Rattle.mesh_types.specs.Corridors.{IsLinkOf}
use Rattle.mesh_types.specs.FitTiles.{IsInnerLink}
use Rattle.mesh_types.specs.Soundness.{IsCrossLink, IsSound}
use Rattle.mesh_types.specs.Portals.{IsPortalOut}
use Rattle.mesh_types.specs.WholeMesh.{poly_at}
use Rattle.mesh_types.proofs.MeshLinks.{leads, ends_left}
use Rattle.mesh_types.proofs.MeshPolygons.{tile_at, placed}
use Rattle.mesh_types.proofs.WalkChains.{held_in_coordinates}
use Rattle.fine_walk.specs.Passing.{IsOutward, inner_links, outer_links, links_from}
use Rattle.fine_walk.proofs.Members.{contains_none, kept_element, kept_passes, kept_if_passes}

-- a link of the mesh that leaves a polygon
pub record IsLeaving (mesh : Mesh) (at : PolyRef) (link : Link) : Type 0 where
  pub leaves : link.from ≡ at
  pub listed : IsLinkOf mesh link

inner : (mesh : Mesh) (at : PolyRef) (link : Link) → IsSound mesh → Contains (inner_links mesh at) link → IsLeaving mesh at link
inner mesh at link sound held = by_tile (slice_get mesh.tiles at.tile) refl held
  where
    by_tile : (o : Option TileMesh) → slice_get mesh.tiles at.tile ≡ o → Contains (option_map_or (λ (tile : TileMesh). leaving_of at.index tile.links) o []) link
        → IsLeaving mesh at link
    by_tile None there kept = absurd (contains_none link kept)
    by_tile (Some tile) there kept =
        let listed = kept_element (λ (l : Link). l.from.index == at.index) tile.links link kept in
        let index : link.from.index ≡ at.index = eqb-true _ _ (kept_passes (λ (l : Link). l.from.index == at.index) tile.links link kept) in
        let rules = tile_at mesh at.tile tile sound there in
        let inside = All-contains (IsInnerLink tile) tile.links link rules.fit.links listed in
        let tile_is : link.from.tile ≡ at.tile = inside.from_here ∙ rules.numbered in
        record { leaves = λ i. record { tile = tile_is i; index = index i }; listed = record { listed = inl (tile, ap (slice_get mesh.tiles) tile_is ∙ there, listed) } }

outer : (mesh : Mesh) (at : PolyRef) (link : Link) → IsSound mesh → Contains (outer_links mesh at) link → IsLeaving mesh at link
outer mesh at link sound held = by_tile (slice_get mesh.cross at.tile) refl held
  where
    by_tile : (o : Option (List Link)) → slice_get mesh.cross at.tile ≡ o → Contains (option_map_or (leaving_of at.index) o []) link → IsLeaving mesh at link
    by_tile None there kept = absurd (contains_none link kept)
    by_tile (Some links) there kept =
        let listed = kept_element (λ (l : Link). l.from.index == at.index) links link kept in
        let index : link.from.index ≡ at.index = eqb-true _ _ (kept_passes (λ (l : Link). l.from.index == at.index) links link kept) in
        let crossing = All-contains (IsCrossLink mesh at.tile) links link
        (subst (All (IsCrossLink mesh at.tile)) (get_or_from_slice_get mesh.cross at.tile links links there)
        (sound.cross at.tile links (slice_get_within mesh.cross at.tile links there))) listed in
        record {
          leaves = λ i. record { tile = crossing.from_here i; index = index i };
          listed = record { listed = inr (links, ap (slice_get mesh.cross) crossing.from_here ∙ there, listed) };
        }

pub leaving : (mesh : Mesh) (at : PolyRef) (link : Link) → IsSound mesh → Contains (links_from mesh at) link → IsLeaving mesh at link
leaving mesh at link sound held =
    elim (Contains-append_cases (inner_links mesh at) (outer_links mesh at) link held) [
      | inl inside ↦ inner mesh at link sound inside
      | inr outside ↦ outer mesh at link sound outside
    ]

pub leaving_listed : (mesh : Mesh) (at : PolyRef) (link : Link) → IsLinkOf mesh link → link.from ≡ at → Contains (links_from mesh at) link
leaving_listed mesh at link is leaves = subst (λ (p : PolyRef). Contains (links_from mesh p) link) leaves (by_list is.listed)
  where
    own : (l : Link) → (l.from.index == l.from.index) ≡ true
    own l = eq-eqb _ _ refl

    by_list : (((tile : TileMesh) × (slice_get mesh.tiles link.from.tile ≡ Some tile) × Contains tile.links link)
        ⊎ ((links : List Link) × (slice_get mesh.cross link.from.tile ≡ Some links) × Contains links link)) → Contains (links_from mesh link.from) link
    by_list (inl h) =
        Contains-append_left (inner_links mesh link.from) (outer_links mesh link.from) link
        (subst (λ (o : Option TileMesh). Contains (option_map_or (λ (tile : TileMesh). leaving_of link.from.index tile.links) o []) link) (sym h.1)
        (kept_if_passes (λ (l : Link). l.from.index == link.from.index) h.0.links link (own link) h.2))
    by_list (inr h) =
        Contains-append_right (inner_links mesh link.from) (outer_links mesh link.from) link
        (subst (λ (o : Option (List Link)). Contains (option_map_or (leaving_of link.from.index) o []) link) (sym h.1)
        (kept_if_passes (λ (l : Link). l.from.index == link.from.index) h.0 link (own link) h.2))

-- they leave over edges of the polygon, through portals with coordinates, into polygons of the mesh
outward : (mesh : Mesh) (at : PolyRef) (polygon : Polygon) (link : Link) → IsSound mesh → poly_at mesh at ≡ Some polygon → IsLeaving mesh at link
    → IsOutward mesh polygon link
outward mesh at polygon link sound there is =
    let lead = leads mesh link sound is.listed in
    let ends = ends_left mesh link sound lead in
    let same : lead.leaves ≡ polygon = same_Some lead.leaves polygon (sym lead.is_left ∙ ap (poly_at mesh) is.leaves ∙ there) in
    record {
      there = (subst (λ (p : Polygon). IsPortalOut p link.edge link.portal) same lead.out).there;
      left = held_in_coordinates mesh link.from link.portal.left sound ends.left;
      right = held_in_coordinates mesh link.from link.portal.right sound ends.right;
      entered = record { polygon = lead.enters; is = lead.is_entered };
    }

pub inner_outward : (mesh : Mesh) (at : PolyRef) (polygon : Polygon) → IsSound mesh → poly_at mesh at ≡ Some polygon → All (IsOutward mesh polygon) (inner_links mesh at)
inner_outward mesh at polygon sound there k d within = outward mesh at polygon _ sound there (inner mesh at _ sound (Contains-get_or (inner_links mesh at) k d within))

pub outer_outward : (mesh : Mesh) (at : PolyRef) (polygon : Polygon) → IsSound mesh → poly_at mesh at ≡ Some polygon → All (IsOutward mesh polygon) (outer_links mesh at)
outer_outward mesh at polygon sound there k d within = outward mesh at polygon _ sound there (outer mesh at _ sound (Contains-get_or (outer_links mesh at) k d within))

-- the corners of a polygon that is there
pub its_corners : (mesh : Mesh) (at : PolyRef) (polygon : Polygon) → IsSound mesh → poly_at mesh at ≡ Some polygon → All IsCellCorner polygon.corners
its_corners mesh at polygon sound there = (placed mesh at polygon sound there).rules.corners
