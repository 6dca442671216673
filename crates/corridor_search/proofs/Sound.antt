-- What soundness says of the polygons and the links of a mesh.
use Rattle.std.proofs.Common.{◌≡◌, ℕ, ◌⊎◌, true, List, [], refl, sym, subst, ap, ◌∙◌, inl, inr}
use Rattle.std.specs.Prelude.{Contains, All, slice_get, Option, Some, None, option_and_then, ◌==◌}
use Rattle.std.specs.Option.{option_map_or}
use Rattle.std.proofs.lemmas.Bool.{eqb-true, eq-eqb}
use Rattle.std.proofs.lemmas.Option.{slice_get_within, get_or_from_slice_get}
use Rattle.std.proofs.lemmas.List.Elements.{All-contains, Contains-append_cases, Contains-append_left, Contains-append_right}
use Rattle.mesh_types.specs.declared.links.PolyRef.{PolyRef}
use Rattle.mesh_types.specs.declared.links.Link.{Link}
use Rattle.mesh_types.specs.declared.polygon.Polygon.{Polygon}
use Rattle.mesh_types.specs.declared.mesh.TileMesh.{TileMesh}
use Rattle.mesh_types.specs.declared.mesh.Mesh.{Mesh}
use Rattle.mesh_types.specs.LinkIndex.{leaving_of}
use Rattle.mesh_types.specs.WholeMesh.{poly_at}
use Rattle.mesh_types.specs.Corridors.{IsLinkOf}
use Rattle.mesh_types.specs.FitTiles.{IsPolygon, IsInnerLink, IsFit}
use Rattle.mesh_types.specs.Soundness.{IsCrossLink, IsSound}
use Rattle.mesh_types.specs.Portals.{LeadsThrough}
use Rattle.graph_search.proofs.Members.{contains_none}
use Rattle.corridor_search.specs.MeshGraphs.{inner_links, outer_links, links_from}
use Rattle.corridor_search.proofs.Lists.{kept_element, kept_passes, kept_if_passes}

-- a tile of a sound mesh is fit, and stands in its place
pub tile-fit : (mesh : Mesh) (t : ℕ) (tile : TileMesh) → IsSound mesh → slice_get mesh.tiles t ≡ Some tile → IsFit mesh.setting tile
tile-fit mesh t tile sound is =
    subst (IsFit mesh.setting) (get_or_from_slice_get mesh.tiles t tile tile is) (sound.tiles.fit t tile (slice_get_within mesh.tiles t tile is))

pub tile-number : (mesh : Mesh) (t : ℕ) (tile : TileMesh) → IsSound mesh → slice_get mesh.tiles t ≡ Some tile → tile.tile ≡ t
tile-number mesh t tile sound is =
    ap (λ (other : TileMesh). other.tile) (sym (get_or_from_slice_get mesh.tiles t tile tile is)) ∙ sound.tiles.in_order t tile (slice_get_within mesh.tiles t tile is)

-- a polygon that is there stands in a tile
pub record IsPlaced (mesh : Mesh) (at : PolyRef) (polygon : Polygon) : Type 0 where
  pub tile : TileMesh
  pub tile_is : slice_get mesh.tiles at.tile ≡ Some tile
  pub is : slice_get tile.polys at.index ≡ Some polygon

pub placed : (mesh : Mesh) (at : PolyRef) (polygon : Polygon) → poly_at mesh at ≡ Some polygon → IsPlaced mesh at polygon
placed mesh at polygon is = by_tile (slice_get mesh.tiles at.tile) refl is
  where
    by_tile : (o : Option TileMesh) → slice_get mesh.tiles at.tile ≡ o → option_and_then (λ (tile : TileMesh). slice_get tile.polys at.index) o ≡ Some polygon
        → IsPlaced mesh at polygon
    by_tile None there is' = absurd (no_none is')
      where
        no_none : None ≡ Some polygon → ⊥
        no_none h = cc
    by_tile (Some tile) there is' = record { tile = tile; tile_is = there; is = is' }

-- it keeps the rules of polygons
pub polygon-rules : (mesh : Mesh) (at : PolyRef) (polygon : Polygon) → IsSound mesh → poly_at mesh at ≡ Some polygon → IsPolygon polygon
polygon-rules mesh at polygon sound is =
    let held = placed mesh at polygon is in
    subst IsPolygon (get_or_from_slice_get held.tile.polys at.index polygon polygon held.is)
    ((tile-fit mesh at.tile held.tile sound held.tile_is).polys at.index polygon (slice_get_within held.tile.polys at.index polygon held.is))

-- a link that leaves a polygon is one of the mesh, and leads through its portal
pub record IsLeading (mesh : Mesh) (at : PolyRef) (link : Link) : Type 0 where
  pub leaves : link.from ≡ at
  pub listed : IsLinkOf mesh link
  pub through : LeadsThrough (poly_at mesh link.from) (poly_at mesh link.to) link

pub inner-leads : (mesh : Mesh) (at : PolyRef) (link : Link) → IsSound mesh → Contains (inner_links mesh at) link → IsLeading mesh at link
inner-leads mesh at link sound held = by_tile (slice_get mesh.tiles at.tile) refl held
  where
    by_tile : (o : Option TileMesh) → slice_get mesh.tiles at.tile ≡ o → Contains (option_map_or (λ (tile : TileMesh). leaving_of at.index tile.links) o []) link
        → IsLeading mesh at link
    by_tile None there kept = absurd (contains_none link kept)
    by_tile (Some tile) there kept =
        let listed = kept_element (λ (l : Link). l.from.index == at.index) tile.links link kept in
        let index : link.from.index ≡ at.index = eqb-true _ _ (kept_passes (λ (l : Link). l.from.index == at.index) tile.links link kept) in
        let inner = All-contains (IsInnerLink tile) tile.links link (tile-fit mesh at.tile tile sound there).links listed in
        let number = tile-number mesh at.tile tile sound there in
        let from_tile : link.from.tile ≡ at.tile = inner.from_here ∙ number in
        let to_tile : link.to.tile ≡ at.tile = inner.to_here ∙ number in
        let from_there : slice_get mesh.tiles link.from.tile ≡ Some tile = ap (slice_get mesh.tiles) from_tile ∙ there in
        let to_there : slice_get mesh.tiles link.to.tile ≡ Some tile = ap (slice_get mesh.tiles) to_tile ∙ there in
        record {
          leaves = λ i. record { tile = from_tile i; index = index i };
          listed = record { listed = inl (tile, from_there, listed) };
          through =
              subst (λ (o : Option Polygon). LeadsThrough o (poly_at mesh link.to) link) (sym (ap (option_and_then (λ (t : TileMesh). slice_get t.polys link.from.index)) from_there))
              (subst (λ (o : Option Polygon). LeadsThrough (slice_get tile.polys link.from.index) o link) (sym (ap (option_and_then (λ (t : TileMesh). slice_get t.polys link.to.index)) to_there))
              inner.through);
        }

pub outer-leads : (mesh : Mesh) (at : PolyRef) (link : Link) → IsSound mesh → Contains (outer_links mesh at) link → IsLeading mesh at link
outer-leads mesh at link sound held = by_tile (slice_get mesh.cross at.tile) refl held
  where
    by_tile : (o : Option (List Link)) → slice_get mesh.cross at.tile ≡ o → Contains (option_map_or (leaving_of at.index) o []) link → IsLeading mesh at link
    by_tile None there kept = absurd (contains_none link kept)
    by_tile (Some links) there kept =
        let listed = kept_element (λ (l : Link). l.from.index == at.index) links link kept in
        let index : link.from.index ≡ at.index = eqb-true _ _ (kept_passes (λ (l : Link). l.from.index == at.index) links link kept) in
        let each = subst (All (IsCrossLink mesh at.tile)) (get_or_from_slice_get mesh.cross at.tile links links there)
        (sound.cross at.tile links (slice_get_within mesh.cross at.tile links there)) in
        let outer = All-contains (IsCrossLink mesh at.tile) links link each listed in
        let from_there : slice_get mesh.cross link.from.tile ≡ Some links = ap (slice_get mesh.cross) outer.from_here ∙ there in
        record {
          leaves = λ i. record { tile = outer.from_here i; index = index i };
          listed = record { listed = inr (links, from_there, listed) };
          through = outer.through;
        }

pub leads : (mesh : Mesh) (at : PolyRef) (link : Link) → IsSound mesh → Contains (links_from mesh at) link → IsLeading mesh at link
leads mesh at link sound held =
    elim (Contains-append_cases (inner_links mesh at) (outer_links mesh at) link held) [
      | inl inside ↦ inner-leads mesh at link sound inside
      | inr outside ↦ outer-leads mesh at link sound outside
    ]

-- and the links of the mesh are those that leave its polygons
pub leaves-listed : (mesh : Mesh) (link : Link) → IsLinkOf mesh link → Contains (links_from mesh link.from) link
leaves-listed mesh link is_link = by_list is_link.listed
  where
    own : (l : Link) → (l.from.index == l.from.index) ≡ true
    own l = eq-eqb _ _ refl

    by_list : (((tile : TileMesh) × (slice_get mesh.tiles link.from.tile ≡ Some tile) × Contains tile.links link)
        ⊎ ((links : List Link) × (slice_get mesh.cross link.from.tile ≡ Some links) × Contains links link)) → Contains (links_from mesh link.from) link
    by_list (inl h) =
        Contains-append_left (inner_links mesh link.from) (outer_links mesh link.from) link
        (subst (λ (o : Option TileMesh). Contains (option_map_or (λ (tile : TileMesh). leaving_of link.from.index tile.links) o []) link) (sym h.1)
        (kept_if_passes (λ (l : Link). l.from.index == link.from.index) h.0.links link (own link) h.2))
    by_list (inr h) =
        Contains-append_right (inner_links mesh link.from) (outer_links mesh link.from) link
        (subst (λ (o : Option (List Link)). Contains (option_map_or (leaving_of link.from.index) o []) link) (sym h.1)
        (kept_if_passes (λ (l : Link). l.from.index == link.from.index) h.0 link (own link) h.2))
