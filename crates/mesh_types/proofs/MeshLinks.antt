-- The links of a sound mesh: from which polygon into which they lead, and which points lie behind and ahead of them.
use Rattle.std.proofs.Common.{◌≡◌, ◌≢◌, ℕ, List, ap, sym, subst, ◌∙◌, inl, inr}
use Rattle.std.specs.Prelude.{All, Contains, slice_get, Option, Some, option_and_then}
use Rattle.std.proofs.lemmas.Option.{slice_get_within, get_or_from_slice_get, same_Some}
use Rattle.nav_base.specs.declared.point.Point.{Point}
use Rattle.mesh_types.specs.declared.links.Link.{Link}
use Rattle.mesh_types.specs.declared.links.PolyRef.{PolyRef}
use Rattle.mesh_types.specs.declared.polygon.Polygon.{Polygon}
use Rattle.mesh_types.specs.declared.mesh.TileMesh.{TileMesh}
use Rattle.mesh_types.specs.declared.mesh.Mesh.{Mesh}
use Rattle.mesh_types.specs.Chains.{IsBehind, IsAhead}
use Rattle.mesh_types.specs.Corridors.{IsLinkOf}
use Rattle.mesh_types.specs.Located.{Holds, HoldsAt}
use Rattle.mesh_types.specs.Portals.{LeadsThrough}
use Rattle.mesh_types.specs.FitTiles.{IsInnerLink}
use Rattle.mesh_types.specs.Soundness.{IsCrossLink, IsSound}
use Rattle.mesh_types.specs.WholeMesh.{poly_at}
use Rattle.mesh_types.proofs.MeshPolygons.{tile_at, placed}
use Rattle.mesh_types.proofs.PortalEnds.{out_held, in_held, ends_apart, held_behind, held_ahead}

-- an element of a list keeps what all elements keep
pub All-contained : {X : Type 0} (P : X → Type 0) (xs : List X) (x : X) → All P xs → Contains xs x → P x
All-contained P xs x all one = subst P one.2 (all one.0 x one.1)

-- a link leads from the polygon that it names into the other
abbrev pub Leads : Mesh → Link → Type 0
Leads mesh link = LeadsThrough (poly_at mesh link.from) (poly_at mesh link.to) link

pub leads : (mesh : Mesh) (link : Link) → IsSound mesh → IsLinkOf mesh link → Leads mesh link
leads mesh link sound is = elim is.listed [ inl inside ↦ inner inside.0 inside.1 inside.2 | inr outside ↦ cross outside.0 outside.1 outside.2 ]
  where
    inner : (tile : TileMesh) → slice_get mesh.tiles link.from.tile ≡ Some tile → Contains tile.links link → Leads mesh link
    inner tile there listed =
        let rules = tile_at mesh link.from.tile tile sound there in
        let keeps = All-contained (IsInnerLink tile) tile.links link rules.fit.links listed in
        let there' : slice_get mesh.tiles link.to.tile ≡ Some tile = ap (slice_get mesh.tiles) (keeps.to_here ∙ rules.numbered) ∙ there in
        subst (λ (o : Option Polygon). LeadsThrough o (poly_at mesh link.to) link)
        (sym (ap (option_and_then (λ (t : TileMesh). slice_get t.polys link.from.index)) there))
        (subst (λ (o : Option Polygon). LeadsThrough (slice_get tile.polys link.from.index) o link)
        (sym (ap (option_and_then (λ (t : TileMesh). slice_get t.polys link.to.index)) there')) keeps.through)

    cross : (links : List Link) → slice_get mesh.cross link.from.tile ≡ Some links → Contains links link → Leads mesh link
    cross links there listed =
        (All-contained (IsCrossLink mesh link.from.tile) links link
        (subst (All (IsCrossLink mesh link.from.tile)) (get_or_from_slice_get mesh.cross link.from.tile links links there)
        (sound.cross link.from.tile links (slice_get_within mesh.cross link.from.tile links there))) listed).through

-- the polygon of a reference holds a point of the plane
pub record IsHeldIn (mesh : Mesh) (at : PolyRef) (p : Point) : Type 0 where
  pub polygon : Polygon
  pub there : poly_at mesh at ≡ Some polygon
  pub holds : Holds polygon p

pub held_in : (mesh : Mesh) (p : Point) (y : ℕ) (at : PolyRef) → HoldsAt mesh p y at → IsHeldIn mesh at p
held_in mesh p y at held = record { polygon = held.polygon; there = held.there; holds = held.holds }

-- both ends of a link's portal are held in both polygons
pub record AreEndsHeld (mesh : Mesh) (at : PolyRef) (link : Link) : Type 0 where
  pub left : IsHeldIn mesh at link.portal.left
  pub right : IsHeldIn mesh at link.portal.right

pub ends_left : (mesh : Mesh) (link : Link) → IsSound mesh → Leads mesh link → AreEndsHeld mesh link.from link
ends_left mesh link sound lead =
    let ends = out_held lead.leaves link.edge link.portal (placed mesh link.from lead.leaves sound lead.is_left).rules.convex lead.out in
    record {
      left = record { polygon = lead.leaves; there = lead.is_left; holds = ends.left };
      right = record { polygon = lead.leaves; there = lead.is_left; holds = ends.right };
    }

pub ends_entered : (mesh : Mesh) (link : Link) → IsSound mesh → Leads mesh link → AreEndsHeld mesh link.to link
ends_entered mesh link sound lead =
    let ends = in_held lead.enters link.portal (placed mesh link.to lead.enters sound lead.is_entered).rules.convex lead.into in
    record {
      left = record { polygon = lead.enters; there = lead.is_entered; holds = ends.left };
      right = record { polygon = lead.enters; there = lead.is_entered; holds = ends.right };
    }

-- what the polygon left holds lies behind the portal, and what the polygon entered holds lies ahead of it
pub behind_link : (mesh : Mesh) (link : Link) (p : Point) → Leads mesh link → IsHeldIn mesh link.from p → IsBehind link.portal p
behind_link mesh link p lead held =
    held_behind lead.leaves link.edge link.portal p lead.out
    (subst (λ (d : Polygon). Holds d p) (same_Some held.polygon lead.leaves (sym held.there ∙ lead.is_left)) held.holds)

pub ahead_link : (mesh : Mesh) (link : Link) (p : Point) → Leads mesh link → IsHeldIn mesh link.to p → IsAhead link.portal p
ahead_link mesh link p lead held =
    held_ahead lead.enters link.portal p lead.into
    (subst (λ (d : Polygon). Holds d p) (same_Some held.polygon lead.enters (sym held.there ∙ lead.is_entered)) held.holds)

-- the two ends of a link's portal are different points
pub wide_link : (mesh : Mesh) (link : Link) → Leads mesh link → link.portal.left ≢ link.portal.right
wide_link mesh link lead = λ same. ends_apart _ _ _ _ lead.out.lies (sym same)
