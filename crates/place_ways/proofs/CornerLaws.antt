-- The turns of a taut line in the portals of a walk: each is held by the polygon that its link enters.
use Rattle.std.proofs.Common.{◌≡◌, ◌∙◌, refl, ℕ, ◌+◌, ◌<◌, ◌≤◌, List, [], ◌∷◌, ◌++◌, length, get_or, take, ap, sym, subst, arith}
use Rattle.std.specs.Prelude.{All}
use Rattle.std.specs.List.{AllZip}
use Rattle.std.proofs.lemmas.List.{get_or-map, length-map, take_all, take_more}
use Rattle.std.proofs.lemmas.List.Elements.{All-cons, All-nil}
use Rattle.std.proofs.lemmas.Option.{slice_get-get_or}
use Rattle.std.proofs.lemmas.Slice.Zip.{all_zipped_more}
use Rattle.nav_base.specs.Point.{HasCoordinates}
use Rattle.mesh_types.specs.declared.answers.Corner.{Corner}
use Rattle.mesh_types.specs.declared.answers.Side.{Side}
use Rattle.mesh_types.specs.declared.answers.Side.TheVariants.{L, R}
use Rattle.mesh_types.specs.declared.links.Link.{Link}
use Rattle.mesh_types.specs.declared.links.PolyRef.{PolyRef}
use Rattle.mesh_types.specs.declared.mesh.Mesh.{Mesh}
use Rattle.mesh_types.specs.declared.storeys.MeshPlace.{MeshPlace}
use Rattle.mesh_types.specs.Chains.{end_of}
use Rattle.mesh_types.specs.Corridors.{IsLinkOf, WalksTo}
use Rattle.mesh_types.specs.Places.{storey_at}
use Rattle.mesh_types.specs.Rays.{IsHeldAt}
use Rattle.mesh_types.specs.Right.{portals_of}
use Rattle.mesh_types.specs.Soundness.{IsSound}
use Rattle.mesh_types.specs.Taut.{IsNamed}
use Rattle.mesh_types.proofs.MeshLinks.{AreEndsHeld, IsHeldIn, ends_entered, leads}
use Rattle.mesh_types.proofs.WalkChains.{held_in_coordinates, link_at, some_link}
use Rattle.place_ways.specs.Corners.{AreCorners, IsCornerPlace, IsFloorTold}

-- the links of a walk are links of the mesh
pub links_listed : (mesh : Mesh) (from : PolyRef) (links : List Link) (to : PolyRef) → WalksTo mesh from links to → All (IsLinkOf mesh) links
links_listed mesh from [] to walk = All-nil (IsLinkOf mesh)
links_listed mesh from (link ∷ links) to walk = All-cons (IsLinkOf mesh) link links walk.0 (links_listed mesh link.to links to walk.2)

-- an end of a portal is held where both are
end_held : (mesh : Mesh) (at : PolyRef) (link : Link) (side : Side) → AreEndsHeld mesh at link → IsHeldIn mesh at (end_of side link.portal)
end_held mesh at link L held = held.left
end_held mesh at link R held = held.right

module _ (mesh : Mesh) (links : List Link) (turn : Corner) (sound : IsSound mesh) (listed : All (IsLinkOf mesh) links)
    (named : IsNamed (portals_of links) turn) where
  -- its link is there
  pub within : turn.portal < length links
  within = omega (arith, named.there, length-map links (λ (link : Link). link.portal))

  abbrev entering : Link
  entering = link_at links turn.portal

  -- it is an end of that link's portal
  at_end : turn.at ≡ end_of turn.side entering.portal
  at_end = named.at_end ∙ ap (end_of turn.side) (get_or-map (λ (l : Link). l.portal) links turn.portal some_link _ within)

  held_in_entered : IsHeldIn mesh entering.to turn.at
  held_in_entered =
      subst (IsHeldIn mesh entering.to) (sym at_end)
      (end_held mesh entering.to entering turn.side (ends_entered mesh entering sound (leads mesh entering sound (listed turn.portal some_link within))))

  pub held_there : IsHeldAt mesh turn.at entering.to
  held_there = let held = held_in_entered in record { polygon = held.polygon; there = held.there; holds = held.holds }

  pub has_coordinates : HasCoordinates turn.at
  has_coordinates = held_in_coordinates mesh entering.to turn.at sound held_in_entered

  -- the turn as a place
  pub corner_there : (y : ℕ) → IsFloorTold (storey_at mesh entering.to) turn.at y
      → IsCornerPlace mesh links turn (record { polygon = entering.to; point = turn.at; y = y })
  corner_there y floor = record {
    link = entering;
    named = slice_get-get_or links turn.portal some_link within;
    polygon = refl;
    point = refl;
    held = held_there;
    floor = floor;
  }

-- ---- the corners so far

pub record AreCornersSoFar (mesh : Mesh) (from : MeshPlace) (links : List Link) (turns : List Corner) (corners : List MeshPlace) : Type 0 where
  pub inner : List MeshPlace
  pub begins : corners ≡ from ∷ inner
  pub each : AllZip (IsCornerPlace mesh links) turns inner

module _ (mesh : Mesh) (from : MeshPlace) (links : List Link) where
  pub corners_none : AreCornersSoFar mesh from links [] (from ∷ [])
  corners_none = record { inner = []; begins = refl; each = tt }

  pub corners_more : (turns : List Corner) (corners : List MeshPlace) (i : ℕ) (d : Corner) (place : MeshPlace) → i < length turns
      → AreCornersSoFar mesh from links (take i turns) corners → IsCornerPlace mesh links (get_or turns i d) place
      → AreCornersSoFar mesh from links (take (i + 1) turns) (corners ++ place ∷ [])
  corners_more turns corners i d place there are is = record {
    inner = are.inner ++ place ∷ [];
    begins = ap (λ (cs : List MeshPlace). cs ++ place ∷ []) are.begins;
    each = subst (λ (ts : List Corner). AllZip (IsCornerPlace mesh links) ts (are.inner ++ place ∷ [])) (sym (take_more turns i d there))
        (all_zipped_more (IsCornerPlace mesh links) (take i turns) are.inner (get_or turns i d) place are.each is);
  }

  pub corners_all : (turns : List Corner) (corners : List MeshPlace) (i : ℕ) (goal : MeshPlace) → length turns ≤ i
      → AreCornersSoFar mesh from links (take i turns) corners → AreCorners mesh from goal links turns (corners ++ goal ∷ [])
  corners_all turns corners i goal end are = record {
    inner = are.inner;
    whole = ap (λ (cs : List MeshPlace). cs ++ goal ∷ []) are.begins;
    each = subst (λ (ts : List Corner). AllZip (IsCornerPlace mesh links) ts are.inner) (take_all i turns end) are.each;
  }
