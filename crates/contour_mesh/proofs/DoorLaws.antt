-- What the doors of a tile's parts keep.
use Rattle.std.proofs.Common.{◌≡◌, ℕ, ◌+◌, ◌<◌, true, length, List, get_or, ap, ◌∙◌, sym, subst, arith, tests, inl, inr}
use Rattle.std.specs.Prelude.{All, ◌==◌, ◌&&◌}
use Rattle.std.specs.List.{range_with_len}
use Rattle.std.proofs.lemmas.Bool.{and_parts, eqb-true, or_cases}
use Rattle.std.proofs.lemmas.List.{get_or_default}
use Rattle.std.proofs.lemmas.List.Elements.{All-map}
use Rattle.std.proofs.lemmas.List.FromFn.{get_or-range_with_len, length-range_with_len}
use Rattle.nav_base.specs.declared.point.Point.{Point}
use Rattle.nav_base.specs.Convex.{corner_at, place_after}
use Rattle.mesh_types.specs.declared.region.Piece.{Piece}
use Rattle.mesh_types.specs.declared.region.RegionPart.{RegionPart}
use Rattle.mesh_types.specs.declared.region.PortalEdge.{PortalEdge}
use Rattle.mesh_types.specs.Simplified.{IsOutline}
use Rattle.mesh_types.specs.Ears.{is_same_point}
use Rattle.mesh_types.specs.Merging.{edge_end}
use Rattle.mesh_types.specs.Facets.{Facet, facets_of}
use Rattle.mesh_types.specs.Doors.{doors_of, door_over, facet_doors, are_facing, share_places, share_corners, names_region}
use Rattle.mesh_types.specs.Words.{no_part}
use Rattle.mesh_types.proofs.ContourLaws.{same_point, is_same_point-from}
use Rattle.contour_mesh.specs.Parts.{IsCutPart, facets_at}
use Rattle.contour_mesh.specs.Orders.{JoinsCorners, MeetsFacing}
use Rattle.contour_mesh.proofs.NumberedLaws.{numbered-all, facets_are, doors_are}

-- the corners of the outline of a region
abbrev pub corners_of : List RegionPart → ℕ → List Point
corners_of parts region = (get_or parts region no_part).outline.corners

-- a facet is of the outline of its region, which can be cut, and its places are places of that
record IsFacet (parts : List RegionPart) (facet : Facet) : Type 0 where
  own : facet.outline.corners ≡ corners_of parts facet.region
  outline : IsOutline facet.outline
  places : All (λ place. place < length facet.outline.corners) facet.places

facets_all : (parts : List RegionPart) → All IsCutPart parts → All (IsFacet parts) (facets_of parts)
facets_all parts each =
    subst (All (IsFacet parts)) (sym (facets_are parts))
    (numbered-all (IsFacet parts) facets_at 0 parts (λ k m part is below same.
    All-map (IsFacet parts) (λ (piece : Piece). record { region = m; outline = part.outline; places = piece.corners }) part.pieces (of_part k m part is below same)))
  where
    of_part : (k m : ℕ) (part : RegionPart) → m ≡ 0 + k → k < length parts → part ≡ get_or parts k part
        → All (λ (piece : Piece). IsFacet parts (record { region = m; outline = part.outline; places = piece.corners })) part.pieces
    of_part k m part is below same j d there =
        let fit : IsCutPart part = subst IsCutPart (sym same) (each k part below) in
        let at : part ≡ get_or parts m no_part =
        same ∙ get_or_default parts k part no_part below ∙ ap (λ i. get_or parts i no_part) {x = k} {y = m} (omega (arith, is)) in
        record {
          own = ap (λ (p : RegionPart). p.outline.corners) at;
          outline = fit.outline;
          places = (fit.pieces j d there).places;
        }

-- a door is an edge of one of so many polygons, and joins the corners at its places in the outline of its region
pub record IsDoorOf (parts : List RegionPart) (polygons : ℕ) (door : PortalEdge) : Type 0 where
  pub polygon : door.polygon < polygons
  pub begins : door.begin ≡ corner_at (corners_of parts door.region) door.from
  pub ends : door.end ≡ corner_at (corners_of parts door.region) door.to
  pub joins : JoinsCorners door

pub after_there : (n e : ℕ) → e < n → place_after n e < n
after_there n e there = grind (arith, tests)

over_facet : (parts : List RegionPart) (polygons m : ℕ) (facet : Facet) → IsFacet parts facet → m < polygons → (e : ℕ) → e < length facet.places
    → IsDoorOf parts polygons (door_over m facet e)
over_facet parts polygons m facet fit below e there =
    let from : get_or facet.places e 0 < length facet.outline.corners = fit.places e 0 there in
    let to : edge_end facet.places e < length facet.outline.corners =
    fit.places (place_after (length facet.places) e) 0 (after_there (length facet.places) e there) in
    record {
      polygon = below;
      begins = ap (λ (cs : List Point). corner_at cs (get_or facet.places e 0)) fit.own;
      ends = ap (λ (cs : List Point). corner_at cs (edge_end facet.places e)) fit.own;
      joins = record { begin = fit.outline.inside _ _ from; end = fit.outline.inside _ _ to };
    }

pub doors_all : (parts : List RegionPart) → All IsCutPart parts → All (IsDoorOf parts (length (facets_of parts))) (doors_of (facets_of parts))
doors_all parts each =
    let facets = facets_of parts in
    let P : PortalEdge → Type 0 = IsDoorOf parts (length facets) in
    subst (All P) (sym (doors_are facets))
    (numbered-all P facet_doors 0 facets (λ k m facet is below same.
    All-map P (door_over m facet) (range_with_len 0 (length facet.places)) (over_all k m facet is below same)))
  where
    over_all : (k m : ℕ) (facet : Facet) → m ≡ 0 + k → k < length (facets_of parts) → facet ≡ get_or (facets_of parts) k facet
        → All (λ e. IsDoorOf parts (length (facets_of parts)) (door_over m facet e)) (range_with_len 0 (length facet.places))
    over_all k m facet is below same j d there =
        let n : ℕ = length facet.places in
        let inside : j < n = omega (arith, there, length-range_with_len 0 n) in
        let at : get_or (range_with_len 0 n) j d ≡ j = get_or-range_with_len 0 n j d inside ∙ omega arith in
        let fit : IsFacet parts facet = subst (IsFacet parts) (sym same) (facets_all parts each k facet below) in
        subst (λ e. IsDoorOf parts (length (facets_of parts)) (door_over m facet e)) (sym at)
        (over_facet parts (length (facets_of parts)) m facet fit (omega (arith, is, below)) j inside)

-- a door meets those that it faces
meets : (parts : List RegionPart) (polygons : ℕ) (a b : PortalEdge) → IsDoorOf parts polygons a → IsDoorOf parts polygons b → are_facing a b ≡ true
    → is_same_point b.begin a.end ≡ true
meets parts polygons a b fit fit' facing = elim (or_cases (share_places a b) (share_corners a b) facing) [
  | inl shared ↦
      let one = and_parts (a.region == b.region && a.from == b.to) (a.to == b.from) shared in
      let two = and_parts (a.region == b.region) (a.from == b.to) one.0 in
      let region : a.region ≡ b.region = eqb-true a.region b.region two.0 in
      let place : a.to ≡ b.from = eqb-true a.to b.from one.1 in
      is_same_point-from b.begin a.end
      (fit'.begins ∙ ap (λ r. corner_at (corners_of parts r) b.from) (sym region) ∙ ap (corner_at (corners_of parts a.region)) (sym place) ∙ sym fit.ends)
  | inr shared ↦
      let one = and_parts (names_region a.code b.region && names_region b.code a.region && is_same_point a.begin b.end) (is_same_point a.end b.begin) shared in
      is_same_point-from b.begin a.end (sym (same_point a.end b.begin one.1))
]

pub all_meet : (parts : List RegionPart) (polygons : ℕ) (doors : List PortalEdge) → All (IsDoorOf parts polygons) doors → All (MeetsFacing doors) doors
all_meet parts polygons doors each i d there j e there' = λ facing.
    meets parts polygons (get_or doors i d) (get_or doors j e) (each i d there) (each j e there') facing
