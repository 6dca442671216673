-- The polygons and the doors of parts, part by part.
use Rattle.std.proofs.Common.{◌≡◌, ℕ, ◌+◌, ◌<◌, ◌≤◌, length, List, ◌++◌, map, take, get_or, Option, ap, ◌∙◌, sym, arith}
use Rattle.std.proofs.lemmas.List.{append_assoc, get_or-map, get_or_default, length-append, length-map, map-append, take_all}
use Rattle.mesh_types.specs.declared.region.RegionPart.{RegionPart}
use Rattle.mesh_types.specs.declared.region.PortalEdge.{PortalEdge}
use Rattle.mesh_types.specs.declared.region.Piece.{Piece}
use Rattle.mesh_types.specs.declared.polygon.Polygon.{Polygon}
use Rattle.mesh_types.specs.Facets.{Facet, facets_in, facets_of}
use Rattle.mesh_types.specs.Doors.{doors_of, facet_doors}
use Rattle.mesh_types.proofs.Words.{no_facet}
use Rattle.mono_regions.proofs.RunLaws.{map-map}
use Rattle.contour_mesh.specs.declared.parts.RegionFloors.{RegionFloors}
use Rattle.contour_mesh.specs.Parts.{numbered, facets_at, facet_over}
use Rattle.contour_mesh.specs.Footings.{facet_over_footing, footing_at, polygon_over}
use Rattle.contour_mesh.proofs.NumberedLaws.{numbered-append, numbered-take, numbered_more, facets_are, doors_are}

-- the facets of the first parts
abbrev pub facets_to : List RegionPart → ℕ → List Facet
facets_to parts n = numbered facets_at 0 (take n parts)

pub facets_more : (parts : List RegionPart) (k : ℕ) (part : RegionPart) → k < length parts → part ≡ get_or parts k part
    → facets_to parts (k + 1) ≡ facets_to parts k ++ facets_in part k
facets_more parts k part there is =
    numbered_more facets_at 0 parts k part there
    ∙ ap (λ (p : RegionPart). facets_to parts k ++ facets_in p (0 + k)) (sym is)
    ∙ ap (λ m. facets_to parts k ++ facets_in part m) {x = 0 + k} {y = k} (omega arith)

pub facets_all : (parts : List RegionPart) (n : ℕ) → length parts ≤ n → facets_to parts n ≡ facets_of parts
facets_all parts n all = ap (numbered facets_at 0) (take_all n parts all) ∙ sym (facets_are parts)

-- the polygons of one part more
pub polygons_more : (footings : List (Option RegionFloors)) (parts : List RegionPart) (k : ℕ) (part : RegionPart) (footing : RegionFloors) (made next : List Polygon)
    → k < length parts → part ≡ get_or parts k part → footing ≡ footing_at footings k → made ≡ map (facet_over_footing footings) (facets_to parts k)
    → next ≡ made ++ map (λ (piece : Piece). polygon_over part.outline.corners footing piece.corners) part.pieces
    → next ≡ map (facet_over_footing footings) (facets_to parts (k + 1))
polygons_more footings parts k part footing made next there at over before is =
    let f : Facet → Polygon = facet_over_footing footings in
    is ∙ ap (λ (ps : List Polygon). ps ++ map (λ (piece : Piece). polygon_over part.outline.corners footing piece.corners) part.pieces) before
    ∙ ap (λ (g : RegionFloors). map f (facets_to parts k) ++ map (λ (piece : Piece). polygon_over part.outline.corners g piece.corners) part.pieces) over
    ∙ ap (λ (ps : List Polygon). map f (facets_to parts k) ++ ps) (sym (map-map f (λ (piece : Piece). facet_over k part.outline piece.corners) part.pieces))
    ∙ sym (map-append f (facets_to parts k) (facets_in part k))
    ∙ ap (map f) (sym (facets_more parts k part there at))

-- the doors of the first parts, and how many polygons they have
pub record AreDoorsOfFirst (parts : List RegionPart) (n polygons : ℕ) (doors : List PortalEdge) : Type 0 where
  pub are : doors ≡ numbered facet_doors 0 (facets_to parts n)
  pub many : polygons ≡ length (facets_to parts n)

pub doors_more : (parts : List RegionPart) (k polygons count : ℕ) (part other : RegionPart) (made next : List PortalEdge) → k < length parts → part ≡ get_or parts k part
    → count ≡ length (get_or parts k other).pieces → AreDoorsOfFirst parts k polygons made → next ≡ made ++ numbered facet_doors polygons (facets_in part k)
    → AreDoorsOfFirst parts (k + 1) (polygons + count) next
doors_more parts k polygons count part other made next there at many before is =
    let more = facets_more parts k part there at in
    let same : length (get_or parts k other).pieces ≡ length part.pieces =
    ap (λ (p : RegionPart). length p.pieces) (get_or_default parts k other part there ∙ sym at) in
    record {
      are = is ∙ ap (λ (ds : List PortalEdge). ds ++ numbered facet_doors polygons (facets_in part k)) before.are
          ∙ ap (λ n. numbered facet_doors 0 (facets_to parts k) ++ numbered facet_doors n (facets_in part k))
          {x = polygons} {y = 0 + length (facets_to parts k)} (omega (arith, before.many))
          ∙ sym (numbered-append facet_doors 0 (facets_to parts k) (facets_in part k))
          ∙ ap (numbered facet_doors 0) (sym more);
      many =
          let together : length (facets_to parts (k + 1)) ≡ length (facets_to parts k) + length (facets_in part k) =
          ap length more ∙ length-append (facets_to parts k) (facets_in part k) in
          omega (arith, many, same, before.many, together, length-map part.pieces (λ (piece : Piece). facet_over k part.outline piece.corners));
    }

pub doors_end : (parts : List RegionPart) (n polygons : ℕ) (doors : List PortalEdge) → length parts ≤ n → AreDoorsOfFirst parts n polygons doors → doors ≡ doors_of (facets_of parts)
doors_end parts n polygons doors all done = done.are ∙ ap (numbered facet_doors 0) (facets_all parts n all) ∙ sym (doors_are (facets_of parts))

-- the polygons of the first parts and of one more are no more than all
pub few_polygons : (parts : List RegionPart) (k polygons : ℕ) (part : RegionPart) (doors : List PortalEdge) → k < length parts → part ≡ get_or parts k part
    → AreDoorsOfFirst parts k polygons doors → length (facets_of parts) ≤ 8000000 → polygons + length part.pieces ≤ 8000000
few_polygons parts k polygons part doors there at before few =
    let more = ap length (facets_more parts k part there at) ∙ length-append (facets_to parts k) (facets_in part k) in
    let no_more : length (facets_to parts (k + 1)) ≤ length (facets_of parts) =
    let whole = ap length (facets_are parts) in
    omega (arith, whole, numbered-take facets_at 0 parts (k + 1)) in
    omega (arith, before.many, more, few, no_more, length-map part.pieces (λ (piece : Piece). facet_over k part.outline piece.corners))

-- the doors of one piece more
pub piece_doors_more : (part : RegionPart) (first region k number : ℕ) (pieces : List Piece) (d : Piece) (places : List ℕ) (start made next : List PortalEdge)
    → pieces ≡ part.pieces → k < length pieces → places ≡ (get_or pieces k d).corners → number ≡ first + k
    → made ≡ start ++ numbered facet_doors first (take k (facets_in part region))
    → next ≡ made ++ facet_doors number (facet_over region part.outline places)
    → next ≡ start ++ numbered facet_doors first (take (k + 1) (facets_in part region))
piece_doors_more part first region k number pieces d places start made next own inside at which before is =
    let there : k < length part.pieces = omega (arith, inside, ap length own) in
    let facets = facets_in part region in
    let facet : get_or facets k no_facet ≡ facet_over region part.outline places =
    get_or-map (λ (piece : Piece). facet_over region part.outline piece.corners) part.pieces k d no_facet there
    ∙ ap (λ (p : Piece). facet_over region part.outline p.corners) (ap (λ (ps : List Piece). get_or ps k d) (sym own))
    ∙ ap (λ (ps : List ℕ). facet_over region part.outline ps) (sym at) in
    is ∙ ap (λ (ds : List PortalEdge). ds ++ facet_doors number (facet_over region part.outline places)) before
    ∙ append_assoc start (numbered facet_doors first (take k facets)) (facet_doors number (facet_over region part.outline places))
    ∙ ap (λ (ds : List PortalEdge). start ++ (numbered facet_doors first (take k facets) ++ ds))
    (ap (λ n. facet_doors n (facet_over region part.outline places)) which ∙ ap (facet_doors (first + k)) (sym facet))
    ∙ ap (λ (ds : List PortalEdge). start ++ ds)
    (sym (numbered_more facet_doors first facets k no_facet (omega (arith, there, length-map part.pieces (λ (piece : Piece). facet_over region part.outline piece.corners)))))
