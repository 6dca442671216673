-- The parts of a tile's regions lie in the tile, and their pieces are sound polygons.
use Rattle.std.proofs.Common.{◌≡◌, ℕ, ◌<◌, ◌≤◌, Bool, true, false, List, length, get_or, map, filter, ap, ◌∙◌, refl, subst, arith, Some, None, Result, Ok, Err, []}
use Rattle.std.specs.Prelude.{All, nat_lt, is_some, if◌then◌else◌, ◌==◌, pos}
use Rattle.std.specs.List.{filter_map, list_all}
use Rattle.std.specs.Option.{option_map_or}
use Rattle.std.proofs.lemmas.Bool.{ltb-false, eq-eqb}
use Rattle.std.proofs.lemmas.List.{length-map}
use Rattle.std.proofs.lemmas.List.Elements.{All-filter, All-map, All-weaker, Contains-get_or}
use Rattle.std.proofs.lemmas.List.FromFn.{get_or-range_with_len, length-range_with_len}
use Rattle.std.proofs.lemmas.List.Sums.{length-filter, count_by-le-length}
use Rattle.nav_base.specs.declared.point.Point.{Point}
use Rattle.nav_base.specs.Point.{IsCellCorner}
use Rattle.nav_base.specs.Convex.{corner_at}
use Rattle.nav_ground.specs.declared.cell.Cell.{Cell}
use Rattle.nav_ground.specs.declared.cell.Window.{Window}
use Rattle.nav_ground.specs.Cells.{IsCell, IsCells}
use Rattle.nav_ground.specs.Tiling.{IsInWindow}
use Rattle.mesh_types.specs.declared.region.Strip.{Strip}
use Rattle.mesh_types.specs.declared.region.Regions.{Regions}
use Rattle.mesh_types.specs.declared.region.UnitEdge.{UnitEdge}
use Rattle.mesh_types.specs.declared.region.Outline as outlines
use Rattle.mesh_types.specs.declared.region.Triangle.{Triangle}
use Rattle.mesh_types.specs.declared.region.Piece.{Piece}
use Rattle.mesh_types.specs.declared.region.Simplified.TheVariants.{Flat, Outline}
use Rattle.mesh_types.specs.declared.region.RegionPart.{RegionPart}
use Rattle.mesh_types.specs.FitTiles.{IsPolygon, IsInSquare}
use Rattle.mesh_types.specs.StripPolygons.{some_cell}
use Rattle.mesh_types.specs.Regions.{IsStrip, IsStack, IsIn, place_in, AreRegionsOf}
use Rattle.mesh_types.specs.Contours.{cell_in, region_at, strips_in, contour_of}
use Rattle.mesh_types.specs.Rings.{beginnings}
use Rattle.mesh_types.specs.Simplified.{begins_among, kept_corners, kept_edges, simplified_of}
use Rattle.mesh_types.specs.Words.{codes_of, no_part}
use Rattle.mesh_types.specs.Ears.{ears_of}
use Rattle.mesh_types.specs.Merging.{IsPieceOf, merged}
use Rattle.mesh_types.specs.Facets.{Facet, cells_of, facet_polygon, facets_in, facets_of}
use Rattle.mesh_types.specs.Parts.{cut_part, part_of, parts_of, region_numbers, region_part}
use Rattle.mesh_types.proofs.Words.{is_of}
use Rattle.mesh_types.proofs.Counted.{some_counted}
use Rattle.mesh_types.proofs.FloorLaws.{low_first, high_small}
use Rattle.mesh_types.proofs.Gathered.{gathered_all}
use Rattle.mesh_types.proofs.PieceLaws.{pieces_are}
use Rattle.mesh_types.proofs.RegionLaws.{cell_there, own_region, stack, woven}
use Rattle.mesh_types.proofs.RimPlaces.{IsTileCorner, contour_inside}
use Rattle.mesh_types.proofs.RunLaws.{All-found}
use Rattle.mesh_types.proofs.Totals.{length-filter_map}

-- ---- parts

-- a part in a tile: the corners of its outline are those of cells of the tile, and its pieces are pieces of the outline
pub record IsPartIn (window : Window) (part : RegionPart) : Type 0 where
  pub corners : All (IsTileCorner window) part.outline.corners
  pub pieces : All (IsPieceOf part.outline.corners) part.pieces

cut_is : (window : Window) (outline : outlines.Outline) → All (IsTileCorner window) outline.corners → 3 ≤ length outline.corners
    → (r : Result (List Triangle) (List ℕ)) → ears_of outline.corners ≡ r → (part : RegionPart) → cut_part outline r ≡ Some part → IsPartIn window part
cut_is window outline corners enough (Ok triangles) is part same =
    let at : record { outline = outline; pieces = merged outline.corners triangles } ≡ part = cc in
    subst (IsPartIn window) at (record { corners = corners; pieces = pieces_are outline.corners triangles enough (record { cut = is }) })
cut_is window outline corners enough (Err left) is part same = absurd cc

simplified_cut : (window : Window) (error : ℕ) (edges : List UnitEdge) → All (λ (edge : UnitEdge). IsTileCorner window edge.from) edges
    → (part : RegionPart) → part_of (simplified_of error edges) ≡ Some part → IsPartIn window part
unfolding simplified_of kept_edges
simplified_cut window error edges inside part is = by_case (nat_lt (length kept) 3) refl is
  where
    kept : List UnitEdge
    kept = filter (begins_among (kept_corners error edges)) edges

    by_case : (test : Bool) → nat_lt (length kept) 3 ≡ test
        → part_of (if test then Flat else Outline (record { corners = beginnings kept; codes = codes_of kept })) ≡ Some part → IsPartIn window part
    by_case true few same = absurd cc
    by_case false many same =
        let P : UnitEdge → Type 0 = λ edge. IsTileCorner window edge.from in
        cut_is window (record { corners = beginnings kept; codes = codes_of kept })
        (All-map (IsTileCorner window) (λ (edge : UnitEdge). edge.from) kept (All-filter (begins_among (kept_corners error edges)) P edges inside))
        (omega (arith, ltb-false (length kept) 3 many, length-map kept (λ (edge : UnitEdge). edge.from)))
        (ears_of (beginnings kept)) refl part same

-- the parts of regions: at most one for each
pub record AreParts (window : Window) (regions : Regions) (parts : List RegionPart) : Type 0 where
  pub few : length parts ≤ length regions.regions
  pub each : All (IsPartIn window) parts

module _ (window : Window) (cells : List Cell) (rules' : IsCells cells) (regions : Regions) (are : AreRegionsOf cells regions) where
  module _ (inside : All (λ (cell : Cell). IsInWindow window cell.at.x cell.at.z) cells) (error : ℕ) where
    part_is : (id : ℕ) → id < length regions.regions → (part : RegionPart) → region_part window error cells regions id ≡ Some part → IsPartIn window part
    part_is id there part is =
        simplified_cut window error (contour_of window cells regions id) (contour_inside window cells regions id rules' inside are there) part is

    pub parts_are : (parts : List RegionPart) → parts_of window error cells regions ≡ Some parts → AreParts window regions parts
    unfolding parts_of
    parts_are parts is = by_case (list_all (λ id. is_some (region_part window error cells regions id)) (region_numbers regions)) is
      where
        count : length (region_numbers regions) ≡ length regions.regions
        count = length-range_with_len 0 (length regions.regions)

        found : List RegionPart
        found = filter_map (region_part window error cells regions) (region_numbers regions)

        few : length found ≤ length regions.regions
        few =
            let counted = length-filter_map (region_part window error cells regions) (λ id. true) (region_numbers regions) (λ k d there part same. refl) in
            omega (arith, counted, count_by-le-length (λ id. true) (region_numbers regions), count)

        each : All (IsPartIn window) found
        each =
            All-found (region_part window error cells regions) (IsPartIn window) (region_numbers regions)
            (λ k d there part same.
            let there' : k < length regions.regions = omega (arith, there, count) in
            part_is (get_or (region_numbers regions) k d) (omega (arith, get_or-range_with_len 0 (length regions.regions) k d there', there')) part same)

        by_case : (b : Bool) → (if b then Some found else None) ≡ Some parts → AreParts window regions parts
        by_case true same =
            let at : found ≡ parts = cc in
            subst (AreParts window regions) at (record { few = few; each = each })
        by_case false same = absurd cc

  -- ---- cells of regions

  -- a region has a cell
  pub cells_some : (id : ℕ) → id < length regions.regions → 0 < length (cells_of cells regions id)
  cells_some id there =
      let e : Strip = record { z = 0; x0 = 0; x1 = 0; levels = []; area = 0 } in
      let pile : IsStack (get_or regions.regions id (record { strips = [] })) = stack cells regions are id there in
      let s : Strip = get_or (strips_in regions id) 0 e in
      let strip : IsStrip s = pile.strips 0 e pile.some in
      let own = Contains-get_or (strips_in regions id) 0 e pile.some in
      let held : IsIn s s.x0 = (omega arith, strip.some) in
      let found = cell_there cells (place_in s s.x0) ((woven cells regions are id there).there s s.x0 own held) in
      let cell : Cell = cell_in cells (place_in s s.x0) in
      let of : region_at regions cell.at ≡ Some id = ap (region_at regions) found.place ∙ own_region cells regions are id there s s.x0 own held in
      let passes : is_of regions id cell ≡ true = ap (λ o. option_map_or (λ r. r == id) o false) of ∙ eq-eqb id id refl in
      let counted = some_counted (is_of regions id) cells found.own.0 cell found.own.1 (ap (is_of regions id) found.own.2 ∙ passes) in
      omega (arith, counted, length-filter (is_of regions id) cells)

  pub cells_are : (id : ℕ) → All IsCell (cells_of cells regions id)
  cells_are id = All-filter (is_of regions id) IsCell cells rules'.each

-- ---- facets

-- a facet of parts: a piece of the outline of its region
pub record IsFacetOf (window : Window) (parts : List RegionPart) (facet : Facet) : Type 0 where
  pub region : facet.region < length parts
  pub outline : facet.outline ≡ (get_or parts facet.region no_part).outline
  pub corners : All (IsTileCorner window) facet.outline.corners
  pub piece : IsPieceOf facet.outline.corners (record { corners = facet.places })

pub facets_are : (window : Window) (parts : List RegionPart) → All (IsPartIn window) parts → All (IsFacetOf window parts) (facets_of parts)
unfolding facets_of
facets_are window parts each =
    gathered_all (IsFacetOf window parts) (λ region. facets_in (get_or parts region no_part) region) 0 (length parts)
    (λ region least most.
    let part : RegionPart = get_or parts region no_part in
    let is : IsPartIn window part = each region no_part (omega (arith, most)) in
    All-map (IsFacetOf window parts) (λ (piece : Piece). record { region = region; outline = part.outline; places = piece.corners }) part.pieces
    (λ k d there. record { region = omega (arith, most); outline = refl; corners = is.corners; piece = is.pieces k d there }))

-- what holds of an outline's corners holds of a facet's
pub corners_all : (P : Point → Type 0) (facet : Facet) → All P facet.outline.corners → All (λ place. place < length facet.outline.corners) facet.places
    → All P (map (corner_at facet.outline.corners) facet.places)
corners_all P facet each places =
    All-map P (corner_at facet.outline.corners) facet.places
    (λ k d there. each (get_or facet.places k d) (record { x = pos 0; z = pos 0 }) (places k d there))

module _ (window : Window) (cells : List Cell) (rules' : IsCells cells) (regions : Regions) (are : AreRegionsOf cells regions)
    (parts : List RegionPart) (few : length parts ≤ length regions.regions) (facet : Facet) (is : IsFacetOf window parts facet) where
  inside_tile : All (IsTileCorner window) (map (corner_at facet.outline.corners) facet.places)
  inside_tile = corners_all (IsTileCorner window) facet is.corners is.piece.places

  pub facet_sound : IsPolygon (facet_polygon cells regions facet)
  facet_sound =
      let own : List Cell = cells_of cells regions facet.region in
      let some : 0 < length own = cells_some window cells rules' regions are facet.region (omega (arith, is.region, few)) in
      let each : All IsCell own = cells_are window cells rules' regions are facet.region in
      record {
        convex = is.piece.convex;
        most = omega (arith, is.piece.most, length-map facet.places (corner_at facet.outline.corners));
        corners = All-weaker (IsTileCorner window) IsCellCorner (λ p at. at.of_cell) (map (corner_at facet.outline.corners) facet.places) inside_tile;
        area = (each 0 some_cell some).area;
        floors = low_first own;
        high = high_small own some (All-weaker IsCell (λ (cell : Cell). cell.floor ≤ 8191) (λ cell at. at.floor) own each);
      }

  pub facet_inside : All (IsInSquare window) (facet_polygon cells regions facet).corners
  facet_inside = All-weaker (IsTileCorner window) (IsInSquare window) (λ p at. at.square) (map (corner_at facet.outline.corners) facet.places) inside_tile
