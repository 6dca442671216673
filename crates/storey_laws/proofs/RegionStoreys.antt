-- The storeys of regions: each has the cells of its region, and the polygons of the region's part are at home there.
use Rattle.std.proofs.Common.{◌≡◌, ℕ, zero, suc, ◌+◌, ◌-◌, ◌*◌, ◌<◌, ◌≤◌, true, false, pos, ◌≤ℤ◌, ◌*ℤ◌, List, [], length, map, filter, get_or, Option, None, Some, ap, ◌∙◌, sym, refl, subst, arith}
use Rattle.std.specs.Prelude.{All, Contains, ◌==◌, slice_get}
use Rattle.std.specs.List.{range_with_len}
use Rattle.std.specs.Option.{option_map, option_map_or}
use Rattle.std.proofs.lemmas.Bool.{eq-eqb}
use Rattle.std.proofs.lemmas.Int.{ints}
use Rattle.std.proofs.lemmas.List.{get_or_default, get_or-map, length-map}
use Rattle.std.proofs.lemmas.List.Elements.{All-contains, All-filter, All-map, Contains-get_or, filter_passes}
use Rattle.std.proofs.lemmas.List.FromFn.{get_or-map-range_with_len, get_or-range_with_len, length-map-range_with_len, length-range_with_len}
use Rattle.std.proofs.lemmas.Option.{get_or_from_slice_get, none-some, same_Some, slice_get-get_or, slice_get-map, slice_get_within}
use Rattle.nav_base.specs.declared.point.Point.{Point}
use Rattle.nav_ground.specs.declared.cell.Cell.{Cell}
use Rattle.nav_ground.specs.declared.cell.CellRef.{CellRef}
use Rattle.nav_ground.specs.declared.cell.FreeLayer.{FreeLayer}
use Rattle.nav_ground.specs.declared.cell.Window.{Window}
use Rattle.nav_ground.specs.declared.setting.Setting.{Setting}
use Rattle.nav_ground.specs.Cells.{IsCells, IsCut, IsInTile, is_naming, is_toward}
use Rattle.nav_ground.specs.Tiling.{tile_window}
use Rattle.nav_ground.proofs.FreeLayers.{same_at_place, same_place}
use Rattle.mesh_types.specs.declared.mesh.TileMesh.{TileMesh}
use Rattle.mesh_types.specs.declared.polygon.Polygon.{Polygon}
use Rattle.mesh_types.specs.declared.region.Outline as outlines
use Rattle.mesh_types.specs.declared.region.Region.{Region}
use Rattle.mesh_types.specs.declared.region.RegionPart.{RegionPart}
use Rattle.mesh_types.specs.declared.region.Regions.{Regions}
use Rattle.mesh_types.specs.declared.region.Strip.{Strip}
use Rattle.mesh_types.specs.declared.region.UnitEdge.{UnitEdge}
use Rattle.mesh_types.specs.declared.storeys.FloorRow.{FloorRow}
use Rattle.mesh_types.specs.declared.storeys.Storey.{Storey}
use Rattle.mesh_types.specs.BorderLinks.{scaled}
use Rattle.mesh_types.specs.ContourMeshes.{contour_mesh_of, part_storeys, parts_mesh}
use Rattle.mesh_types.specs.Contours.{cell_in, columns, contour_of, edge_of, is_rim, places_in, region_at, rim_edges_of, rim_of}
use Rattle.mesh_types.specs.Facets.{Facet, cells_of, facet_polygon, facets_of}
use Rattle.mesh_types.specs.Parts.{parts_of}
use Rattle.mesh_types.specs.Regions.{AreRegionsOf, IsIn, IsStack, place_in, regions_of}
use Rattle.mesh_types.specs.Simplified.{begins_among, kept_corners, kept_edges}
use Rattle.mesh_types.specs.StripCover.{IsInColumn}
use Rattle.mesh_types.specs.StripPolygons.{strip_runs}
use Rattle.mesh_types.specs.Storeys.{HasFloor, no_strip, region_storey, row_of}
use Rattle.mesh_types.specs.Words.{no_part}
use Rattle.mesh_types.proofs.ContourLaws.{round_all}
use Rattle.mesh_types.proofs.FacetLaws.{IsFacetOf, cells_some, corners_all, facets_are, parts_are}
use Rattle.mesh_types.proofs.Gathered.{Contains-filter, all_four, all_of_each}
use Rattle.mesh_types.proofs.RegionLaws.{cell_there, own_region, stack, woven}
use Rattle.mesh_types.proofs.Words.{is_of, no_facet}
use Rattle.mono_regions.specs.Indices.{cell_at, level_at, strip_at}
use Rattle.mono_regions.specs.Joining.{indices_of}
use Rattle.mono_regions.proofs.Following.{chain_at}
use Rattle.mono_regions.proofs.Gathered as chains
use Rattle.mono_regions.proofs.RegionsKept.{regions_kept}
use Rattle.mono_regions.proofs.Stacks.{begins_small, chain_small}
use Rattle.mono_regions.proofs.StripLaws.{run_columns}
use Rattle.mono_regions.proofs.Touches.{strip_count, strip_indices}
use Rattle.mono_regions.proofs.Upon.{first_cell, strip_made, strip_number}
use Rattle.contour_mesh.proofs.ContourRings.{part_found, part_outline}
use Rattle.contour_mesh.proofs.NeighbourRims.{IsPlaceOf, held_by, places_own}
use Rattle.contour_mesh.proofs.SharedSteps.{outline_of}
use Rattle.contour_mesh.proofs.SideCells.{region_of_cell}
use Rattle.contour_mesh.proofs.StoreyLaws.{rows_rise}
use Rattle.storey_laws.specs.FreeCells.{HasFreeCell}
use Rattle.storey_laws.proofs.FreeFloors.{Contains-filtered, level_is}
use Rattle.storey_laws.proofs.StoreyCells.{IsStoreyOf, AreStoreysOf, IsOverOne, IsHomeOf, HasOwnCells}

-- ---- the areas of strips

-- the cells of a strip have its area
abbrev HasAreaOf : List Cell → Strip → Type 0
HasAreaOf cells strip = (x : ℕ) (cell : Cell) → IsIn strip x → Contains cells cell → cell.at ≡ place_in strip x → cell.area ≡ strip.area

number_area : (cells : List Cell) → IsCut cells → (s : ℕ) → s < length (strip_runs cells) → HasAreaOf cells (strip_number cells s)
number_area cells cut s small = subst (HasAreaOf cells) (strip_made cells cut.rules s small) made
  where
    made : HasAreaOf cells (strip_at cells (indices_of cells s))
    made x cell inside own at =
        let run : List ℕ = indices_of cells s in
        let indices = strip_indices cells cut.rules s small in
        let k : ℕ = x - (first_cell cells s).at.x in
        let within : k < length run = omega (arith, inside.0, inside.1, indices.some) in
        let spot = run_columns cells cut.rules s k 0 (omega (arith, small, strip_count cells)) within in
        let i : ℕ = get_or run k 0 in
        let place : (cell_at cells i).at ≡ place_in (strip_at cells run) x =
        same_place (cell_at cells i).at (place_in (strip_at cells run) x) (omega (arith, spot.x, inside.0)) spot.z
        (sym (get_or-map (level_at cells) run k 0 0 within)) in
        let same : cell ≡ cell_at cells i =
        same_at_place cells cell (cell_at cells i) cut.rules own (Contains-get_or cells i _ (indices.each k 0 within)) (at ∙ sym place) in
        ap (λ (c : Cell). c.area) same ∙ spot.area

abbrev HaveAreas : List Cell → List Region → Type 0
HaveAreas cells regions = All (λ (region : Region). All (HasAreaOf cells) region.strips) regions

have_areas : (cells : List Cell) → IsCut cells → HaveAreas cells (regions_of cells).regions
have_areas cells cut =
    let n : ℕ = length (strip_runs cells) in
    let starts : List ℕ = chains.begins_below cells n in
    let Q : Region → Type 0 = λ region. All (HasAreaOf cells) region.strips in
    subst (HaveAreas cells) (sym (chains.regions_are cells))
    (All-map Q (chains.region_at cells) starts (λ k d inside.
    All-map (HasAreaOf cells) (strip_number cells) (chain_at cells (get_or starts k d)) (λ l e within.
    number_area cells cut (get_or (chain_at cells (get_or starts k d)) l e)
    (chain_small cells n (get_or starts k d) (begins_small cells k d inside) l e within))))

-- ---- the storey of one region

-- the cell of a strip under a floor
record IsUnder (cells : List Cell) (region : Region) (x z y : ℕ) : Type 0 where
  strip : Strip
  own : Contains region.strips strip
  inside : IsIn strip x
  row : strip.z ≡ z
  floor : (cell_in cells (place_in strip x)).floor ≡ y

module _ (cells : List Cell) (rules' : IsCells cells) (region : Region) (pile : IsStack region) (areas : All (HasAreaOf cells) region.strips) where
  areas_same : (k : ℕ) → k < length region.strips → (get_or region.strips k no_strip).area ≡ (get_or region.strips 0 no_strip).area
  areas_same zero there = refl
  areas_same (suc k) there =
      ap (λ n. (get_or region.strips n no_strip).area) {x = suc k} {y = k + 1} (omega arith)
      ∙ (pile.upon k no_strip (omega (arith, there))).area ∙ areas_same k (omega (arith, there))

  -- the floor of a cell of a strip
  floor_has : (strip : Strip) (x : ℕ) → Contains region.strips strip → IsIn strip x
      → HasFloor (region_storey cells region) x strip.z (cell_in cells (place_in strip x)).floor
  floor_has strip x held inside =
      let strips : List Strip = region.strips in
      let k : ℕ = held.0 in
      let at : get_or strips k no_strip ≡ strip = get_or_default strips k no_strip strip held.1 ∙ held.2 in
      let z : strip.z ≡ (get_or strips 0 no_strip).z + k = ap (λ (s : Strip). s.z) (sym at) ∙ rows_rise region pile k held.1 in
      let f : ℕ → ℕ = λ c. (cell_in cells (place_in strip c)).floor in
      let n : ℕ = strip.x1 + 1 - strip.x0 in
      let j : ℕ = x - strip.x0 in
      let less : j < n = omega (arith, inside.0, inside.1) in
      record {
        row = row_of cells strip;
        above = omega (arith, z);
        is_row = ap (slice_get (map (row_of cells) strips)) {x = strip.z - (get_or strips 0 no_strip).z} {y = k} (omega (arith, z))
            ∙ slice_get-map (row_of cells) strips k
            ∙ ap (option_map (row_of cells)) (slice_get-get_or strips k strip held.1 ∙ ap (λ (s : Strip). Some s) held.2);
        right = inside.0;
        is_cell = slice_get-map f (columns strip) j
            ∙ ap (option_map f) (slice_get-get_or (columns strip) j 0 (omega (arith, less, length-range_with_len strip.x0 n))
            ∙ ap (λ (c : ℕ). Some c) (get_or-range_with_len strip.x0 n j 0 less ∙ omega (arith, inside.0)));
      }

  -- and the cell that a floor is of
  floor_under : (x z y : ℕ) → HasFloor (region_storey cells region) x z y → IsUnder cells region x z y
  floor_under x z y has =
      let strips : List Strip = region.strips in
      let k : ℕ = z - (get_or strips 0 no_strip).z in
      let less : k < length strips = omega (arith, slice_get_within (map (row_of cells) strips) k has.row has.is_row, length-map strips (row_of cells)) in
      let strip : Strip = get_or strips k no_strip in
      let same : row_of cells strip ≡ has.row =
      sym (get_or-map (row_of cells) strips k no_strip has.row less) ∙ get_or_from_slice_get (map (row_of cells) strips) k has.row has.row has.is_row in
      let right : strip.x0 ≤ x = subst (λ (r : FloorRow). r.x0 ≤ x) (sym same) has.right in
      let f : ℕ → ℕ = λ c. (cell_in cells (place_in strip c)).floor in
      let n : ℕ = strip.x1 + 1 - strip.x0 in
      let j : ℕ = x - strip.x0 in
      let is : slice_get (map f (columns strip)) j ≡ Some y =
      subst (λ (r : FloorRow). slice_get r.floors (x - r.x0) ≡ Some y) (sym same) has.is_cell in
      let within : j < n = omega (arith, slice_get_within (map f (columns strip)) j y is, length-map-range_with_len f strip.x0 n) in
      record {
        strip = strip;
        own = Contains-get_or strips k no_strip less;
        inside = (right, omega (arith, within, right));
        row = omega (arith, rows_rise region pile k less, has.above);
        floor = sym (get_or-map-range_with_len f strip.x0 n j x 0 within (omega (arith, right))) ∙ get_or_from_slice_get (map f (columns strip)) j y 0 is;
      }

  -- a cell that a strip of the region has
  cell_has : (strip : Strip) (cell : Cell) → Contains region.strips strip → IsIn strip cell.at.x → Contains cells cell → place_in strip cell.at.x ≡ cell.at
      → HasFreeCell (region_storey cells region) cell
  cell_has strip cell held inside own place =
      let there = cell_there cells (place_in strip cell.at.x) (own.0, cell, own.1, own.2, sym place) in
      let same : cell_in cells (place_in strip cell.at.x) ≡ cell =
      same_at_place cells (cell_in cells (place_in strip cell.at.x)) cell rules' there.own own (there.place ∙ place) in
      let at : get_or region.strips held.0 no_strip ≡ strip = get_or_default region.strips held.0 no_strip strip held.1 ∙ held.2 in
      record {
        floor = subst (λ (n : ℕ). HasFloor (region_storey cells region) cell.at.x n cell.floor) (ap (λ (r : CellRef). r.z) place)
            (subst (λ (c : Cell). HasFloor (region_storey cells region) cell.at.x strip.z c.floor) same (floor_has strip cell.at.x held inside));
        area = sym (areas_same held.0 held.1) ∙ ap (λ (s : Strip). s.area) at
            ∙ sym (All-contains (HasAreaOf cells) region.strips strip areas held cell.at.x cell inside own (sym place));
      }

-- ---- the storeys of a tile's regions

no_window : Window
no_window = record { x0 = pos 0; x1 = pos 0; z0 = pos 0; z1 = pos 0 }

abbrev no_region : Region
no_region = record { strips = [] }

module _ (cells : List Cell) (cut : IsCut cells) where
  abbrev regions : Regions
  regions = regions_of cells

  abbrev own_of : ℕ → List Cell
  own_of id = cells_of cells regions id

  abbrev storeys_of : List Storey
  storeys_of = map (region_storey cells) regions.regions

  are : AreRegionsOf cells (regions_of cells)
  are = regions_kept cells cut

  many : length storeys_of ≡ length regions.regions
  many = length-map regions.regions (region_storey cells)

  -- a cell of a region is one of those that the region holds
  of_region : (id : ℕ) (cell : Cell) → Contains (own_of id) cell → region_at regions cell.at ≡ Some id
  of_region id cell has =
      level_is (region_at regions cell.at) id
      (All-contains (λ (c : Cell). is_of regions id c ≡ true) (own_of id) cell (filter_passes (is_of regions id) cells) has)

  in_region : (id : ℕ) (cell : Cell) → Contains cells cell → region_at regions cell.at ≡ Some id → Contains (own_of id) cell
  in_region id cell own is =
      Contains-filter (is_of regions id) cells cell own (ap (λ (o : Option ℕ). option_map_or (λ r. r == id) o false) is ∙ eq-eqb id id refl)

  region_has : (id : ℕ) → id < length regions.regions → IsStoreyOf (own_of id) (region_storey cells (get_or regions.regions id no_region))
  region_has id there =
      let region : Region = get_or regions.regions id no_region in
      let pile = stack cells regions are id there in
      let areas = have_areas cells cut id no_region there in
      record {
        some = cells_some no_window cells cut.rules regions are id there;
        has = λ k d inside.
            let cell : Cell = get_or (own_of id) k d in
            let has : Contains (own_of id) cell = Contains-get_or (own_of id) k d inside in
            let held = held_by cells regions are id cell.at (of_region id cell has) in
            cell_has cells cut.rules region pile areas held.strip cell held.own held.inside (Contains-filtered (is_of regions id) cells cell has) held.place;
        only = λ x z y floor.
            let under = floor_under cells cut.rules region pile areas x z y floor in
            let at : CellRef = place_in under.strip x in
            let found = cell_there cells at ((woven cells regions are id there).there under.strip x under.own under.inside) in
            let cell : Cell = cell_in cells at in
            let has = in_region id cell found.own
            (ap (region_at regions) found.place ∙ own_region cells regions are id there under.strip x under.own under.inside) in (
              has.0,
              cell,
              has.1,
              has.2,
              (ap (λ (r : CellRef). r.x) found.place, ap (λ (r : CellRef). r.z) found.place ∙ under.row, under.floor),
            );
      }

  region_storeys_are : AreStoreysOf cells storeys_of own_of
  region_storeys_are = record {
    each = λ s there storey at.
        let there' : s < length regions.regions = omega (arith, there, many) in
        subst (IsStoreyOf (own_of s))
        (sym (get_or-map (region_storey cells) regions.regions s no_region storey there') ∙ get_or_from_slice_get storeys_of s storey storey at)
        (region_has s there');
    within = λ s cell there has. Contains-filtered (is_of regions s) cells cell has;
    home = λ k d there.
        let cell : Cell = get_or cells k d in
        let own : Contains cells cell = Contains-get_or cells k d there in
        let of = region_of_cell cells regions are cell own in
        record { s = of.id; there = omega (arith, of.there, many); has = in_region of.id cell own of.is };
    once = λ s t cell s-in t-in has has'. same_Some s t (sym (of_region s cell has) ∙ of_region t cell has');
    joined = λ s dir a b there small has has' toward.
        let there' : s < length regions.regions = omega (arith, there, many) in
        let from = held_by cells regions are s a.at (of_region s a has) in
        let to = held_by cells regions are s b.at (of_region s b has') in
        ap (is_naming dir a) (sym to.place)
        ∙ (woven cells regions are s there').connected dir a.at.x b.at.x from.strip to.strip a small from.own to.own from.inside to.inside
        (ap (λ (r : CellRef). is_toward dir r (place_in to.strip b.at.x)) from.place ∙ ap (is_toward dir a.at) to.place ∙ toward)
        (Contains-filtered (is_of regions s) cells a has) (sym from.place);
  }

  -- ---- corners

  module _ (window : Window) (id : ℕ) (there : id < length regions.regions) where
    -- the rim of a region begins at corners of its cells
    over_cell : (at : CellRef) (x z : ℕ) → IsPlaceOf cells regions id at → at.x ≤ x → x ≤ at.x + 1 → at.z ≤ z → z ≤ at.z + 1
        → IsOverOne (own_of id) (scaled (pos x) (pos z))
    over_cell at x z is left right bottom top =
        let cell : Cell = cell_in cells at in
        let has = in_region id cell is.own (ap (region_at regions) is.place ∙ is.region) in
        let inside : IsInColumn at.x at.z (scaled (pos x) (pos z)) = record {
          left = at_least at.x x left;
          right = at_most (at.x + 1) x right;
          bottom = at_least at.z z bottom;
          top = at_most (at.z + 1) z top;
        } in
        (has.0, cell, has.1, has.2, subst (λ (r : CellRef). IsInColumn r.x r.z (scaled (pos x) (pos z))) (sym is.place) inside)
      where
        at_least : (u v : ℕ) → u ≤ v → pos (16 * u) ≤ℤ (pos 16 *ℤ pos v)
        at_least u v h = omega (arith, ints)

        at_most : (u v : ℕ) → v ≤ u → (pos 16 *ℤ pos v) ≤ℤ pos (16 * u)
        at_most u v h = omega (arith, ints)

    abbrev IsOverOwn : Point → Type 0
    IsOverOwn p = IsOverOne (own_of id) (scaled p.x p.z)

    edges_over : (at : CellRef) → IsPlaceOf cells regions id at → All (λ (edge : UnitEdge). IsOverOwn edge.from) (rim_edges_of window cells regions id at)
    edges_over at is =
        let test : ℕ → _ = λ dir. is_rim cells regions id dir (cell_in cells at) in
        let P : UnitEdge → Type 0 = λ edge. IsOverOwn edge.from in
        All-map P (λ dir. edge_of window cells regions dir at) (filter test (range_with_len 0 4))
        (All-filter test (λ dir. P (edge_of window cells regions dir at)) (range_with_len 0 4)
        (all_four (λ dir. P (edge_of window cells regions dir at))
        (over_cell at at.x (at.z + 1) is (omega arith) (omega arith) (omega arith) (omega arith))
        (over_cell at (at.x + 1) (at.z + 1) is (omega arith) (omega arith) (omega arith) (omega arith))
        (over_cell at (at.x + 1) at.z is (omega arith) (omega arith) (omega arith) (omega arith))
        (over_cell at at.x at.z is (omega arith) (omega arith) (omega arith) (omega arith))))

    contour_over : All (λ (edge : UnitEdge). IsOverOwn edge.from) (contour_of window cells regions id)
    contour_over =
        let P : UnitEdge → Type 0 = λ edge. IsOverOwn edge.from in
        round_all P (rim_of window cells regions id)
        (all_of_each P (rim_edges_of window cells regions id) (places_in regions id)
        (λ k d below. edges_over (get_or (places_in regions id) k d) (places_own cells regions are id there k d below)))

    outline_over : (error : ℕ) → All IsOverOwn (outline_of error (contour_of window cells regions id)).corners
    unfolding kept_edges
    outline_over error =
        let edges : List UnitEdge = contour_of window cells regions id in
        let P : UnitEdge → Type 0 = λ edge. IsOverOwn edge.from in
        All-map IsOverOwn (λ (edge : UnitEdge). edge.from) (kept_edges error edges) (All-filter (begins_among (kept_corners error edges)) P edges contour_over)

-- ---- the polygons of parts

module _ (setting : Setting) (free : FreeLayer) (cut : IsCut free.cells) (in_tile : IsInTile setting free.tile free.cells) (parts : List RegionPart)
    (made : parts_of (tile_window setting free.tile) setting.error free.cells (regions_of free.cells) ≡ Some parts) where
  abbrev facets : List Facet
  facets = facets_of parts

  facet_home : (index : ℕ) (polygon : Polygon) → slice_get (map (facet_polygon free.cells (regions_of free.cells)) facets) index ≡ Some polygon
      → IsHomeOf (part_storeys free.cells (regions_of free.cells) parts) (own_of free.cells cut) index polygon
  facet_home index polygon at =
      let cells : List Cell = free.cells in
      let rs : Regions = regions_of free.cells in
      let w : Window = tile_window setting free.tile in
      let f : Facet → Polygon = facet_polygon cells rs in
      let less : index < length facets = omega (arith, slice_get_within (map f facets) index polygon at, length-map facets f) in
      let facet : Facet = get_or facets index no_facet in
      let same : f facet ≡ polygon = sym (get_or-map f facets index no_facet polygon less) ∙ get_or_from_slice_get (map f facets) index polygon polygon at in
      let of = parts_are w cells cut.rules rs (regions_kept cells cut) in_tile.inside setting.error parts made in
      let is : IsFacetOf w parts facet = facets_are w parts of.each index no_facet less in
      let there : facet.region < length rs.regions = omega (arith, is.region, of.few) in
      let found = part_found w setting.error cells rs parts made facet.region there in
      let part : RegionPart = get_or parts facet.region no_part in
      let outline = is.outline ∙ (part_outline setting.error (contour_of w cells rs facet.region) part found.1).is in
      let P : Point → Type 0 = λ p. IsOverOne (own_of cells cut facet.region) (scaled p.x p.z) in
      let over : All P facet.outline.corners =
      subst (λ (o : outlines.Outline). All P o.corners) (sym outline) (outline_over cells cut w facet.region there setting.error) in
      record {
        s = facet.region;
        there = omega (arith, there, many cells cut);
        home = slice_get-map (λ (one : Facet). one.region) facets index
            ∙ ap (option_map (λ (one : Facet). one.region)) (slice_get-get_or facets index no_facet less);
        area = ap (λ (p : Polygon). p.area) (sym same);
        low = ap (λ (p : Polygon). p.low) (sym same);
        high = ap (λ (p : Polygon). p.high) (sym same);
        corners = subst (λ (p : Polygon). All P p.corners) same (corners_all P facet over is.piece.places);
      }

-- the mesh of free cells by the outlines of their regions
pub contours_own : (setting : Setting) (free : FreeLayer) (tile : TileMesh) → IsCut free.cells → IsInTile setting free.tile free.cells
    → contour_mesh_of setting free ≡ Some tile → HasOwnCells tile
unfolding contour_mesh_of parts_mesh
contours_own setting free tile cut in_tile is = by_parts (parts_of (tile_window setting free.tile) setting.error free.cells (regions_of free.cells)) refl is
  where
    by_parts : (o : Option (List RegionPart)) → parts_of (tile_window setting free.tile) setting.error free.cells (regions_of free.cells) ≡ o
        → option_map (parts_mesh setting free (regions_of free.cells)) o ≡ Some tile → HasOwnCells tile
    by_parts None made same = absurd (none-some tile same)
    by_parts (Some parts) made same =
        subst HasOwnCells (same_Some (parts_mesh setting free (regions_of free.cells) parts) tile same) (record {
          own = own_of free.cells cut;
          storeys = region_storeys_are free.cells cut;
          polygons = facet_home setting free cut in_tile parts made;
        })
