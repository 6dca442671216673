-- The storeys of regions: they keep the rules of storeys, and are made column by column and region by region.
use Rattle.std.proofs.Common.{◌≡◌, ℕ, zero, suc, ◌+◌, ◌-◌, ◌<◌, ◌≤◌, List, [], ◌∷◌, ◌++◌, length, map, replicate, take, get_or, ap, ◌∙◌, sym, refl, subst, arith}
use Rattle.std.specs.Prelude.{All, Any, Contains}
use Rattle.std.specs.List.{range_with_len}
use Rattle.std.proofs.lemmas.List.{length-map, map-append}
use Rattle.std.proofs.lemmas.List.Elements.{All-contains, All-map, Contains-get_or}
use Rattle.std.proofs.lemmas.List.FromFn.{get_or-range_with_len, length-map-range_with_len, length-range_with_len, map-range_with_len_more}
use Rattle.nav_ground.specs.declared.cell.Cell.{Cell}
use Rattle.nav_ground.specs.declared.cell.CellRef.{CellRef}
use Rattle.nav_ground.specs.Cells.{IsCell, IsCells}
use Rattle.nav_ground.specs.Limits.{IsArea}
use Rattle.mesh_types.specs.declared.region.Strip.{Strip}
use Rattle.mesh_types.specs.declared.region.Region.{Region}
use Rattle.mesh_types.specs.declared.region.Regions.{Regions}
use Rattle.mesh_types.specs.declared.region.Outline as outlines
use Rattle.mesh_types.specs.declared.region.Piece.{Piece}
use Rattle.mesh_types.specs.declared.region.RegionPart.{RegionPart}
use Rattle.mesh_types.specs.Regions.{AreRegionsOf, IsIn, IsStack, IsWoven, place_in, regions_of}
use Rattle.mesh_types.specs.Contours.{cell_in, columns, is_at}
use Rattle.mesh_types.specs.Facets.{Facet, facets_in, facets_of}
use Rattle.mesh_types.specs.StripPolygons.{some_cell, strip_runs}
use Rattle.mesh_types.specs.Storeys.{AreStoreys, IsFloorRow, IsStorey, no_strip, region_storey, row_of}
use Rattle.mesh_types.proofs.RegionLaws.{cell_there, is_at_place}
use Rattle.mono_regions.proofs.Following.{chain_at}
use Rattle.mono_regions.proofs.Gathered.{begins_below, region_at, regions_are}
use Rattle.mono_regions.proofs.Stacks.{begins_small, chain_small}
use Rattle.mono_regions.proofs.Touches.{first_is, strip_indices}
use Rattle.mono_regions.proofs.Upon.{strip_number}
use Rattle.mono_regions.specs.Joining.{indices_of}
use Rattle.contour_walk.specs.Tables.{IsFit, index_of}
use Rattle.contour_walk.proofs.CodeLaws.{cell_by_index}
use Rattle.contour_walk.proofs.Places.{found_there}
use Rattle.contour_mesh.proofs.DoorSteps.{facets_all, facets_more, facets_to}

-- strips and regions have areas of cells
strip_area : (cells : List Cell) → IsCells cells → (s : ℕ) → s < length (strip_runs cells) → IsArea (strip_number cells s).area
strip_area cells rules' s there =
    let indices = strip_indices cells rules' s there in
    let P : Cell → Type 0 = λ cell. IsArea cell.area in
    subst P (sym (first_is cells rules' s there)) (rules'.each (get_or (indices_of cells s) 0 0) some_cell (indices.each 0 0 indices.some)).area

abbrev pub HaveAreas : List Region → Type 0
HaveAreas regions = All (λ (region : Region). All (λ (strip : Strip). IsArea strip.area) region.strips) regions

pub regions_have_areas : (cells : List Cell) → IsCells cells → HaveAreas (regions_of cells).regions
regions_have_areas cells rules' =
    let starts : List ℕ = begins_below cells (length (strip_runs cells)) in
    let P : Strip → Type 0 = λ strip. IsArea strip.area in
    let Q : Region → Type 0 = λ region. All P region.strips in
    subst HaveAreas (sym (regions_are cells))
    (All-map Q (region_at cells) starts (λ k d inside.
    All-map P (strip_number cells) (chain_at cells (get_or starts k d)) (λ l e within.
    strip_area cells rules' (get_or (chain_at cells (get_or starts k d)) l e)
    (chain_small cells (length (strip_runs cells)) (get_or starts k d) (begins_small cells k d inside) l e within))))

-- the row of a strip
floor_small : (cells : List Cell) → IsCells cells → (at : CellRef) → Any (λ (cell : Cell). cell.at ≡ at) cells → (cell_in cells at).floor ≤ 8191
floor_small cells rules' at any = (All-contains IsCell cells (cell_in cells at) rules'.each (cell_there cells at any).own).floor

row_sound : (cells : List Cell) → IsCells cells → (strip : Strip) → IsFit strip
    → ((x : ℕ) → IsIn strip x → Any (λ (cell : Cell). cell.at ≡ place_in strip x) cells) → IsFloorRow (row_of cells strip)
row_sound cells rules' strip fit there =
    let n : ℕ = strip.x1 + 1 - strip.x0 in
    let many = length-map-range_with_len (λ x. (cell_in cells (place_in strip x)).floor) strip.x0 n in
    record {
      some = omega (arith, many, fit.columns.some);
      right = omega (arith, many, fit.columns.some, fit.x);
      floors = All-map (λ floor. floor ≤ 8191) (λ x. (cell_in cells (place_in strip x)).floor) (columns strip)
          (λ k d inside.
          let inside' : k < n = omega (arith, inside, length-range_with_len strip.x0 n) in
          let at = get_or-range_with_len strip.x0 n k d inside' in
          floor_small cells rules' (place_in strip (get_or (columns strip) k d))
          (there (get_or (columns strip) k d) (omega (arith, at), omega (arith, at, inside'))));
    }

-- the rows of a stack rise by one
pub rows_rise : (region : Region) → IsStack region → (k : ℕ) → k < length region.strips → (get_or region.strips k no_strip).z ≡ (get_or region.strips 0 no_strip).z + k
rows_rise region stack zero there = omega arith
rows_rise region stack (suc k) there =
    omega (
      arith,
      ap (λ n. (get_or region.strips n no_strip).z) {x = suc k} {y = k + 1} (omega arith),
      (stack.upon k no_strip (omega (arith, there))).row,
      rows_rise region stack k (omega (arith, there)),
    )

storey_sound : (cells : List Cell) → IsCells cells → (region : Region) → IsStack region → IsWoven cells region → All IsFit region.strips
    → All (λ (strip : Strip). IsArea strip.area) region.strips → IsStorey (region_storey cells region)
storey_sound cells rules' region stack woven fit areas =
    let n : ℕ = length region.strips in
    let many = length-map region.strips (row_of cells) in
    let last : n - 1 < n = omega (arith, stack.some) in
    record {
      some = omega (arith, many, stack.some);
      top = omega (arith, many, stack.some, rows_rise region stack (n - 1) last, (fit (n - 1) no_strip last).z);
      rows = All-map IsFloorRow (row_of cells) region.strips
          (λ k d there. row_sound cells rules' (get_or region.strips k d) (fit k d there)
          (λ x inside. woven.there (get_or region.strips k d) x (Contains-get_or region.strips k d there) inside));
      area = areas 0 no_strip stack.some;
    }

pub storeys_sound : (cells : List Cell) → IsCells cells → (regions : Regions) → AreRegionsOf cells regions → regions ≡ regions_of cells
    → All (λ (region : Region). All IsFit region.strips) regions.regions → AreStoreys (map (region_storey cells) regions.regions)
storeys_sound cells rules' regions are own fit =
    let areas : HaveAreas regions.regions = subst (λ (rs : Regions). HaveAreas rs.regions) (sym own) (regions_have_areas cells rules') in
    All-map IsStorey (region_storey cells) regions.regions
    (λ k d there. storey_sound cells rules' (get_or regions.regions k d) (are.stacks k d there) (are.woven k d there) (fit k d there) (areas k d there))

-- the cell at a place of a strip stands among the cells
pub index_there : (cells : List Cell) → IsCells cells → (at : CellRef) (i : ℕ) → i ≡ index_of cells at → Any (λ (cell : Cell). cell.at ≡ at) cells → i < length cells
index_there cells rules' at i is any =
    omega (
      arith,
      is,
      found_there cells rules' at any.0 any.1 any.2 (ap (is_at at) any.3 ∙ is_at_place any.1.at at any.4),
      any.2,
    )

-- one column more of a row
pub floors_more : (cells : List Cell) (strip : Strip) (x i floor : ℕ) (d : Cell) (made next : List ℕ) → strip.x0 ≤ x → i ≡ index_of cells (place_in strip x)
    → i < length cells → floor ≡ (get_or cells i d).floor → next ≡ made ++ floor ∷ []
    → made ≡ map (λ y. (cell_in cells (place_in strip y)).floor) (range_with_len strip.x0 (x - strip.x0))
    → next ≡ map (λ y. (cell_in cells (place_in strip y)).floor) (range_with_len strip.x0 (x + 1 - strip.x0))
floors_more cells strip x i floor d made next least is there own pushed before =
    let f : ℕ → ℕ = λ y. (cell_in cells (place_in strip y)).floor in
    let value : floor ≡ f x = own ∙ ap (λ (cell : Cell). cell.floor) (cell_by_index cells (place_in strip x) i d is there) in
    pushed
    ∙ ap (λ (xs : List ℕ). xs ++ floor ∷ []) before
    ∙ ap (λ n. map f (range_with_len strip.x0 (x - strip.x0)) ++ n ∷ []) value
    ∙ sym (map-range_with_len_more f strip.x0 (x - strip.x0) x (omega (arith, least)))
    ∙ ap (λ n. map f (range_with_len strip.x0 n)) {x = x - strip.x0 + 1} {y = x + 1 - strip.x0} (omega (arith, least))

-- the polygons of one part more are at home in its region
own_homes : (outline : outlines.Outline) (region : ℕ) (pieces : List Piece)
    → map (λ (facet : Facet). facet.region) (map (λ (piece : Piece). record { region = region; outline = outline; places = piece.corners }) pieces)
    ≡ replicate (length pieces) region
own_homes outline region [] = refl
own_homes outline region (piece ∷ pieces) = ap (λ (rs : List ℕ). region ∷ rs) (own_homes outline region pieces)

pub homes_more : (parts : List RegionPart) (k count : ℕ) (part : RegionPart) (made next : List ℕ) → k < length parts → part ≡ get_or parts k part
    → count ≡ length part.pieces → made ≡ map (λ (facet : Facet). facet.region) (facets_to parts k) → next ≡ made ++ replicate count k
    → next ≡ map (λ (facet : Facet). facet.region) (facets_to parts (k + 1))
homes_more parts k count part made next there at many before is =
    let f : Facet → ℕ = λ facet. facet.region in
    is
    ∙ ap (λ (hs : List ℕ). hs ++ replicate count k) before
    ∙ ap (λ n. map f (facets_to parts k) ++ replicate n k) many
    ∙ ap (λ (hs : List ℕ). map f (facets_to parts k) ++ hs) (sym (own_homes part.outline k part.pieces))
    ∙ sym (map-append f (facets_to parts k) (facets_in part k))
    ∙ ap (map f) (sym (facets_more parts k part there at))
