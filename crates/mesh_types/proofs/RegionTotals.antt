-- The regions of a tile have together no more cells than the tile: each cell is held once.
use Rattle.std.proofs.Common.{◌≡◌, ℕ, ◌+◌, ◌-◌, ◌≤◌, true, cond, List, [], length, map, get_or, ap, ◌∙◌, arith}
use Rattle.std.specs.Prelude.{All, Contains}
use Rattle.std.specs.List.{sum_by, count_by, range_with_len}
use Rattle.std.proofs.lemmas.List.{length-map}
use Rattle.std.proofs.lemmas.List.Concat.{length-flat_map}
use Rattle.std.proofs.lemmas.List.Elements.{Contains-get_or}
use Rattle.std.proofs.lemmas.List.FromFn.{length-range_with_len}
use Rattle.nav_ground.specs.declared.cell.Cell.{Cell}
use Rattle.nav_ground.specs.declared.cell.CellRef.{CellRef}
use Rattle.mesh_types.specs.declared.region.Region.{Region}
use Rattle.mesh_types.specs.declared.region.Regions.{Regions}
use Rattle.mesh_types.specs.declared.region.Strip.{Strip}
use Rattle.mesh_types.specs.Contours.{columns, places_in}
use Rattle.mesh_types.specs.Parts.{region_numbers}
use Rattle.mesh_types.specs.Regions.{AreRegionsOf, IsStrip, IsWoven, is_holding, place_in}
use Rattle.mesh_types.proofs.RegionLaws.{holds_own}
use Rattle.mesh_types.proofs.Totals.{numbers_within, sum_by-exchanged, sum_by-no_more, sum_by-numbers, sum_by-one, sum_by-same, sum_by-shared}

-- a strip has no more columns than it holds cells
few_columns : (cells : List Cell) (region : Region) (strip : Strip) → IsWoven cells region → Contains region.strips strip → IsStrip strip
    → length (columns strip) ≤ count_by (λ (cell : Cell). is_holding cell.at strip) cells
few_columns cells region strip woven listed rules' =
    let many : ℕ = strip.x1 + 1 - strip.x0 in
    let held = numbers_within (λ (cell : Cell). is_holding cell.at strip) (λ (cell : Cell). cell.at.x) (λ x. true) cells strip.x0 many
    (λ x least most passes.
    let last : x ≤ strip.x1 = omega (arith, least, most, rules'.some) in
    let w = woven.there strip x listed (least, last) in
    let holding : is_holding w.1.at strip ≡ true = ap (λ (at : CellRef). is_holding at strip) w.4 ∙ holds_own strip x rules' (least, last) in
    (w.0, w.1, w.2, w.3, record { passes = holding; is = ap (λ (at : CellRef). at.x) w.4 })) in
    omega (arith, held, sum_by-one (range_with_len strip.x0 many), length-range_with_len strip.x0 many)

-- the places of a region
abbrev places_of : Region → ℕ
places_of region = sum_by (λ (strip : Strip). length (columns strip)) region.strips

few_places : (cells : List Cell) (region : Region) → IsWoven cells region → All IsStrip region.strips
    → places_of region ≤ sum_by (λ (cell : Cell). count_by (is_holding cell.at) region.strips) cells
few_places cells region woven strips =
    let holds : Strip → Cell → ℕ = λ strip cell. cond (is_holding cell.at strip) 1 0 in
    omega (
      arith,
      sum_by-no_more (λ (strip : Strip). length (columns strip)) (λ strip. sum_by (holds strip) cells) region.strips
          (λ k d there. few_columns cells region (get_or region.strips k d) woven (Contains-get_or region.strips k d there) (strips k d there)),
      sum_by-exchanged holds region.strips cells,
    )

length-places : (regions : Regions) (id : ℕ) → length (places_in regions id) ≡ places_of (get_or regions.regions id (record { strips = [] }))
length-places regions id =
    length-flat_map (λ (strip : Strip). map (place_in strip) (columns strip)) strips ∙ each strips
  where
    strips : List Strip
    strips = (get_or regions.regions id (record { strips = [] })).strips

    each : (some : List Strip) → sum_by (λ (strip : Strip). length (map (place_in strip) (columns strip))) some ≡ sum_by (λ (strip : Strip). length (columns strip)) some
    each some =
        sum_by-same (λ (strip : Strip). length (map (place_in strip) (columns strip))) (λ (strip : Strip). length (columns strip)) some
        (λ strip. length-map (columns strip) (place_in strip))

-- so the regions have together no more cells than the tile
pub few_in_regions : (cells : List Cell) (regions : Regions) → AreRegionsOf cells regions
    → sum_by (λ id. length (places_in regions id)) (region_numbers regions) ≤ length cells
few_in_regions cells regions are =
    let holds : Region → Cell → ℕ = λ region cell. count_by (is_holding cell.at) region.strips in
    omega (
      arith,
      sum_by-same (λ id. length (places_in regions id)) (λ id. places_of (get_or regions.regions id (record { strips = [] }))) (region_numbers regions)
          (length-places regions),
      sum_by-numbers places_of regions.regions (record { strips = [] }),
      sum_by-no_more places_of (λ region. sum_by (holds region) cells) regions.regions
          (λ k d there. few_places cells (get_or regions.regions k d) (are.woven k d there) (are.stacks k d there).strips),
      sum_by-shared holds (λ cell. 1) regions.regions cells (λ k d there. omega (arith, are.once k d there)),
      sum_by-one cells,
    )
