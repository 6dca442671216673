-- How many polygons and inner links a tile by outlines has: at most four polygons a free cell, and at most one link a corner of a polygon.
use Rattle.std.proofs.Common.{◌≡◌, ℕ, ◌*◌, ◌≤◌, true, List, length, get_or, refl, ◌∙◌, sym, arith, subst, Option, Some}
use Rattle.std.specs.Prelude.{is_some}
use Rattle.std.specs.List.{sum_by, filter_map, list_all, range_with_len}
use Rattle.std.proofs.lemmas.List.{length-map}
use Rattle.std.proofs.lemmas.List.Concat.{length-flat_map}
use Rattle.std.proofs.lemmas.List.FromFn.{length-range_with_len}
use Rattle.std.proofs.lemmas.List.Sums.{count_by-le-length}
use Rattle.std.proofs.Math.Nat.{le_trans}
use Rattle.std.proofs.lemmas.Nat.{mul-le}
use Rattle.std.proofs.lemmas.Option.{cond_some}
use Rattle.nav_ground.specs.declared.cell.Cell.{Cell}
use Rattle.nav_ground.specs.declared.cell.Window.{Window}
use Rattle.mesh_types.specs.declared.region.PortalEdge.{PortalEdge}
use Rattle.mesh_types.specs.declared.region.RegionPart.{RegionPart}
use Rattle.mesh_types.specs.declared.region.Piece.{Piece}
use Rattle.mesh_types.specs.declared.region.Regions.{Regions}
use Rattle.mesh_types.specs.Contours.{places_in}
use Rattle.mesh_types.specs.Facets.{Facet, facets_in, facets_of}
use Rattle.mesh_types.specs.Doors.{door_over, door_links, doors_of, facet_doors, link_through}
use Rattle.mesh_types.specs.Parts.{parts_of, region_numbers, region_part}
use Rattle.mesh_types.proofs.Words.{no_facet}
use Rattle.mesh_types.specs.Words.{no_part}
use Rattle.mesh_types.specs.Regions.{AreRegionsOf}
use Rattle.mesh_types.proofs.LinkTotals.{length-ordered_links}
use Rattle.mesh_types.proofs.PieceTotals.{few_corners, few_of_region}
use Rattle.mesh_types.proofs.RegionTotals.{few_in_regions}
use Rattle.mesh_types.proofs.Totals.{length-filter_map, sum_by-filter_map, sum_by-flat_map, sum_by-map, sum_by-numbers, sum_by-same, sum_by-times}

-- how many corners the pieces of a part have
abbrev pub corner_count : RegionPart → ℕ
corner_count part = sum_by (λ (piece : Piece). length piece.corners) part.pieces

-- all parts together, by their cells
parts_within : (window : Window) (error : ℕ) (cells : List Cell) (regions : Regions) (parts : List RegionPart) (g : RegionPart → ℕ) (c : ℕ) → AreRegionsOf cells regions
    → ((id : ℕ) (part : RegionPart) → region_part window error cells regions id ≡ Some part → g part ≤ c * length (places_in regions id))
    → parts_of window error cells regions ≡ Some parts → sum_by g parts ≤ c * length cells
unfolding parts_of
parts_within window error cells regions parts g c are each is =
    let part : ℕ → Option RegionPart = region_part window error cells regions in
    let numbers : List ℕ = region_numbers regions in
    let made : filter_map part numbers ≡ parts = (cond_some (list_all (λ id. is_some (part id)) numbers) (filter_map part numbers) parts is).1 in
    subst (λ (some : List RegionPart). sum_by g some ≤ c * length cells) made
    (le_trans (sum_by-filter_map part g (λ id. c * length (places_in regions id)) numbers each)
    (subst (λ n. n ≤ c * length cells) (sym (sum_by-times c (λ id. length (places_in regions id)) numbers))
    (mul-le c (sum_by (λ id. length (places_in regions id)) numbers) c (length cells) (omega arith) (few_in_regions cells regions are))))

-- there are at most four facets a cell
pub few_facets : (window : Window) (error : ℕ) (cells : List Cell) (regions : Regions) (parts : List RegionPart) → AreRegionsOf cells regions
    → parts_of window error cells regions ≡ Some parts → length (facets_of parts) ≤ 4 * length cells
unfolding facets_of
few_facets window error cells regions parts are is =
    let part : ℕ → RegionPart = λ region. get_or parts region no_part in
    omega (
      arith,
      length-flat_map (λ region. facets_in (part region) region) (range_with_len 0 (length parts)),
      sum_by-same (λ region. length (facets_in (part region) region)) (λ region. length (part region).pieces) (range_with_len 0 (length parts))
          (λ region. length-map (part region).pieces (λ (piece : Piece). record { region = region; outline = (part region).outline; places = piece.corners })),
      sum_by-numbers (λ (p : RegionPart). length p.pieces) parts no_part,
      parts_within window error cells regions parts (λ (p : RegionPart). length p.pieces) 4 are
          (λ id p of. (few_of_region window error cells regions id p of).count) is,
    )

-- and at most 24 doors
pub few_doors : (window : Window) (error : ℕ) (cells : List Cell) (regions : Regions) (parts : List RegionPart) → AreRegionsOf cells regions
    → parts_of window error cells regions ≡ Some parts → length (doors_of (facets_of parts)) ≤ 24 * length cells
unfolding facets_of doors_of
few_doors window error cells regions parts are is =
    let part : ℕ → RegionPart = λ region. get_or parts region no_part in
    let facets : List Facet = facets_of parts in
    let corners : Facet → ℕ = λ (facet : Facet). length facet.places in
    omega (
      arith,
      length-flat_map (λ polygon. facet_doors polygon (get_or facets polygon no_facet)) (range_with_len 0 (length facets)),
      sum_by-same (λ polygon. length (facet_doors polygon (get_or facets polygon no_facet))) (λ polygon. corners (get_or facets polygon no_facet))
          (range_with_len 0 (length facets)) (λ polygon. door_count polygon (get_or facets polygon no_facet)),
      sum_by-numbers corners facets no_facet,
      sum_by-flat_map corners (λ region. facets_in (part region) region) (range_with_len 0 (length parts)),
      sum_by-same (λ region. sum_by corners (facets_in (part region) region)) (λ region. corner_count (part region)) (range_with_len 0 (length parts))
          (λ region. sum_by-map corners (λ (piece : Piece). record { region = region; outline = (part region).outline; places = piece.corners }) (part region).pieces),
      sum_by-numbers corner_count parts no_part,
      parts_within window error cells regions parts corner_count 24 are
          (λ id p of.
          let few = few_corners (4 * length (places_in regions id)) p.pieces (few_of_region window error cells regions id p of) in
          omega (arith, few)) is,
    )
  where
    door_count : (polygon : ℕ) (facet : Facet) → length (facet_doors polygon facet) ≡ length facet.places
    door_count polygon facet = length-map (range_with_len 0 (length facet.places)) (door_over polygon facet) ∙ length-range_with_len 0 (length facet.places)

-- each door has at most one link
pub few_door_links : (tile : ℕ) (doors : List PortalEdge) → length (door_links tile doors) ≤ length doors
few_door_links tile doors =
    omega (
      arith,
      length-ordered_links (filter_map (link_through tile doors) doors),
      length-filter_map (link_through tile doors) (λ door. true) doors (λ k d there link is. refl),
      count_by-le-length (λ (door : PortalEdge). true) doors,
    )
