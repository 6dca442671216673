-- The levels that a tile's rim names at a position of an edge are determined: they are those of the one cell of the edge's strip or region there.
use Rattle.std.proofs.Common.{◌≡◌, ℕ, zero, suc, ◌+◌, ◌-◌, ◌<◌, ◌≤◌, Bool, true, false, List, [], map, length, get_or, ap, ◌∙◌, sym, refl, subst, arith, Option, Some, None}
use Rattle.std.specs.Prelude.{All, nat_le, slice_get, if◌then◌else◌}
use Rattle.std.specs.List.{between, flat_map, range_with_len}
use Rattle.std.specs.Option.{option_map, option_map_or}
use Rattle.std.proofs.lemmas.Bool.{leb-true}
use Rattle.std.proofs.lemmas.List.{get_or-map, length-map}
use Rattle.std.proofs.lemmas.List.Elements.{All-map, All-nil}
use Rattle.std.proofs.lemmas.List.FromFn.{get_or-map-range_with_len, length-map-range_with_len}
use Rattle.std.proofs.lemmas.Option.{none-some, same_Some, slice_get_within, get_or_from_slice_get}
use Rattle.nav_ground.specs.declared.cell.Cell.{Cell}
use Rattle.nav_ground.specs.declared.cell.FreeLayer.{FreeLayer}
use Rattle.nav_ground.specs.declared.cell.Layer.{Layer}
use Rattle.nav_ground.specs.declared.cell.Window.{Window}
use Rattle.nav_ground.specs.declared.history.Ground.{Ground}
use Rattle.nav_ground.specs.declared.setting.Setting.{Setting}
use Rattle.nav_ground.specs.declared.shape.Shape.{Shape}
use Rattle.nav_ground.specs.Cells.{IsCut, IsInTile}
use Rattle.nav_ground.specs.FreeCells.{free_layer_of}
use Rattle.nav_ground.specs.Grounds.{IsGround}
use Rattle.nav_ground.specs.Limits.{IsShape}
use Rattle.nav_ground.specs.Tiling.{tile_window, IsInWindow}
use Rattle.nav_ground.proofs.FreeLayers.{free_layer_cut}
use Rattle.nav_ground.proofs.LayerLaws.{IsLayerOf-from_ground}
use Rattle.mesh_types.specs.declared.region.PortalEdge.{PortalEdge}
use Rattle.mesh_types.specs.declared.region.RegionPart.{RegionPart}
use Rattle.mesh_types.specs.declared.region.LabelRun.{LabelRun}
use Rattle.mesh_types.specs.declared.region.Regions.{Regions}
use Rattle.mesh_types.specs.declared.mesh.LevelPair.{LevelPair}
use Rattle.mesh_types.specs.declared.mesh.RimEdge.{RimEdge}
use Rattle.mesh_types.specs.declared.mesh.TileMesh.{TileMesh}
use Rattle.mesh_types.specs.BorderLinks.{HasOnePair, Names, pair_at}
use Rattle.mesh_types.specs.Builds.{tile_mesh_of}
use Rattle.mesh_types.specs.Facets.{Facet, facets_of}
use Rattle.mesh_types.specs.ContourMeshes.{contour_mesh_of, parts_mesh}
use Rattle.mesh_types.specs.DoorRim.{crossing_pair, door_entries, door_entry, door_rim, is_listed, positions_of, side_entries, side_of}
use Rattle.mesh_types.specs.Doors.{door_over, doors_of, facet_doors}
use Rattle.mesh_types.specs.Parts.{parts_of}
use Rattle.mesh_types.specs.Regions.{regions_of}
use Rattle.mesh_types.specs.Runs.{label_if, runs_of}
use Rattle.mesh_types.specs.StripPolygons.{first_of, some_cell, strip_runs}
use Rattle.mesh_types.specs.Crossings.{is_at_side, is_crossing, level_pair, position_of}
use Rattle.mesh_types.specs.StripLinks.{outside_of}
use Rattle.mesh_types.specs.StripRim.{rim_edge, strip_rim_over}
use Rattle.mesh_types.specs.StripMeshes.{strip_mesh_of}
use Rattle.mesh_types.proofs.DoorLaws.{facet_at}
use Rattle.mesh_types.proofs.Gathered.{all_of_each, gathered_all}
use Rattle.mesh_types.proofs.RunLaws.{IsRunOf, in_run, part_length, runs_are_runs}
use Rattle.mesh_types.proofs.SidePlaces.{at_most, squeezed}
use Rattle.mesh_types.proofs.TileMeshes.{of_either}
use Rattle.strip_mesh.proofs.RimLaws.{part_at_side}
use Rattle.strip_mesh.proofs.RimTotals.{crossings, positions_rise}
use Rattle.strip_mesh.proofs.RowLaws.{IsRow, own_all, row_is}
use Rattle.tile_build.specs.Meshes.{tiles_under}
use Rattle.tile_build.proofs.FreeInTile.{free_in_tile}

-- ---- the pair of an entry

record IsPairAt (entry : RimEdge) (position : ℕ) (found : LevelPair) : Type 0 where
  begins : entry.first ≤ position
  inside : position - entry.first < length entry.pairs
  is : (d : LevelPair) → get_or entry.pairs (position - entry.first) d ≡ found

pair_there : (entry : RimEdge) (position : ℕ) (found : LevelPair) → pair_at entry position ≡ Some found → IsPairAt entry position found
pair_there entry position found there = by_test (nat_le entry.first position) refl there
  where
    by_test : (b : Bool) → nat_le entry.first position ≡ b → (if b then slice_get entry.pairs (position - entry.first) else None) ≡ Some found
        → IsPairAt entry position found
    by_test true begins at = record {
      begins = leb-true entry.first position begins;
      inside = slice_get_within entry.pairs (position - entry.first) found at;
      is = λ d. get_or_from_slice_get entry.pairs (position - entry.first) found d at;
    }
    by_test false after at = absurd (none-some found at)

-- ---- strips

-- the place in a strip of the cell at a position of an edge
abbrev place_in_strip : List Cell → ℕ → ℕ → ℕ
place_in_strip own zero position = position - (first_of own).at.x
place_in_strip own (suc zero) position = length own - 1
place_in_strip own (suc (suc zero)) position = position - (first_of own).at.x
place_in_strip own (suc (suc (suc edge))) position = 0

place_is : (edge : ℕ) (window : Window) (own : List Cell) (n position : ℕ) → edge < 4 → IsRow own
    → All (λ (cell : Cell). IsInWindow window cell.at.x cell.at.z) own → n < length own → is_at_side window (outside_of edge) (get_or own n some_cell).at ≡ true
    → position_of (outside_of edge) (get_or own n some_cell).at ≡ position → n ≡ place_in_strip own edge position
place_is zero window own n position small row each inside beside at = omega (arith, at, row.x n some_cell inside)
place_is (suc zero) window own n position small row each inside beside at =
    let end-in : length own - 1 < length own = omega (arith, row.some) in
    let close = squeezed window.x1 (get_or own n some_cell).at.x (get_or own (length own - 1) some_cell).at.x (at_most _ _ beside)
    (each (length own - 1) some_cell end-in).x_most in
    omega (arith, close, row.x n some_cell inside, row.x (length own - 1) some_cell end-in, inside)
place_is (suc (suc zero)) window own n position small row each inside beside at = omega (arith, at, row.x n some_cell inside)
place_is (suc (suc (suc zero))) window own n position small row each inside beside at =
    let close = squeezed window.x0 (first_of own).at.x (get_or own n some_cell).at.x (each 0 some_cell row.some).x_least (at_most _ _ beside) in
    omega (arith, close, row.x n some_cell inside)
place_is (suc (suc (suc (suc edge)))) window own n position small row each inside beside at = absurd (omega (arith, small))

-- the levels of that cell
abbrev strip_pair : List (List Cell) → ℕ → ℕ → ℕ → ℕ → LevelPair
strip_pair runs s edge side position = level_pair side (get_or (get_or runs s []) (place_in_strip (get_or runs s []) edge position) some_cell)

strip_names : (window : Window) (runs : List (List Cell)) (s edge : ℕ) (part : LabelRun) → edge < 4 → IsRow (get_or runs s [])
    → All (λ (cell : Cell). IsInWindow window cell.at.x cell.at.z) (get_or runs s []) → IsRunOf (crossings window edge (get_or runs s [])) part
    → Names (strip_pair runs) (rim_edge s edge (get_or runs s []) part)
strip_names window runs s edge part small row each run position found there =
    let own : List Cell = get_or runs s [] in
    let side : ℕ = outside_of edge in
    let cells : List Cell = between part.first (part.last + 1) own in
    let entry : RimEdge = rim_edge s edge own part in
    let ends : part.last < length own = omega (arith, run.inside, length-map own (λ (cell : Cell). label_if (is_crossing window side cell))) in
    let at = pair_there entry position found there in
    let k : ℕ = position - entry.first in
    let k-in : k < length cells = omega (arith, at.inside, length-map cells (level_pair side)) in
    let inside : part.first + k ≤ part.last = omega (arith, k-in, part_length own part.first part.last run.order ends) in
    let cell_is : get_or cells k some_cell ≡ get_or own (part.first + k) some_cell = in_run own part.first part.last k some_cell (omega (arith, inside)) in
    let beside = part_at_side window side own part run part.first (omega arith) run.order (omega (arith, run.order, ends)) in
    let beside' = part_at_side window side own part run (part.first + k) (omega arith) inside (omega (arith, inside, ends)) in
    let rises = positions_rise edge window own part.first k small row each (omega (arith, inside, ends)) beside beside' in
    let position_is : position_of side (get_or own (part.first + k) some_cell).at ≡ position = rises ∙ omega (arith, at.begins) in
    let place = place_is edge window own (part.first + k) position small row each (omega (arith, inside, ends)) beside' position_is in
    sym (at.is (level_pair side some_cell))
    ∙ get_or-map (level_pair side) cells k some_cell (level_pair side some_cell) k-in
    ∙ ap (level_pair side) (cell_is ∙ ap (λ n. get_or own n some_cell) place)

strips_one_pair : (setting : Setting) (free : FreeLayer) → IsCut free.cells → IsInTile setting free.tile free.cells → HasOnePair (strip_mesh_of setting free)
unfolding strip_mesh_of
strips_one_pair setting free cut in_tile =
    let window : Window = tile_window setting free.tile in
    let runs : List (List Cell) = strip_runs free.cells in
    let P : RimEdge → Type 0 = Names (strip_pair runs) in
    let Q : Cell → Type 0 = λ cell. IsInWindow window cell.at.x cell.at.z in (
      strip_pair runs,
      gathered_all P (λ s. flat_map (strip_rim_over window runs s) (range_with_len 0 4)) 0 (length runs)
          (λ s least most.
          gathered_all P (strip_rim_over window runs s) 0 4
          (λ edge least' most'.
          let own : List Cell = get_or runs s [] in
          let there : s < length runs = omega (arith, most) in
          All-map P (rim_edge s edge own) (runs_of (crossings window edge own))
          (λ k d inside.
          strip_names window runs s edge (get_or (runs_of (crossings window edge own)) k d) (omega (arith, most')) (row_is free.cells cut s there)
          (own_all free.cells Q cut.rules in_tile.inside s there) (runs_are_runs (crossings window edge own) k d inside)))),
    )

-- ---- outlines

-- a door has the region of its polygon
abbrev IsOfFacet : List Facet → PortalEdge → Type 0
IsOfFacet facets door = door.region ≡ (facet_at facets door.polygon).region

doors_of_facets : (facets : List Facet) → All (IsOfFacet facets) (doors_of facets)
unfolding doors_of
doors_of_facets facets =
    gathered_all (IsOfFacet facets) (λ polygon. facet_doors polygon (facet_at facets polygon)) 0 (length facets)
    (λ polygon least most.
    let facet : Facet = facet_at facets polygon in
    All-map (IsOfFacet facets) (door_over polygon facet) (range_with_len 0 (length facet.places)) (λ k d there. refl))

module _ (window : Window) (cells : List Cell) (regions : Regions) (facets : List Facet) where
  abbrev region_pair : ℕ → ℕ → ℕ → ℕ → LevelPair
  region_pair polygon edge side position = crossing_pair window cells regions (facet_at facets polygon).region side position

  entry_names : (door : PortalEdge) (side : ℕ) (run : LabelRun) → IsOfFacet facets door → Names region_pair (door_entry window cells regions door side run)
  entry_names door side run of position found there =
      let entry : RimEdge = door_entry window cells regions door side run in
      let f : ℕ → LevelPair = crossing_pair window cells regions door.region side in
      let count : ℕ = run.last + 1 - run.first in
      let at = pair_there entry position found there in
      let k : ℕ = position - entry.first in
      let k-in : k < count = omega (arith, at.inside, length-map-range_with_len f entry.first count) in
      sym (at.is (level_pair side some_cell))
      ∙ get_or-map-range_with_len f entry.first count k position (level_pair side some_cell) k-in (omega (arith, at.begins))
      ∙ ap (λ r. crossing_pair window cells regions r side position) of

  door_names : (doors : List PortalEdge) (door : PortalEdge) → IsOfFacet facets door → All (Names region_pair) (door_entries window cells regions doors door)
  door_names doors door of = by_side (side_of window door)
    where
      by_side : (found : Option ℕ) → All (Names region_pair) (option_map_or (side_entries window cells regions doors door) found [])
      by_side None = All-nil (Names region_pair)
      by_side (Some side) =
          let labels = map (λ position. label_if (is_listed window cells regions doors door side position)) (positions_of side door) in
          All-map (Names region_pair) (door_entry window cells regions door side) (runs_of labels)
          (λ k d there. entry_names door side (get_or (runs_of labels) k d) of)

  rim_names : All (Names region_pair) (door_rim window cells regions (doors_of facets))
  rim_names =
      all_of_each (Names region_pair) (door_entries window cells regions (doors_of facets)) (doors_of facets)
      (λ k d there. door_names (doors_of facets) (get_or (doors_of facets) k d) (doors_of_facets facets k d there))

contours_one_pair : (setting : Setting) (free : FreeLayer) (tile : TileMesh) → contour_mesh_of setting free ≡ Some tile → HasOnePair tile
unfolding contour_mesh_of parts_mesh
contours_one_pair setting free tile is = by_parts (parts_of window setting.error free.cells regions) is
  where
    window : Window
    window = tile_window setting free.tile

    regions : Regions
    regions = regions_of free.cells

    by_parts : (found : Option (List RegionPart)) → option_map (parts_mesh setting free regions) found ≡ Some tile → HasOnePair tile
    by_parts None same = absurd (none-some tile same)
    by_parts (Some parts) same =
        subst HasOnePair (same_Some (parts_mesh setting free regions parts) tile same)
        (region_pair window free.cells regions (facets_of parts), rim_names window free.cells regions (facets_of parts))

-- ---- the tiles of a ground

pub tiles_one_pair : (ground : Ground) (shapes : List Shape) → IsGround ground → All IsShape shapes → All HasOnePair (tiles_under ground shapes)
tiles_one_pair ground shapes rules' limits =
    All-map HasOnePair (λ (layer : Layer). tile_mesh_of ground.setting layer shapes) ground.layers
    (λ k d there.
    let layer : Layer = get_or ground.layers k d in
    let of_layer = IsLayerOf-from_ground ground rules' k d there in
    let free : FreeLayer = free_layer_of layer shapes in
    let cut = free_layer_cut layer shapes of_layer.rules.cells limits in
    of_either HasOnePair ground.setting free (strips_one_pair ground.setting free cut (free_in_tile ground.setting layer shapes of_layer.inside))
    (contours_one_pair ground.setting free))
