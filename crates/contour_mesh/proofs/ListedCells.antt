-- In the mesh of a tile by the outlines of its regions each free cell with a kept neighbour across a side of the tile is listed once by the rim.
use Rattle.std.proofs.Common.{◌≡◌, ℕ, ◌+◌, ◌-◌, ◌<◌, ◌≤◌, Bool, true, false, List, [], map, length, get_or, Option, Some, None, ap, ◌∙◌, sym, refl, subst, arith}
use Rattle.std.specs.Prelude.{All, Contains, ◌==◌, ◌&&◌, is_some, nat_le, nat_lt, slice_get, unwrap_or}
use Rattle.std.specs.List.{count_by, range_with_len}
use Rattle.std.specs.Option.{option_map, option_map_or}
use Rattle.std.proofs.lemmas.Bool.{and_from, and_parts, cond-true, eq-eqb, eqb-true, le-leb, leb-true, lt-ltb, ltb-true}
use Rattle.std.proofs.lemmas.List.Elements.{All-contains, All-contains_itself, Contains-get_or}
use Rattle.std.proofs.lemmas.List.FromFn.{get_or-map-range_with_len, get_or-range_with_len, length-map-range_with_len, length-range_with_len}
use Rattle.std.proofs.lemmas.Option.{none-some, same_Some, slice_get-get_or}
use Rattle.nav_base.specs.declared.point.Point.{Point}
use Rattle.nav_base.specs.Convex.{corner_at as corner_of, place_after}
use Rattle.nav_ground.specs.declared.cell.Cell.{Cell}
use Rattle.nav_ground.specs.declared.cell.CellRef.{CellRef}
use Rattle.nav_ground.specs.declared.cell.FreeLayer.{FreeLayer}
use Rattle.nav_ground.specs.declared.cell.Window.{Window}
use Rattle.nav_ground.specs.declared.setting.Setting.{Setting}
use Rattle.nav_ground.specs.Cells.{IsCut, IsInTile}
use Rattle.nav_ground.specs.Tiling.{IsInWindow, tile_window}
use Rattle.nav_ground.proofs.Found.{first_found}
use Rattle.mesh_types.specs.declared.region.PortalEdge.{PortalEdge}
use Rattle.mesh_types.specs.declared.region.RegionPart.{RegionPart}
use Rattle.mesh_types.specs.declared.region.LabelRun.{LabelRun}
use Rattle.mesh_types.specs.declared.region.Outline as outlines
use Rattle.mesh_types.specs.declared.region.Code.{Code}
use Rattle.mesh_types.specs.declared.region.Code.TheVariants.{Region, Side, Wall}
use Rattle.mesh_types.specs.declared.region.Regions.{Regions}
use Rattle.mesh_types.specs.declared.region.UnitEdge.{UnitEdge}
use Rattle.mesh_types.specs.declared.mesh.LevelPair.{LevelPair}
use Rattle.mesh_types.specs.declared.mesh.RimEdge.{RimEdge}
use Rattle.mesh_types.specs.declared.mesh.TileMesh.{TileMesh}
use Rattle.mesh_types.specs.Contours.{edge_beginning, edge_ending, region_at, contour_of}
use Rattle.mesh_types.specs.DoorRim.{belongs_to, crossing_cell, crossing_pair, door_entries, door_entry, door_rim, end_position, first_position, is_listed, is_on_line, is_same_door, lies_on, names_side, point_position, positions_of, runs_over, side_entries, side_of}
use Rattle.mesh_types.specs.Facets.{cells_of, facets_of}
use Rattle.mesh_types.specs.Doors.{code_between, doors_of}
use Rattle.mesh_types.specs.ContourMeshes.{contour_mesh_of, parts_mesh}
use Rattle.mesh_types.specs.Parts.{parts_of}
use Rattle.mesh_types.proofs.Words.{crosses_at, is_of}
use Rattle.mesh_types.specs.Words.{no_part}
use Rattle.mesh_types.specs.Passages.{ListsCrossings, is_listing}
use Rattle.mesh_types.specs.Regions.{AreRegionsOf, regions_of}
use Rattle.mesh_types.specs.Rings.{IsRing}
use Rattle.mesh_types.specs.Runs.{label_if, runs_of}
use Rattle.mesh_types.specs.Crossings.{is_at_side, is_crossing, level_pair, position_of}
use Rattle.mesh_types.specs.StripPolygons.{some_cell}
use Rattle.mesh_types.proofs.ChoiceLaws.{filter-passes}
use Rattle.mesh_types.proofs.DoorLaws.{IsDoorOf, doors_are}
use Rattle.mesh_types.proofs.FacetLaws.{IsFacetOf, facets_are, parts_are}
use Rattle.mesh_types.proofs.Gathered.{Contains-filter, Contains-flat_map, Contains-map}
use Rattle.mesh_types.proofs.Listings.{entry_lists, listed_once}
use Rattle.mesh_types.proofs.MaximalRuns.{run_found}
use Rattle.mesh_types.proofs.RimShares.{named_once}
use Rattle.contour_walk.proofs.ContourRings.{contour_ring}
use Rattle.contour_mesh.proofs.ContourRings.{IsOutlineOf, part_found, part_outline}
use Rattle.contour_mesh.proofs.CoveredPlaces.{IsStep, covered, lower, same_begin, step_at, step_within, upper}
use Rattle.contour_mesh.proofs.DoorCounts.{outline_door}
use Rattle.contour_mesh.proofs.DoorPairs.{between_points, coded_next, is_in, is_of as is_door_of}
use Rattle.contour_mesh.proofs.RingStops.{AreNext, next_is, next_of, same_next}
use Rattle.contour_mesh.proofs.RingWalks.{after_inside, edge_at, follows, one_place, turn, turn_inside, turn_low, turn_next}
use Rattle.contour_mesh.proofs.SharedCorners.{corner_at}
use Rattle.contour_mesh.proofs.SharedSteps.{is_kept, kept_coded, kept_count, outline_code, outline_corner, outline_count, outline_of, places_of}
use Rattle.contour_mesh.proofs.SideCells.{IsCrossingIn, IsSideEdge, beside_line, contour_sides, crossing_edge, edge_position, edge_step, one_crossing, region_of_cell, same_beginning, same_column}
use Rattle.contour_mesh.proofs.SoundParts.{IsSoundPart, parts_sound}

-- ---- tests

code_next : (outline : outlines.Outline) (from to : ℕ) → to ≡ place_after (length outline.corners) from → code_between outline from to ≡ slice_get outline.codes from
code_next outline from to next =
    cond-true (to == place_after (length outline.corners) from) (slice_get outline.codes from) None (eq-eqb to (place_after (length outline.corners) from) next)

side_is : (code : Option Code) (side : ℕ) → names_side code side ≡ true → code ≡ Some (Side side)
side_is (Some (Side own)) side is = ap (λ (n : ℕ). Some (Side n)) (eqb-true own side is)
side_is (Some (Region id)) side is = absurd cc
side_is (Some Wall) side is = absurd cc
side_is None side is = absurd cc

side_named : (code : Option Code) (side : ℕ) → code ≡ Some (Side side) → names_side code side ≡ true
side_named code side is = ap (λ (c : Option Code). names_side c side) is ∙ eq-eqb side side refl

one_side : (code : Option Code) (side other : ℕ) → code ≡ Some (Side side) → names_side code other ≡ true → side ≡ other
one_side code side other is named = eqb-true side other (sym (ap (λ (c : Option Code). names_side c other) is) ∙ named)

region_tested : (o : Option ℕ) (id : ℕ) → option_map_or (λ r. r == id) o false ≡ true → o ≡ Some id
region_tested None id is = absurd cc
region_tested (Some r) id is = ap (λ (n : ℕ). Some n) (eqb-true r id is)

-- a door that lies on a side lies on no other
only_side : (window : Window) (door : PortalEdge) (side : ℕ) → side < 4 → door.code ≡ Some (Side side) → lies_on window door side ≡ true → side_of window door ≡ Some side
only_side window door side small code lies =
    let at : get_or (range_with_len 0 4) side 0 ≡ side = get_or-range_with_len 0 4 side 0 small ∙ omega arith in
    let first = first_found (lies_on window door) (range_with_len 0 4) side 0 (omega (arith, small, length-range_with_len 0 4)) (ap (lies_on window door) at ∙ lies) in
    let other : ℕ = get_or (range_with_len 0 4) first.place 0 in
    let inner = and_parts (names_side door.code other && is_on_line window other door.begin) (is_on_line window other door.end) first.passes in
    let named = and_parts (names_side door.code other) (is_on_line window other door.begin) inner.0 in
    first.is ∙ ap (λ (n : ℕ). Some n) (sym (one_side door.code side other code named.0))

-- a door runs along the edges of a contour, from a corner that is kept to the next, and has the code of a side
record IsDoorAlong (error side : ℕ) (E : List UnitEdge) (door : PortalEdge) (i j : ℕ) : Type 0 where
  next : AreNext (length E) (is_kept error E) i j
  code : door.code ≡ Some (Side side)
  coded : (edge_at E i).code ≡ Side side
  begin : door.begin ≡ corner_at E i
  end : door.end ≡ corner_at E j

module _ (window : Window) (error : ℕ) (cells : List Cell) (regions : Regions) (cut : IsCut cells)
    (inside : All (λ (cell : Cell). IsInWindow window cell.at.x cell.at.z) cells) (are : AreRegionsOf cells regions) (parts : List RegionPart)
    (made : parts_of window error cells regions ≡ Some parts) where
  abbrev doors : List PortalEdge
  doors = doors_of (facets_of parts)

  sound : All IsSoundPart parts
  sound = parts_sound window error cells cut.rules regions are parts made

  facets : All (IsFacetOf window parts) (facets_of parts)
  facets = facets_are window parts (parts_are window cells cut.rules regions are inside error parts made).each

  each : All (IsDoorOf parts (facets_of parts)) (doors_of (facets_of parts))
  each = doors_are window parts (facets_of parts) facets

  -- ---- the doors of one region

  module _ (r side : ℕ) (there : r < length regions.regions) (small : side < 4) where
    abbrev E : List UnitEdge
    E = contour_of window cells regions r

    abbrev q : ℕ → Bool
    q = is_kept error (contour_of window cells regions r)

    abbrev n : ℕ
    n = length (contour_of window cells regions r)

    abbrev place_at : ℕ → ℕ
    place_at t = get_or (places_of error (contour_of window cells regions r)) t 0

    ring : IsRing (contour_of window cells regions r)
    ring = (contour_ring window cells cut.rules regions are r there).ring

    outline : IsOutlineOf error (contour_of window cells regions r) (get_or parts r no_part)
    outline = part_outline error E (get_or parts r no_part) (part_found window error cells regions parts made r there).1

    -- a door of the region with the code of the side runs along its contour
    door_along : (door : PortalEdge) → Contains doors door → door.region ≡ r → door.code ≡ Some (Side side)
        → IsDoorAlong error side E door (place_at door.from) (next_of n q door.from)
    door_along door has region code =
        let own : outlines.Outline = (get_or parts door.region no_part).outline in
        let t : ℕ = door.from in
        let in_part = is_in window parts sound facets each door has in
        let of = is_door_of window parts sound facets each door has in
        let same : own ≡ outline_of error E = ap (λ k. (get_or parts k no_part).outline) region ∙ outline.is in
        let coded : code_between own t door.to ≡ Some (Side side) = sym in_part.code ∙ code in
        let to : door.to ≡ place_after (length own.corners) t = coded_next own t door.to (Side side) coded in
        let count = outline_count error E in
        let t-in : t < length (places_of error E) = omega (arith, in_part.from, ap (λ (o : outlines.Outline). length o.corners) same, count) in
        let step = next_is n q t t-in in
        let at : slice_get (outline_of error E).codes t ≡ Some (Side side) =
        ap (λ (o : outlines.Outline). slice_get o.codes t) (sym same) ∙ sym (code_next own t door.to to) ∙ coded in
        record {
          next = step.next;
          code = code;
          coded = same_Some (edge_at E (place_at t)).code (Side side) (sym (outline_code error E t t-in) ∙ at);
          begin = of.begin ∙ ap (λ (o : outlines.Outline). corner_of o.corners t) same ∙ outline_corner error E t t-in
              ∙ ap (λ k. (edge_at E k).from) (sym (turn_low n (place_at t) step.next.there));
          end = of.end ∙ ap (corner_of own.corners) to
              ∙ ap (λ (o : outlines.Outline). corner_of o.corners (place_after (length o.corners) t)) same
              ∙ ap (λ m. corner_of (outline_of error E).corners (place_after m t)) count
              ∙ outline_corner error E (place_after (length (places_of error E)) t) (after_inside (length (places_of error E)) t t-in)
              ∙ ap (λ k. (edge_at E k).from) step.listed;
        }

    module _ (door : PortalEdge) (i j : ℕ) (along : IsDoorAlong error side E door i j) where
      abbrev corner : ℕ → Point
      corner u = corner_at (contour_of window cells regions r) (i + u)

      abbrev edge : ℕ → UnitEdge
      edge u = edge_at (contour_of window cells regions r) (turn (length (contour_of window cells regions r)) (i + u))

      abbrev down : Bool
      down = nat_lt side 2

      size_is : i + (j - i) ≡ j
      size_is = omega (arith, along.next.later)

      -- each of its edges is that of a cell
      side_edge : (u : ℕ) → u < j - i → IsSideEdge window cells regions r side (edge u)
      side_edge u less =
          contour_sides window cells regions cut inside are r there (turn n (i + u)) side
          (turn_inside n (i + u) (omega (arith, less, along.next.there, along.next.round)))
          (kept_coded error E i j u along.next (omega (arith, less)) ∙ along.coded)

      ends_next : (u : ℕ) → u < j - i → (edge u).to ≡ corner (u + 1)
      ends_next u less =
          let wide : i + u + 1 < n + n = omega (arith, less, along.next.there, along.next.round) in
          follows E ring.closed (turn n (i + u)) (turn_inside n (i + u) (omega (arith, wide)))
          ∙ ap (λ k. (edge_at E k).from) (turn_next n (i + u) wide)
          ∙ ap (corner_at E) {x = i + u + 1} {y = i + (u + 1)} (omega arith)

      steps : (u : ℕ) → u < j - i → IsStep (nat_lt side 2) (point_position side (corner u)) (point_position side (corner (u + 1)))
      steps u less =
          let is = side_edge u less in
          let P : Point → Type 0 = λ p. IsStep down (point_position side p) (point_position side (corner (u + 1))) in
          let Q : Point → Type 0 = λ p. IsStep down (point_position side (edge_beginning side is.cell.at)) (point_position side p) in
          subst P (sym is.begins) (subst Q (sym is.ends ∙ ends_next u less) (edge_step side is.cell.at small))

      begin_is : door.begin ≡ corner 0
      begin_is = along.begin ∙ ap (corner_at E) {x = i} {y = i + 0} (omega arith)

      end_is : door.end ≡ corner (j - i)
      end_is = along.end ∙ ap (corner_at E) (sym size_is)

      -- the position of an edge toward the side is that of its cell
      at_position : (u : ℕ) (at : CellRef) → u < j - i → (edge u).from ≡ edge_beginning side at → (edge u).to ≡ edge_ending side at
          → point_position side (lower (nat_lt side 2) (corner u) (corner (u + 1))) ≡ position_of side at
      at_position u at less begins ends =
          (λ x. point_position side (lower down (begins x) ((sym (ends_next u less) ∙ ends) x))) ∙ edge_position side at small

      -- the door runs over the positions of the cells of its edges,
      runs_over_cell : (u : ℕ) (at : CellRef) → u < j - i → (edge u).from ≡ edge_beginning side at → (edge u).to ≡ edge_ending side at
          → (first_position side door ≤ position_of side at) × (position_of side at < end_position side door)
      runs_over_cell u at less begins ends =
          let within = step_within (point_position side) corner down (j - i) steps u less in
          let here = at_position u at less begins ends in
          let first : first_position side door ≡ point_position side (lower down (corner 0) (corner (j - i))) = λ x. point_position side (lower down (begin_is x) (end_is x)) in
          let last : end_position side door ≡ point_position side (upper down (corner 0) (corner (j - i))) = λ x. point_position side (upper down (begin_is x) (end_is x)) in
          (omega (arith, within.0, here, first), omega (arith, within.1, here, last))

      -- and over no others
      cell_under : (position : ℕ) → first_position side door ≤ position → position < end_position side door
          → (u : ℕ) × (less : u < j - i) × (position_of side (side_edge u less).cell.at ≡ position)
      cell_under position least most =
          let first : first_position side door ≡ point_position side (lower down (corner 0) (corner (j - i))) = λ x. point_position side (lower down (begin_is x) (end_is x)) in
          let last : end_position side door ≡ point_position side (upper down (corner 0) (corner (j - i))) = λ x. point_position side (upper down (begin_is x) (end_is x)) in
          let found = step_at (point_position side) corner down (j - i) steps position (omega (arith, least, first)) (omega (arith, most, last)) in
          let is = side_edge found.0 found.1 in
          (found.0, found.1, sym (at_position found.0 is.cell.at found.1 is.begins is.ends) ∙ found.2)

      -- it lies on the side
      lies : lies_on window door side ≡ true
      lies =
          let some : 0 < j - i = omega (arith, along.next.later) in
          let first = side_edge 0 some in
          let u : ℕ = j - i - 1 in
          let less : u < j - i = omega (arith, some) in
          let last = side_edge u less in
          let P : Cell → Type 0 = λ (cell : Cell). IsInWindow window cell.at.x cell.at.z in
          let on : (cell : Cell) → IsCrossingIn window cells regions r side cell
          → (is_on_line window side (edge_beginning side cell.at) ≡ true) × (is_on_line window side (edge_ending side cell.at) ≡ true) =
          λ cell is. beside_line side window cell.at small (All-contains P cells cell inside is.own) (and_parts (is_at_side window side cell.at) _ is.crossing).0 in
          let begins : door.begin ≡ edge_beginning side first.cell.at = begin_is ∙ first.begins in
          let ends : door.end ≡ edge_ending side last.cell.at =
          end_is ∙ ap corner {x = j - i} {y = u + 1} (omega (arith, some)) ∙ sym (ends_next u less) ∙ last.ends in
          and_from (names_side door.code side && is_on_line window side door.begin) (is_on_line window side door.end)
          (and_from (names_side door.code side) (is_on_line window side door.begin) (side_named door.code side along.code)
          (ap (is_on_line window side) begins ∙ (on first.cell first.is).0))
          (ap (is_on_line window side) ends ∙ (on last.cell last.is).1)

  -- ---- the door over a cell's edge

  -- a door of the cell's region that lies on the side and runs over the cell's position, and the edge of the contour by which it does
  record IsDoorOver (r side : ℕ) (cell : Cell) : Type 0 where
    door : PortalEdge
    has : Contains doors door
    region : door.region ≡ r
    i : ℕ
    j : ℕ
    along : IsDoorAlong error side (contour_of window cells regions r) door i j
    step : ℕ
    within : i + step < j
    begins : (edge_at (contour_of window cells regions r) (turn (length (contour_of window cells regions r)) (i + step))).from ≡ edge_beginning side cell.at
    ends : (edge_at (contour_of window cells regions r) (turn (length (contour_of window cells regions r)) (i + step))).to ≡ edge_ending side cell.at

  door_over_cell : (r side : ℕ) → r < length regions.regions → side < 4 → (cell : Cell) → IsCrossingIn window cells regions r side cell → IsDoorOver r side cell
  door_over_cell r side there small cell is =
      let E : List UnitEdge = contour_of window cells regions r in
      let n : ℕ = length E in
      let q : ℕ → Bool = is_kept error E in
      let own = outline r side there small in
      let edge = crossing_edge window cells regions cut inside are r there side cell small is in
      let cover = covered n q edge.place edge.within (omega (arith, own.enough, kept_count error E)) in
      let t : ℕ = cover.index in
      let i : ℕ = get_or (places_of error E) t 0 in
      let part = (part_found window error cells regions parts made r there).0 in
      let found = outline_door parts r t sound part
      (omega (arith, cover.there, outline_count error E, ap (λ (o : outlines.Outline). length o.corners) own.is)) in
      let coded : (edge_at E i).code ≡ Side side =
      sym (kept_coded error E i (next_of n q t) cover.step (next_is n q t cover.there).next cover.within) ∙ ap (λ k. (edge_at E k).code) cover.is ∙ edge.coded in
      let code : found.door.code ≡ Some (Side side) =
      (is_in window parts sound facets each found.door found.has).code
      ∙ (λ x. code_between (get_or parts (found.region x) no_part).outline (found.begins x) (found.ends x))
      ∙ code_next (get_or parts r no_part).outline t (place_after (length (get_or parts r no_part).outline.corners) t) refl
      ∙ ap (λ (o : outlines.Outline). slice_get o.codes t) own.is
      ∙ outline_code error E t cover.there
      ∙ ap (λ (c : Code). Some c) coded in
      let P : ℕ → Type 0 = λ s. get_or (places_of error E) s 0 + cover.step < next_of n q s in
      let place : turn n (get_or (places_of error E) found.door.from 0 + cover.step) ≡ edge.place =
      ap (λ s. turn n (get_or (places_of error E) s 0 + cover.step)) found.begins ∙ cover.is in
      record {
        door = found.door;
        has = found.has;
        region = found.region;
        i = get_or (places_of error E) found.door.from 0;
        j = next_of n q found.door.from;
        along = door_along r side there small found.door found.has found.region code;
        step = cover.step;
        within = subst P (sym found.begins) cover.within;
        begins = ap (λ k. (edge_at E k).from) place ∙ edge.begins;
        ends = ap (λ k. (edge_at E k).to) place ∙ edge.ends;
      }

  module _ (r side : ℕ) (there : r < length regions.regions) (small : side < 4) (cell : Cell) (is : IsCrossingIn window cells regions r side cell)
      (over : IsDoorOver r side cell) where
    abbrev position : ℕ
    position = position_of side cell.at

    abbrev door : PortalEdge
    door = over.door

    abbrev test : PortalEdge → Bool
    test = runs_over window over.door.region side (position_of side cell.at)

    span : (first_position side over.door ≤ position_of side cell.at) × (position_of side cell.at < end_position side over.door)
    span = runs_over_cell r side there small door over.i over.j over.along over.step cell.at (omega (arith, over.within)) over.begins over.ends

    on_side : lies_on window over.door side ≡ true
    on_side = lies r side there small door over.i over.j over.along

    passes : test over.door ≡ true
    passes =
        and_from (door.region == door.region && lies_on window door side && nat_le (first_position side door) position) (nat_lt position (end_position side door))
        (and_from (door.region == door.region && lies_on window door side) (nat_le (first_position side door) position)
        (and_from (door.region == door.region) (lies_on window door side) (eq-eqb door.region door.region refl) on_side)
        (le-leb (first_position side door) position span.0))
        (lt-ltb position (end_position side door) span.1)

    -- no other door of the region runs over the position
    only_door : (other : PortalEdge) → Contains doors other → test other ≡ true → other ≡ over.door
    only_door other has runs =
        let E : List UnitEdge = contour_of window cells regions r in
        let n : ℕ = length E in
        let q : ℕ → Bool = is_kept error E in
        let last = and_parts (other.region == door.region && lies_on window other side && nat_le (first_position side other) position)
        (nat_lt position (end_position side other)) runs in
        let first = and_parts (other.region == door.region && lies_on window other side) (nat_le (first_position side other) position) last.0 in
        let outer = and_parts (other.region == door.region) (lies_on window other side) first.0 in
        let ends = and_parts (names_side other.code side && is_on_line window side other.begin) (is_on_line window side other.end) outer.1 in
        let names = and_parts (names_side other.code side) (is_on_line window side other.begin) ends.0 in
        let region : other.region ≡ door.region = eqb-true other.region door.region outer.0 in
        let i : ℕ = get_or (places_of error E) other.from 0 in
        let j : ℕ = next_of n q other.from in
        let along = door_along r side there small other has (region ∙ over.region) (side_is other.code side names.0) in
        let under = cell_under r side there small other i j along position (leb-true (first_position side other) position first.1) (ltb-true position (end_position side other) last.1) in
        let u : ℕ = under.0 in
        let edge = side_edge r side there small other i j along u under.1 in
        let P : Cell → Type 0 = λ (c : Cell). IsInWindow window c.at.x c.at.z in
        let column = same_column side window edge.cell.at cell.at small (All-contains P cells edge.cell inside edge.is.own) (All-contains P cells cell inside is.own)
        (and_parts (is_at_side window side edge.cell.at) _ edge.is.crossing).0 (and_parts (is_at_side window side cell.at) _ is.crossing).0 under.2 in
        let wide : i + u < n + n = omega (arith, under.1, along.next.there, along.next.round) in
        let wide' : over.i + over.step < n + n = omega (arith, over.within, over.along.next.there, over.along.next.round) in
        let place : turn n (i + u) ≡ turn n (over.i + over.step) =
        one_place E (ring r side there small) (turn n (i + u)) (turn n (over.i + over.step)) (turn_inside n (i + u) wide) (turn_inside n (over.i + over.step) wide')
        (edge.begins ∙ same_beginning side edge.cell.at cell.at column.0 column.1 ∙ sym over.begins) in
        let same : i ≡ over.i = same_begin n q i j u over.i over.j over.step along.next over.along.next (omega (arith, under.1)) over.within place in
        let next : AreNext n q over.i j = subst (λ k. AreNext n q k j) same along.next in
        let same' : j ≡ over.j = same_next n q over.i j over.j next over.along.next in
        between_points window parts sound facets each other door has over.has region
        (along.begin ∙ ap (corner_at E) same ∙ sym over.along.begin) (along.end ∙ ap (corner_at E) same' ∙ sym over.along.end)

    belongs : belongs_to window doors side over.door (position_of side cell.at) ≡ true
    belongs =
        let first = first_found test doors over.has.0 door over.has.1 (ap test over.has.2 ∙ passes) in
        let other : PortalEdge = get_or doors first.place door in
        let same : other ≡ door = only_door other (Contains-get_or doors first.place door (omega (arith, first.most, over.has.1))) first.passes in
        ap (λ (o : Option PortalEdge). option_map_or (is_same_door door) o false) first.is
        ∙ ap (is_same_door door) same
        ∙ and_from (door.polygon == door.polygon) (door.edge == door.edge) (eq-eqb door.polygon door.polygon refl) (eq-eqb door.edge door.edge refl)

    -- the cell that is listed there is this one
    cell_found : crossing_cell window cells regions over.door.region side (position_of side cell.at) ≡ Some cell
    cell_found =
        let crosses : Cell → Bool = crosses_at window side position in
        let own : Cell → Bool = is_of regions door.region in
        let held = Contains-filter own cells cell is.own
        (ap (λ (o : Option ℕ). option_map_or (λ k. k == door.region) o false) is.region ∙ eq-eqb r door.region (sym over.region)) in
        let first = first_found crosses (cells_of cells regions door.region) held.0 cell held.1
        (ap crosses held.2 ∙ and_from (is_crossing window side cell) (position == position) is.crossing (eq-eqb position position refl)) in
        let other : Cell = get_or (cells_of cells regions door.region) first.place cell in
        let kept = filter-passes own (Contains cells) cells (All-contains_itself cells) first.place cell (omega (arith, first.most, held.1)) in
        let parts' = and_parts (is_crossing window side other) (position_of side other.at == position) first.passes in
        let other-is : IsCrossingIn window cells regions r side other = record {
          own = kept.0;
          region = region_tested (region_at regions other.at) door.region kept.1 ∙ ap (λ (k : ℕ). Some k) over.region;
          crossing = parts'.0;
        } in
        first.is
        ∙ ap (λ (c : Cell). Some c)
        (one_crossing window cells regions cut inside are r there side other cell small other-is is (eqb-true (position_of side other.at) position parts'.1))

    listed_here : count_by (is_listing side cell) (door_rim window cells regions doors) ≡ 1
    listed_here =
        let begin : ℕ = first_position side door in
        let count : ℕ = end_position side door - begin in
        let k : ℕ = position - begin in
        let k-in : k < count = omega (arith, span.0, span.1) in
        let here : begin + k ≡ position = omega (arith, span.0) in
        let f : ℕ → Bool = λ place. is_listed window cells regions doors door side place in
        let labels : List (Option ℕ) = map (λ place. label_if (f place)) (positions_of side door) in
        let many : length labels ≡ count = length-map-range_with_len (λ place. label_if (f place)) begin count in
        let listed : f position ≡ true =
        and_from (belongs_to window doors side door position) (is_some (crossing_cell window cells regions door.region side position)) belongs (ap is_some cell_found) in
        let label : get_or labels k None ≡ Some 0 =
        get_or-map-range_with_len (λ place. label_if (f place)) begin count k position None k-in here ∙ ap label_if listed in
        let found = run_found labels k 0 (omega (arith, k-in, many)) label in
        let run : LabelRun = found.run in
        let entry : RimEdge = door_entry window cells regions door side run in
        let entries : Option ℕ → List RimEdge = λ o. option_map_or (side_entries window cells regions doors door) o [] in
        let on : side_of window door ≡ Some side = only_side window door side small over.along.code on_side in
        let own : Contains (side_entries window cells regions doors door side) entry = Contains-map (door_entry window cells regions door side) (runs_of labels) run found.listed in
        let held : Contains (door_rim window cells regions doors) entry =
        Contains-flat_map (door_entries window cells regions doors) doors door entry over.has (subst (λ o. Contains (entries o) entry) (sym on) own) in
        let pair : ℕ → LevelPair = crossing_pair window cells regions door.region side in
        let len : ℕ = run.last + 1 - run.first in
        let v : ℕ = position - (begin + run.first) in
        let v-in : v < len = omega (arith, here, found.first, found.last) in
        let pairs : List LevelPair = map pair (range_with_len (begin + run.first) len) in
        let size : length pairs ≡ len = length-map-range_with_len pair (begin + run.first) len in
        let d : LevelPair = level_pair side some_cell in
        let levels : slice_get pairs v ≡ Some (level_pair side cell) =
        slice_get-get_or pairs v d (omega (arith, v-in, size))
        ∙ ap (λ (p : LevelPair). Some p)
        (get_or-map-range_with_len pair (begin + run.first) len v position d v-in (omega (arith, here, found.first))
        ∙ ap (λ (o : Option Cell). level_pair side (unwrap_or o some_cell)) cell_found) in
        listed_once (door_rim window cells regions doors) side cell
        (named_once window cells regions (facets_of parts) side position cell.at.level small cut inside) entry held
        (entry_lists side cell entry refl (omega (arith, here, found.first)) levels)

  -- each free cell with a kept neighbour across a side
  parts_list : (side : ℕ) → side < 4
      → All (λ (cell : Cell). is_crossing window side cell ≡ true → count_by (is_listing side cell) (door_rim window cells regions doors) ≡ 1) cells
  parts_list side small i d less crossing =
      let cell : Cell = get_or cells i d in
      let own : Contains cells cell = Contains-get_or cells i d less in
      let of = region_of_cell cells regions are cell own in
      let is : IsCrossingIn window cells regions of.id side cell = record { own = own; region = of.is; crossing = crossing } in
      listed_here of.id side of.there small cell is (door_over_cell of.id side of.there small cell is)

-- the mesh of a tile by the outlines of its regions, where it has one
pub contours_list : (setting : Setting) (free : FreeLayer) → IsCut free.cells → IsInTile setting free.tile free.cells
    → AreRegionsOf free.cells (regions_of free.cells) → (tile : TileMesh) → contour_mesh_of setting free ≡ Some tile → ListsCrossings setting tile
unfolding contour_mesh_of parts_mesh
contours_list setting free cut in_tile are tile is = by_case (parts_of window setting.error free.cells regions) refl is
  where
    window : Window
    window = tile_window setting free.tile

    regions : Regions
    regions = regions_of free.cells

    by_case : (o : Option (List RegionPart)) → parts_of (tile_window setting free.tile) setting.error free.cells (regions_of free.cells) ≡ o
        → option_map (parts_mesh setting free (regions_of free.cells)) o ≡ Some tile → ListsCrossings setting tile
    by_case None made same = absurd (none-some tile same)
    by_case (Some parts) made same =
        subst (ListsCrossings setting) (same_Some (parts_mesh setting free regions parts) tile same)
        (parts_list window setting.error free.cells regions cut in_tile.inside are parts made)
