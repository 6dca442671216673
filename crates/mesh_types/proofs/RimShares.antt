-- What the rim of a tile by outlines has along a side: no more positions than there are free cells, and each position and level at most once.
use Rattle.std.proofs.Common.{◌≡◌, ℕ, ◌+◌, ◌-◌, ◌<◌, ◌≤◌, Bool, true, false, cond, List, [], map, length, get_or, ap, ◌∙◌, sym, refl, subst, arith, Option}
use Rattle.std.specs.Prelude.{All, Any, Contains, Some, None, ◌==◌, ◌&&◌, is_some, unwrap_or}
use Rattle.std.specs.List.{sum_by, find, range_with_len, between}
use Rattle.std.specs.Option.{option_map_or}
use Rattle.std.proofs.lemmas.Bool.{and_parts, and_from, eq-eqb, eqb-true}
use Rattle.std.proofs.lemmas.List.{length-map}
use Rattle.std.proofs.lemmas.List.Elements.{All-contains_itself}
use Rattle.std.proofs.lemmas.List.FromFn.{get_or-range_with_len, get_or-map-range_with_len, length-range_with_len, length-map-range_with_len}
use Rattle.std.proofs.lemmas.List.Sums.{sum_by-le-sum_by, get_or-le-sum_by}
use Rattle.nav_ground.specs.declared.cell.Cell.{Cell}
use Rattle.nav_ground.specs.declared.cell.Window.{Window}
use Rattle.nav_ground.specs.Cells.{IsCut}
use Rattle.nav_ground.specs.Tiling.{IsInWindow}
use Rattle.nav_ground.proofs.Found.{found_in}
use Rattle.mesh_types.specs.declared.region.PortalEdge.{PortalEdge}
use Rattle.mesh_types.specs.declared.region.LabelRun.{LabelRun}
use Rattle.mesh_types.specs.declared.region.Regions.{Regions}
use Rattle.mesh_types.specs.declared.mesh.LevelPair.{LevelPair}
use Rattle.mesh_types.specs.declared.mesh.RimEdge.{RimEdge}
use Rattle.mesh_types.specs.BorderLinks.{along_side}
use Rattle.mesh_types.specs.Contours.{region_at}
use Rattle.mesh_types.specs.Facets.{Facet, cells_of}
use Rattle.mesh_types.specs.DoorRim.{belongs_to, crossing_cell, crossing_pair, door_entries, door_entry, door_rim, first_position, end_position, is_listed, is_same_door, positions_of, runs_over, side_entries, side_of}
use Rattle.mesh_types.specs.Doors.{door_over, doors_of, facet_doors}
use Rattle.mesh_types.proofs.Words.{crosses_at, is_of, no_facet}
use Rattle.mesh_types.specs.Runs.{runs_of, label_if}
use Rattle.mesh_types.specs.Crossings.{is_at_side, is_crossing, level_pair, position_of}
use Rattle.mesh_types.specs.StripPolygons.{some_cell}
use Rattle.mesh_types.proofs.ChoiceLaws.{filter-passes}
use Rattle.mesh_types.proofs.LinkTotals.{is_named, named_pair}
use Rattle.mesh_types.proofs.RunLaws.{IsRunOf, in_run, part_length, run_passes, runs_are_runs}
use Rattle.mesh_types.proofs.RunTotals.{runs_within}
use Rattle.mesh_types.proofs.SidePlaces.{is_placed, placed_once}
use Rattle.mesh_types.proofs.Totals.{HasNumber, numbers_within, once_in_range, sum_by-filter, sum_by-flat_map, sum_by-map, sum_by-no_more, sum_by-one, sum_by-range_no_more, sum_by-shared, sum_by-zero}

-- ---- a door is told by its polygon and its edge

same_in_facet : (other : PortalEdge) (polygon : ℕ) (facet : Facet)
    → sum_by (λ (door : PortalEdge). cond (is_same_door door other) 1 0) (facet_doors polygon facet) ≤ cond (polygon == other.polygon) 1 0
same_in_facet other polygon facet =
    let made = sum_by-map (λ (door : PortalEdge). cond (is_same_door door other) 1 0) (door_over polygon facet) (range_with_len 0 (length facet.places)) in
    omega (arith, made, by_polygon (polygon == other.polygon))
  where
    by_polygon : (b : Bool) → sum_by (λ edge. cond (b && edge == other.edge) 1 0) (range_with_len 0 (length facet.places)) ≤ cond b 1 0
    by_polygon true =
        once_in_range (λ edge. edge == other.edge) 1 0 (length facet.places)
        (λ i j less below is_i is_j. omega (arith, less, eqb-true i other.edge is_i, eqb-true j other.edge is_j))
    by_polygon false = omega (arith, sum_by-zero (range_with_len 0 (length facet.places)))

-- no other door is the same
one_door : (facets : List Facet) (other : PortalEdge) → sum_by (λ (door : PortalEdge). cond (is_same_door door other) 1 0) (doors_of facets) ≤ 1
unfolding doors_of
one_door facets other =
    let same : PortalEdge → ℕ = λ (door : PortalEdge). cond (is_same_door door other) 1 0 in
    let of : ℕ → List PortalEdge = λ polygon. facet_doors polygon (get_or facets polygon no_facet) in
    omega (
      arith,
      sum_by-flat_map same of (range_with_len 0 (length facets)),
      sum_by-range_no_more (λ polygon. sum_by same (of polygon)) (λ polygon. cond (polygon == other.polygon) 1 0) 0 (length facets)
          (λ polygon least most. same_in_facet other polygon (get_or facets polygon no_facet)),
      once_in_range (λ polygon. polygon == other.polygon) 1 0 (length facets)
          (λ i j less below is_i is_j. omega (arith, less, eqb-true i other.polygon is_i, eqb-true j other.polygon is_j)),
    )

-- ---- a cell beside a side belongs to one door

-- a cell is of a door's region, and its position along a side belongs to the door
abbrev owns : Window → Regions → List PortalEdge → ℕ → PortalEdge → Cell → Bool
owns window regions doors side door cell = is_of regions door.region cell && belongs_to window doors side door (position_of side cell.at)

-- a cell of a door's region at a position, which has a kept neighbour across
record IsCrossingOf (window : Window) (cells : List Cell) (regions : Regions) (side : ℕ) (door : PortalEdge) (position : ℕ) (cell : Cell) : Type 0 where
  pub listed : Contains cells cell
  pub of : is_of regions door.region cell ≡ true
  pub crossing : is_crossing window side cell ≡ true
  pub there : position_of side cell.at ≡ position

module _ (window : Window) (cells : List Cell) (regions : Regions) (facets : List Facet) (side : ℕ) where
  abbrev doors : List PortalEdge
  doors = doors_of facets

  -- the door that owns a cell is the first of the cell's region that runs over the cell's position
  owned_once : (cell : Cell) → sum_by (λ (door : PortalEdge). cond (owns window regions doors side door cell) 1 0) doors ≤ 1
  owned_once cell = by_region (region_at regions cell.at)
    where
      position : ℕ
      position = position_of side cell.at

      among : (found : Option PortalEdge) → sum_by (λ (door : PortalEdge). cond (option_map_or (is_same_door door) found false) 1 0) doors ≤ 1
      among None = omega (arith, sum_by-zero doors)
      among (Some other) = one_door facets other

      by_test : (region : ℕ) (door : PortalEdge) (b : Bool) → (region == door.region) ≡ b
          → cond (b && option_map_or (is_same_door door) (find (runs_over window door.region side position) doors) false) 1 0
          ≤ cond (option_map_or (is_same_door door) (find (runs_over window region side position) doors) false) 1 0
      by_test region door false is = omega arith
      by_test region door true is =
          let same : region ≡ door.region = eqb-true region door.region is in
          let P : ℕ → Type 0 = λ r. cond (option_map_or (is_same_door door) (find (runs_over window door.region side position) doors) false) 1 0
          ≤ cond (option_map_or (is_same_door door) (find (runs_over window r side position) doors) false) 1 0 in
          subst P (sym same) (omega arith)

      by_region : (found : Option ℕ)
          → sum_by (λ (door : PortalEdge). cond (option_map_or (λ r. r == door.region) found false && belongs_to window doors side door position) 1 0) doors ≤ 1
      by_region None = omega (arith, sum_by-zero doors)
      by_region (Some region) =
          let fewer = sum_by-le-sum_by (λ (door : PortalEdge). cond (region == door.region && belongs_to window doors side door position) 1 0)
          (λ (door : PortalEdge). cond (option_map_or (is_same_door door) (find (runs_over window region side position) doors) false) 1 0) doors
          (λ door. by_test region door (region == door.region) refl) in
          omega (arith, fewer, among (find (runs_over window region side position) doors))

  -- so all doors together own no more of some cells than there are
  owned_within : (some : Cell → Bool)
      → sum_by (λ (door : PortalEdge). sum_by (λ cell. cond (some cell && owns window regions doors side door cell) 1 0) cells) doors
      ≤ sum_by (λ cell. cond (some cell) 1 0) cells
  owned_within some =
      sum_by-shared (λ (door : PortalEdge) (cell : Cell). cond (some cell && owns window regions doors side door cell) 1 0) (λ cell. cond (some cell) 1 0) doors cells
      (λ k d there. by_test (get_or cells k d) (some (get_or cells k d)))
    where
      by_test : (cell : Cell) (b : Bool) → sum_by (λ (door : PortalEdge). cond (b && owns window regions doors side door cell) 1 0) doors ≤ cond b 1 0
      by_test cell true = owned_once cell
      by_test cell false = omega (arith, sum_by-zero doors)

  -- the cell of a door at a position
  abbrev cell_of : PortalEdge → ℕ → Cell
  cell_of door position = unwrap_or (crossing_cell window cells regions door.region side position) some_cell

  crossing_is : (door : PortalEdge) (position : ℕ) → is_some (crossing_cell window cells regions door.region side position) ≡ true
      → IsCrossingOf window cells regions side door position (cell_of door position)
  crossing_is door position there = by_case (crossing_cell window cells regions door.region side position) refl there
    where
      by_case : (found : Option Cell) → crossing_cell window cells regions door.region side position ≡ found → is_some found ≡ true
          → IsCrossingOf window cells regions side door position (unwrap_or found some_cell)
      by_case None is there = absurd cc
      by_case (Some cell) is there =
          let found = found_in (crosses_at window side position) (cells_of cells regions door.region) cell is in
          let kept = filter-passes (is_of regions door.region) (Contains cells) cells (All-contains_itself cells) found.place cell found.there in
          let kept' = subst (λ (c : Cell). Contains cells c × (is_of regions door.region c ≡ true)) found.at kept in
          let crosses = and_parts (is_crossing window side cell) (position_of side cell.at == position) found.passes in
          record { listed = kept'.0; of = kept'.1; crossing = crosses.0; there = eqb-true (position_of side cell.at) position crosses.1 }

  -- a position that a door lists is that of a cell that it owns
  listed_owned : (some : Cell → Bool) (door : PortalEdge) (position : ℕ)
      → (some (cell_of door position) && is_listed window cells regions doors door side position) ≡ true
      → Any (HasNumber (λ cell. some cell && owns window regions doors side door cell) (λ (cell : Cell). position_of side cell.at) position) cells
  listed_owned some door position is =
      let parts = and_parts (some (cell_of door position)) (is_listed window cells regions doors door side position) is in
      let listed = and_parts (belongs_to window doors side door position) (is_some (crossing_cell window cells regions door.region side position)) parts.1 in
      let cell : Cell = cell_of door position in
      let crossing = crossing_is door position listed.1 in
      let belongs : belongs_to window doors side door (position_of side cell.at) ≡ true = ap (belongs_to window doors side door) crossing.there ∙ listed.0 in
      let owned : owns window regions doors side door cell ≡ true = and_from (is_of regions door.region cell) _ crossing.of belongs in (
        crossing.listed.0,
        cell,
        crossing.listed.1,
        crossing.listed.2,
        record { passes = and_from (some cell) (owns window regions doors side door cell) parts.0 owned; is = crossing.there },
      )

  -- ---- the entries along the side

  -- what an entry counts for is at most how many positions of its run are those of some cells
  abbrev CountsFor : (RimEdge → ℕ) → (Cell → Bool) → Type 0
  CountsFor w some =
      (door : PortalEdge) (run : LabelRun)
      → IsRunOf (map (λ position. label_if (is_listed window cells regions doors door side position)) (positions_of side door)) run
      → w (door_entry window cells regions door side run)
      ≤ sum_by (λ position. cond (some (cell_of door position) && is_listed window cells regions doors door side position) 1 0)
      (between run.first (run.last + 1) (positions_of side door))

  -- then the entries of a door count for no more than the cells that it owns,
  entries_within : (w : RimEdge → ℕ) (some : Cell → Bool) → CountsFor w some → (door : PortalEdge)
      → sum_by w (side_entries window cells regions doors door side) ≤ sum_by (λ cell. cond (some cell && owns window regions doors side door cell) 1 0) cells
  entries_within w some counts door =
      let positions : List ℕ = positions_of side door in
      let listed : ℕ → Bool = λ position. is_listed window cells regions doors door side position in
      let g : ℕ → ℕ = λ position. cond (some (cell_of door position) && listed position) 1 0 in
      let runs : List LabelRun = runs_of (map (λ position. label_if (listed position)) positions) in
      omega (
        arith,
        sum_by-map w (door_entry window cells regions door side) runs,
        sum_by-no_more (λ run. w (door_entry window cells regions door side run)) (λ (run : LabelRun). sum_by g (between run.first (run.last + 1) positions)) runs
            (λ k d there. counts door (get_or runs k d) (runs_are_runs (map (λ position. label_if (listed position)) positions) k d there)),
        runs_within g positions (map (λ position. label_if (listed position)) positions),
        numbers_within (λ cell. some cell && owns window regions doors side door cell) (λ (cell : Cell). position_of side cell.at)
            (λ position. some (cell_of door position) && listed position) cells (first_position side door) (end_position side door - first_position side door)
            (λ position least most is. listed_owned some door position is),
      )

  -- also of those along the side alone,
  door_within : (w : RimEdge → ℕ) (some : Cell → Bool) → CountsFor w some → (door : PortalEdge)
      → sum_by (λ (entry : RimEdge). cond (entry.side == side) (w entry) 0) (door_entries window cells regions doors door)
      ≤ sum_by (λ cell. cond (some cell && owns window regions doors side door cell) 1 0) cells
  door_within w some counts door = by_side (side_of window door)
    where
      most : ℕ
      most = sum_by (λ cell. cond (some cell && owns window regions doors side door cell) 1 0) cells

      v : RimEdge → ℕ
      v entry = cond (entry.side == side) (w entry) 0

      runs_along : ℕ → List LabelRun
      runs_along own = runs_of (map (λ position. label_if (is_listed window cells regions doors door own position)) (positions_of own door))

      along : ℕ → ℕ
      along own = sum_by (λ run. w (door_entry window cells regions door own run)) (runs_along own)

      here : along side ≤ most
      here = omega (arith, entries_within w some counts door, sum_by-map w (door_entry window cells regions door side) (runs_along side))

      by_test : (own : ℕ) (b : Bool) → (own == side) ≡ b → sum_by (λ run. cond b (w (door_entry window cells regions door own run)) 0) (runs_along own) ≤ most
      by_test own true is = subst (λ s. along s ≤ most) (sym (eqb-true own side is)) here
      by_test own false is = omega (arith, sum_by-zero (runs_along own))

      by_side : (found : Option ℕ) → sum_by v (option_map_or (side_entries window cells regions doors door) found []) ≤ most
      by_side None = omega arith
      by_side (Some own) = omega (arith, sum_by-map v (door_entry window cells regions door own) (runs_along own), by_test own (own == side) refl)

  -- and of all doors for no more than some cells
  rim_within : (w : RimEdge → ℕ) (some : Cell → Bool) → CountsFor w some
      → sum_by w (along_side side (door_rim window cells regions doors)) ≤ sum_by (λ cell. cond (some cell) 1 0) cells
  rim_within w some counts =
      let v : RimEdge → ℕ = λ (entry : RimEdge). cond (entry.side == side) (w entry) 0 in
      omega (
        arith,
        sum_by-filter w (λ (entry : RimEdge). entry.side == side) (door_rim window cells regions doors),
        sum_by-flat_map v (door_entries window cells regions doors) doors,
        sum_by-le-sum_by (λ door. sum_by v (door_entries window cells regions doors door))
            (λ (door : PortalEdge). sum_by (λ cell. cond (some cell && owns window regions doors side door cell) 1 0) cells) doors (door_within w some counts),
        owned_within some,
      )

  -- ---- positions and levels

  entry_length : (door : PortalEdge) (run : LabelRun) → length (door_entry window cells regions door side run).pairs ≡ run.last + 1 - run.first
  entry_length door run =
      length-map-range_with_len (crossing_pair window cells regions door.region side) (first_position side door + run.first) (run.last + 1 - run.first)

  -- the positions of a run, one by one
  run_position : (door : PortalEdge) (run : LabelRun)
      → IsRunOf (map (λ position. label_if (is_listed window cells regions doors door side position)) (positions_of side door)) run → (k d : ℕ)
      → k < run.last + 1 - run.first → get_or (between run.first (run.last + 1) (positions_of side door)) k d ≡ first_position side door + run.first + k
  run_position door run is k d inside =
      let positions : List ℕ = positions_of side door in
      let count : ℕ = end_position side door - first_position side door in
      let many = length-range_with_len (first_position side door) count in
      let labels = length-map positions (λ position. label_if (is_listed window cells regions doors door side position)) in
      let there : run.first + k < count = omega (arith, is.inside, labels, many, inside) in
      in_run positions run.first run.last k d inside ∙ get_or-range_with_len (first_position side door) count (run.first + k) d there ∙ omega arith

  run_length : (door : PortalEdge) (run : LabelRun)
      → IsRunOf (map (λ position. label_if (is_listed window cells regions doors door side position)) (positions_of side door)) run
      → length (between run.first (run.last + 1) (positions_of side door)) ≡ run.last + 1 - run.first
  run_length door run is =
      part_length (positions_of side door) run.first run.last is.order
      (omega (arith, is.inside, length-map (positions_of side door) (λ position. label_if (is_listed window cells regions doors door side position))))

  run_listed : (door : PortalEdge) (run : LabelRun)
      → IsRunOf (map (λ position. label_if (is_listed window cells regions doors door side position)) (positions_of side door)) run → (k d : ℕ)
      → k < run.last + 1 - run.first
      → is_listed window cells regions doors door side (get_or (between run.first (run.last + 1) (positions_of side door)) k d) ≡ true
  run_listed door run is k d inside =
      ap (is_listed window cells regions doors door side) (in_run (positions_of side door) run.first run.last k d inside)
      ∙ run_passes (is_listed window cells regions doors door side) (positions_of side door) run is (run.first + k) d (omega arith) (omega (arith, inside))

  -- the entries along the side have together no more positions than there are cells
  pub few_positions : sum_by (λ (entry : RimEdge). length entry.pairs) (along_side side (door_rim window cells regions doors)) ≤ length cells
  few_positions =
      let within : sum_by (λ (entry : RimEdge). length entry.pairs) (along_side side (door_rim window cells regions doors)) ≤ sum_by (λ (cell : Cell). 1) cells =
      rim_within (λ (entry : RimEdge). length entry.pairs) (λ cell. true)
      (λ door run is.
      let part : List ℕ = between run.first (run.last + 1) (positions_of side door) in
      let each = sum_by-no_more (λ (position : ℕ). 1) (λ position. cond (is_listed window cells regions doors door side position) 1 0) part
      (λ k d there. one_listed _ (run_listed door run is k d (omega (arith, there, run_length door run is)))) in
      omega (arith, entry_length door run, run_length door run is, sum_by-one part, each)) in
      omega (arith, within, sum_by-one cells)
    where
      one_listed : (b : Bool) → b ≡ true → 1 ≤ cond b 1 0
      one_listed b is =
          let n : ℕ = cond b 1 0 in
          let one : n ≡ 1 = ap (λ (c : Bool). cond c 1 0) is in
          omega (arith, one)

  -- a position and level that an entry has is that of a cell of its door
  named_placed : (position level : ℕ) (door : PortalEdge) (run : LabelRun)
      → IsRunOf (map (λ place. label_if (is_listed window cells regions doors door side place)) (positions_of side door)) run
      → cond (is_named (door_entry window cells regions door side run) position level) 1 0
      ≤ sum_by (λ place. cond (is_placed window side position level (cell_of door place) && is_listed window cells regions doors door side place) 1 0)
      (between run.first (run.last + 1) (positions_of side door))
  named_placed position level door run is = by_case (is_named entry position level) refl
    where
      entry : RimEdge
      entry = door_entry window cells regions door side run

      part : List ℕ
      part = between run.first (run.last + 1) (positions_of side door)

      g : ℕ → ℕ
      g place = cond (is_placed window side position level (cell_of door place) && is_listed window cells regions doors door side place) 1 0

      by_case : (b : Bool) → is_named entry position level ≡ b → cond b 1 0 ≤ sum_by g part
      by_case false named = omega arith
      by_case true named =
          let pair = named_pair entry position level named in
          let k : ℕ = position - entry.first in
          let inside : k < run.last + 1 - run.first = omega (arith, pair.inside, entry_length door run) in
          let place : ℕ = get_or part k 0 in
          let here : place ≡ position = run_position door run is k 0 inside ∙ omega (arith, pair.begins) in
          let again : place ≡ entry.first + k = run_position door run is k 0 inside in
          let listed = run_listed door run is k 0 inside in
          let crossing = crossing_is door place
          (and_parts (belongs_to window doors side door place) (is_some (crossing_cell window cells regions door.region side place)) listed).1 in
          let cell : Cell = cell_of door place in
          let own : cell.at.level ≡ level =
          ap (λ n. (cell_of door n).at.level) again
          ∙ ap (λ (p : LevelPair). p.own) (sym (get_or-map-range_with_len (crossing_pair window cells regions door.region side) entry.first
          (run.last + 1 - run.first) k (entry.first + k) (level_pair side some_cell) inside refl))
          ∙ pair.own (level_pair side some_cell) in
          let beside = (and_parts (is_at_side window side cell.at) _ crossing.crossing).0 in
          let placed : is_placed window side position level cell ≡ true =
          and_from (is_at_side window side cell.at) _ beside
          (and_from (position_of side cell.at == position) (cell.at.level == level) (eq-eqb (position_of side cell.at) position (crossing.there ∙ here))
          (eq-eqb cell.at.level level own)) in
          let one : g place ≡ 1 = ap (λ b. cond b 1 0) (and_from (is_placed window side position level cell) _ placed listed) in
          omega (arith, one, get_or-le-sum_by g part k 0 (omega (arith, inside, run_length door run is)))

  -- so at most one entry along the side has a level of its own at a position
  pub named_once : (position level : ℕ) → side < 4 → IsCut cells → All (λ (cell : Cell). IsInWindow window cell.at.x cell.at.z) cells
      → sum_by (λ (entry : RimEdge). cond (is_named entry position level) 1 0) (along_side side (door_rim window cells regions doors)) ≤ 1
  named_once position level small cut inside =
      let within = rim_within (λ (entry : RimEdge). cond (is_named entry position level) 1 0) (is_placed window side position level) (named_placed position level) in
      omega (arith, within, placed_once window cells side position level small cut inside)
