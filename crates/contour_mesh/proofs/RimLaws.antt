-- The rim of a tile by its tables is the rim by the definition.
use Rattle.std.proofs.Common.{◌≡◌, ℕ, ◌+◌, ◌-◌, ◌<◌, Bool, true, false, cond, List, [], ◌∷◌, ◌++◌, map, filter, Option, Some, None, ap, ◌∙◌, sym, refl, arith, tests, inl, inr}
use Rattle.std.specs.Prelude.{◌==◌, ◌&&◌, nat_le, nat_lt, is_some, unwrap_or}
use Rattle.std.specs.Option.{option_map, option_map_or, option_or}
use Rattle.std.specs.List.{find, flat_map, list_any, range_with_len}
use Rattle.std.proofs.lemmas.Bool.{and_left, and_parts, and_right, cases_eq, eq-eqb, eqb-true, false_from_ne_true, ne_eqb}
use Rattle.std.proofs.lemmas.List.Folds.{find-append}
use Rattle.nav_ground.specs.declared.cell.Cell.{Cell}
use Rattle.nav_ground.specs.declared.cell.Window.{Window}
use Rattle.mesh_types.specs.declared.region.Code.{Code}
use Rattle.mesh_types.specs.declared.region.Code.TheVariants.{Wall, Region, Side}
use Rattle.mesh_types.specs.declared.region.Regions.{Regions}
use Rattle.mesh_types.specs.declared.region.PortalEdge.{PortalEdge}
use Rattle.mesh_types.specs.declared.region.LabelRun.{LabelRun}
use Rattle.mesh_types.specs.declared.mesh.LevelPair.{LevelPair}
use Rattle.mesh_types.specs.declared.mesh.RimEdge.{RimEdge}
use Rattle.mesh_types.specs.Runs.{runs_of, label_if}
use Rattle.mesh_types.specs.StripPolygons.{some_cell}
use Rattle.mesh_types.specs.Crossings.{is_crossing, position_of, level_pair}
use Rattle.mesh_types.specs.Contours.{region_at}
use Rattle.mesh_types.specs.DoorRim.{belongs_to, crossing_cell, crossing_pair, door_entries, door_entry, door_rim, end_position, first_position, is_listed, is_on_line, is_same_door, lies_on, names_side, positions_of, runs_over, side_entries, side_of}
use Rattle.mesh_types.specs.Facets.{cells_of}
use Rattle.mesh_types.proofs.Words.{crosses_at, is_of}
use Rattle.mono_regions.proofs.JoinLaws.{find_passes}
use Rattle.contour_mesh.specs.declared.crossings.SidePosition.{SidePosition}
use Rattle.contour_mesh.specs.declared.crossings.AtPosition.{AtPosition}
use Rattle.contour_mesh.specs.declared.rim.SideTables.{SideTables}
use Rattle.contour_mesh.specs.SidePlaces.{cell_at_side, cell_places, crossings_in, door_at, door_places, first_at, placed_cells, placed_doors, stands_at}
use Rattle.contour_mesh.specs.RimTables.{AreSideTables, entries_in, entries_on, entry_in, is_listed_in, pair_in, door_place, rim_in}
use Rattle.contour_mesh.proofs.FacingLaws.{no_door}
use Rattle.contour_mesh.proofs.PlaceLaws.{first_of_sort}
use Rattle.contour_mesh.proofs.SearchLaws.{find-at, none-made, in_kept, in_range, none_passes}

-- a place
abbrev at_side : ℕ → ℕ → ℕ → SidePosition
at_side region side position = record { region = region; side = side; position = position }

-- what stands first in a list that is put together
first_at-append : {T : Type 0} (xs ys : List (AtPosition T)) (place : SidePosition) → first_at (xs ++ ys) place ≡ option_or (first_at xs place) (first_at ys place)
first_at-append {T = T} xs ys place =
    ap (option_map (λ (p : AtPosition T). p.item)) (find-append (stands_at place) xs ys) ∙ split (find (stands_at place) xs)
  where
    split : (o : Option (AtPosition T)) → option_map (λ (p : AtPosition T). p.item) (option_or o (find (stands_at place) ys))
        ≡ option_or (option_map (λ (p : AtPosition T). p.item) o) (first_at ys place)
    split None = refl
    split (Some p) = refl

-- ---- cells

-- the tests of a place in another order
cell_tests : (crosses own side at : Bool) → side ≡ true → ((crosses && true) && ((own && side) && at)) ≡ (own && (crosses && at))
cell_tests true true true at is = refl
cell_tests true true false at is = absurd cc
cell_tests true false side at is = refl
cell_tests false true side at is = refl
cell_tests false false side at is = refl

item_of : {T : Type 0} (b : Bool) (p : AtPosition T) → option_map (λ (q : AtPosition T). q.item) (cond b (Some p) None) ≡ cond b (Some p.item) None
item_of true p = refl
item_of false p = refl

module _ (window : Window) (regions : Regions) (region side position : ℕ) (small : side < 4) where
  crossing_first : (cell : Cell) (own : ℕ) → first_at (crossings_in window cell own) (at_side region side position)
      ≡ cond (own == region && crosses_at window side position cell) (Some cell) None
  crossing_first cell own =
      ap (option_map (λ (p : AtPosition Cell). p.item))
      (find-at (stands_at (at_side region side position)) (cell_at_side own cell) side (filter (λ s. is_crossing window s cell) (range_with_len 0 4))
      (λ s other. and_left (own == region && s == side) (position_of s cell.at == position) (and_right (own == region) (s == side) (ne_eqb s side other))))
      ∙ item_of (list_any (λ k. k == side) (filter (λ s. is_crossing window s cell) (range_with_len 0 4))
      && stands_at (at_side region side position) (cell_at_side own cell side)) (cell_at_side own cell side)
      ∙ ap (λ b. cond (b && ((own == region && side == side) && position_of side cell.at == position)) (Some cell) None)
      (in_kept (λ s. is_crossing window s cell) side (range_with_len 0 4) ∙ ap (λ b. is_crossing window side cell && b) inside)
      ∙ ap (λ b. cond b (Some cell) None)
      (cell_tests (is_crossing window side cell) (own == region) (side == side) (position_of side cell.at == position) (eq-eqb side side refl))
    where
      inside : list_any (λ k. k == side) (range_with_len 0 4) ≡ true
      inside = in_range side 0 4 ∙ grind (arith, tests)

  cell_first : (cell : Cell) → first_at (cell_places window regions cell) (at_side region side position)
      ≡ cond (is_of regions region cell && crosses_at window side position cell) (Some cell) None
  cell_first cell = by_case (region_at regions cell.at)
    where
      by_case : (o : Option ℕ) → first_at (option_map_or (crossings_in window cell) o []) (at_side region side position)
          ≡ cond (option_map_or (λ r. r == region) o false && crosses_at window side position cell) (Some cell) None
      by_case None = refl
      by_case (Some own) = crossing_first cell own

  pub cells_first : (cells : List Cell) → first_at (placed_cells window regions cells) (at_side region side position)
      ≡ crossing_cell window cells regions region side position
  cells_first [] = refl
  cells_first (cell ∷ cells) =
      first_at-append (cell_places window regions cell) (placed_cells window regions cells) (at_side region side position)
      ∙ ap (λ (o : Option Cell). option_or o (first_at (placed_cells window regions cells) (at_side region side position))) (cell_first cell)
      ∙ ap (λ (o : Option Cell). option_or (cond (is_of regions region cell && crosses_at window side position cell) (Some cell) None) o) (cells_first cells)
      ∙ join (is_of regions region cell) (crosses_at window side position cell) refl
    where
      rest : List Cell
      rest = cells_of cells regions region

      join : (a b : Bool) → crosses_at window side position cell ≡ b
          → option_or (cond (a && b) (Some cell) None) (find (crosses_at window side position) (filter (is_of regions region) cells))
          ≡ find (crosses_at window side position) (cond a (cell ∷ filter (is_of regions region) cells) (filter (is_of regions region) cells))
      join true true is = sym (ap (λ c. cond c (Some cell) (find (crosses_at window side position) (filter (is_of regions region) cells))) is)
      join true false is = sym (ap (λ c. cond c (Some cell) (find (crosses_at window side position) (filter (is_of regions region) cells))) is)
      join false b is = refl

-- ---- doors

-- a code names one side at most
one_side : (code : Option Code) (s t : ℕ) → names_side code s ≡ true → names_side code t ≡ true → s ≡ t
one_side (Some (Side own)) s t h k = sym (eqb-true own s h) ∙ eqb-true own t k
one_side (Some (Region id)) s t h k = absurd cc
one_side (Some Wall) s t h k = absurd cc
one_side None s t h k = absurd cc

names_it : (window : Window) (d : PortalEdge) (s : ℕ) → lies_on window d s ≡ true → names_side d.code s ≡ true
names_it window d s lies =
    let parts = and_parts (names_side d.code s && is_on_line window s d.begin) (is_on_line window s d.end) lies in
    (and_parts (names_side d.code s) (is_on_line window s d.begin) parts.0).0

-- the tests of a place in another order
shuffled : (own least most : Bool) → ((least && most) && ((own && true) && true)) ≡ (((own && true) && least) && most)
shuffled true true true = refl
shuffled true true false = refl
shuffled true false most = refl
shuffled false true true = refl
shuffled false true false = refl
shuffled false false most = refl

door_tests : (own side at lies least most : Bool) → side ≡ true → at ≡ true → lies ≡ true
    → ((least && most) && ((own && side) && at)) ≡ (((own && lies) && least) && most)
door_tests own true true true least most side_is at_is lies_is = shuffled own least most
door_tests own true true false least most side_is at_is lies_is = absurd cc
door_tests own true false lies least most side_is at_is lies_is = absurd cc
door_tests own false at lies least most side_is at_is lies_is = absurd cc

bounds : (first end position : ℕ) → (nat_le first position && nat_lt position (first + (end - first))) ≡ (nat_le first position && nat_lt position end)
bounds first end position = grind (arith, tests)

module _ (window : Window) (region side position : ℕ) (small : side < 4) where
  away : (d : PortalEdge) → lies_on window d side ≡ false → runs_over window region side position d ≡ false
  away d not_there =
      and_left (d.region == region && lies_on window d side && nat_le (first_position side d) position) (nat_lt position (end_position side d))
      (and_left (d.region == region && lies_on window d side) (nat_le (first_position side d) position)
      (and_right (d.region == region) (lies_on window d side) not_there))

  door_first : (d : PortalEdge) → first_at (door_places window d) (at_side region side position) ≡ cond (runs_over window region side position d) (Some d) None
  door_first d = by_case (side_of window d) refl
    where
      own_side : lies_on window d side ≡ true
          → first_at (map (door_at d side) (positions_of side d)) (at_side region side position) ≡ cond (runs_over window region side position d) (Some d) None
      own_side lies =
          let first : ℕ = first_position side d in
          let end : ℕ = end_position side d in
          ap (option_map (λ (p : AtPosition PortalEdge). p.item))
          (find-at (stands_at (at_side region side position)) (door_at d side) position (positions_of side d)
          (λ n other. and_right (d.region == region && side == side) (n == position) (ne_eqb n position other)))
          ∙ item_of (list_any (λ k. k == position) (positions_of side d) && stands_at (at_side region side position) (door_at d side position)) (door_at d side position)
          ∙ ap (λ b. cond (b && ((d.region == region && side == side) && position == position)) (Some d) None)
          (in_range position first (end - first) ∙ bounds first end position)
          ∙ ap (λ b. cond b (Some d) None)
          (door_tests (d.region == region) (side == side) (position == position) (lies_on window d side) (nat_le first position) (nat_lt position end)
          (eq-eqb side side refl) (eq-eqb position position refl) lies)

      here : (s : ℕ) → s ≡ side → lies_on window d s ≡ true
          → first_at (map (door_at d s) (positions_of s d)) (at_side region side position) ≡ cond (runs_over window region side position d) (Some d) None
      here s same lies =
          ap (λ k. first_at (map (door_at d k) (positions_of k d)) (at_side region side position)) same
          ∙ own_side (ap (lies_on window d) (sym same) ∙ lies)

      elsewhere : (s : ℕ) → (s ≡ side → ⊥) → lies_on window d s ≡ true
          → first_at (map (door_at d s) (positions_of s d)) (at_side region side position) ≡ cond (runs_over window region side position d) (Some d) None
      elsewhere s other lies =
          ap (option_map (λ (p : AtPosition PortalEdge). p.item))
          (none-made (stands_at (at_side region side position)) (door_at d s) (positions_of s d)
          (λ n. and_left (d.region == region && s == side) (n == position) (and_right (d.region == region) (s == side) (ne_eqb s side other))))
          ∙ sym (ap (λ b. cond b (Some d) None)
          (away d (false_from_ne_true (lies_on window d side) (λ there. other (one_side d.code s side (names_it window d s lies) (names_it window d side there))))))

      by_case : (o : Option ℕ) → side_of window d ≡ o
          → first_at (option_map_or (λ s. map (door_at d s) (positions_of s d)) o []) (at_side region side position)
          ≡ cond (runs_over window region side position d) (Some d) None
      by_case None is = sym (ap (λ b. cond b (Some d) None) (away d (none_passes (lies_on window d) 4 side is small)))
      by_case (Some s) is =
          let passes = (find_passes (lies_on window d) 4 s is).1 in
          elim (cases_eq s side) [ inl same ↦ here s same passes | inr other ↦ elsewhere s other passes ]

  pub doors_first : (doors : List PortalEdge) → first_at (placed_doors window doors) (at_side region side position) ≡ find (runs_over window region side position) doors
  doors_first [] = refl
  doors_first (d ∷ doors) =
      first_at-append (door_places window d) (placed_doors window doors) (at_side region side position)
      ∙ ap (λ (o : Option PortalEdge). option_or o (first_at (placed_doors window doors) (at_side region side position))) (door_first d)
      ∙ ap (λ (o : Option PortalEdge). option_or (cond (runs_over window region side position d) (Some d) None) o) (doors_first doors)
      ∙ join (runs_over window region side position d)
    where
      join : (b : Bool) → option_or (cond b (Some d) None) (find (runs_over window region side position) doors)
          ≡ cond b (Some d) (find (runs_over window region side position) doors)
      join true = refl
      join false = refl

-- ---- the rim

module _ (window : Window) (cells : List Cell) (regions : Regions) (doors : List PortalEdge) (tables : SideTables)
    (made : AreSideTables window cells regions doors tables) where
  module _ (door : PortalEdge) (side : ℕ) (small : side < 4) where
    cell_there : (position : ℕ) → first_at tables.cells (door_place door side position) ≡ crossing_cell window cells regions door.region side position
    cell_there position =
        first_of_sort (door_place door side position) some_cell (placed_cells window regions cells) tables.cells made.cells_are
        ∙ cells_first window regions door.region side position small cells

    door_there : (position : ℕ) → first_at tables.doors (door_place door side position) ≡ find (runs_over window door.region side position) doors
    door_there position =
        first_of_sort (door_place door side position) no_door (placed_doors window doors) tables.doors made.doors_are
        ∙ doors_first window door.region side position small doors

    listed_is : (position : ℕ) → is_listed_in tables door side position ≡ is_listed window cells regions doors door side position
    listed_is position =
        ap (λ (o : Option PortalEdge). option_map_or (is_same_door door) o false && is_some (first_at tables.cells (door_place door side position))) (door_there position)
        ∙ ap (λ (o : Option Cell). belongs_to window doors side door position && is_some o) (cell_there position)

    pair_is : (position : ℕ) → pair_in tables door side position ≡ crossing_pair window cells regions door.region side position
    pair_is position = ap (λ (o : Option Cell). level_pair side (unwrap_or o some_cell)) (cell_there position)

    entry_is : (run : LabelRun) → entry_in tables door side run ≡ door_entry window cells regions door side run
    entry_is run =
        let first : ℕ = first_position side door + run.first in
        ap (λ (pairs : List LevelPair). record { poly = door.polygon; edge = door.edge; side = side; first = first; pairs = pairs })
        (ap (λ (f : ℕ → LevelPair). map f (range_with_len first (run.last + 1 - run.first))) (λ i position. pair_is position i))

    entries_are : entries_on tables door side ≡ side_entries window cells regions doors door side
    entries_are =
        ap (λ (f : ℕ → Bool). map (entry_in tables door side) (runs_of (map (λ position. label_if (f position)) (positions_of side door)))) (λ i position. listed_is position i)
        ∙ ap (λ (f : LabelRun → RimEdge). map f (runs_of (map (λ position. label_if (is_listed window cells regions doors door side position)) (positions_of side door))))
        (λ i run. entry_is run i)

  door_is : (door : PortalEdge) → entries_in window tables door ≡ door_entries window cells regions doors door
  door_is door = by_case (side_of window door) refl
    where
      by_case : (o : Option ℕ) → side_of window door ≡ o
          → option_map_or (entries_on tables door) o [] ≡ option_map_or (side_entries window cells regions doors door) o []
      by_case None is = refl
      by_case (Some s) is = entries_are door s (find_passes (lies_on window door) 4 s is).0

  pub rim_is : rim_in window tables doors ≡ door_rim window cells regions doors
  rim_is = ap (λ (f : PortalEdge → List RimEdge). flat_map f doors) (λ i door. door_is door i)
