-- The codes of edges, as they are read from the tables.
use Rattle.std.proofs.Common.{◌≡◌, ℕ, ◌<◌, ◌≤◌, false, cond, length, List, [], map, get_or, ap, ◌∙◌, sym, refl, subst, arith, zero, suc, Some, None}
use Rattle.std.specs.Prelude.{nat_lt, slice_get, unwrap_or}
use Rattle.std.specs.Option.{option_and_then, option_map_or}
use Rattle.std.proofs.lemmas.Bool.{cond-true, cond-false, lt-ltb, le-ltb, and_right}
use Rattle.std.proofs.lemmas.List.{get_or-map}
use Rattle.std.proofs.lemmas.List.Folds.{find_at}
use Rattle.std.proofs.lemmas.Option.{slice_get-get_or, slice_get_past}
use Rattle.nav_ground.specs.declared.cell.Cell.{Cell}
use Rattle.nav_ground.specs.declared.cell.CellRef.{CellRef}
use Rattle.nav_ground.specs.declared.cell.Window.{Window}
use Rattle.nav_ground.specs.Cells.{is_naming}
use Rattle.nav_ground.proofs.Found.{find_none}
use Rattle.mesh_types.specs.declared.region.Region.{Region}
use Rattle.mesh_types.specs.declared.region.Regions.{Regions}
use Rattle.mesh_types.specs.declared.region.Code.TheVariants.{Wall, Side, Region as Beyond}
use Rattle.mesh_types.specs.StripPolygons.{some_cell}
use Rattle.mesh_types.specs.Crossings.{is_at_side}
use Rattle.mesh_types.specs.Contours.{is_at, cell_in, region_at, region_beyond, code_beyond}
use Rattle.cell_table.specs.Table.{index_named, indices_named, neighbour_table}
use Rattle.cell_table.proofs.Places.{naming_nowhere}
use Rattle.contour_walk.specs.Tables.{index_of, owner_of}

-- what the code finds in the neighbour table
pub read_at : (cells : List Cell) (table : List (List ℕ)) (i dir : ℕ) (d : Cell) → table ≡ neighbour_table cells → i < length cells → dir < 4
    → get_or (get_or table i []) dir 0 ≡ index_named cells (get_or cells i d) dir
unfolding neighbour_table
read_at cells table i dir d is there small =
    ap (λ t. get_or (get_or t i []) dir 0) is
    ∙ ap (λ row. get_or row dir 0) (get_or-map (indices_named cells) cells i d [] there)
    ∙ in_row dir small
  where
    in_row : (dir : ℕ) → dir < 4 → get_or (indices_named cells (get_or cells i d)) dir 0 ≡ index_named cells (get_or cells i d) dir
    in_row zero small = refl
    in_row (suc zero) small = refl
    in_row (suc (suc zero)) small = refl
    in_row (suc (suc (suc zero))) small = refl
    in_row (suc (suc (suc (suc n)))) small = absurd (omega (arith, small))

-- a cell that names none of the list has no region beyond
pub beyond_none : (cells : List Cell) (regions : Regions) (dir : ℕ) (cell : Cell) → length cells ≤ index_named cells cell dir
    → region_beyond cells regions dir cell ≡ None
beyond_none cells regions dir cell past =
    ap (λ o. option_and_then (λ (other : Cell). region_at regions other.at) o)
    (find_at (λ (other : Cell). is_naming dir cell other.at) cells ∙ slice_get_past cells (index_named cells cell dir) past)

-- the region beyond is that of the cell named
beyond_named : (cells : List Cell) (regions : Regions) (dir n : ℕ) (cell d : Cell) → n ≡ index_named cells cell dir → n < length cells
    → region_beyond cells regions dir cell ≡ region_at regions (get_or cells n d).at
beyond_named cells regions dir n cell d is there =
    ap (λ o. option_and_then (λ (other : Cell). region_at regions other.at) o)
    (find_at (λ (other : Cell). is_naming dir cell other.at) cells ∙ ap (slice_get cells) (sym is) ∙ slice_get-get_or cells n d there)

-- and that is what stands in the list of owners
owner_read : (cells : List Cell) (regions : List Region) (owners : List ℕ) (n : ℕ) (d : Cell) → owners ≡ map (owner_of regions) cells → n < length cells
    → get_or owners n 0 ≡ owner_of regions (get_or cells n d)
owner_read cells regions owners n d is there = ap (λ os. get_or os n 0) is ∙ get_or-map (owner_of regions) cells n d 0 there

pub beyond_some : (cells : List Cell) (regions : Regions) (owners : List ℕ) (dir n : ℕ) (cell : Cell) → owners ≡ map (owner_of regions.regions) cells
    → n ≡ index_named cells cell dir → n < length cells → get_or owners n 0 < length regions.regions
    → Some (get_or owners n 0) ≡ region_beyond cells regions dir cell
beyond_some cells regions owners dir n cell are is there inside =
    let own = owner_read cells regions.regions owners n some_cell are there in
    let owner : ℕ = owner_of regions.regions (get_or cells n some_cell) in
    ap (λ k. Some k) own
    ∙ sym (cond-true (nat_lt owner (length regions.regions)) (Some owner) None (lt-ltb owner (length regions.regions) (omega (arith, own, inside))))
    ∙ sym (beyond_named cells regions dir n cell some_cell is there)

pub beyond_outside : (cells : List Cell) (regions : Regions) (owners : List ℕ) (dir n : ℕ) (cell : Cell) → owners ≡ map (owner_of regions.regions) cells
    → n ≡ index_named cells cell dir → n < length cells → length regions.regions ≤ get_or owners n 0
    → None ≡ region_beyond cells regions dir cell
beyond_outside cells regions owners dir n cell are is there past =
    let own = owner_read cells regions.regions owners n some_cell are there in
    let owner : ℕ = owner_of regions.regions (get_or cells n some_cell) in
    sym (beyond_named cells regions dir n cell some_cell is there
    ∙ cond-false (nat_lt owner (length regions.regions)) (Some owner) None (le-ltb owner (length regions.regions) (omega (arith, own, past))))

-- the cell at a place, by its index
pub cell_by_index : (cells : List Cell) (at : CellRef) (i : ℕ) (d : Cell) → i ≡ index_of cells at → i < length cells → get_or cells i d ≡ cell_in cells at
cell_by_index cells at i d is there =
    sym (ap (λ o. unwrap_or o some_cell) (find_at (is_at at) cells ∙ ap (slice_get cells) (sym is) ∙ slice_get-get_or cells i d there))

-- where there is none, the code is a wall
pub no_cell_wall : (window : Window) (cells : List Cell) (regions : Regions) (dir : ℕ) (at : CellRef) (i : ℕ) → i ≡ index_of cells at → length cells ≤ i
    → Wall ≡ code_beyond window cells regions dir (cell_in cells at)
no_cell_wall window cells regions dir at i is past =
    let none : cell_in cells at ≡ some_cell = ap (λ o. unwrap_or o some_cell) (find_at (is_at at) cells ∙ ap (slice_get cells) (sym is) ∙ slice_get_past cells i past) in
    let P : Cell → Type 0 = λ cell. Wall ≡ code_beyond window cells regions dir cell in
    subst P (sym none)
    (sym (ap (λ b. cond b (Side dir) (option_map_or Beyond (region_beyond cells regions dir some_cell) Wall)) (and_right (is_at_side window dir some_cell.at) false refl)
    ∙ ap (λ o. option_map_or Beyond (option_and_then (λ (other : Cell). region_at regions other.at) o) Wall)
    (find_none (λ (other : Cell). is_naming dir some_cell other.at) cells (λ k d there. naming_nowhere dir some_cell (get_or cells k d).at refl))))
