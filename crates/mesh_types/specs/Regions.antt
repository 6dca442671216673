-- Regions: maximal chains of joined strips, row by row.
use Rattle.std.specs.Prelude.{◌≡◌, ℕ, zero, suc, ◌+◌, ◌-◌, ◌<◌, ◌≤◌, Bool, false, IsTrue, not, nat_le, ◌==◌, ◌&&◌, ◌||◌, List, [], ◌∷◌, length, map, filter, get_or, slice_get, All, Any, Contains}
use Rattle.std.specs.List.{find, list_any, list_all, range_with_len, sum_by, count_by}
use Rattle.std.specs.Option.{option_map_or}
use Rattle.nav_ground.specs.declared.cell.Cell.{Cell}
use Rattle.nav_ground.specs.declared.cell.CellRef.{CellRef}
use Rattle.nav_ground.specs.Cells.{is_naming, is_toward}
use Rattle.mesh_types.specs.declared.region.Strip.{Strip}
use Rattle.mesh_types.specs.declared.region.Region.{Region}
use Rattle.mesh_types.specs.declared.region.Regions.{Regions}
use Rattle.mesh_types.specs.Strips.{strip_of}
use Rattle.mesh_types.specs.StripPolygons.{strip_runs, first_of}
use Rattle.mesh_types.specs.StripLinks.{holds_named}

-- the numbers of strips, and the cells of the strip with a number
abbrev pub numbers : List (List Cell) → List ℕ
numbers runs = range_with_len 0 (length runs)

-- the cells of the strip with a number
abbrev pub run_of : List (List Cell) → ℕ → List Cell
run_of runs s = get_or runs s []

-- a strip touches another in a direction: one of its cells is connected to a cell of the other
abbrev pub is_touching : List (List Cell) → ℕ → ℕ → ℕ → Bool
is_touching runs dir s t = list_any (λ (cell : Cell). holds_named dir cell (run_of runs t)) (run_of runs s)

-- a strip touches another in a direction, and no third
abbrev pub touches_only : List (List Cell) → ℕ → ℕ → ℕ → Bool
touches_only runs dir s t = is_touching runs dir s t && list_all (λ u. u == t || not (is_touching runs dir s u)) (numbers runs)

-- every column that two strips of successive rows both hold has its two cells connected: each cell of the lower strip over which the upper one
-- has a cell is connected to it
abbrev pub are_connected : List Cell → List Cell → Bool
are_connected lower upper = list_all (λ (cell : Cell). holds_named 1 cell upper || not (list_any (λ (over : Cell). over.at.x == cell.at.x) upper)) lower

-- a strip joins one of the next row: each is the only strip that the other touches there, every common column is connected, and the areas
-- are equal
unfoldable pub joins : List (List Cell) → ℕ → ℕ → Bool
joins runs s t =
    touches_only runs 1 s t && touches_only runs 3 t s && are_connected (run_of runs s) (run_of runs t)
    && (first_of (run_of runs s)).area == (first_of (run_of runs t)).area

-- a strip and those that are joined one after the other, at most so many more
unfoldable pub chain_from : List (List Cell) → ℕ → ℕ → List ℕ
chain_from runs zero s = s ∷ []
chain_from runs (suc most) s = s ∷ option_map_or (chain_from runs most) (find (joins runs s) (numbers runs)) []

-- a region begins at a strip that no strip joins
abbrev pub begins_region : List (List Cell) → ℕ → Bool
begins_region runs s = not (list_any (λ r. joins runs r s) (numbers runs))

-- the regions by the numbers of their strips, in the order of their first strips
unfoldable pub region_chains : List (List Cell) → List (List ℕ)
region_chains runs = map (chain_from runs (length runs)) (filter (begins_region runs) (numbers runs))

-- the strips with some numbers make a region
abbrev pub region_of : List (List Cell) → List ℕ → Region
region_of runs chain = record { strips = map (λ s. strip_of (first_of (run_of runs s)) (run_of runs s)) chain }

-- the regions of the cells of a tile
unfoldable pub regions_of : List Cell → Regions
regions_of cells = record { regions = map (region_of (strip_runs cells)) (region_chains (strip_runs cells)) }

-- a strip lies on another: in the next row, with a common column and of the same area
pub record IsUpon (lower upper : Strip) : Type 0 where
  pub row : upper.z ≡ lower.z + 1
  pub left : lower.x0 ≤ upper.x1
  pub right : upper.x0 ≤ lower.x1
  pub area : upper.area ≡ lower.area

-- a strip has a level for each of its columns, of which there is one at least
pub record IsStrip (strip : Strip) : Type 0 where
  pub some : strip.x0 ≤ strip.x1
  pub levels : strip.x0 + length strip.levels ≡ strip.x1 + 1

-- a region is a stack: one strip at least, and each lies on the one before
pub record IsStack (region : Region) : Type 0 where
  pub some : 0 < length region.strips
  pub strips : All IsStrip region.strips
  pub upon : (k : ℕ) (d : Strip) → k + 1 < length region.strips → IsUpon (get_or region.strips k d) (get_or region.strips (k + 1) d)

-- a strip holds the cell at a place
abbrev pub is_holding : CellRef → Strip → Bool
is_holding at strip =
    strip.z == at.z && nat_le strip.x0 at.x && option_map_or (λ level. level == at.level) (slice_get strip.levels (at.x - strip.x0)) false

-- how many strips of regions hold the cell at a place
abbrev pub times_held : CellRef → Regions → ℕ
times_held at regions = sum_by (λ (region : Region). count_by (is_holding at) region.strips) regions.regions

-- each cell is in exactly one strip of exactly one region
abbrev pub HoldsEachOnce : List Cell → Regions → Type 0
HoldsEachOnce cells regions = All (λ (cell : Cell). times_held cell.at regions ≡ 1) cells

-- the place of the cell of a strip in a column, and whether it has one there
abbrev pub place_in : Strip → ℕ → CellRef
place_in strip x = record { x = x; z = strip.z; level = get_or strip.levels (x - strip.x0) 0 }

abbrev pub IsIn : Strip → ℕ → Type 0
IsIn strip x = (strip.x0 ≤ x) × (x ≤ strip.x1)

-- the places of a region are those of cells, which are connected wherever their columns are neighbours
pub record IsWoven (cells : List Cell) (region : Region) : Type 0 where
  pub there : (strip : Strip) (x : ℕ) → Contains region.strips strip → IsIn strip x → Any (λ (cell : Cell). cell.at ≡ place_in strip x) cells
  pub connected : (dir x y : ℕ) (from to : Strip) (cell : Cell) → dir < 4 → Contains region.strips from → Contains region.strips to
      → IsIn from x → IsIn to y → IsTrue (is_toward dir (place_in from x) (place_in to y))
      → Contains cells cell → cell.at ≡ place_in from x → IsTrue (is_naming dir cell (place_in to y))

-- what the regions of a tile's cells keep: each is a stack of strips whose cells are connected, and each cell is in exactly one
pub record AreRegionsOf (cells : List Cell) (regions : Regions) : Type 0 where
  pub stacks : All IsStack regions.regions
  pub woven : All (IsWoven cells) regions.regions
  pub once : HoldsEachOnce cells regions
