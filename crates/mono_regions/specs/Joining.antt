-- Strips by their numbers: what each touches, and which it joins.
use Rattle.std.specs.Prelude.{◌≡◌, ℕ, ◌+◌, ◌&&◌, ◌||◌, not, Bool, true, false, nat_le, ◌==◌, List, [], length, map, get_or, slice_index, Option, None}
use Rattle.std.specs.List.{find, range_with_len}
use Rattle.std.specs.Option.{option_map_or}
use Rattle.nav_ground.specs.declared.cell.Cell.{Cell}
use Rattle.nav_ground.specs.Cells.{IsCut}
use Rattle.cell_table.specs.Table.{neighbour_table}
use Rattle.mesh_types.specs.Regions.{numbers, joins}
use Rattle.mono_regions.specs.declared.touching.StripTable.{StripTable}
use Rattle.mono_regions.specs.declared.touching.SeenStrips.{SeenStrips}
use Rattle.mono_regions.specs.declared.touching.SeenStrips.TheVariants.{Nothing, One, Several}
use Rattle.mono_regions.specs.Indices.{cell_at, index_runs, owner_of}
use Rattle.mono_regions.specs.Seeing.{beyond, touched_by}

-- the table and the strips are those of the cells
pub record IsTableOf (cells : List Cell) (strips : StripTable) : Type 0 where
  pub cut : IsCut cells
  pub table : strips.table ≡ neighbour_table cells
  pub runs : strips.index.runs ≡ index_runs cells
  pub owners : strips.index.owners ≡ map (owner_of cells) (range_with_len 0 (length cells))

-- the indices of the cells of the strip with a number
abbrev pub indices_of : List Cell → ℕ → List ℕ
indices_of cells s = get_or (index_runs cells) s []

-- what the strip with a number touches in a direction
abbrev pub touched_from : List Cell → ℕ → ℕ → SeenStrips
touched_from cells dir s = touched_by cells dir (indices_of cells s)

-- the strip that the strip with a number joins, if there is one
abbrev pub joined_from : List (List Cell) → ℕ → Option ℕ
joined_from runs s = find (joins runs s) (numbers runs)

-- a number is that of an answer
abbrev pub names : ℕ → Option ℕ → Bool
names t answer = option_map_or (λ u. u == t) answer false

-- a column lies in the strip of the cells with some indices
abbrev pub is_over : List Cell → ℕ → List ℕ → Bool
is_over cells x run =
    nat_le (cell_at cells (slice_index run 0)).at.x x && nat_le (x + 1) ((cell_at cells (slice_index run 0)).at.x + length run)

-- a cell is connected toward z + 1 to the strip t, which has cells with some indices, unless that does not lie over it
abbrev pub is_fitting : List Cell → ℕ → List ℕ → ℕ → Bool
is_fitting cells t over i = names t (beyond cells 1 i) || not (is_over cells (cell_at cells i).at.x over)

-- the strips of cells with some indices have one area
abbrev pub has_area_of : List Cell → List ℕ → List ℕ → Bool
has_area_of cells over run = (cell_at cells (slice_index run 0)).area == (cell_at cells (slice_index over 0)).area

-- no strip joins the strip t, of which it is known what it touches below
abbrev pub is_unjoined : List (Option ℕ) → ℕ → SeenStrips → Bool
is_unjoined joined t Nothing = true
is_unjoined joined t (One s) = not (names t (get_or joined s None))
is_unjoined joined t Several = true
