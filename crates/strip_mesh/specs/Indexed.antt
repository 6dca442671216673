-- A tile's free cells beside their neighbour table and their strips.
use Rattle.std.specs.Prelude.{◌≡◌, ℕ, List, [], length, map, slice_index_or}
use Rattle.std.specs.List.{range_with_len}
use Rattle.nav_ground.specs.declared.cell.Cell.{Cell}
use Rattle.nav_ground.specs.Cells.{IsCut}
use Rattle.cell_table.specs.Table.{neighbour_table}
use Rattle.mesh_types.specs.StripPolygons.{strip_runs}
use Rattle.mono_regions.specs.Indices.{index_runs, owner_of}
use Rattle.strip_mesh.specs.declared.tile_strips.TileStrips.{TileStrips}

-- the table and the strips are those of the cells
pub record AreIndexed (strips : TileStrips) : Type 0 where
  pub cut : IsCut strips.free.cells
  pub table : strips.table ≡ neighbour_table strips.free.cells
  pub runs : strips.index.runs ≡ index_runs strips.free.cells
  pub owners : strips.index.owners ≡ map (owner_of strips.free.cells) (range_with_len 0 (length strips.free.cells))

-- the strips as their cells, and the cells of one of them
abbrev pub runs_in : TileStrips → List (List Cell)
runs_in strips = strip_runs strips.free.cells

abbrev pub run_in : TileStrips → ℕ → List Cell
run_in strips s = slice_index_or (runs_in strips) s []
