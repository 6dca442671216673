-- The regions of a tile's cells keep their rules.
use Rattle.std.proofs.Common.{List}
use Rattle.nav_ground.specs.declared.cell.Cell.{Cell}
use Rattle.nav_ground.specs.Cells.{IsCut}
use Rattle.mesh_types.specs.Regions.{regions_of, AreRegionsOf}
use Rattle.mono_regions.proofs.Stacks.{are_stacks}
use Rattle.mono_regions.proofs.Woven.{are_woven}
use Rattle.mono_regions.proofs.Held.{held_once}

pub regions_kept : (cells : List Cell) → IsCut cells → AreRegionsOf cells (regions_of cells)
regions_kept cells cut = record { stacks = are_stacks cells cut; woven = are_woven cells cut; once = held_once cells cut }
