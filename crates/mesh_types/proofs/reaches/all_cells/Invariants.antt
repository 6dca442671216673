use Rattle.std.proofs.Common.{◌≡◌, ◌*◌, ◌≤◌, take}
use Rattle.std.specs.Prelude.{sum_by}
use Rattle.mesh_types.specs.Reaches.{cell_count}
use Rattle.mesh_types.proofs.reaches.all_cells.Given as goal

-- the cells of the storeys so far
abbrev pub invariant-loop-reach : goal.invariant-loop-reach
invariant-loop-reach l = (l.cells ≡ sum_by cell_count (take l.reach-index l.list)) × (l.cells ≤ l.reach-index * 4294967296)
