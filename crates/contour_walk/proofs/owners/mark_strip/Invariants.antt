use Rattle.std.specs.Prelude.{nat_lt, ◌&&◌}
use Rattle.nav_ground.specs.declared.cell.CellRef.{CellRef}
use Rattle.mesh_types.specs.Regions.{is_holding}
use Rattle.contour_walk.specs.Tables.{IsMarked}
use Rattle.contour_walk.proofs.owners.mark_strip.Given as goal

-- the cells of the columns so far are marked
abbrev pub invariant-loop-x : goal.invariant-loop-x
invariant-loop-x l = IsMarked (λ (at : CellRef). is_holding at l.strip && nat_lt at.x l.x) l.cells l.number l.initial.owners l.owners
