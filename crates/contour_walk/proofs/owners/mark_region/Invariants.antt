use Rattle.std.specs.Prelude.{take}
use Rattle.std.specs.List.{list_any}
use Rattle.nav_ground.specs.declared.cell.CellRef.{CellRef}
use Rattle.mesh_types.specs.Regions.{is_holding}
use Rattle.contour_walk.specs.Tables.{IsMarked}
use Rattle.contour_walk.proofs.owners.mark_region.Given as goal

-- the cells of the strips so far are marked
abbrev pub invariant-loop-k : goal.invariant-loop-k
invariant-loop-k l = IsMarked (λ (at : CellRef). list_any (is_holding at) (take l.k l.strips)) l.cells l.number l.initial.owners l.owners
