use Rattle.std.proofs.Common.{ℕ, List, Option}
use Rattle.nav_ground.specs.declared.cell.Cell.{Cell}
use Rattle.mesh_types.specs.declared.region.Strip.{Strip}
use Rattle.mono_regions.proofs.Following.{IsStripNumber, AreLeft, room_after}
use Rattle.mono_regions.proofs.region_chains.region.Given as goal

-- the strips so far and those that are left make the region
pub record IsChained (cells : List Cell) (made : List Strip) (next : Option ℕ) (first : ℕ) : Type 0 where
  pub small : IsStripNumber cells next
  pub left : AreLeft cells made next first

abbrev pub invariant-loop-next : goal.invariant-loop-next
invariant-loop-next l = IsChained l.cells l.chain.items l.next l.first

abbrev pub decreases-loop-next : goal.decreases-loop-next
decreases-loop-next l = room_after l.cells l.next
