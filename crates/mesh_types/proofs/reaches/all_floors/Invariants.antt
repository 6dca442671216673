use Rattle.std.proofs.Common.{take}
use Rattle.std.specs.Prelude.{All}
use Rattle.mesh_types.specs.Reaches.{IsStoreyBetween}
use Rattle.mesh_types.proofs.reaches.all_floors.Given as goal

-- a reach of the storeys so far
abbrev pub invariant-loop-reach : goal.invariant-loop-reach
invariant-loop-reach l = All (IsStoreyBetween l.floors) (take l.reach-index l.list)
