use Rattle.std.proofs.Common.{take}
use Rattle.mesh_types.specs.Reaches.{AreReaches}
use Rattle.mesh_types.proofs.reaches.reaches.Given as goal

-- the reaches of the storeys so far
abbrev pub invariant-loop-storey : goal.invariant-loop-storey
invariant-loop-storey l = AreReaches (take l.storey-index l.list) l.reaches.items
