use Rattle.std.proofs.Common.{take}
use Rattle.contour_mesh.specs.Footings.{AreFootings}
use Rattle.contour_mesh.proofs.parts.footings.Given as goal

-- the footings of the cells so far
abbrev pub invariant-loop-index : goal.invariant-loop-index
invariant-loop-index l = AreFootings (take l.index l.cells) l.regions l.footings.items
