use Rattle.mesh_types.specs.Parts.{region_part}
use Rattle.contour_mesh.proofs.PartLaws.{ArePartsSoFar}
use Rattle.contour_mesh.proofs.parts.parts.Given as goal

-- the parts of the regions so far, each of which has one
abbrev pub invariant-loop-id : goal.invariant-loop-id
invariant-loop-id l = ArePartsSoFar (region_part l.source.table.now.window l.error l.source.cells.now l.source.regions.now) l.id l.parts.items
