use Rattle.mesh_input.specs.Adding.{AreFirst, lists_of}
use Rattle.mesh_input.proofs.add.push_triangles.Given as goal

-- the triangles so far stand behind the old ones
abbrev pub invariant-loop-place : goal.invariant-loop-place
invariant-loop-place l = AreFirst l.fn.mesh.grid.now l.fn.mesh.slope (lists_of l.fn.mesh.vertices.now l.fn.mesh.corners.now l.fn.mesh.areas.now) l.place l.fn.tris.items l.tris.items
