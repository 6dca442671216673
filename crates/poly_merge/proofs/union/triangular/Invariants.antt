use Rattle.std.proofs.Common.{◌≡◌, map, take}
use Rattle.mesh_types.specs.Words.{piece_of}
use Rattle.poly_merge.proofs.union.triangular.Given as goal

-- the triangles so far
abbrev pub invariant-loop-triangle : goal.invariant-loop-triangle
invariant-loop-triangle l = l.pieces.items ≡ map piece_of (take l.triangle-index l.triangles)
