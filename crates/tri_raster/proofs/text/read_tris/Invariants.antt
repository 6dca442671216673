use Rattle.std.proofs.Common.{length}
use Rattle.tri_raster.proofs.TextLaws.{HasTris}
use Rattle.tri_raster.proofs.text.read_tris.Given as goal

-- the triangles so far
abbrev pub invariant-loop-line : goal.invariant-loop-line
invariant-loop-line l = HasTris l.text l.rest l.header l.tris.items

abbrev pub decreases-loop-line : goal.decreases-loop-line
decreases-loop-line l = length l.rest
