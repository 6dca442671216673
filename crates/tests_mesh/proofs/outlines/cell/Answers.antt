use Rattle.std.proofs.Common.{refl}
use Rattle.tests_mesh.proofs.RingLiterals.{IsRing-shown}
use Rattle.tests_mesh.proofs.outlines.cell.Goals as goal

pub returns : goal.returns
returns c = IsRing-shown _ refl refl refl refl
