use Rattle.std.proofs.Common.{refl, arith}
use Rattle.nav_base.specs.Point.{dot_of}
use Rattle.outline_laws.proofs.RingLiterals.{ring_shown}
use Rattle.outline_laws.proofs.rows.cell.Goals as goal

pub returns : goal.returns
unfolding dot_of
returns c = (ring_shown _ refl refl refl refl refl (omega arith)).ring
