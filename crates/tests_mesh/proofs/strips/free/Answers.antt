use Rattle.std.proofs.Common.{sym, subst, refl}
use Rattle.nav_ground.specs.Cells.{IsCut}
use Rattle.nav_ground.proofs.Literals.{IsCut-shown}
use Rattle.tests_mesh.proofs.Literals.{AreSmall-shown}
use Rattle.tests_mesh.proofs.strips.free.Goals as goal

pub stored-requires : goal.stored-requires
stored-requires c = AreSmall-shown _ refl

pub returns : goal.returns
returns c = subst IsCut (sym c.in_ok-stored.ensures) (IsCut-shown _ refl)
