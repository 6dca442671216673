use Rattle.std.proofs.Common.{subst, sym}
use Rattle.nav_version.specs.VersionRule.{GoesOn}
use Rattle.nav_version.proofs.VersionSteps.{GoesOn-self}
use Rattle.nav_version.proofs.version.HeldVersion.begin.Goals as goal

pub shown-writer-requires-clause-goes_on : goal.shown-writer-requires-clause-goes_on
shown-writer-requires-clause-goes_on g c = subst (λ shown. GoesOn shown c.args.first) (sym c.in_ok-writer.ensures.value) (GoesOn-self c.args.first)
