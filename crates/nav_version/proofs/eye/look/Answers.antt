use Rattle.nav_version.proofs.VersionSteps.{enters}
use Rattle.nav_version.proofs.eye.look.Goals as goal

pub enter_as-requires : goal.enter_as-requires
enter_as-requires c x = enters _ _ x
