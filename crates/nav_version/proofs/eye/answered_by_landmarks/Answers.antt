use Rattle.std.proofs.Common.{subst, sym}
use Rattle.nav_version.specs.Versions.{IsVersion}
use Rattle.nav_version.proofs.PatchLaws.{IsSetting-of_version}
use Rattle.nav_version.proofs.eye.answered_by_landmarks.Goals as goal

pub ask_in-requires-clause-setting : goal.ask_in-requires-clause-setting
ask_in-requires-clause-setting c = IsSetting-of_version c.get.result.now (subst IsVersion (sym c.get.ensures) c.requires.shown.rules)
