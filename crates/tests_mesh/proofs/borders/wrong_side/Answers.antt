use Rattle.tests_mesh.proofs.HandSettings.{IsSetting-plain}
use Rattle.tests_mesh.proofs.borders.wrong_side.Goals as goal

pub across-requires-clause-setting : goal.across-requires-clause-setting
across-requires-clause-setting c = IsSetting-plain
