use Rattle.std.proofs.Common.{ap}
use Rattle.nav_ground.specs.declared.history.Ground.{Ground}
use Rattle.tests_paths.proofs.versions.level.Goals as goal

pub returns-clause-setting : goal.returns-clause-setting
returns-clause-setting c = ap (λ (level : Ground). level.setting) c.in_ok-level.ensures.value
