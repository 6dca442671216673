use Rattle.nav_version.proofs.VersionSteps.{admits, tells, learns}
use Rattle.nav_version.proofs.version.HeldVersion.looker.Goals as goal

pub reader-requires : goal.reader-requires
reader-requires c = admits

pub tell-note-requires : goal.tell-note-requires
tell-note-requires c = tells _ _

pub learn-requires-clause-rule : goal.learn-requires-clause-rule
learn-requires-clause-rule c = learns _ _ _ _
