use Rattle.std.proofs.Common.{rules}
use Rattle.nav_version.proofs.PatchLaws.{IsVersion-next}
use Rattle.nav_version.proofs.press.next_version.Goals as goal

pub returns-clause-rules : goal.returns-clause-rules
returns-clause-rules c =
    IsVersion-next c.args.version.now c.in_ok-new.field-0 c.args.more.now c.args.mesh c.requires.version c.requires.next (search rules) (search rules) (search rules)
