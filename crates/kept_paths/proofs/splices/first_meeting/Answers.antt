use Rattle.kept_paths.proofs.SpliceLaws.{apart-next}
use Rattle.kept_paths.proofs.splices.first_meeting.Goals as goal

pub loop-taken-preserved : goal.loop-taken-preserved
loop-taken-preserved c =
    apart-next c.args.links.now c.args.more.now c.args.last c.loop-taken.taken _ c.loop-taken-test.true c.loop-taken.invariant c.in_default.ensures.none
