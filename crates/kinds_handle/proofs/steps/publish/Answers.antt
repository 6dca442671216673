use Rattle.kinds_handle.proofs.FirstKinds.{publish_few}
use Rattle.kinds_handle.proofs.steps.publish.Goals as goal

-- it is one of the kinds
pub kind_told-requires : goal.kind_told-requires
kind_told-requires c =
    publish_few c.args.held.now c.publish.new.self c.in-Ok-NotYet.field-0 c.in-Ok-NotYet.awaited c.in-Ok-NotYet.tile c.in-Ok-NotYet.field-0-is
    c.in-Ok-NotYet.ensures.answer c.in-Ok-NotYet.ensures.state c.in-Ok-NotYet.ensures.rules
