use Rattle.registry_handle.proofs.Saved.{not_restored, restored_ok}
use Rattle.registry_handle.proofs.saves.restore.Goals as goal

pub returns-in-Ok : goal.returns-in-Ok
returns-in-Ok c = restored_ok c.args.bytes.now c.args.held.now c.restore.new.self c.in-Ok.ensures.saved c.in-Ok.ensures.others

pub returns-in-Err : goal.returns-in-Err
returns-in-Err c =
    not_restored c.args.bytes.now c.args.held.now c.restore.new.self c.in-Err.why c.refusal_status.result c.in-Err.ensures.saved c.in-Err.ensures.others
    c.in-Err.ensures.refused c.refusal_status.ensures
