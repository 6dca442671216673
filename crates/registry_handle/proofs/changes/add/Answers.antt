use Rattle.std.proofs.Common.{Some, sym, subst}
use Rattle.registry_handle.specs.Calls.{IsAdding}
use Rattle.registry_handle.proofs.Endings.{added_at, not_added_at}
use Rattle.registry_handle.proofs.changes.add.Goals as goal

pub returns-in-Ok : goal.returns-in-Ok
returns-in-Ok c =
    added_at c.args.held.now c.add.new.self c.args.shape c.args.user c.args.id.now c.in-Ok.given c.in-Ok.ensures.room c.in-Ok.ensures.added c.in-Ok.ensures.id

pub returns-in-Err : goal.returns-in-Err
returns-in-Err c =
    subst (λ n. IsAdding (Some c.args.held.now) c.args.shape c.args.user c.args.id.now (record { status = n; id = c.args.id.now; held = Some c.add.new.self }))
    (sym c.refusal_status.ensures)
    (not_added_at c.args.held.now c.add.new.self c.args.shape c.args.user c.args.id.now c.in-Err.why c.in-Err.ensures.why c.in-Err.ensures.refused)
