use Rattle.std.proofs.Common.{Option, Some, ap, sym, subst}
use Rattle.obstacle_registry.specs.Changes.{after_remove, why_not_taken}
use Rattle.obstacle_registry.specs.Registry.{row_of}
use Rattle.obstacle_registry.specs.declared.row.Registered.{Registered}
use Rattle.registry_handle.specs.Calls.{IsEnded, changed_at}
use Rattle.registry_handle.proofs.Endings.{done_at, refused_at}
use Rattle.registry_handle.proofs.changes.remove.Goals as goal

pub returns-in-Ok : goal.returns-in-Ok
returns-in-Ok c =
    done_at (row_of c.args.id c.args.held.now.rows) (why_not_taken c.args.held.now (row_of c.args.id c.args.held.now.rows)) c.args.held.now c.remove.new.self after_remove
    c.in-Ok.ensures.why (λ none. ap (λ (row : Option Registered). why_not_taken c.args.held.now row) none) c.in-Ok.ensures.did

pub returns-in-Err : goal.returns-in-Err
returns-in-Err c =
    subst (λ n. IsEnded (why_not_taken c.args.held.now (row_of c.args.id c.args.held.now.rows)) c.args.held.now (changed_at c.args.id after_remove c.args.held.now) (Some c.remove.new.self) n) (sym c.refusal_status.ensures)
    (refused_at (why_not_taken c.args.held.now (row_of c.args.id c.args.held.now.rows)) c.in-Err.why c.args.held.now c.remove.new.self (changed_at c.args.id after_remove c.args.held.now) c.in-Err.ensures.why c.in-Err.ensures.refused)
