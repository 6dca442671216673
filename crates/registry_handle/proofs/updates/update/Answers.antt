use Rattle.std.proofs.Common.{Some, sym, subst, ◌∙◌}
use Rattle.registry_handle.specs.Updates.{IsUpdating, update_told}
use Rattle.registry_handle.proofs.Endings.{not_updated_at, updated_at}
use Rattle.registry_handle.proofs.updates.update.Goals as goal

pub returns-in-Ok : goal.returns-in-Ok
returns-in-Ok g c =
    updated_at c.args.most c.args.held.now c.update.new.self c.renew_if_due.new.self c.args.updated.now c.update_told.result c.in-Ok.ensures.versions
    c.in-Ok.ensures.did
    (c.update_told.ensures ∙ (λ i. update_told (c.in-Ok.ensures.built i) (c.in-Ok.ensures.published i) c.update.new.self))
    c.renew_if_due.ensures.short c.renew_if_due.ensures.mesh

pub returns : goal.returns
returns g c =
    subst (λ n. IsUpdating (Some c.args.held.now) c.args.most c.args.updated.now (record { status = n; told = c.args.updated.now; held = Some c.update.new.self }))
    (sym c.refusal_status.ensures)
    (not_updated_at c.args.most c.args.held.now c.update.new.self c.args.updated.now c.in-Err.why c.in-Err.ensures.why c.in-Err.ensures.last
    c.in-Err.ensures.refused c.in-Err.ensures.rows c.in-Err.ensures.ids c.in-Err.ensures.version)
