use Rattle.std.proofs.Common.{refl, inl, length}
use Rattle.nav_ffi.proofs.Opened.{no_fault, opened, opened_only}
use Rattle.nav_ffi.proofs.opening.navd_open.Goals as goal

-- bytes that begin with a field text have no fault
pub returns-in-Err-Fault-clause-only : goal.returns-in-Err-Fault-clause-only
returns-in-Err-Fault-clause-only c setting field there =
    absurd (no_fault setting field (length there.text) _ _ c.in-Err-Fault.field-0-is
    (c.in-Err-Fault.ensures.only setting field there.text there.rest there.setting_rules there.field_rules there.spelled there.parts))

pub returns-in-Ok-level_of-clause-opened : goal.returns-in-Ok-level_of-clause-opened
returns-in-Ok-level_of-clause-opened c ends =
    opened c.args.text.now _ _ _ _ _ c.in-Ok.ensures.found c.in-Ok.ensures.setting c.in-Ok.ensures.field c.put.ensures c.in-Ok-level_of.ensures

pub returns-in-Ok-level_of-clause-only : goal.returns-in-Ok-level_of-clause-only
returns-in-Ok-level_of-clause-only c setting field there =
    let gives = c.in-Ok.ensures.only setting field there.text there.rest there.setting_rules there.field_rules there.spelled there.parts in
    inl (refl, opened_only _ _ _ _ _ _ gives.0 gives.1 c.put.ensures c.in-Ok-level_of.ensures)
