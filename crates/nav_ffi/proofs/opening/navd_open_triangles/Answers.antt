use Rattle.std.proofs.Common.{refl, sym, ap, inl, Err}
use Rattle.nav_ffi.proofs.Opened.{opened_only}
use Rattle.nav_ffi.proofs.Rastered.{no_text_fault, raster_read}
use Rattle.nav_ffi.proofs.opening.navd_open_triangles.Goals as goal

-- bytes that are a triangle text have no fault
pub returns-in-Err-Fault-clause-only : goal.returns-in-Err-Fault-clause-only
returns-in-Err-Fault-clause-only c setting header tris field text raster few =
    absurd (no_text_fault setting header tris _ _ c.in-Err-Fault.field-0-is (c.in-Err-Fault.ensures.only setting header tris text))

-- what they leave is not too much
pub returns-in-Err-TooManySpans-clause-only : goal.returns-in-Err-TooManySpans-clause-only
returns-in-Err-TooManySpans-clause-only c setting header tris field text raster few =
    let gives = c.in-Ok.ensures.only setting header tris text in
    absurd (c.in-Err-TooManySpans.ensures.few field
    (raster_read setting c.in-Ok.text.setting tris c.in-Ok.text.tris c.as_slice.result.now field gives.0 gives.2 c.as_slice.ensures raster) few
    (ap Err c.in-Err-TooManySpans.field-0-is))

pub returns-in-Ok-level_of-clause-only : goal.returns-in-Ok-level_of-clause-only
returns-in-Ok-level_of-clause-only c setting header tris field text raster few =
    let gives = c.in-Ok.ensures.only setting header tris text in
    let same = c.in-Ok-raster.ensures.one field
    (raster_read setting c.in-Ok.text.setting tris c.in-Ok.text.tris c.as_slice.result.now field gives.0 gives.2 c.as_slice.ensures raster) in
    inl (refl, opened_only _ _ _ _ _ _ gives.0 (sym same) c.put.ensures c.in-Ok-level_of.ensures)
